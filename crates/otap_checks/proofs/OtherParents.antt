-- Points that name metrics of other shapes, by the numbers of their parents.
use Rattle.std.proofs.Common.{◌≡◌, ℕ, Bool, List, Option, Some, None, refl, sym, subst}
use Rattle.std.specs.Prelude.{Contains}
use Rattle.std.specs.List.Sorted.{IsPermutation}
use Rattle.std.proofs.lemmas.List.Sorted.{Contains-permutation, IsPermutation-sym}
use Rattle.otap_cells.specs.Inside.{numbers}
use Rattle.otap_cells.specs.Tables.{Table}
use Rattle.otap_groups.specs.Rows.{id_at}
use Rattle.otap_attrs.proofs.Parentless.{among_ids, number_among}
use Rattle.otap_checks.specs.Ruled.{FindsOther, HoldsId}
use Rattle.otap_checks.specs.Shapes.{NamesOther}

has_number : (sorted : List ℕ) (id : Option ℕ) → HoldsId sorted id → (n : ℕ) × (id ≡ Some n) × Contains sorted n
has_number sorted None is = absurd is
has_number sorted (Some n) is = (n, refl, is)

module _ (fits : ℕ → Bool) (main : Table) (parents ids : List (Option ℕ)) (sorted : List ℕ) (same : IsPermutation (numbers parents) sorted) where
  pub finds_names : FindsOther fits main ids sorted → NamesOther fits main parents ids
  finds_names f =
      let found = has_number sorted (id_at ids f.row) f.holds in
      record {
        row = f.row;
        there = f.there;
        other = f.other;
        id = found.0;
        own = found.1;
        named = among_ids parents found.0 (Contains-permutation sorted (numbers parents) found.0 (IsPermutation-sym (numbers parents) sorted same) found.2);
      }

  pub names_finds : NamesOther fits main parents ids → FindsOther fits main ids sorted
  names_finds n = record {
    row = n.row;
    there = n.there;
    other = n.other;
    holds = subst (HoldsId sorted) (sym n.own) (Contains-permutation (numbers parents) sorted n.id same (number_among parents n.id n.named));
  }
