-- Numbers among ids, and parents that aren't there.
use Rattle.std.proofs.Common.{◌≡◌, ◌∙◌, ℕ, zero, suc, ◌<◌, ◌≤◌, List, [], ◌∷◌, get_or, length, Option, Some, None, ap, arith}
use Rattle.std.specs.Prelude.{Contains}
use Rattle.std.specs.List.Sorted.{IsPermutation}
use Rattle.std.proofs.lemmas.List.{get_or_default}
use Rattle.std.proofs.lemmas.List.Sorted.{Contains-permutation, IsPermutation-sym}
use Rattle.std.proofs.lemmas.Option.{same_Some}
use Rattle.otap_cells.specs.Inside.{numbers}
use Rattle.otap_attrs.specs.Defects.{OrphanIn}
use Rattle.otap_attrs.specs.Indexing.{Lacks}

-- a number is among the numbers of ids where it is among the ids
pub number_among : (ids : List (Option ℕ)) (n : ℕ) → Contains ids (Some n) → Contains (numbers ids) n
number_among [] n (k, within, at) = absurd (omega arith)
number_among (None ∷ ids) n (zero, within, at) = absurd (cc)
number_among (None ∷ ids) n (suc k, within, at) = number_among ids n (k, omega arith, at)
number_among (Some id ∷ ids) n (zero, within, at) = (0, omega arith, same_Some id n at)
number_among (Some id ∷ ids) n (suc k, within, at) =
    let rest = number_among ids n (k, omega arith, at) in (suc rest.0, omega arith, rest.2)

pub among_ids : (ids : List (Option ℕ)) (n : ℕ) → Contains (numbers ids) n → Contains ids (Some n)
among_ids [] n (k, within, at) = absurd (omega arith)
among_ids (None ∷ ids) n h = let rest = among_ids ids n h in (suc rest.0, omega arith, rest.2)
among_ids (Some id ∷ ids) n (zero, within, at) = (0, omega arith, ap Some at)
among_ids (Some id ∷ ids) n (suc k, within, at) =
    let rest = among_ids ids n (k, omega arith, at) in (suc rest.0, omega arith, rest.2)

module _ (parents ids : List (Option ℕ)) (sorted : List ℕ) (same : IsPermutation (numbers ids) sorted) where
  pub lacks_orphan : Lacks parents sorted → OrphanIn parents ids
  lacks_orphan h = record {
    parent = h.parent;
    named = h.named;
    missing = λ there. h.missing (Contains-permutation (numbers ids) sorted h.parent same (number_among ids h.parent there));
  }

  pub orphan_lacks : OrphanIn parents ids → Lacks parents sorted
  orphan_lacks h = record {
    parent = h.parent;
    named = h.named;
    missing = λ there. h.missing (among_ids ids h.parent (Contains-permutation sorted (numbers ids) h.parent (IsPermutation-sym (numbers ids) sorted same) there));
  }

-- no parent is missing where each that was looked at is there
pub none_lacks : (parents : List (Option ℕ)) (sorted : List ℕ) (count : ℕ) → length parents ≤ count
    → ((k n : ℕ) → k < count → get_or parents k None ≡ Some n → Contains sorted n) → Lacks parents sorted → ⊥
none_lacks parents sorted count all there lacks =
    let at = lacks.named in
    lacks.missing (there at.0 lacks.parent (omega (arith, at.1)) (get_or_default parents at.0 None (Some lacks.parent) at.1 ∙ at.2))

-- the same of ids
pub none_missing : (parents ids : List (Option ℕ)) (count : ℕ) → length parents ≤ count
    → ((k n : ℕ) → k < count → get_or parents k None ≡ Some n → Contains ids (Some n)) → OrphanIn parents ids → ⊥
none_missing parents ids count all there orphan =
    let at = orphan.named in
    orphan.missing (there at.0 orphan.parent (omega (arith, at.1)) (get_or_default parents at.0 None (Some orphan.parent) at.1 ∙ at.2))
