use Rattle.std.proofs.Common.{◌∙◌, sym, ap, subst, arith}
use Rattle.std.specs.List.{AllByRecursion}
use Rattle.std.specs.List.Sorted.{IsNonDecreasingBy, IsPermutation}
use Rattle.std.proofs.lemmas.List.Sorted.{IsNonDecreasingBy-from_sort}
use Rattle.otap_cells.specs.GivenIds.{HasIds}
use Rattle.otap_checks.specs.Known.{ids_named}
use Rattle.otap_attrs.specs.Index.{pairs_in}
use Rattle.otap_attrs.proofs.TablePairs.{attribute_id, ids_long}
use Rattle.otap_kept.specs.Holding.{is_among, parents_saying}
use Rattle.otap_kept.specs.Kept.{has}
use Rattle.otap_kept.specs.Texts.{text_pair}
use Rattle.otap_kept.proofs.PairHolders.{IsFineRow, fine_rows, none_hold, saying_hold}
use Rattle.otap_kept.proofs.holders.holders.Goals as goal

pub returns-in_default : goal.returns-in_default
returns-in_default g c = record {
  sorted = subst (IsNonDecreasingBy (λ n. n)) (sym c.new.ensures.items) (λ i j d low within. absurd (omega (arith, within)));
  hold = λ id.
      ap (λ found. is_among found id) c.new.ensures.items ∙ none_hold (text_pair c.args.pair.now) c.args.kind id
      ∙ ap (λ t. has (text_pair c.args.pair.now) (pairs_in t id)) (sym c.in_default.ensures.table);
}

pub parents_saying-requires-clause-long : goal.parents_saying-requires-clause-long
parents_saying-requires-clause-long g c =
    let t = g.R.Rows.table c.in-Some.rows.now in
    let own : HasIds t 0 c.of-parents.result.now = rw c.of-parents.ensures
    (subst (λ t. HasIds t 0 (ids_named c.args.kind 0 c.args.read.now)) c.in-Some.ensures.table
    (c.requires.known 0 (attribute_id c.args.kind c.requires.kind)).are) in
    ids_long t 0 c.of-parents.result.now own

pub returns : goal.returns
returns g c =
    let t = g.R.Rows.table c.in-Some.rows.now in
    let own : HasIds t 0 c.of-parents.result.now = rw c.of-parents.ensures
    (subst (λ t. HasIds t 0 (ids_named c.args.kind 0 c.args.read.now)) c.in-Some.ensures.table
    (c.requires.known 0 (attribute_id c.args.kind c.requires.kind)).are) in
    let fine : AllByRecursion IsFineRow t.rows = subst (λ t. AllByRecursion IsFineRow t.rows) c.in-Some.ensures.table (fine_rows c.args.kind c.args.set.now c.requires.fine) in
    let moved : IsPermutation (parents_saying c.args.pair.now c.of-parents.result.now t.rows) c.sort.new.self.items = rw (← c.in_ok-found.ensures) c.in_ok-sort.ensures.permutation in
    record {
      sorted = IsNonDecreasingBy-from_sort (λ n. n) c.sort.new.self.items c.in_ok-sort.ensures.sorted;
      hold = λ id. saying_hold c.args.pair.now t c.of-parents.result.now own fine c.sort.new.self.items moved id
          ∙ ap (λ t. has (text_pair c.args.pair.now) (pairs_in t id)) (sym c.in-Some.ensures.table);
    }
