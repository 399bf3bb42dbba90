use Rattle.std.proofs.Common.{◌≡◌, ◌∙◌, ◌+◌, ◌<◌, ◌^◌, ℕ, length, min, get_or, sym, ap, subst, arith}
use Rattle.std.proofs.lemmas.List.{get_or_default}
use Rattle.otap_groups.specs.declared.entry.ChildEntry.{ChildEntry}
use Rattle.otap_groups.specs.Inside.{blank}
use Rattle.otap_groups.specs.Found.{of_parent}
use Rattle.otap_attrs.specs.Index.{IsIndexOf}
use Rattle.otap_attrs.proofs.IndexedPairs.{place_below, weigh_done, weigh_more, weighs_pairs}
use Rattle.otap_attrs.proofs.index.PairIndex.weight_of.Goals as goal

pub index-requires : goal.index-requires
index-requires c =
    let are = c.entries_of-entries.ensures ∙ ap (of_parent c.args.parent) c.deref.ensures.value in
    let low = place_below (length c.self.inside.weights.items) c.args.parent c.self.inside.entries.items c.entries_of-entries.result.now c.entries.entry-index blank are
    c.self.invariant.below (omega arith) in
    omega (arith, low)

pub entries-preserved : goal.entries-preserved
entries-preserved c =
    let weights = c.self.inside.weights.items in
    let entries = c.entries_of-entries.result.now in
    let k = c.entries.entry-index in
    let are = c.entries_of-entries.ensures ∙ ap (of_parent c.args.parent) c.deref.ensures.value in
    let low : (get_or entries k blank).place < length weights =
    place_below (length weights) c.args.parent c.self.inside.entries.items entries k blank are c.self.invariant.below (omega arith) in
    let here : c.index.result.now ≡ get_or weights (get_or entries k blank).place 0 =
    c.index.ensures ∙ get_or_default weights (get_or entries k blank).place c.index.result.now 0 low in
    record {
      capped = omega (arith, c.add_capped-weight.ensures);
      so_far = weigh_more (λ (e : ChildEntry). get_or weights e.place 0) entries k blank c.entries.weight c.add_capped.result c.add_capped-weight.result (omega arith)
          (c.add_capped.ensures ∙ ap (λ (w : ℕ). min (32 + w) (2 ^ 63)) here) c.add_capped-weight.ensures c.entries.invariant.so_far;
    }

pub returns : goal.returns
returns c = λ t is.
    let are = c.entries_of-entries.ensures ∙ ap (of_parent c.args.parent) c.deref.ensures.value in
    weigh_done (λ (e : ChildEntry). get_or c.self.inside.weights.items e.place 0) c.entries_of-entries.result.now c.entries.entry-index c.entries.weight (omega arith)
    c.entries.invariant.capped c.entries.invariant.so_far
    ∙ weighs_pairs t _ c.args.parent (subst (IsIndexOf t) (sym c.self.view_is) is) c.entries_of-entries.result.now are c.self.invariant.below
