use Rattle.std.proofs.Common.{◌≡◌, ◌<◌, ◌+◌, ◌-◌, ℕ, Bool, not, false, Option, Some, sym, ap, ◌∙◌, arith}
use Rattle.std.proofs.lemmas.Grind.{common_steps}
use Rattle.arrow_buffers.specs.Below.{all_below}
use Rattle.arrow_buffers.specs.Bits.{flag_of}
use Rattle.arrow_buffers.specs.Lists.{is_null}
use Rattle.arrow_buffers.specs.Offsets.{offset_at}
use Rattle.arrow_buffers.proofs.EachBelow.{all_below-fails}
use Rattle.arrow_buffers.proofs.Spans.{span-fits}
use Rattle.arrow_buffers.proofs.list_cells.Lists.is_full.Goals as goal

pub bounds-start-requires : goal.bounds-start-requires
bounds-start-requires c =
    let l = c.self.inside in
    let below : c.args.row < l.rows = grind arith in
    let fits = span-fits l.width l.offsets.now l.values.now l.rows c.args.row below c.self.invariant.1 in
    fits.there

pub overflow_sub-k-end : goal.overflow_sub-k-end
overflow_sub-k-end c =
    let l = c.self.inside in
    let below : c.args.row < l.rows = grind arith in
    let fits = span-fits l.width l.offsets.now l.values.now l.rows c.args.row below c.self.invariant.1 in
    let order = fits.order in
    grind arith

pub returns-in-Some-false : goal.returns-in-Some-false
returns-in-Some-false c =
    let offsets = c.args.self.now.offsets in
    let row = c.args.row in
    let count = offset_at offsets (row + 1) - offset_at offsets row in
    let test : ℕ → Bool = λ k. not (is_null (flag_of c.args.elements.now (offset_at offsets row + k))) in
    let start : c.bounds-start.result.0 ≡ offset_at offsets row = grind arith in
    let end : c.bounds-start.result.1 ≡ offset_at offsets (row + 1) = grind arith in
    let from : c.from.result ≡ offset_at offsets row + c.elements.k = omega (arith, start, c.from.ensures) in
    let flag : flag_of c.args.elements.now (offset_at offsets row + c.elements.k) ≡ Some false =
    ap (flag_of c.args.elements.now) (sym from) ∙ sym c.get.ensures ∙ c.in-Some-false.is ∙ ap (λ (bit : Bool). Some bit) c.in-Some-false.field-0-test in
    let here : test c.elements.k ≡ false = ap (λ (f : Option Bool). not (is_null f)) flag in
    let fails : all_below test count ≡ false = all_below-fails test count c.elements.k here (omega arith) in
    grind (arith, common_steps)
