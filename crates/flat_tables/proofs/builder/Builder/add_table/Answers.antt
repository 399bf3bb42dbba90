use Rattle.std.proofs.Common.{◌≡◌, ◌+◌, ◌-◌, ◌*◌, ◌^◌, ◌++◌, length, List, ℕ, ap, ◌∙◌, arith}
use Rattle.flat_tables.specs.Layout.{piece, cells, vtable}
use Rattle.flat_tables.proofs.Reaching.{all_reach_more}
use Rattle.flat_tables.proofs.TableLaid.{table_stands}
use Rattle.flat_tables.proofs.builder.Builder.add_table.Goals as goal

pub cells-requires-clause-given : goal.cells-requires-clause-given
cells-requires-clause-given c = all_reach_more (length c.args.self.now) _ c.args.slots.now (omega arith) c.requires.given

pub returns-clause-slots : goal.returns-clause-slots
returns-clause-slots c =
    let slots = c.args.slots.now in
    let old = c.args.self.now in
    let pad = c.padding-pad.result in
    let from = c.size-2.result + pad + (10 * length slots + 4) in
    let content : c.deref.result.now ≡ cells from slots ++ vtable slots = c.deref.ensures.value ∙ c.in_ok-content.ensures.value in
    let put : c.put.new.self ≡ piece (2 ^ 32 - (4 + 8 * length slots)) (cells from slots ++ vtable slots) pad ++ old =
    c.in_ok-place.ensures.ok ∙ ap (λ (content : List ℕ). piece c.vtable_distance.result content pad ++ old) content
    ∙ ap (λ (head : ℕ). piece head (cells from slots ++ vtable slots) pad ++ old) c.vtable_distance.ensures in
    table_stands slots old c.put.new.self from pad c.in_ok-place.place (omega arith) (omega arith) (omega arith) c.in_ok-content.ensures.fits c.requires.given (omega arith) put
    c.in_ok-place.ensures.place
