use Rattle.std.proofs.Common.{◌≡◌, ◌+◌, ◌*◌, ◌++◌, length, List, ℕ, ap, ◌∙◌, arith}
use Rattle.flat_tables.specs.Layout.{piece, references}
use Rattle.flat_tables.proofs.Adding.{places_stand}
use Rattle.flat_tables.proofs.builder.Builder.add_places.Goals as goal

pub returns-clause-places : goal.returns-clause-places
returns-clause-places c =
    let places = c.args.places.now in
    let old = c.args.self.now in
    let pad = c.padding-pad.result in
    let from = c.size-2.result + pad + 4 * length places in
    let content : c.deref.result.now ≡ references from places = c.deref.ensures.value ∙ c.in_ok-content.ensures.value in
    let put : c.put.new.self ≡ piece (length places) (references from places) pad ++ old =
    c.in_ok-place.ensures.ok ∙ ap (λ (content : List ℕ). piece (length places) content pad ++ old) content in
    places_stand places old c.put.new.self from pad c.in_ok-place.place (omega arith) (omega arith) c.requires.given (omega arith) put c.in_ok-place.ensures.place
