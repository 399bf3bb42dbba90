use Rattle.std.proofs.Common.{[], sym, ◌∙◌, refl}
use Rattle.std.proofs.lemmas.Bool.{false≢true}
use Rattle.otap_cells.specs.declared.profile.Coding.TheVariants.{Delta}
use Rattle.otap_cells.proofs.IdLaws.{undone_stands, stands_fits}
use Rattle.otap_cells.proofs.ids.undo_delta.Goals as goal

pub returns-then-undo-clause-ids : goal.returns-then-undo-clause-ids
returns-then-undo-clause-ids c = rw c.undo.ensures.undone (undone_stands Delta c.args.last 0 [] c.args.ids.now (sym c.undo.ensures.exactly ∙ c.if-undo.true))

pub returns-else-undo-clause-past : goal.returns-else-undo-clause-past
returns-else-undo-clause-past c = (refl, λ given stands. absurd (false≢true (sym c.if-undo.false ∙ c.undo.ensures.exactly ∙ stands_fits Delta c.args.last 0 [] c.args.ids.now given stands)))
