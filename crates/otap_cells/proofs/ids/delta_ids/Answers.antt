use Rattle.std.proofs.Common.{[]}
use Rattle.otap_cells.specs.declared.profile.Coding.TheVariants.{Delta}
use Rattle.otap_cells.proofs.IdLaws.{stored_stands}
use Rattle.otap_cells.proofs.ids.delta_ids.Goals as goal

pub returns : goal.returns
returns c = λ last most. rw c.code.ensures.stored (stored_stands Delta last 0 [] c.args.ids.now c.requires most)
