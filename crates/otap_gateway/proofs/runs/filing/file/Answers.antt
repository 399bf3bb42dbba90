use Rattle.std.proofs.Common.{inl, rules}
use Rattle.otap_gateway.proofs.FiledRuns.{stood_first}
use Rattle.otap_gateway.proofs.ResendReplies.{begins_nothing}
use Rattle.otap_gateway.proofs.runs.filing.file.Goals as goal

pub returns-in_default-clause-leaves : goal.returns-in_default-clause-leaves
returns-in_default-clause-leaves g c = inl (begins_nothing _ _ _ _)

pub drive_to_end-requires : goal.drive_to_end-requires
drive_to_end-requires g c = stood_first c.args.kind c.args.number c.args.signal _ _ c.in-Ok.ensures (search rules)
