use Rattle.std.proofs.Common.{inl, refl}
use Rattle.otap_signals.specs.BySignal.{rows_by}
use Rattle.otap_gateway.proofs.ResendReplies.{begins_nothing, stood_first}
use Rattle.otap_gateway.proofs.runs.resending.resend.Goals as goal

pub returns-in_default-clause-leaves : goal.returns-in_default-clause-leaves
returns-in_default-clause-leaves g c = inl (begins_nothing _ _ _ _)

pub drive_to_end-requires : goal.drive_to_end-requires
drive_to_end-requires g c = stood_first (rows_by c.args.signal) c.args.window _ _ c.in-Ok.ensures refl refl
