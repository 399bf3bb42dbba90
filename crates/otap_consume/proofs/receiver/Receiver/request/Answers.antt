use Rattle.std.proofs.Common.{subst}
use Rattle.otap_capture.specs.Capture.{frame_of}
use Rattle.otap_signals.specs.BySignal.{meaning_by}
use Rattle.otap_consume.specs.declared.opened.Opened.{Opened}
use Rattle.otap_consume.specs.Opening.{Opens}
use Rattle.otap_consume.proofs.Regrouping.{receives_refused, receives_reset}
use Rattle.otap_consume.proofs.receiver.Receiver.request.Goals as goal

pub returns-in-Refused-clause-next : goal.returns-in-Refused-clause-next
returns-in-Refused-clause-next c =
    let frame = frame_of c.args.frame.now in
    record {
      rows = 0;
      tree = 0;
      receives = receives_refused (meaning_by c.args.self.now.signal) frame c.in-Refused.refusal c.self.inside.segment c.args.self.now c.open.new.self c.self.view_is
          (subst (λ (o : Opened). Opens c.self.inside.segment frame c.open.new.self o) c.in-Refused.is c.in_ok-batch.ensures.opens);
    }

pub returns-in-Reset-clause-next : goal.returns-in-Reset-clause-next
returns-in-Reset-clause-next c =
    let frame = frame_of c.args.frame.now in
    record {
      rows = 0;
      tree = 0;
      receives = receives_reset (meaning_by c.args.self.now.signal) frame c.self.inside.segment c.args.self.now c.open.new.self c.self.view_is
          (subst (λ (o : Opened). Opens c.self.inside.segment frame c.open.new.self o) c.in-Reset.is c.in_ok-batch.ensures.opens);
    }
