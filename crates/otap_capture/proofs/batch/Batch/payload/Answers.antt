use Rattle.std.proofs.lemmas.Iterator.Consumers.{nth_from_yields_List, YieldsList-from_first}
use Rattle.otap_capture.specs.Batch.{content_of}
use Rattle.otap_capture.proofs.batch.Batch.payload.Goals as goal

pub returns : goal.returns
returns c = nth_from_yields_List _ _ _ c.nth.ensures.ran (YieldsList-from_first content_of (λ left. left) c.args.self.now.payloads c.payloads.ensures)
