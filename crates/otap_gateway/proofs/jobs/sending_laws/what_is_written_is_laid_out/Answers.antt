use Rattle.otap_signals.specs.BySignal.{rows_by, meaning_by}
use Rattle.otap_gateway.proofs.LaidSegments.{IsLaidSegment, segment_laid}
use Rattle.otap_gateway.proofs.jobs.sending_laws.what_is_written_is_laid_out.Goals as goal

pub returns : goal.returns
returns c signal frames outcomes gave =
    let s : IsLaidSegment (rows_by signal) (meaning_by signal) outcomes = segment_laid (rows_by signal) (meaning_by signal) frames outcomes gave in
    c.layouts_are_read.ensures (rows_by signal) _ _ s.0 s.1
