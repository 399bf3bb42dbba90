use Rattle.otap_spans.proofs.SpanPlaces.{event_read}
use Rattle.otap_spans.proofs.reading.EventsRowReader.read.Goals as goal

pub returns : goal.returns
returns g c =
    event_read _ (g.R.Rows.table c.args.self.now.rows.now).rows c.args.row _
    c.requires c.bits_in.ensures c.in_ok-text_in.ensures c.in_ok-of.ensures c.number_in.ensures
