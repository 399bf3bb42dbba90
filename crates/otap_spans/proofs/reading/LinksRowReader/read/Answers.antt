use Rattle.otap_spans.proofs.SpanPlaces.{link_read}
use Rattle.otap_spans.proofs.reading.LinksRowReader.read.Goals as goal

pub returns : goal.returns
returns g c =
    link_read _ (g.R.Rows.table c.args.self.now.rows.now).rows c.args.row _
    c.requires c.in_ok-octets_in.ensures c.in_ok-octets_in-2.ensures c.in_ok-text_in.ensures c.number_in.ensures c.in_ok-of.ensures c.number_in-2.ensures
