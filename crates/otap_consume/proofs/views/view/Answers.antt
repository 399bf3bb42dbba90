use Rattle.std.proofs.Common.{◌≡◌, ◌∙◌, Some, find, sym, ap, rules}
use Rattle.std.specs.Option.{option_copied}
use Rattle.otap_capture.specs.Batch.{content_of}
use Rattle.otap_consume.specs.Views.{is_stream_of}
use Rattle.otap_consume.proofs.PayloadViews.{is_view}
use Rattle.otap_consume.proofs.views.view.Goals as goal

pub returns-clause-view : goal.returns-clause-view
returns-clause-view c =
    let p = content_of c.args.payload.now in
    let found : find (is_stream_of p.kind) c.args.streams.now ≡ Some c.in-Some.stream.now = search rules in
    is_view c.args.streams.now p c.in-Some.stream.now c.in-Some-reader.reader.now c.view.result found
    (sym c.reader.ensures.reader ∙ ap option_copied c.in-Some-reader.is) c.in-Some-reader.ensures.kind c.view.ensures.table c.view.ensures.kind

pub returns-clause-beside : goal.returns-clause-beside
returns-clause-beside c = c.view.ensures.kind ∙ c.in-Some-reader.ensures.kind ∙ sym c.kind.ensures
