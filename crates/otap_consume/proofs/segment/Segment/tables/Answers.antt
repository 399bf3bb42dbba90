use Rattle.std.proofs.Common.{◌≡◌, ◌∙◌, ap, subst, List}
use Rattle.otap_cells.specs.Payload.{kinds_of}
use Rattle.otap_consume.specs.Segments.{SegmentIn}
use Rattle.otap_consume.specs.Streams.{StreamIn, kinds_in}
use Rattle.otap_consume.specs.Views.{AreViewsOf}
use Rattle.otap_consume.proofs.ViewSteps.{gives_tables}
use Rattle.otap_consume.proofs.segment.Segment.tables.Goals as goal

pub returns : goal.returns
returns c =
    let s = c.args.self.now in
    let payloads = c.args.batch.now.payloads in
    let views = c.in_ok-set.set in
    let same : c.deref.result.now ≡ s.streams = c.deref.ensures.value ∙ ap (λ (x : SegmentIn). x.streams) c.self.view_is in
    gives_tables s payloads views (subst (λ (x : SegmentIn). kinds_in x.streams ≡ kinds_of x.signal) c.self.view_is c.self.invariant.kinds) c.requires.whole c.requires.taken
    (subst (λ (streams : List StreamIn). AreViewsOf streams payloads views) same c.in_ok-set.ensures)
