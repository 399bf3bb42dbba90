use Rattle.std.proofs.Common.{[], sym, ap, subst}
use Rattle.otap_consume.specs.Segments.{IsNew, SegmentIn}
use Rattle.otap_filter.specs.Filters.{FilterIn, StandsFor}
use Rattle.otap_filter.proofs.Fresh.{stands_new}
use Rattle.otap_filter.proofs.filter.Filter.reset.Goals as goal

pub returns : goal.returns
returns c =
    let same = c.begin_anew.ensures.same in
    let new : IsNew c.self.inside.segment.signal c.begin_anew.new.self.segment =
    subst (λ (s : SegmentIn). IsNew c.self.inside.segment.signal s) (sym (ap (λ (f : FilterIn). f.segment) same)) c.reset.ensures in
    subst (λ (f : FilterIn). StandsFor f.segment.signal f.whose f.pair [] c.begin_anew.new.self) c.self.view_is
    (stands_new _ _ _ c.begin_anew.new.self (ap (λ (f : FilterIn). f.whose) same) (ap (λ (f : FilterIn). f.pair) same) new c.begin_anew.ensures.batches c.begin_anew.ensures.sent)
