use Rattle.otlp_model.specs.declared.request.Signal.{Signal}
use Rattle.otlp_model.specs.declared.value.Pair.{Pair}
use Rattle.otap_kept.specs.declared.whose.Whose.{Whose}
use Rattle.otap_kept.specs.Texts.{text_under}
use Rattle.otap_filter.proofs.FitSets.{KeptLaws}
use Rattle.otap_gateway.specs.Owners.{signal_of, whose_of}
use Rattle.otap_gateway.proofs.AllReplies.{filter_back}
use Rattle.otap_gateway.proofs.FilteredArriving.{all_arrive}
use Rattle.otap_gateway.proofs.FilteredBytes.{few_given, read_filtered}
use Rattle.otap_gateway.proofs.jobs.filtering_laws.what_is_filtered_is_read.Goals as goal

pub returns : goal.returns
returns c owner key text bytes frames end replies capture each =
    let of : Signal = signal_of owner in
    let whose : Whose = whose_of owner in
    let pair : Pair = text_under key text in
    let laws : KeptLaws = record {
      profile = c.what_is_kept_can_be_written.ensures.profile;
      order = c.what_is_kept_can_be_written.ensures.order;
      items = c.what_is_kept_can_be_written.ensures.items;
      rows = c.rows_are_no_heavier.ensures;
      clean = c.what_is_kept_has_no_defect.ensures;
      light = c.what_is_kept_is_no_heavier.ensures;
      tells = c.what_is_kept_tells_the_filter.ensures;
    } in
    let some = filter_back owner key text frames replies each in
    let arrived = c.filters_of_batches_arrive.ensures of whose pair frames some.0 some.1 (few_given of whose pair bytes frames end some.0 capture some.1) in
    read_filtered of whose pair c.written_is_read.ensures.message c.written_is_read.ensures.reset frames replies some.0 some.1 some.2
    (all_arrive laws c.requests_read_alike.ensures of whose pair frames some.0 some.1 arrived)
