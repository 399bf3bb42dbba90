use Rattle.std.proofs.Common.{[], arith}
use Rattle.otap_filter.proofs.FitSets.{KeptLaws}
use Rattle.otap_filter.proofs.SentSets.{all_arrive, none_sent}
use Rattle.otap_filter.proofs.laws.filters_of_batches_arrive.Goals as goal

pub returns : goal.returns
returns c = λ of whose pair frames given each few.
    let laws : KeptLaws = record {
      profile = c.what_is_kept_can_be_written.ensures.profile;
      order = c.what_is_kept_can_be_written.ensures.order;
      items = c.what_is_kept_can_be_written.ensures.items;
      rows = c.rows_are_no_heavier.ensures;
      clean = c.what_is_kept_has_no_defect.ensures;
      light = c.what_is_kept_is_no_heavier.ensures;
      tells = c.what_is_kept_tells_the_filter.ensures;
    } in
    let fits = c.profile_tables_are_fit.ensures in
    all_arrive laws fits of whose pair c.fit_tables_arrive.ensures c.requests_read_alike.ensures [] [] frames given (none_sent laws fits of whose pair) (omega (arith, few)) each
