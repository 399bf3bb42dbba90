use Rattle.otap_filter.specs.Filtering.{messages_sent, sets_before}
use Rattle.otap_filter.proofs.FitSets.{KeptLaws}
use Rattle.otap_filter.proofs.SentSets.{AreSent, all_sent, sets_arrive}
use Rattle.otap_filter.proofs.laws.messages_are_of_what_is_kept.Goals as goal

pub returns : goal.returns
returns c = λ of whose pair frames given each few.
    let laws : KeptLaws = record {
      profile = c.what_is_kept_can_be_written.ensures.profile;
      order = c.what_is_kept_can_be_written.ensures.order;
      items = c.what_is_kept_can_be_written.ensures.items;
      rows = c.rows_are_no_heavier.ensures;
      clean = c.what_is_kept_has_no_defect.ensures;
      light = c.what_is_kept_is_no_heavier.ensures;
      tells = c.what_is_kept_tells_the_filter.ensures;
    } in
    let fits = c.profile_tables_are_fit.ensures in
    let sent : AreSent of whose pair given = all_sent laws fits of whose pair frames given each in
    record {
      fit = sent.fit;
      messages = sent.messages;
      laid = sent.laid;
      by_bytes = c.layouts_of_sets_are_read.ensures (sets_before of whose pair given) (messages_sent given) sent.messages sent.laid;
      arrive = sets_arrive laws fits of whose pair c.fit_tables_arrive.ensures given sent few;
    }
