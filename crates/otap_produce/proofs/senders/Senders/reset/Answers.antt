use Rattle.std.proofs.Common.{◌≡◌, [], length, refl, sym, subst, arith}
use Rattle.std.specs.Prelude.{All}
use Rattle.std.proofs.lemmas.List.{with_items_is}
use Rattle.otap_produce.specs.Senders.{HasSentTables}
use Rattle.otap_produce.proofs.Fresh.{have_sent_none}
use Rattle.otap_produce.proofs.senders.Senders.reset.Goals as goal

pub returns-clause-sent : goal.returns-clause-sent
returns-clause-sent c =
    let senders = c.self.inside.senders in
    let long : length c.begin_anew.new.senders ≡ senders.len = omega (arith, c.begin_anew.auto.senders, c.deref_mut.ensures.len) in
    have_sent_none _ (subst (All (HasSentTables [] [])) (sym (with_items_is senders c.begin_anew.new.senders long)) c.begin_anew.ensures.sent) refl
