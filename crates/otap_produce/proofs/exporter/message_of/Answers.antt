use Rattle.std.proofs.Common.{◌≡◌, ℤ, pos, List, sym, ap, ◌∙◌, subst, arith, w64}
use Rattle.std.proofs.lemmas.Int.{to_z_pos}
use Rattle.otap_cells.specs.Tables.{Table}
use Rattle.otap_signals.specs.BySignal.{rows_by, tables_of_request}
use Rattle.otap_produce.specs.Senders.{AreReadyForAll, SendsMessage}
use Rattle.otap_produce.proofs.Adding.{tables}
use Rattle.otap_produce.proofs.Ready.{ready_for_request}
use Rattle.otap_produce.proofs.WritableTables.{exported_writable}
use Rattle.otap_produce.proofs.exporter.message_of.Goals as goal

pub send_all-requires : goal.send_all-requires
send_all-requires c =
    let are : tables c.deref.result.now ≡ tables_of_request c.args.request.now = ap tables c.deref.ensures.value ∙ c.set.view_is ∙ c.in_ok-set.ensures in
    subst (λ (ts : List Table). AreReadyForAll ts c.args.senders.now) (sym are)
    (ready_for_request (rows_by c.args.signal) c.args.request.now c.requires.exported
    (exported_writable c.requests_come_back.ensures c.args.signal c.args.request.now c.requires.exported) c.args.senders.now c.args.batches c.requires.kinds
    c.requires.history c.requires.few c.requires.batches)

pub returns-clause-sends : goal.returns-clause-sends
returns-clause-sends c =
    let are : tables c.deref.result.now ≡ tables_of_request c.args.request.now = ap tables c.deref.ensures.value ∙ c.set.view_is ∙ c.in_ok-set.ensures in
    let bytes = c.in_ok-bytes.bytes.items in
    subst (λ (ts : List Table). SendsMessage (pos c.args.batches) ts c.args.senders.now c.send_all.new.self bytes) are
    (subst (λ (id : ℤ). SendsMessage id (tables c.deref.result.now) c.args.senders.now c.send_all.new.self bytes)
    (to_z_pos w64 c.args.batches (omega (arith, c.requires.batches))) c.in_ok-bytes.ensures.sends)
