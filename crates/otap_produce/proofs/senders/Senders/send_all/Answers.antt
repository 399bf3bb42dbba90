use Rattle.std.proofs.Common.{◌≡◌, ℤ, [], ap, ◌∙◌, arith, w64}
use Rattle.std.proofs.lemmas.Int.{to_z-of_z}
use Rattle.otap_capture.specs.Batch.{BatchContent}
use Rattle.otap_produce.proofs.Adding.{tables}
use Rattle.otap_produce.proofs.Limited.{RecordsFit}
use Rattle.otap_produce.proofs.Messages.{message_sent}
use Rattle.otap_produce.proofs.Ready.{few_tables, little, ready_for_each}
use Rattle.otap_produce.proofs.senders.Senders.send_all.Goals as goal

pub add_all-requires : goal.add_all-requires
add_all-requires c =
    let fit : RecordsFit = record {
      bound = c.records_fit_a_message.ensures.bound;
      columns = c.records_fit_a_message.ensures.columns;
      tables = c.records_fit_a_message.ensures.tables;
    } in
    ready_for_each fit (tables c.args.tables.now) c.args.self.now c.requires

pub returns-in-Ok-clause-sends : goal.returns-in-Ok-clause-sends
returns-in-Ok-clause-sends c =
    let fit : RecordsFit = record {
      bound = c.records_fit_a_message.ensures.bound;
      columns = c.records_fit_a_message.ensures.columns;
      tables = c.records_fit_a_message.ensures.tables;
    } in
    let ts = tables c.args.tables.now in
    let empty : ℤ → BatchContent = λ id. record { id = id; payloads = [] } in
    let begun : c.in_ok-batch.batch ≡ empty c.args.id = c.in_ok-batch.ensures ∙ ap empty (to_z-of_z w64 c.args.id c.ranges.id) in
    message_sent c.args.id ts c.args.self.now c.add_all.new.self c.in_ok-batch.batch c.add_all.new.batch c.finish.result.items c.written_batch_is_read.ensures
    begun c.in-Ok.ensures.adds c.finish.ensures c.ranges.id (few_tables fit ts c.args.self.now c.requires) (little fit ts c.args.self.now c.requires)

pub returns-in-Ok-clause-few : goal.returns-in-Ok-clause-few
returns-in-Ok-clause-few c =
    let fit : RecordsFit = record {
      bound = c.records_fit_a_message.ensures.bound;
      columns = c.records_fit_a_message.ensures.columns;
      tables = c.records_fit_a_message.ensures.tables;
    } in
    omega (arith, c.in-Ok.ensures.adds.openings, few_tables fit (tables c.args.tables.now) c.args.self.now c.requires)
