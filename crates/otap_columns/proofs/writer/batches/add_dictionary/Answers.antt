use Rattle.std.proofs.Common.{◌≡◌, ℕ, ◌≤◌, List, [], length, drop, Some, ap, ◌∙◌, sym, subst, to_z, of_z}
use Rattle.std.specs.Int.{w64}
use Rattle.std.proofs.lemmas.Int.{to_z-of_z}
use Rattle.std.proofs.lemmas.List.{length-map}
use Rattle.arrow_buffers.specs.Columns.{ColumnIn, HasNoFault, cells_of, offsets_len, values_len}
use Rattle.arrow_buffers.specs.declared.width.Width.{Width}
use Rattle.arrow_ipc.specs.Batches.{BatchIn}
use Rattle.arrow_ipc.specs.Written.{most_of_batch}
use Rattle.otap_columns.specs.Limits.{head_limit}
use Rattle.otap_columns.specs.WrittenBatches.{WritesValues}
use Rattle.std.specs.Prelude.{count_by, is_none}
use Rattle.otap_columns.specs.BuiltCells.{HasRoom, batch_parts, with_parts}
use Rattle.otap_columns.proofs.BatchGrown.{sizes}
use Rattle.otap_columns.proofs.DictionariesAdded.{adds, dictionary_message, dictionary_room, dictionary_short, holds_values}
use Rattle.otap_columns.proofs.RecordShort.{message_ok}
use Rattle.otap_columns.proofs.HeadsTaken.{all_some}
use Rattle.otap_columns.proofs.writer.batches.add_dictionary.Goals as goal

pub add_column-requires-clause-room : goal.add_column-requires-clause-room
add_column-requires-clause-room c =
    let b = c.in_ok-buffers.buffers in
    let cells : c.in_ok-built.built.cells ≡ all_some (drop c.args.from c.args.ladder.now.values) = ap (λ (k : ColumnIn). k.cells) c.in_ok-built.ensures in
    let width : c.in_ok-built.built.width ≡ c.args.width = ap (λ (k : ColumnIn). k.width) c.in_ok-built.ensures in
    let e = c.in_ok-buffers.ensures in
    subst (λ (batch : BatchIn). HasRoom batch 1 (sizes b)) (sym c.new-batch.ensures)
    (dictionary_room b.rows b
    (dictionary_short c.args.width c.args.ladder.now.values c.args.from b c.requires.holds.single c.requires.holds.wide c.requires.few c.requires.room
    (e.rows ∙ ap length cells) e.validity_len (e.offsets_len ∙ ap (λ (w : Width). offsets_len w b.rows) width) (e.values_len ∙ (λ i. values_len (width i) (cells i)))))

pub returns-clause-short : goal.returns-clause-short
returns-clause-short c =
    let b = c.in_ok-buffers.buffers in
    let cells : c.in_ok-built.built.cells ≡ all_some (drop c.args.from c.args.ladder.now.values) = ap (λ (k : ColumnIn). k.cells) c.in_ok-built.ensures in
    let width : c.in_ok-built.built.width ≡ c.args.width = ap (λ (k : ColumnIn). k.width) c.in_ok-built.ensures in
    let e = c.in_ok-buffers.ensures in
    let batch : c.add_column.new.batch ≡ with_parts (record { rows = b.rows; nodes = []; buffers = [] }) (batch_parts c.args.width b) =
    c.in_ok-add_column.ensures ∙ ap (λ (k : BatchIn). with_parts k (batch_parts c.args.width b)) c.new-batch.ensures in
    let short : sizes b ≤ 1441850 =
    dictionary_short c.args.width c.args.ladder.now.values c.args.from b c.requires.holds.single c.requires.holds.wide c.requires.few c.requires.room
    (e.rows ∙ ap length cells) e.validity_len (e.offsets_len ∙ ap (λ (w : Width). offsets_len w b.rows) width) (e.values_len ∙ (λ i. values_len (width i) (cells i))) in
    message_ok _ head_limit (most_of_batch c.add_column.new.batch) c.args.to.now.items c.finish_dictionary.new.to.items c.finish_dictionary.result
    (subst (λ (k : BatchIn). most_of_batch k ≤ head_limit) (sym batch) (dictionary_message c.args.width b short)) c.finish_dictionary.ensures.ok

pub returns-clause-adds : goal.returns-clause-adds
returns-clause-adds c =
    let b = c.in_ok-buffers.buffers in
    let values = drop c.args.from c.args.ladder.now.values in
    let cells : c.in_ok-built.built.cells ≡ all_some values = ap (λ (k : ColumnIn). k.cells) c.in_ok-built.ensures in
    let width : c.in_ok-built.built.width ≡ c.args.width = ap (λ (k : ColumnIn). k.width) c.in_ok-built.ensures in
    let e = c.in_ok-buffers.ensures in
    let holds : WritesValues c.args.kind values (with_parts (record { rows = b.rows; nodes = []; buffers = [] }) (batch_parts c.args.width b)) =
    holds_values c.args.kind c.args.width b values c.requires.holds.stored c.requires.holds.single (c.requires.holds.texts c.args.from)
    (e.rows ∙ ap length cells ∙ length-map values (λ (value : List ℕ). Some value))
    ((λ i. cells_of (sym width i) b.validity.items b.offsets.items b.values.items b.rows) ∙ e.reads ∙ cells) e.bitmap
    (subst (λ (w : Width). HasNoFault w b.offsets.items b.values.items b.rows) width e.no_fault) (e.nulls ∙ ap (count_by is_none) cells) in
    let batch : c.add_column.new.batch ≡ with_parts (record { rows = b.rows; nodes = []; buffers = [] }) (batch_parts c.args.width b) =
    c.in_ok-add_column.ensures ∙ ap (λ (k : BatchIn). with_parts k (batch_parts c.args.width b)) c.new-batch.ensures in
    adds c.args.kind c.args.id (to_z w64 (of_z w64 c.args.id)) c.args.delta values c.args.to.now.items c.finish_dictionary.new.to.items c.add_column.new.batch c.finish_dictionary.result
    (to_z-of_z w64 c.args.id c.ranges.id) (subst (WritesValues c.args.kind values) (sym batch) holds) c.finish_dictionary.ensures.ok
