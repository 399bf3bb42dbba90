use Rattle.std.proofs.Common.{◌≡◌, ◌+◌, ◌<◌, ◌≤◌, [], ◌∷◌, ◌++◌, length, take, drop, get_or, Some, arith, ap, ◌∙◌}
use Rattle.std.specs.Option.{option_copied}
use Rattle.std.proofs.lemmas.Option.{slice_get-get_or}
use Rattle.arrow_buffers.specs.Columns.{ColumnIn, cells_len, cell_len}
use Rattle.otap_dicts.specs.Forms.{byte_count}
use Rattle.otap_columns.proofs.DictionariesAdded.{values_more, values_room}
use Rattle.otap_columns.proofs.HeadsTaken.{all_some}
use Rattle.otap_columns.proofs.writer.batches.values_column.Goals as goal

pub push-requires-clause-room : goal.push-requires-clause-room
push-requires-clause-room c =
    let low : c.values.place < length c.args.ladder.now.values = omega (arith, c.count-count.ensures) in
    let at = slice_get-get_or c.args.ladder.now.values c.values.place [] low in
    let part : option_copied c.value.result ≡ Some (get_or c.args.ladder.now.values c.values.place []) = c.value.ensures ∙ at in
    let room : cells_len (all_some (drop c.args.from (take c.values.place c.args.ladder.now.values))) + length (get_or c.args.ladder.now.values c.values.place []) ≤ byte_count c.args.ladder.now.values =
    values_room c.args.ladder.now.values c.args.from c.values.place (get_or c.args.ladder.now.values c.values.place []) c.values.invariant.0 at in
    let cells : cells_len c.values.column.cells ≡ cells_len (all_some (drop c.args.from (take c.values.place c.args.ladder.now.values))) = ap (λ (b : ColumnIn). cells_len b.cells) c.values.invariant.1 in
    omega (arith, room, cells, ap cell_len part, c.requires.room)

pub values-preserved : goal.values-preserved
values-preserved c =
    let low : c.values.place < length c.args.ladder.now.values = omega (arith, c.count-count.ensures) in
    let at = slice_get-get_or c.args.ladder.now.values c.values.place [] low in
    let part : option_copied c.value.result ≡ Some (get_or c.args.ladder.now.values c.values.place []) = c.value.ensures ∙ at in
    let more = values_more c.args.ladder.now.values c.args.from c.values.place (get_or c.args.ladder.now.values c.values.place []) c.values.invariant.0 at in (
      omega (arith, c.values.invariant.0),
      c.in_ok-push.ensures.ok ∙ (λ i. record { width = (c.values.invariant.1 i).width; cells = (c.values.invariant.1 i).cells ++ part i ∷ [] })
          ∙ (λ i. record { width = c.args.width; cells = more i }),
    )
