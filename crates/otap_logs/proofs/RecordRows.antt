-- The row of a log record: nine cells in front, and sixteen of its own.
use Rattle.std.proofs.Common.{◌≡◌, ℕ, ◌+◌, ◌^◌, List, [], ◌∷◌, ◌++◌, length, map, drop, refl, sym, ap, ◌∙◌, arith}
use Rattle.std.specs.List.{slice_index_or}
use Rattle.std.specs.Prelude.{min, sum}
use Rattle.std.proofs.lemmas.List.Sums.{sum_by-append, sum_by-cons}
use Rattle.otlp_model.specs.declared.logs.LogRecord.{LogRecord}
use Rattle.otap_cells.specs.declared.payload.Kind.{Kind}
use Rattle.otap_cells.specs.declared.payload.Kind.TheVariants as table
use Rattle.otap_cells.specs.declared.profile.Base.TheVariants as base
use Rattle.otap_cells.specs.declared.view.CellView.{CellView}
use Rattle.otap_cells.specs.Cells.{Cell, IsCellOf, seen}
use Rattle.otap_cells.specs.Columns.{columns_of, common, logs}
use Rattle.otap_cells.specs.Scalars.{text_cell, number_cell, int_cell, bits_cell}
use Rattle.otap_cells.specs.Tables.{IsRow}
use Rattle.otap_cells.specs.Weights.{cell_weight}
use Rattle.otap_groups.specs.Weighing.{cells_weight}
use Rattle.otap_groups.proofs.ProfileRows.{rows_join}
use Rattle.otap_attrs.specs.Values.{AreCellsOf, value_bases, value_cells}
use Rattle.otap_logs.specs.Records.{record_cells, last_cells}
use Rattle.otap_cells.proofs.ScalarLaws.{text_weighs, number_weighs, int_weighs_nothing, bits_weigh}

pub record_fits : (kind : Kind) (front : List Cell) (time observed trace span severity text v0 v1 v2 v3 v4 v5 v6 dropped flags name : Cell) → kind ≡ table.Logs → IsRow common front
    → IsCellOf base.Timestamp time → IsCellOf base.Timestamp observed → IsCellOf base.Fixed16 trace → IsCellOf base.Fixed8 span → IsCellOf base.I32 severity → IsCellOf base.Utf8 text
    → AreCellsOf value_bases (v0 ∷ v1 ∷ v2 ∷ v3 ∷ v4 ∷ v5 ∷ v6 ∷ []) → IsCellOf base.U32 dropped → IsCellOf base.U32 flags → IsCellOf base.Utf8 name
    → IsRow (columns_of kind) (front ++ (time ∷ observed ∷ trace ∷ span ∷ severity ∷ text ∷ v0 ∷ v1 ∷ v2 ∷ v3 ∷ v4 ∷ v5 ∷ v6 ∷ dropped ∷ flags ∷ name ∷ []))
unfolding logs
record_fits kind front time observed trace span severity text v0 v1 v2 v3 v4 v5 v6 dropped flags name is f f0 f1 f2 f3 f4 f5 v f6 f7 f8 =
    let own : IsRow (drop 9 logs) (time ∷ observed ∷ trace ∷ span ∷ severity ∷ text ∷ v0 ∷ v1 ∷ v2 ∷ v3 ∷ v4 ∷ v5 ∷ v6 ∷ dropped ∷ flags ∷ name ∷ []) =
    (f0, (f1, (f2, (f3, (f4, (f5, (v.0, (v.1.0, (v.1.1.0, (v.1.1.1.0, (v.1.1.1.1.0, (v.1.1.1.1.1.0, (v.1.1.1.1.1.1.0, (f6, (f7, (f8, tt)))))))))))))))) in
    rw is (rows_join common (drop 9 logs) front _ f own)

-- the cells of a value, one by one
seven : (xs : List CellView) (d : CellView) → AreCellsOf value_bases (map seen xs)
    → seen (slice_index_or xs 0 d) ∷ seen (slice_index_or xs 1 d) ∷ seen (slice_index_or xs 2 d) ∷ seen (slice_index_or xs 3 d)
    ∷ seen (slice_index_or xs 4 d) ∷ seen (slice_index_or xs 5 d) ∷ seen (slice_index_or xs 6 d) ∷ [] ≡ map seen xs
seven [] d fits = absurd fits
seven (x0 ∷ []) d fits = absurd fits.1
seven (x0 ∷ x1 ∷ []) d fits = absurd fits.1.1
seven (x0 ∷ x1 ∷ x2 ∷ []) d fits = absurd fits.1.1.1
seven (x0 ∷ x1 ∷ x2 ∷ x3 ∷ []) d fits = absurd fits.1.1.1.1
seven (x0 ∷ x1 ∷ x2 ∷ x3 ∷ x4 ∷ []) d fits = absurd fits.1.1.1.1.1
seven (x0 ∷ x1 ∷ x2 ∷ x3 ∷ x4 ∷ x5 ∷ []) d fits = absurd fits.1.1.1.1.1.1
seven (x0 ∷ x1 ∷ x2 ∷ x3 ∷ x4 ∷ x5 ∷ x6 ∷ []) d fits = refl
seven (x0 ∷ x1 ∷ x2 ∷ x3 ∷ x4 ∷ x5 ∷ x6 ∷ x7 ∷ more) d fits = absurd fits.1.1.1.1.1.1.1

pub record_row : (front : List Cell) (log : LogRecord) (xs : List CellView) (d : CellView) (time observed trace span severity text dropped flags name : Cell)
    → AreCellsOf value_bases (map seen xs) → map seen xs ≡ value_cells log.body
    → time ≡ bits_cell log.time → observed ≡ bits_cell log.observed → trace ≡ text_cell log.trace_id → span ≡ text_cell log.span_id
    → severity ≡ int_cell log.severity → text ≡ text_cell log.severity_text → dropped ≡ number_cell log.dropped → flags ≡ number_cell log.flags → name ≡ text_cell log.event_name
    → front ++ (time ∷ observed ∷ trace ∷ span ∷ severity ∷ text
    ∷ seen (slice_index_or xs 0 d) ∷ seen (slice_index_or xs 1 d) ∷ seen (slice_index_or xs 2 d) ∷ seen (slice_index_or xs 3 d)
    ∷ seen (slice_index_or xs 4 d) ∷ seen (slice_index_or xs 5 d) ∷ seen (slice_index_or xs 6 d) ∷ dropped ∷ flags ∷ name ∷ []) ≡ front ++ record_cells log
record_row front log xs d time observed trace span severity text dropped flags name fits body e0 e1 e2 e3 e4 e5 e6 e7 e8 =
    λ i. front ++ (e0 i ∷ e1 i ∷ e2 i ∷ e3 i ∷ e4 i ∷ e5 i ∷ ((seven xs d fits ∙ body) i ++ (e6 i ∷ e7 i ∷ e8 i ∷ [])))

-- what a record's own cells weigh
record_weighs_its_cells : (log : LogRecord) → cells_weight (record_cells log)
    ≡ length log.trace_id + length log.span_id + length log.severity_text + cells_weight (value_cells log.body) + length log.event_name
record_weighs_its_cells log =
    let split = sum_by-append cell_weight (value_cells log.body) (last_cells log) in
    let a = bits_weigh log.time in
    let b = bits_weigh log.observed in
    let c = text_weighs log.trace_id in
    let d = text_weighs log.span_id in
    let e = int_weighs_nothing log.severity in
    let f = text_weighs log.severity_text in
    let g = number_weighs log.dropped in
    let h = number_weighs log.flags in
    let j = text_weighs log.event_name in
    let rest : List Cell = value_cells log.body ++ last_cells log in
    let s0 = sum_by-cons cell_weight (bits_cell log.time) (bits_cell log.observed ∷ text_cell log.trace_id ∷ text_cell log.span_id ∷ int_cell log.severity ∷ text_cell log.severity_text ∷ rest) in
    let s1 = sum_by-cons cell_weight (bits_cell log.observed) (text_cell log.trace_id ∷ text_cell log.span_id ∷ int_cell log.severity ∷ text_cell log.severity_text ∷ rest) in
    let s2 = sum_by-cons cell_weight (text_cell log.trace_id) (text_cell log.span_id ∷ int_cell log.severity ∷ text_cell log.severity_text ∷ rest) in
    let s3 = sum_by-cons cell_weight (text_cell log.span_id) (int_cell log.severity ∷ text_cell log.severity_text ∷ rest) in
    let s4 = sum_by-cons cell_weight (int_cell log.severity) (text_cell log.severity_text ∷ rest) in
    let s5 = sum_by-cons cell_weight (text_cell log.severity_text) rest in
    omega (arith, split, a, b, c, d, e, f, g, h, j, s0, s1, s2, s3, s4, s5)

capped : (a b c e n body x : ℕ) → body ≡ min x (2 ^ 63)
    → n ≡ min (sum (0 ∷ 0 ∷ a ∷ b ∷ 0 ∷ c ∷ body ∷ 0 ∷ 0 ∷ e ∷ [])) (2 ^ 63) → n ≡ min (a + b + c + x + e) (2 ^ 63)
capped a b c e n body x of_body of_n = omega arith

pub own_weight : (log : LogRecord) (a b c e n body : ℕ) → a ≡ length log.trace_id → b ≡ length log.span_id → c ≡ length log.severity_text
    → body ≡ min (cells_weight (value_cells log.body)) (2 ^ 63) → e ≡ length log.event_name
    → n ≡ min (sum (0 ∷ 0 ∷ a ∷ b ∷ 0 ∷ c ∷ body ∷ 0 ∷ 0 ∷ e ∷ [])) (2 ^ 63)
    → n ≡ min (cells_weight (record_cells log)) (2 ^ 63)
own_weight log a b c e n body is_a is_b is_c is_body is_e is_n =
    capped a b c e n body (cells_weight (value_cells log.body)) is_body is_n
    ∙ (λ i. min (is_a i + is_b i + is_c i + cells_weight (value_cells log.body) + is_e i) (2 ^ 63))
    ∙ ap (λ m. min m (2 ^ 63)) (sym (record_weighs_its_cells log))
