-- The tables of a request that is exported make a message that fits into a frame.
use Rattle.std.proofs.Common.{◌≡◌, inl, inr, ◌+◌, ◌*◌, ◌≤◌, Bool, List, [], ◌∷◌, length, refl, sym, ap, arith}
use Rattle.std.specs.Prelude.{filter, map, sum_by}
use Rattle.std.proofs.lemmas.Bool.{cases_Bool}
use Rattle.std.proofs.lemmas.List.{length-map}
use Rattle.std.proofs.lemmas.List.Sums.{sum_by-cons}
use Rattle.otlp_model.specs.declared.request.Signal.{Signal}
use Rattle.otap_cells.specs.declared.payload.Kind.{Kind}
use Rattle.otap_cells.specs.Payload.{kinds_of}
use Rattle.otap_cells.specs.Tables.{Table}
use Rattle.otap_cells.specs.Weights.{row_weight_limit, weight_of_tables}
use Rattle.otap_columns.specs.Limits.{columns_limit, dictionary_columns, record_limit, records_limit, tables_limit}
use Rattle.otap_produce.specs.Sizes.{payloads_most, size_limit}
use Rattle.otap_produce.specs.TableOrder.{AreInOrder}

-- the records of the tables of a message are short together
pub record RecordsFit : Type 0 where
  pub bound : (tables : List Table) → weight_of_tables tables ≤ row_weight_limit → sum_by (λ (t : Table). dictionary_columns t.kind) tables ≤ columns_limit → length tables ≤ tables_limit
      → sum_by record_limit tables ≤ records_limit
  pub columns : (signal : Signal) → sum_by dictionary_columns (kinds_of signal) ≤ columns_limit
  pub tables : (signal : Signal) → length (kinds_of signal) ≤ tables_limit

fewer : (has : Kind → Bool) (kinds : List Kind)
    → (length (filter has kinds) ≤ length kinds) × (sum_by dictionary_columns (filter has kinds) ≤ sum_by dictionary_columns kinds)
fewer has [] = (omega arith, omega arith)
fewer has (kind ∷ kinds) =
    let rest = fewer has kinds in
    let more = sum_by-cons dictionary_columns kind kinds in
    elim (cases_Bool (has kind)) [
      | inl is ↦ rw is (omega (arith, rest.0), omega (arith, rest.1, more, sum_by-cons dictionary_columns kind (filter has kinds)))
      | inr is ↦ rw is (omega (arith, rest.0), omega (arith, rest.1, more))
    ]

columns_by_kind : (tables : List Table) → sum_by (λ (t : Table). dictionary_columns t.kind) tables ≡ sum_by dictionary_columns (map (λ (t : Table). t.kind) tables)
columns_by_kind [] = refl
columns_by_kind (t ∷ tables) =
    omega (
      arith,
      columns_by_kind tables,
      sum_by-cons (λ (u : Table). dictionary_columns u.kind) t tables,
      sum_by-cons dictionary_columns t.kind (map (λ (u : Table). u.kind) tables),
    )

sizes : (tables : List Table) → payloads_most tables ≡ 20 * length tables + sum_by record_limit tables
sizes [] = omega arith
sizes (t ∷ tables) = omega (arith, sizes tables, sum_by-cons record_limit t tables)

pub tables_limited : RecordsFit → (signal : Signal) (tables : List Table) → AreInOrder signal tables → weight_of_tables tables ≤ row_weight_limit
    → (length tables ≤ tables_limit) × (payloads_most tables ≤ size_limit)
tables_limited fit signal tables order light =
    let kinds : List Kind = map (λ (t : Table). t.kind) tables in
    let fewer_of = fewer order.has (kinds_of signal) in
    let count : length tables ≡ length kinds = sym (length-map tables (λ (t : Table). t.kind)) in
    let few : length tables ≤ tables_limit = omega (arith, count, ap (λ (ks : List Kind). length ks) order.kinds, fewer_of.0, fit.tables signal) in
    let columns : sum_by (λ (t : Table). dictionary_columns t.kind) tables ≤ columns_limit =
    omega (arith, columns_by_kind tables, ap (λ (ks : List Kind). sum_by dictionary_columns ks) order.kinds, fewer_of.1, fit.columns signal) in
    (few, omega (arith, sizes tables, fit.bound tables light columns few, few))
