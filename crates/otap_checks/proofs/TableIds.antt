-- The ids of a table's columns as lists, and what they give.
use Rattle.std.proofs.Common.{◌≡◌, ◌∙◌, ℕ, ◌<◌, List, [], map, length, Option, inl, inr, refl, sym, ap, subst, arith}
use Rattle.std.specs.Prelude.{Contains}
use Rattle.std.specs.List.{range_with_len}
use Rattle.std.proofs.lemmas.List.FromFn.{get_or-map-range_with_len, length-map-range_with_len}
use Rattle.std.proofs.lemmas.Bool.{false≢true, cases_Bool}
use Rattle.otlp_model.specs.declared.request.Signal.{Signal}
use Rattle.otap_cells.specs.Cells.{Cell}
use Rattle.otap_cells.specs.declared.ids.IdFault.TheVariants as fault
use Rattle.otap_cells.specs.Ids.{fits_after, undone_after}
use Rattle.otap_cells.specs.Named.{table_named}
use Rattle.otap_cells.specs.declared.payload.Kind.{Kind}
use Rattle.otap_cells.specs.Tables.{Table, coding_in, greatest_in}
use Rattle.otap_cells.specs.ColumnIds.{HasNullParent, stored_in}
use Rattle.otap_cells.specs.Continuing.{continues_in}
use Rattle.otap_cells.specs.GivenIds.{HasIds, ids_in}
use Rattle.otap_cells.proofs.IdLaws.{stands_fits, undone_stands}
use Rattle.otap_groups.specs.Rows.{MainRow, main_rows, main_row_at, cells_are, id_at}
use Rattle.otap_groups.specs.Disagree.{DifferBy, Disagree}
use Rattle.otap_attrs.specs.declared.refusal.RowRefusal.{RowRefusal}
use Rattle.otap_attrs.specs.declared.refusal.RowRefusal.TheVariants as why
use Rattle.otap_checks.specs.declared.signals.TableLink.{TableLink}
use Rattle.otap_checks.specs.Links.{links_of}
use Rattle.otap_checks.specs.IdDefects.{IdDefect}
use Rattle.otap_checks.specs.Given.{AreGiven}
use Rattle.otap_checks.specs.Reading.{main_rows_in, Disagrees}
use Rattle.otap_attrs.proofs.TablePairs.{ids_are}

pub has_them : (t : Table) (column : ℕ) (ids : List (Option ℕ)) → HasIds t column ids → HasIds t column (ids_in t column)
has_them t column ids are = subst (HasIds t column) (ids_are t column ids are) are

pub main_rows_are : (t : Table) (ids resource_ids scope_ids : List (Option ℕ)) → HasIds t 0 ids → HasIds t 1 resource_ids → HasIds t 4 scope_ids
    → main_rows ids resource_ids scope_ids t.rows ≡ main_rows_in t
main_rows_are t ids resource_ids scope_ids own resource scope =
    λ i. main_rows (ids_are t 0 ids own i) (ids_are t 1 resource_ids resource i) (ids_are t 4 scope_ids scope i) t.rows

-- ---- rows that differ

module _ (id : MainRow → Option ℕ) (cells : MainRow → List Cell) (n : ℕ) (f g : ℕ → MainRow) (ids : (k : ℕ) → id (f k) ≡ id (g k)) (same : (k : ℕ) → cells (f k) ≡ cells (g k)) where
  here : (row : MainRow) (at : Contains (map f (range_with_len 0 n)) row) → row ≡ f at.0
  here row at =
      let within : at.0 < n = omega (arith, at.1, length-map-range_with_len f 0 n) in
      sym at.2 ∙ get_or-map-range_with_len f 0 n at.0 at.0 row within (omega arith)

  differ_too : DifferBy id cells (map f (range_with_len 0 n)) → DifferBy id cells (map g (range_with_len 0 n))
  differ_too d = record {
    shared = d.shared;
    a = g d.first.0;
    b = g d.second.0;
    first = there d.a d.first;
    second = there d.b d.second;
    of_first = sym (ids d.first.0) ∙ ap id (sym (here d.a d.first)) ∙ d.of_first;
    of_second = sym (ids d.second.0) ∙ ap id (sym (here d.b d.second)) ∙ d.of_second;
    differ = (λ i. cells_are ((sym (same d.first.0) ∙ ap cells (sym (here d.a d.first))) i) ((sym (same d.second.0) ∙ ap cells (sym (here d.b d.second))) i)) ∙ d.differ;
  }
    where
      there : (row : MainRow) (at : Contains (map f (range_with_len 0 n)) row) → Contains (map g (range_with_len 0 n)) (g at.0)
      there row at =
          let within : at.0 < n = omega (arith, at.1, length-map-range_with_len f 0 n) in
          (at.0, omega (arith, within, length-map-range_with_len g 0 n), get_or-map-range_with_len g 0 n at.0 at.0 (g at.0) within (omega arith))

-- rows disagree by their ids and cells alone
pub disagrees_too : (t : Table) → HasIds t 1 (ids_in t 1) → HasIds t 4 (ids_in t 4) → Disagree (main_rows_in t) → Disagrees t
unfolding main_rows
disagrees_too t resources scopes (inl d) = inl (record {
  ids = ids_in t 1;
  are = resources;
  differ = differ_too (λ row. row.resource_id) (λ row. row.resource) (length t.rows) (main_row_at (ids_in t 0) (ids_in t 1) (ids_in t 4) t.rows)
      (main_row_at [] (ids_in t 1) [] t.rows) (λ k. refl) (λ k. refl) d;
})
disagrees_too t resources scopes (inr d) = inr (record {
  ids = ids_in t 4;
  are = scopes;
  differ = differ_too (λ row. row.scope_id) (λ row. row.scope) (length t.rows) (main_row_at (ids_in t 0) (ids_in t 1) (ids_in t 4) t.rows)
      (main_row_at [] [] (ids_in t 4) t.rows) (λ k. refl) (λ k. refl) d;
})

pub disagree_too : (t : Table) → Disagrees t → Disagree (main_rows_in t)
unfolding main_rows
disagree_too t (inl d) = inl (differ_too (λ row. row.resource_id) (λ row. row.resource) (length t.rows) (main_row_at [] d.ids [] t.rows)
    (main_row_at (ids_in t 0) (ids_in t 1) (ids_in t 4) t.rows) (λ k. ap (λ ids. id_at ids k) (ids_are t 1 d.ids d.are)) (λ k. refl) d.differ)
disagree_too t (inr d) = inr (differ_too (λ row. row.scope_id) (λ row. row.scope) (length t.rows) (main_row_at [] [] d.ids t.rows)
    (main_row_at (ids_in t 0) (ids_in t 1) (ids_in t 4) t.rows) (λ k. ap (λ ids. id_at ids k) (ids_are t 4 d.ids d.are)) (λ k. refl) d.differ)

-- ---- a table without defects

-- where nothing is wrong with the ids of a table, they are given
pub clean_given : (of : Signal) (tables : List Table) (kind : Kind) (link : TableLink) → Contains (links_of of) link → link.kind ≡ kind
    → ((wrong : RowRefusal) → IdDefect of tables kind wrong → ⊥) → AreGiven (table_named kind tables)
clean_given of tables kind link listed names clean column id =
    let t : Table = table_named kind tables in
    let some_parent : HasNullParent t column → ⊥ = λ null. clean (why.Ids fault.NullParent) (record { link = link; listed = listed; names = names; is = (column, id, null) }) in
    elim (cases_Bool (fits_after (coding_in t column) (greatest_in t column) 0 (continues_in t) (stored_in t column))) [
      | inl fits ↦ record {
        ids = undone_after (coding_in t column) (greatest_in t column) 0 (continues_in t) (stored_in t column);
        are = undone_stands (coding_in t column) (greatest_in t column) 0 (continues_in t) (stored_in t column) fits;
        parents = some_parent;
      }
      | inr miss ↦ absurd (clean (why.Ids fault.PastType) (record {
        link = link;
        listed = listed;
        names = names;
        is = (
          column,
          id,
          (some_parent, λ ids are. false≢true (sym miss ∙ stands_fits (coding_in t column) (greatest_in t column) 0 (continues_in t) (stored_in t column) ids are)),
        );
      }))
    ]
