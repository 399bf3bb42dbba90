-- A payload that is read as a table: its cells and ids read as those of the table that was written.
use Rattle.std.proofs.Common.{◌≡◌, ℕ, Bool, List, [], ◌∷◌, drop, Option, None, Some, refl, sym, ap, ◌∙◌, subst}
use Rattle.lists.specs.Payloads.{PayloadIn}
use Rattle.otap_cells.specs.declared.profile.Coding.{Coding}
use Rattle.otap_cells.specs.ColumnIds.{stored_in}
use Rattle.otap_cells.specs.Columns.{coding_at}
use Rattle.otap_cells.specs.Continuing.{continues_in}
use Rattle.otap_cells.specs.GivenIds.{HasIds, ReadsAs}
use Rattle.otap_cells.specs.Ids.{Ids, IdsAfter}
use Rattle.otap_cells.specs.Tables.{Table, greatest_in, greatest_wide}
use Rattle.otap_columns.specs.WrittenPayloads.{IsReadAs, IsWritableTable}

-- numbers give one list of ids, however great these may be
one_list : (how : Coding) (last most before : ℕ) (rows : List Bool) (ns xs ys : List (Option ℕ)) → IdsAfter how last before rows ns xs → IdsAfter how most before rows ns ys → xs ≡ ys
one_list how last most before rows [] [] [] a b = refl
one_list how last most before rows (None ∷ ns) (None ∷ xs) (None ∷ ys) a b = ap (λ ids. None ∷ ids) (one_list how last most before (drop 1 rows) ns xs ys a.1 b.1)
one_list how last most before rows (Some n ∷ ns) (Some x ∷ xs) (Some y ∷ ys) a b =
    let same : x ≡ y = a.0 ∙ sym b.0 in
    (λ i. Some (same i) ∷ one_list how last most y (drop 1 rows) ns xs ys (rw (← same) a.2) b.2 i)
one_list how last most before rows [] (x ∷ xs) ys a b = absurd a
one_list how last most before rows (n ∷ ns) [] ys a b = absurd a
one_list how last most before rows (None ∷ ns) (Some x ∷ xs) ys a b = absurd a
one_list how last most before rows (Some n ∷ ns) (None ∷ xs) ys a b = absurd a
one_list how last most before rows [] [] (y ∷ ys) a b = absurd b
one_list how last most before rows (None ∷ ns) (None ∷ xs) [] a b = absurd b
one_list how last most before rows (None ∷ ns) (None ∷ xs) (Some y ∷ ys) a b = absurd b
one_list how last most before rows (Some n ∷ ns) (Some x ∷ xs) [] a b = absurd b
one_list how last most before rows (Some n ∷ ns) (Some x ∷ xs) (None ∷ ys) a b = absurd b

pub reads_as : (before : List Table) (past : List PayloadIn) (t : Table) (p : PayloadIn) → IsWritableTable t.kind t → (r : IsReadAs t.kind before past t p) → ReadsAs r.table t
reads_as before past t p w r = record {
  same = r.same;
  ids = λ column ids is_id has.
      let given : (ids : List (Option ℕ)) × Ids (coding_at t.kind column) greatest_wide (continues_in t) (stored_in t column) ids = w.ids column is_id in
      let coded : Ids (coding_at t.kind column) (greatest_in t column) (continues_in t) (stored_in t column) ids
      = subst (λ (how : Coding). Ids how (greatest_in t column) (continues_in t) (stored_in t column) ids) (w.coded column is_id) has in
      let one : given.0 ≡ ids = one_list (coding_at t.kind column) greatest_wide (greatest_in t column) 0 (continues_in t) (stored_in t column) given.0 ids given.1 coded in
      subst (HasIds r.table column) one (r.ids column given.0 is_id given.1);
}
