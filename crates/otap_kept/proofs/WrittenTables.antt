-- The tables that the loops have written, and a main row more.
use Rattle.std.proofs.Common.{◌≡◌, ℕ, ◌+◌, ◌<◌, List, [], ◌∷◌, ◌++◌, length, get_or, map, drop, Option, Some, None, sym, ap, ◌∙◌, append-nil}
use Rattle.otap_cells.specs.declared.payload.Kind.{Kind}
use Rattle.otap_cells.specs.Cells.{Cell, cell_at, seen}
use Rattle.otap_cells.specs.Columns.{coding_at}
use Rattle.otap_cells.specs.Continuing.{again_of}
use Rattle.otap_cells.specs.Tables.{IsTable, Table, profile_table}
use Rattle.otap_groups.specs.declared.entry.ChildEntry.{ChildEntry}
use Rattle.otap_groups.specs.Kinds.{IsMain}
use Rattle.otap_groups.specs.Rows.{id_at}
use Rattle.otap_groups.specs.Stored.{stored_parts}
use Rattle.otap_kept.specs.declared.main_table.FrontIds.{FrontIds}
use Rattle.otap_kept.specs.Rows.{own_cells}
use Rattle.otap_kept.specs.Tables.{distance, kept_main, kept_parts, past_id, stored_main, stored_row}
use Rattle.otap_kept.specs.Writing.{main_at, main_cells, mains_from, part_at}
use Rattle.otap_kept.proofs.RowFits.{front_is}
use Rattle.otap_kept.proofs.WrittenSteps.{mains_next, one_more}

-- where nothing is left, all is written
none_more : {A : Type 0} (front left whole : List A) → left ≡ [] → front ++ left ≡ whole → front ≡ whole
none_more front left whole none is = sym (append-nil front) ∙ sym (ap (λ xs. front ++ xs) none) ∙ is

-- a table with other rows is still as the profile stores it
pub still_profile : (kind : Kind) (old new : Table) (rows : List (List Cell)) → new ≡ record old { rows = rows } → old ≡ profile_table kind old.rows
    → new ≡ profile_table kind new.rows
still_profile kind old new rows grew is =
    grew ∙ ap (λ (t : Table). record t { rows = rows }) is ∙ ap (profile_table kind) (sym (ap (λ (t : Table). t.rows) grew))

pub parts_written : (kind : Kind) (rows : List (List Cell)) (table : Table) (step parent : ℕ) (before : Option (List Cell)) (entries left : List ChildEntry)
    → left ≡ [] → table ≡ profile_table kind table.rows
    → table.rows ++ stored_parts (coding_at kind 1) (again_of kind) own_cells step parent before (map (part_at rows) left)
    ≡ stored_parts (coding_at kind 1) (again_of kind) own_cells 0 0 None (map (part_at rows) entries)
    → table ≡ kept_parts kind (map (part_at rows) entries)
unfolding kept_parts
parts_written kind rows table step parent before entries left none is all =
    is ∙ ap (profile_table kind)
    (none_more table.rows _ _ (ap (λ es. stored_parts (coding_at kind 1) (again_of kind) own_cells step parent before (map (part_at rows) es)) none) all)

pub mains_written : (kind : Kind) (resources scopes : List (Option ℕ)) (rows : List (List Cell)) (table : Table) (own resource scope n : ℕ) (places left : List ℕ)
    → left ≡ [] → table ≡ profile_table kind table.rows
    → table.rows ++ stored_main own resource scope (mains_from resources scopes rows n left) ≡ stored_main 0 0 0 (mains_from resources scopes rows 0 places)
    → table ≡ kept_main kind (mains_from resources scopes rows 0 places)
unfolding kept_main
mains_written kind resources scopes rows table own resource scope n places left none is all =
    is ∙ ap (profile_table kind) (none_more table.rows _ _ (ap (λ ps. stored_main own resource scope (mains_from resources scopes rows n ps)) none) all)

-- one main row more
module _ (t : Table) (is : IsTable t) (main : IsMain t.kind) (resources scopes : List (Option ℕ)) (places : List ℕ) (own resource scope n : ℕ) where
  pub mains_step : (old new : List (List Cell)) (cells : FrontIds) (after_own after_resource after_scope : ℕ) (whole : List (List Cell))
      → n < length places → get_or places n 0 < length t.rows
      → seen cells.own ≡ distance own (Some n) → seen cells.resource ≡ distance resource (id_at resources n) → seen cells.scope ≡ distance scope (id_at scopes n)
      → after_own ≡ n → after_resource ≡ past_id resource (id_at resources n) → after_scope ≡ past_id scope (id_at scopes n)
      → new ≡ old ++ main_cells cells (get_or t.rows (get_or places n 0) []) ∷ []
      → old ++ stored_main own resource scope (mains_from resources scopes t.rows n (drop n places)) ≡ whole
      → new ++ stored_main after_own after_resource after_scope (mains_from resources scopes t.rows (n + 1) (drop (n + 1) places)) ≡ whole
  mains_step old new cells after_own after_resource after_scope whole within there a b c x y z grew so_far =
      let row = get_or t.rows (get_or places n 0) [] in
      let more = mains_from resources scopes t.rows (n + 1) (drop (n + 1) places) in
      let first : stored_row own resource scope (main_at resources scopes t.rows n (get_or places n 0)) ≡ main_cells cells row =
      front_is t is (get_or places n 0) there main resources scopes own resource scope n
      ∙ (λ i. sym a i ∷ sym b i ∷ cell_at row 2 ∷ cell_at row 3 ∷ sym c i ∷ drop 5 row) in
      one_more old new _ (stored_main after_own after_resource after_scope more) whole (main_cells cells row) grew
      (mains_next resources scopes t.rows own resource scope places n within
      ∙ (λ i. first i ∷ stored_main (sym x i) (sym y i) (sym z i) more)) so_far
