-- Rows follow from the cells of a table, and from how its ids are stored.
use Rattle.std.proofs.Common.{◌≡◌, ℕ, ◌+◌, ◌≤◌, Bool, true, List, [], ◌∷◌, Option, None, Some, map, drop, sym, ◌∙◌, ap, subst, arith}
use Rattle.otap_cells.specs.declared.profile.Coding.{Coding}
use Rattle.otap_cells.specs.Cells.{Cell}
use Rattle.otap_cells.specs.Columns.{is_id_at}
use Rattle.otap_cells.specs.Ids.{IdsAfter}
use Rattle.otap_cells.specs.ColumnIds.{IdsOf, id_in, stored_in}
use Rattle.otap_cells.specs.Continuing.{continues_in}
use Rattle.otap_cells.specs.GivenIds.{HasIds}
use Rattle.otap_cells.specs.Tables.{SameTable, Table, coding_in, column_in, greatest_in}
use Rattle.otap_cells.proofs.IdLaws.{one_list}
use Rattle.otap_cells.proofs.Flags.{continues_alike}
use Rattle.otap_groups.specs.Rows.{ChildRow, MainRow, child_rows, main_rows}
use Rattle.otap_groups.specs.Kinds.{IsMain, IsPart}
use Rattle.otap_groups.specs.Stored.{IsMainRows, IsPairRows, IsPartRows}

-- ids below one number are below a greater one
raised : (how : Coding) (last most before : ℕ) (rows : List Bool) (ns ids : List (Option ℕ)) → last ≤ most → IdsAfter how last before rows ns ids → IdsAfter how most before rows ns ids
raised how last most before rows [] [] low stands = tt
raised how last most before rows [] (id ∷ ids) low stands = absurd stands
raised how last most before rows (n ∷ ns) [] low stands = absurd stands
raised how last most before rows (None ∷ ns) (None ∷ ids) low stands = (stands.0, raised how last most before (drop 1 rows) ns ids low stands.1)
raised how last most before rows (None ∷ ns) (Some id ∷ ids) low stands = absurd stands
raised how last most before rows (Some n ∷ ns) (None ∷ ids) low stands = absurd stands
raised how last most before rows (Some n ∷ ns) (Some id ∷ ids) low stands =
    let within : id ≤ last = stands.1 in
    (stands.0, omega arith, raised how last most id (drop 1 rows) ns ids low stands.2)

same_ids : (t u : Table) (column : ℕ) (rows : List Bool) (xs ys : List (Option ℕ)) → SameTable t u → is_id_at t.kind column ≡ true
    → IdsOf t column rows xs → IdsOf u column rows ys → xs ≡ ys
same_ids t u column rows xs ys same is_id a b =
    let how = same.coding column is_id in
    let stored : stored_in t column ≡ stored_in u column = ap (λ (cells : List (List Cell)). map id_in (column_in cells column)) same.rows in
    let first = raised (coding_in t column) (greatest_in t column) (greatest_in t column + greatest_in u column) 0 rows (stored_in t column) xs (omega arith) a in
    let second = raised (coding_in u column) (greatest_in u column) (greatest_in t column + greatest_in u column) 0 rows (stored_in u column) ys (omega arith) b in
    one_list (coding_in t column) (greatest_in t column + greatest_in u column) 0 rows (stored_in t column) xs ys first (rw (how, stored) second)

same_given : (t u : Table) (column : ℕ) (xs ys : List (Option ℕ)) → SameTable t u → is_id_at t.kind column ≡ true → HasIds t column xs → HasIds u column ys → xs ≡ ys
same_given t u column xs ys same is_id a b =
    same_ids t u column (continues_in t) xs ys same is_id a (subst (λ rows. IdsOf u column rows ys) (continues_alike t u same) b)

pub same_main_rows : (t u : Table) (xs ys : List MainRow) → SameTable t u → IsMain t.kind → IsMainRows t xs → IsMainRows u ys → xs ≡ ys
same_main_rows t u xs ys same main a b =
    let own = same_given t u 0 a.ids b.ids same main.id a.own b.own in
    let resource = same_given t u 1 a.resource_ids b.resource_ids same main.resource_id a.resource b.resource in
    let scope = same_given t u 4 a.scope_ids b.scope_ids same main.scope_id a.scope b.scope in
    a.are ∙ (λ i. main_rows (own i) (resource i) (scope i) (same.rows i)) ∙ sym b.are

pub same_part_rows : (t u : Table) (xs ys : List ChildRow) → SameTable t u → IsPart t.kind → IsPartRows t xs → IsPartRows u ys → xs ≡ ys
same_part_rows t u xs ys same part a b =
    let own = same_given t u 0 a.ids b.ids same part.id a.own b.own in
    let above = same_given t u 1 a.parents b.parents same part.parent a.above b.above in
    a.are ∙ (λ i. child_rows (own i) (above i) (map (drop 2) (same.rows i))) ∙ sym b.are

pub same_pair_rows : (t u : Table) (xs ys : List ChildRow) → SameTable t u → is_id_at t.kind 0 ≡ true → IsPairRows t xs → IsPairRows u ys → xs ≡ ys
same_pair_rows t u xs ys same is_id a b =
    let above = same_given t u 0 a.parents b.parents same is_id a.above b.above in
    a.are ∙ (λ i. child_rows [] (above i) (map (drop 1) (same.rows i))) ∙ sym b.are
