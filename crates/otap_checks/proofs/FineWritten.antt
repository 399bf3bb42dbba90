-- Nothing is wrong with the ids of what is written.
use Rattle.std.proofs.Common.{◌≡◌, ◌∙◌, ℕ, zero, suc, ◌<◌, ◌≤◌, ◌^◌, List, [], ◌∷◌, get_or, length, map, Option, Some, refl, sym, ap, subst, arith, inl, inr}
use Rattle.std.specs.Prelude.{All, Contains, ◌⊎◌}
use Rattle.std.specs.List.{flat_map}
use Rattle.std.proofs.lemmas.List.Elements.{All-nil, All-cons}
use Rattle.otlp_model.specs.declared.groups.ResourceGroup.{ResourceGroup}
use Rattle.otlp_model.specs.declared.request.Signal.{Signal}
use Rattle.otap_cells.specs.declared.payload.Kind.{Kind}
use Rattle.otap_cells.specs.Cells.{Cell}
use Rattle.otap_cells.specs.GivenIds.{HasIds}
use Rattle.otap_cells.specs.Named.{table_named}
use Rattle.otap_cells.specs.Tables.{Table}
use Rattle.otap_groups.specs.Flat.{flat_items, items_of, numbered_rows}
use Rattle.otap_groups.specs.Disagree.{Disagree}
use Rattle.otap_groups.specs.Rows.{MainRow}
use Rattle.otap_groups.specs.Stored.{main_table, part_table}
use Rattle.otap_groups.proofs.GroupsApart.{item_there, own_once, resource_there, rows_agree, scope_there}
use Rattle.otap_groups.proofs.PartTables.{ids_of, part_there}
use Rattle.otap_groups.proofs.StoredRows.{own_ids_of, part_ids_of, resource_ids_of, scope_ids_of}
use Rattle.otap_attrs.specs.declared.refusal.RowRefusal.{RowRefusal}
use Rattle.otap_checks.specs.declared.signals.TableLink.{TableLink}
use Rattle.otap_checks.specs.IdDefects.{IdDefect, WrongIn}
use Rattle.otap_checks.specs.Given.{AreGiven, IsGiven}
use Rattle.otap_checks.specs.Links.{items, links_of}
use Rattle.otap_checks.specs.Reading.{Disagrees}
use Rattle.otap_checks.proofs.FineLinks.{fine_attributes, fine_parts}
use Rattle.otap_checks.proofs.GivenColumns.{nothing_wrong, own_once as once_in_column}
use Rattle.otap_checks.specs.Written.{AreApart, AreSound, Content, HasParentsIn, HaveParentsIn, IsMainKind, IsSound, IsSoundBy, Pairs, Parts, Written, count_at, link_by, link_of, parents_in, table_by, table_of, tables_written}
use Rattle.otap_checks.proofs.RowsAgain.{main_rows_again}
use Rattle.otap_checks.proofs.TableIds.{disagree_too}
use Rattle.otap_checks.proofs.NamedWritten.{main_named, written_named}

-- a column has so many ids
record IsNumbered (t : Table) (column : ℕ) (n : ℕ) : Type 0 where
  known : List (Option ℕ)
  are : HasIds t column known
  there : (p : ℕ) → p < n → Contains known (Some p)

at_place : (P : Written → Type 0) (ws : List Written) → All P ws → (w : Written) → Contains ws w → P w
at_place P ws all w listed = subst P listed.2 (all listed.0 w listed.1)

sound_all : (ws : List Written) → AreSound ws → All IsSound ws
sound_all [] sound = All-nil IsSound
sound_all (w ∷ ws) sound = All-cons IsSound w ws sound.0 (sound_all ws sound.1)

linked_all : {I : Type 0} (main : Kind) (groups : List (ResourceGroup I)) (all ws : List Written) → HaveParentsIn main groups all ws → All (HasParentsIn main groups all) ws
linked_all main groups all [] have = All-nil (HasParentsIn main groups all)
linked_all main groups all (w ∷ ws) have = All-cons (HasParentsIn main groups all) w ws have.0 (linked_all main groups all ws have.1)

module _ {I : Type 0} (main : Kind) (cells_of : I → List Cell) (ws : List Written) (groups : List (ResourceGroup I))
    (far : AreApart main ws) (is_main : IsMainKind main) (few : length (items_of groups) ≤ 2 ^ 32)
    (are_sound : AreSound ws) (are_linked : HaveParentsIn main groups ws ws) where
  sound : All IsSound ws
  sound = sound_all ws are_sound

  linked : All (HasParentsIn main groups ws) ws
  linked = linked_all main groups ws ws are_linked

  abbrev tables : List Table
  tables = tables_written main cells_of ws groups

  abbrev t : Table
  t = main_table main cells_of groups

  abbrev rows : List MainRow
  rows = numbered_rows cells_of 0 (flat_items groups)

  -- ---- the main table

  own_given : IsGiven t 0
  unfolding main_table
  own_given = record { ids = map (λ (row : MainRow). row.id) rows; are = own_ids_of cells_of main groups is_main.front few; parents = λ null. is_main.own null.named }

  resource_given : IsGiven t 1
  unfolding main_table
  resource_given = record { ids = map (λ (row : MainRow). row.resource_id) rows; are = resource_ids_of cells_of main groups is_main.front few; parents = λ null. is_main.resource null.named }

  scope_given : IsGiven t 4
  unfolding main_table
  scope_given = record { ids = map (λ (row : MainRow). row.scope_id) rows; are = scope_ids_of cells_of main groups is_main.front few; parents = λ null. is_main.scope null.named }

  given_at : (column : ℕ) → (column ≡ 0) ⊎ ((column ≡ 1) ⊎ (column ≡ 4)) → IsGiven t column
  given_at column (inl at) = subst (IsGiven t) (sym at) own_given
  given_at column (inr (inl at)) = subst (IsGiven t) (sym at) resource_given
  given_at column (inr (inr at)) = subst (IsGiven t) (sym at) scope_given

  main_given : AreGiven t
  unfolding main_table
  main_given column id = given_at column (is_main.ids column id)

  fine_main : (wrong : RowRefusal) → WrongIn tables t (items main) wrong → ⊥
  fine_main = nothing_wrong tables t (items main) main_given
      (once_in_column t (Some 0) 0 (map (λ (row : MainRow). row.id) rows) refl (own_ids_of cells_of main groups is_main.front few) (own_once cells_of 0 (flat_items groups)))
      (λ is. is)

  numbered_main : (column : ℕ) → (column ≡ 0) ⊎ ((column ≡ 1) ⊎ (column ≡ 4)) → IsNumbered t column (count_at groups column)
  numbered_main column (inl at) = subst (λ c. IsNumbered t c (count_at groups c)) (sym at) (record {
    known = map (λ (row : MainRow). row.id) rows;
    are = own_ids_of cells_of main groups is_main.front few;
    there = item_there cells_of groups;
  })
  numbered_main column (inr (inl at)) = subst (λ c. IsNumbered t c (count_at groups c)) (sym at) (record {
    known = map (λ (row : MainRow). row.resource_id) rows;
    are = resource_ids_of cells_of main groups is_main.front few;
    there = resource_there cells_of groups;
  })
  numbered_main column (inr (inr at)) = subst (λ c. IsNumbered t c (count_at groups c)) (sym at) (record {
    known = map (λ (row : MainRow). row.scope_id) rows;
    are = scope_ids_of cells_of main groups is_main.front few;
    there = scope_there cells_of groups;
  })

  -- ---- the tables below

  numbered_parts : (kind : Kind) (content : Content) (lists : List (List (List Cell))) → content ≡ Parts lists → IsSoundBy kind content
      → IsNumbered (table_by kind content) 0 (length (flat_map (λ rows. rows) lists))
  numbered_parts kind content lists is sound =
      let here = subst (IsSoundBy kind) is sound in
      subst (λ (c : Content). IsNumbered (table_by kind c) 0 (length (flat_map (λ rows. rows) lists))) (sym is) (record {
        known = ids_of (λ cells. cells) lists;
        are = part_ids_of kind (λ cells. cells) lists here.0.part here.2;
        there = part_there (λ cells. cells) lists;
      })

  -- the ids of the parents of what is written are there
  parents_there : (w : Written) → HasParentsIn main groups ws w → IsNumbered (table_named w.of tables) w.at (parents_in w.content)
  parents_there w (inl below) =
      subst (IsNumbered (table_named w.of tables) w.at) (sym below.count)
      (subst (λ (u : Table). IsNumbered u w.at (count_at groups w.at)) (sym (main_named main cells_of ws groups far) ∙ ap (λ kind. table_named kind tables) (sym below.kind))
      (numbered_main w.at below.at))
  parents_there w (inr below) =
      let named : table_named below.above.kind tables ≡ table_of below.above = written_named main cells_of ws groups far below.above below.listed in
      let here = numbered_parts below.above.kind below.above.content below.lists below.content (at_place IsSound ws sound below.above below.listed) in
      subst (IsNumbered (table_named w.of tables) w.at) (sym below.count)
      (subst (λ c. IsNumbered (table_named w.of tables) c (length (flat_map (λ rows. rows) below.lists))) (sym below.at)
      (subst (λ (u : Table). IsNumbered u 0 (length (flat_map (λ rows. rows) below.lists))) (sym named ∙ ap (λ kind. table_named kind tables) below.kind) here))

  fine_by : (kind of : Kind) (at : ℕ) (content : Content) → IsSoundBy kind content → IsNumbered (table_named of tables) at (parents_in content)
      → (wrong : RowRefusal) → WrongIn tables (table_by kind content) (link_by kind of at content) wrong → ⊥
  unfolding part_table
  fine_by kind of at (Pairs lists) sound numbered = fine_attributes tables kind of at lists sound.0 sound.1 numbered.known numbered.are numbered.there
  fine_by kind of at (Parts lists) (is, few_lists, few_parts) numbered =
      fine_parts tables kind of at (λ cells. cells) lists is.part
      (λ P own above column id. elim (is.ids column id) [ inl here ↦ subst P (sym here) own | inr here ↦ subst P (sym here) above ])
      (λ null. is.own null.named) few_lists few_parts numbered.known numbered.are numbered.there

  pub fine_below : (w : Written) → Contains ws w → (wrong : RowRefusal) → WrongIn tables (table_of w) (link_of w) wrong → ⊥
  fine_below w listed =
      fine_by w.kind w.of w.at w.content (at_place IsSound ws sound w listed) (parents_there w (at_place (HasParentsIn main groups ws) ws linked w listed))

  -- ---- all tables

  linked_at : (vs : List Written) (k : ℕ) (link : TableLink) → k < length (map link_of vs) → get_or (map link_of vs) k link ≡ link → (w : Written) × Contains vs w × (link_of w ≡ link)
  linked_at [] k link within at = absurd (omega arith)
  linked_at (v ∷ vs) zero link within at = (v, (0, omega arith, refl), at)
  linked_at (v ∷ vs) (suc k) link within at =
      let more = linked_at vs k link (omega arith) at in (more.0, (suc more.1.0, omega (arith, more.1.1), more.1.2), more.2)

  kind_linked : (kind of : Kind) (at : ℕ) (content : Content) → (link_by kind of at content).kind ≡ kind
  kind_linked kind of at (Parts lists) = refl
  kind_linked kind of at (Pairs lists) = refl

  by_link : (k : ℕ) (kind : Kind) (link : TableLink) (wrong : RowRefusal) → k < length (items main ∷ map link_of ws) → get_or (items main ∷ map link_of ws) k link ≡ link → link.kind ≡ kind
      → WrongIn tables (table_named kind tables) link wrong → ⊥
  by_link zero kind link wrong less at names is =
      let same : main ≡ kind = ap (λ (l : TableLink). l.kind) at ∙ names in
      fine_main wrong (subst (λ (u : Table). WrongIn tables u (items main) wrong) (main_named main cells_of ws groups far)
      (subst (λ (l : TableLink). WrongIn tables (table_named main tables) l wrong) (sym at)
      (subst (λ (k : Kind). WrongIn tables (table_named k tables) link wrong) (sym same) is)))
  by_link (suc k) kind link wrong less at names is =
      let found = linked_at ws k link (omega arith) at in
      let w : Written = found.0 in
      let same : w.kind ≡ kind = sym (kind_linked w.kind w.of w.at w.content) ∙ ap (λ (l : TableLink). l.kind) found.2 ∙ names in
      fine_below w found.1 wrong (subst (λ (u : Table). WrongIn tables u (link_of w) wrong) (written_named main cells_of ws groups far w found.1)
      (subst (λ (l : TableLink). WrongIn tables (table_named w.kind tables) l wrong) (sym found.2)
      (subst (λ (k : Kind). WrongIn tables (table_named k tables) link wrong) (sym same) is)))

  pub fine_ids : (of : Signal) → links_of of ≡ items main ∷ map link_of ws → (kind : Kind) (wrong : RowRefusal) → IdDefect of tables kind wrong → ⊥
  fine_ids of are kind wrong d =
      let listed : Contains (items main ∷ map link_of ws) d.link = subst (λ (links : List TableLink). Contains links d.link) are d.listed in
      by_link listed.0 kind d.link wrong listed.1 listed.2 d.names d.is

  -- rows of one id agree
  pub rows_alike : Disagrees (table_named main tables) → ⊥
  rows_alike unlike =
      rows_agree cells_of groups
      (subst Disagree (sym (main_rows_again main cells_of groups is_main.front few)) (disagree_too t (subst Disagrees (main_named main cells_of ws groups far) unlike)))
