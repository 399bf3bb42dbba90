-- What is written below the items of a request, table by table.
use Rattle.std.specs.Prelude.{◌≡◌, ℕ, ◌≤◌, ◌⊎◌, true, List, [], ◌∷◌, length, map, ◌==◌, if◌then◌else◌, codes, Contains}
use Rattle.std.specs.List.{flat_map}
use Rattle.otlp_model.specs.declared.groups.ResourceGroup.{ResourceGroup}
use Rattle.otlp_model.specs.declared.value.Pair.{Pair}
use Rattle.otap_cells.specs.declared.payload.Kind.{Kind}
use Rattle.otap_cells.specs.Cells.{Cell}
use Rattle.otap_cells.specs.Columns.{is_id_at, name_at}
use Rattle.otap_cells.specs.Continuing.{has_attributes}
use Rattle.otap_cells.specs.Limits.{wide_ids}
use Rattle.otap_cells.specs.Payload.{number_of}
use Rattle.otap_cells.specs.Tables.{Table}
use Rattle.otap_groups.specs.Flat.{items_of, resources_of, scopes_of}
use Rattle.otap_groups.specs.Kinds.{IsMain, IsPart}
use Rattle.otap_groups.specs.Stored.{main_table, part_table}
use Rattle.otap_attrs.specs.Tables.{apart, attribute_table, where_rows}
use Rattle.otap_checks.specs.declared.signals.TableLink.{TableLink}
use Rattle.otap_checks.specs.Links.{attributes_link, parts}

-- for each parent, the own cells of its parts, or its attributes
pub data Content : Type 0 where
  Parts : List (List (List Cell)) → Content
  Pairs : List (List Pair) → Content

-- a table below another one, whose column has the ids of its parents, and what it holds
pub record Written : Type 0 where
  pub kind : Kind
  pub of : Kind
  pub at : ℕ
  pub content : Content

-- the parts of parents, whose ids are in column 0 of another table; the attributes of parents
abbrev pub parts_below : {C : Type 0} → Kind → Kind → (C → List Cell) → List (List C) → Written
parts_below kind of cells_of lists = record { kind = kind; of = of; at = 0; content = Parts (map (map cells_of) lists) }

abbrev pub pairs_below : Kind → Kind → ℕ → List (List Pair) → Written
pairs_below kind of at lists = record { kind = kind; of = of; at = at; content = Pairs lists }

-- how it hangs together with the table of its parents; the table itself
abbrev pub link_by : Kind → Kind → ℕ → Content → TableLink
link_by kind of at (Parts lists) = parts kind of at
link_by kind of at (Pairs lists) = attributes_link kind of at

abbrev pub link_of : Written → TableLink
link_of w = link_by w.kind w.of w.at w.content

abbrev pub table_by : Kind → Content → Table
table_by kind (Parts lists) = part_table kind (λ cells. cells) lists
table_by kind (Pairs lists) = attribute_table kind lists

abbrev pub table_of : Written → Table
table_of w = table_by w.kind w.content

-- for how many parents it has a list
abbrev pub parents_in : Content → ℕ
parents_in (Parts lists) = length lists
parents_in (Pairs lists) = length lists

-- THE TABLES of groups: the main one, and of those below it the ones that have rows
unfoldable pub tables_written : {I : Type 0} → Kind → (I → List Cell) → List Written → List (ResourceGroup I) → List Table
tables_written main cells_of ws groups = main_table main cells_of groups ∷ flat_map where_rows (map table_of ws)

-- no kind is there twice
abbrev pub AreApart : Kind → List Written → Type 0
AreApart main ws = apart (number_of main ∷ map (λ (w : Written). number_of w.kind) ws) ≡ true

-- ---- what ties them

-- how many ids a column of the main table has: those of items, resources or scopes
abbrev pub count_at : {I : Type 0} → List (ResourceGroup I) → ℕ → ℕ
count_at groups at = if at == 0 then length (items_of groups) else if at == 1 then length (resources_of groups) else length (scopes_of groups)

-- its parents are the parts of another table, one list for each
pub record IsBelowParts (ws : List Written) (w : Written) : Type 0 where
  pub above : Written
  pub listed : Contains ws above
  pub kind : above.kind ≡ w.of
  pub at : w.at ≡ 0
  pub lists : List (List (List Cell))
  pub content : above.content ≡ Parts lists
  pub count : parents_in w.content ≡ length (flat_map (λ rows. rows) lists)

-- or the items, resources or scopes
pub record IsBelowMain {I : Type 0} (main : Kind) (groups : List (ResourceGroup I)) (w : Written) : Type 0 where
  pub kind : w.of ≡ main
  pub at : (w.at ≡ 0) ⊎ ((w.at ≡ 1) ⊎ (w.at ≡ 4))
  pub count : parents_in w.content ≡ count_at groups w.at

abbrev pub HasParentsIn : {I : Type 0} → Kind → List (ResourceGroup I) → List Written → Written → Type 0
HasParentsIn main groups ws w = IsBelowMain main groups w ⊎ IsBelowParts ws w

-- the table of this kind is one of parts
pub record IsPartKind (kind : Kind) : Type 0 where
  pub part : IsPart kind
  pub ids : (column : ℕ) → is_id_at kind column ≡ true → (column ≡ 0) ⊎ (column ≡ 1)
  pub own : name_at kind 0 ≡ codes "parent_id" → ⊥

pub record IsMainKind (kind : Kind) : Type 0 where
  pub front : IsMain kind
  pub ids : (column : ℕ) → is_id_at kind column ≡ true → (column ≡ 0) ⊎ ((column ≡ 1) ⊎ (column ≡ 4))
  pub own : name_at kind 0 ≡ codes "parent_id" → ⊥
  pub resource : name_at kind 1 ≡ codes "parent_id" → ⊥
  pub scope : name_at kind 4 ≡ codes "parent_id" → ⊥

abbrev pub IsSoundBy : Kind → Content → Type 0
IsSoundBy kind (Parts lists) = IsPartKind kind × (length lists ≤ wide_ids) × (length (flat_map (λ rows. rows) lists) ≤ wide_ids)
IsSoundBy kind (Pairs lists) = (has_attributes kind ≡ true) × (length lists ≤ wide_ids)

abbrev pub IsSound : Written → Type 0
IsSound w = IsSoundBy w.kind w.content

-- the same of each
abbrev pub AreSound : List Written → Type 0
AreSound [] = Unit {0}
AreSound (w ∷ ws) = IsSound w × AreSound ws

abbrev pub HaveParentsIn : {I : Type 0} → Kind → List (ResourceGroup I) → List Written → List Written → Type 0
HaveParentsIn main groups all [] = Unit {0}
HaveParentsIn main groups all (w ∷ ws) = HasParentsIn main groups all w × HaveParentsIn main groups all ws
