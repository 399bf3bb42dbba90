-- Nothing is wrong with the ids of written tables, where the ids of their parents are in another table.
use Rattle.std.proofs.Common.{◌≡◌, ℕ, ◌<◌, ◌≤◌, ◌^◌, true, List, length, Option, Some, refl}
use Rattle.std.specs.Prelude.{Contains}
use Rattle.std.specs.List.{flat_map}
use Rattle.otlp_model.specs.declared.value.Pair.{Pair}
use Rattle.otap_cells.specs.declared.payload.Kind.{Kind}
use Rattle.otap_cells.specs.Cells.{Cell}
use Rattle.otap_cells.specs.ColumnIds.{HasNullParent}
use Rattle.otap_cells.specs.Columns.{is_id_at}
use Rattle.otap_cells.specs.Continuing.{has_attributes}
use Rattle.otap_cells.specs.GivenIds.{HasIds}
use Rattle.otap_cells.specs.Named.{table_named}
use Rattle.otap_cells.specs.Tables.{Table}
use Rattle.otap_groups.specs.Kinds.{IsPart}
use Rattle.otap_groups.specs.Stored.{part_table}
use Rattle.otap_groups.proofs.PartTables.{ids_of, part_filled, part_low, part_once}
use Rattle.otap_groups.proofs.PartTables as parts_in
use Rattle.otap_groups.proofs.StoredRows.{part_ids_of, part_parents_of}
use Rattle.otap_attrs.specs.declared.refusal.RowRefusal.{RowRefusal}
use Rattle.otap_attrs.specs.Tables.{attribute_table}
use Rattle.otap_attrs.specs.Defects.{OrphanIn}
use Rattle.otap_checks.specs.IdDefects.{WrongIn}
use Rattle.otap_checks.specs.Given.{AreGiven, IsGiven}
use Rattle.otap_checks.specs.Links.{attributes_link, parts}
use Rattle.otap_checks.proofs.GivenColumns.{no_orphan, nothing_wrong}
use Rattle.otap_checks.proofs.GivenColumns as columns
use Rattle.otap_checks.proofs.PairParents.{HasParents, attribute_ids, parents_of}

-- a table of attributes, the ids of whose parents another table has
module _ (tables : List Table) (kind of : Kind) (at : ℕ) (lists : List (List Pair)) (kinds : has_attributes kind ≡ true)
    (few : length lists ≤ 2 ^ 32) (known : List (Option ℕ)) (are : HasIds (table_named of tables) at known) (all : (p : ℕ) → p < length lists → Contains known (Some p)) where
  abbrev have : HasParents kind lists
  have = parents_of kind lists kinds few

  parents_given : AreGiven (attribute_table kind lists)
  unfolding attribute_table
  parents_given = attribute_ids (IsGiven (attribute_table kind lists)) kind kinds (record { ids = have.parents; are = have.are; parents = have.filled })

  parents_known : OrphanIn have.parents known → ⊥
  parents_known lost = lost.missing (all lost.parent (have.low lost.parent lost.named))

  -- nothing is wrong with its ids
  pub fine_attributes : (wrong : RowRefusal) → WrongIn tables (attribute_table kind lists) (attributes_link kind of at) wrong → ⊥
  fine_attributes = nothing_wrong tables (attribute_table kind lists) (attributes_link kind of at) parents_given (λ is. is)
      (no_orphan tables (attribute_table kind lists) (Some (record { column = 0; of = of; at = at })) (record { column = 0; of = of; at = at })
      have.parents known refl have.are are parents_known)

-- a table of parts, the ids of whose parents another table has
module _ {C : Type 0} (tables : List Table) (kind of : Kind) (at : ℕ) (cells_of : C → List Cell) (lists : List (List C)) (part : IsPart kind)
    (ids : (P : ℕ → Type 0) → P 0 → P 1 → (column : ℕ) → is_id_at kind column ≡ true → P column)
    (unnamed : HasNullParent (part_table kind cells_of lists) 0 → ⊥)
    (few_lists : length lists ≤ 2 ^ 32) (few : length (flat_map (λ (parts : List C). parts) lists) ≤ 2 ^ 32)
    (known : List (Option ℕ)) (are : HasIds (table_named of tables) at known) (all : (p : ℕ) → p < length lists → Contains known (Some p)) where
  abbrev t : Table
  t = part_table kind cells_of lists

  own : HasIds t 0 (ids_of cells_of lists)
  own = part_ids_of kind cells_of lists part few

  above : HasIds t 1 (parts_in.parents_of cells_of lists)
  above = part_parents_of kind cells_of lists part few_lists

  part_given : AreGiven t
  unfolding part_table
  part_given = ids (IsGiven t) (record { ids = ids_of cells_of lists; are = own; parents = unnamed })
      (record { ids = parts_in.parents_of cells_of lists; are = above; parents = λ null. part_filled kind cells_of lists null.null })

  part_known : OrphanIn (parts_in.parents_of cells_of lists) known → ⊥
  part_known lost = lost.missing (all lost.parent (part_low cells_of lists lost.parent lost.named))

  -- nothing is wrong with its ids
  pub fine_parts : (wrong : RowRefusal) → WrongIn tables t (parts kind of at) wrong → ⊥
  fine_parts = nothing_wrong tables t (parts kind of at) part_given
      (columns.own_once t (Some 0) 0 (ids_of cells_of lists) refl own (part_once cells_of lists))
      (no_orphan tables t (Some (record { column = 1; of = of; at = at })) (record { column = 1; of = of; at = at })
      (parts_in.parents_of cells_of lists) known refl above are part_known)
