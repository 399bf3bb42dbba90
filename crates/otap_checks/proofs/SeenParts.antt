-- A table of parts, by the cells of its parts.
use Rattle.std.proofs.Common.{◌≡◌, ◌∙◌, ℕ, suc, ◌+◌, Bool, List, [], ◌∷◌, ◌++◌, map, Option, Some, None, length, refl, sym, ap, arith}
use Rattle.std.specs.List.{flat_map}
use Rattle.std.proofs.lemmas.List.{length-append, length-map, map-append}
use Rattle.otap_cells.specs.declared.payload.Kind.{Kind}
use Rattle.otap_cells.specs.declared.profile.Coding.{Coding}
use Rattle.otap_cells.specs.Cells.{Cell}
use Rattle.otap_cells.specs.Columns.{coding_at}
use Rattle.otap_cells.specs.Continuing.{again_of}
use Rattle.otap_cells.specs.Tables.{profile_table}
use Rattle.otap_groups.specs.Flat.{PlacedIn, placed, placed_at, placed_from}
use Rattle.otap_groups.specs.Stored.{part_table, stored_part, stored_parts}

module _ {C : Type 0} (f : C → List Cell) where
  abbrev seen : PlacedIn C → PlacedIn (List Cell)
  seen p = placed_at p.parent (f p.part)

  one_parent : (k : ℕ) (parts : List C) → map (placed_at k) (map f parts) ≡ map seen (map (placed_at k) parts)
  one_parent k [] = refl
  one_parent k (part ∷ parts) = ap (λ (ps : List (PlacedIn (List Cell))). placed_at k (f part) ∷ ps) (one_parent k parts)

  placed_seen : (k : ℕ) (lists : List (List C)) → placed_from k (map (map f) lists) ≡ map seen (placed_from k lists)
  placed_seen k [] = refl
  placed_seen k (parts ∷ lists) =
      (λ i. one_parent k parts i ++ placed_seen (suc k) lists i) ∙ sym (map-append seen (map (placed_at k) parts) (placed_from (suc k) lists))

  stored_seen : (how : Coding) (test : List Cell → List Cell → Bool) (step parent : ℕ) (before : Option (List Cell)) (ps : List (PlacedIn C))
      → stored_parts how test (λ cells. cells) step parent before (map seen ps) ≡ stored_parts how test f step parent before ps
  stored_seen how test step parent before [] = refl
  stored_seen how test step parent before (p ∷ ps) =
      ap (λ (rows : List (List Cell)). stored_part how test f step parent before p ∷ rows) (stored_seen how test 1 p.parent (Some (f p.part)) ps)

  pub table_seen : (kind : Kind) (lists : List (List C)) → part_table kind (λ cells. cells) (map (map f) lists) ≡ part_table kind f lists
  unfolding part_table placed
  table_seen kind lists = ap (profile_table kind) (
      ap (stored_parts (coding_at kind 1) (again_of kind) (λ cells. cells) 0 0 None) (placed_seen 0 lists)
      ∙ stored_seen (coding_at kind 1) (again_of kind) 0 0 None (placed_from 0 lists))

-- how many there are doesn't depend on what they are seen as
pub seen_all : {C D : Type 0} (f : C → D) (lists : List (List C)) → length (flat_map (λ rows. rows) (map (map f) lists)) ≡ length (flat_map (λ rows. rows) lists)
seen_all f [] = refl
seen_all f (xs ∷ lists) =
    let more = seen_all f lists in
    let a = length-append (map f xs) (flat_map (λ rows. rows) (map (map f) lists)) in
    let b = length-append xs (flat_map (λ rows. rows) lists) in
    let c = length-map xs f in
    omega (arith, more, a, b, c)
