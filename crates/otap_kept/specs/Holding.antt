-- Words of private contracts: which ids have a pair whose value is a text.
use Rattle.std.specs.Prelude.{◌≡◌, ◌==◌, ◌&&◌, ℕ, suc, Bool, true, false, if◌then◌else◌, drop, List, [], ◌∷◌, Option, None, Some, codes, option_map}
use Rattle.std.specs.List.{list_any}
use Rattle.std.specs.List.Sorted.{IsNonDecreasingBy}
use Rattle.std.specs.Str.{bytes_eq}
use Rattle.otlp_model.specs.declared.request.Signal.{Signal}
use Rattle.otlp_model.specs.declared.value.Pair.{Pair}
use Rattle.otap_cells.specs.declared.payload.Kind.{Kind}
use Rattle.otap_cells.specs.declared.payload.Kind.TheVariants as table
use Rattle.otap_cells.specs.Cells.{Cell}
use Rattle.otap_cells.specs.Columns.{common, place_in}
use Rattle.otap_cells.specs.Continuing.{attribute_in}
use Rattle.otap_cells.specs.GivenIds.{ids_in}
use Rattle.otap_cells.specs.Tables.{Table}
use Rattle.otap_groups.specs.Rows.{MainRow, main_row_at}
use Rattle.otap_attrs.specs.Index.{pairs_in}
use Rattle.otap_checks.specs.Links.{item_attributes}
use Rattle.otap_kept.specs.declared.text_pair.TextPair.{TextPair}
use Rattle.otap_kept.specs.declared.whose.Whose.{Whose}
use Rattle.otap_kept.specs.declared.whose.Whose.TheVariants as whose
use Rattle.otap_kept.specs.Kept.{has}

-- the cells of an attribute say the pair, from the key on: the type is that of texts, and null is the empty text
abbrev pub says : TextPair → List Cell → Bool
says pair cells =
    (attribute_in cells).kind == 1 && bytes_eq (attribute_in cells).key pair.key.now
    && bytes_eq (attribute_in cells).bytes pair.text.now

-- the parents of the rows that say it, in the order of the rows
abbrev pub parent_before : Bool → Option ℕ → List ℕ → List ℕ
parent_before true (Some parent) parents = parent ∷ parents
parent_before said parent parents = parents

abbrev pub parents_saying : TextPair → List (Option ℕ) → List (List Cell) → List ℕ
parents_saying pair [] rows = []
parents_saying pair (parent ∷ parents) [] = []
parents_saying pair (parent ∷ parents) (row ∷ rows) =
    parent_before (says pair (drop 1 row)) parent (parents_saying pair parents rows)

-- an id is among numbers; null never is
abbrev pub is_among : List ℕ → Option ℕ → Bool
is_among numbers None = false
is_among numbers (Some id) = list_any (λ n. n == id) numbers

-- THE IDS THAT HAVE A PAIR in a table of attributes, sorted
pub record AreHolders (pair : Pair) (t : Table) (holders : List ℕ) : Type 0 where
  pub sorted : IsNonDecreasingBy (λ n. n) holders
  pub hold : (id : Option ℕ) → is_among holders id ≡ has pair (pairs_in t id)

-- the kind of the attributes that are looked at, and the column of the main table that has the ids of their owners
abbrev pub looked_at : Signal → Whose → Option (Kind × ℕ)
looked_at of whose.Resource = Some (table.ResourceAttrs, place_in common (codes "resource.id"))
looked_at of whose.Item = option_map (λ kind. (kind, place_in common (codes "id"))) (item_attributes of)

-- the indexes of those ids that are among numbers; the first of all ids has the index n
abbrev pub places_among : List ℕ → ℕ → List (Option ℕ) → List ℕ
places_among numbers n [] = []
places_among numbers n (id ∷ ids) =
    if is_among numbers id then n ∷ places_among numbers (suc n) ids else places_among numbers (suc n) ids

-- the row at an index of a main table
abbrev pub main_row_in : Table → ℕ → MainRow
main_row_in t place = main_row_at (ids_in t 0) (ids_in t 1) (ids_in t 4) t.rows place
