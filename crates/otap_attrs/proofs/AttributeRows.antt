-- Rows of attributes, cell by cell.
use Rattle.std.proofs.Common.{◌≡◌, Bool, true, false, List, [], ◌∷◌, drop, map, refl, sym, subst}
use Rattle.std.specs.List.{slice_index_or}
use Rattle.otap_cells.specs.declared.payload.Kind.{Kind}
use Rattle.otap_cells.specs.declared.payload.Kind.TheVariants as table
use Rattle.otap_cells.specs.declared.profile.Base.TheVariants as base
use Rattle.otap_cells.specs.Cells.{Cell, null, number, bits, flag, bytes, seen, IsCellOf}
use Rattle.otap_cells.specs.declared.view.CellView.{CellView}
use Rattle.otap_cells.specs.Columns.{attrs, deep_attrs, base_at, coding_at, columns_of, width_of}
use Rattle.otap_cells.specs.declared.profile.Coding.TheVariants as coding
use Rattle.otap_cells.specs.Continuing.{has_attributes}
use Rattle.otap_cells.specs.Tables.{IsRow}
use Rattle.otap_attrs.specs.Values.{AreCellsOf, HasValueAt, value_bases}
use Rattle.otap_cells.proofs.AttributeColumns.{attribute_width}
use Rattle.otap_attrs.proofs.CellFits.{cells_row}

-- the first column has numbers of 32 bits, whatever their width on the wire
pub either_width : (v w : Bool) (cell : Cell) → IsCellOf (base.Id v) cell → IsCellOf (base.Id w) cell
either_width v w null fits = tt
either_width v w (number n) fits = fits
either_width v w (bits n) fits = fits
either_width v w (flag b) fits = absurd cc
either_width v w (bytes part) fits = fits

-- what the other columns hold
pub key_base : (kind : Kind) → has_attributes kind ≡ true → base_at kind 1 ≡ base.Utf8
unfolding attrs deep_attrs
key_base table.ResourceAttrs e = refl
key_base table.ScopeAttrs e = refl
key_base table.LogAttrs e = refl
key_base table.SpanAttrs e = refl
key_base table.EventAttrs e = refl
key_base table.LinkAttrs e = refl
key_base table.NumberPointAttrs e = refl
key_base table.SummaryPointAttrs e = refl
key_base table.HistPointAttrs e = refl
key_base table.NumberExemplarAttrs e = refl
key_base table.HistExemplarAttrs e = refl
key_base _ e = absurd cc

-- the row of a pair
pub pair_fits : (kind : Kind) (parent key : Cell) (cells : List Cell) → has_attributes kind ≡ true → IsCellOf (base.Id true) parent → IsCellOf base.Utf8 key
    → AreCellsOf value_bases cells → IsRow (columns_of kind) (parent ∷ key ∷ cells)
unfolding attrs deep_attrs
pair_fits table.ResourceAttrs parent key cells e p k v = (either_width true false parent p, (k, cells_row (drop 2 attrs) value_bases cells refl v))
pair_fits table.ScopeAttrs parent key cells e p k v = (either_width true false parent p, (k, cells_row (drop 2 attrs) value_bases cells refl v))
pair_fits table.LogAttrs parent key cells e p k v = (either_width true false parent p, (k, cells_row (drop 2 attrs) value_bases cells refl v))
pair_fits table.SpanAttrs parent key cells e p k v = (either_width true false parent p, (k, cells_row (drop 2 attrs) value_bases cells refl v))
pair_fits table.EventAttrs parent key cells e p k v = (either_width true true parent p, (k, cells_row (drop 2 deep_attrs) value_bases cells refl v))
pair_fits table.LinkAttrs parent key cells e p k v = (either_width true true parent p, (k, cells_row (drop 2 deep_attrs) value_bases cells refl v))
pair_fits table.NumberPointAttrs parent key cells e p k v = (either_width true true parent p, (k, cells_row (drop 2 deep_attrs) value_bases cells refl v))
pair_fits table.SummaryPointAttrs parent key cells e p k v = (either_width true true parent p, (k, cells_row (drop 2 deep_attrs) value_bases cells refl v))
pair_fits table.HistPointAttrs parent key cells e p k v = (either_width true true parent p, (k, cells_row (drop 2 deep_attrs) value_bases cells refl v))
pair_fits table.NumberExemplarAttrs parent key cells e p k v = (either_width true true parent p, (k, cells_row (drop 2 deep_attrs) value_bases cells refl v))
pair_fits table.HistExemplarAttrs parent key cells e p k v = (either_width true true parent p, (k, cells_row (drop 2 deep_attrs) value_bases cells refl v))
pair_fits _ parent key cells e p k v = absurd cc

-- the cell of a parent
pub id_fits : (kind : Kind) → has_attributes kind ≡ true → (cell : Cell) → IsCellOf (base.Id true) cell → IsCellOf (base_at kind 0) cell
unfolding attrs deep_attrs
id_fits table.ResourceAttrs e cell p = either_width true false cell p
id_fits table.ScopeAttrs e cell p = either_width true false cell p
id_fits table.LogAttrs e cell p = either_width true false cell p
id_fits table.SpanAttrs e cell p = either_width true false cell p
id_fits table.EventAttrs e cell p = p
id_fits table.LinkAttrs e cell p = p
id_fits table.NumberPointAttrs e cell p = p
id_fits table.SummaryPointAttrs e cell p = p
id_fits table.HistPointAttrs e cell p = p
id_fits table.NumberExemplarAttrs e cell p = p
id_fits table.HistExemplarAttrs e cell p = p
id_fits _ e cell p = absurd cc

-- parents are stored in runs
pub parents_run : (kind : Kind) → has_attributes kind ≡ true → coding_at kind 0 ≡ coding.Run
unfolding attrs deep_attrs
parents_run table.ResourceAttrs e = refl
parents_run table.ScopeAttrs e = refl
parents_run table.LogAttrs e = refl
parents_run table.SpanAttrs e = refl
parents_run table.EventAttrs e = refl
parents_run table.LinkAttrs e = refl
parents_run table.NumberPointAttrs e = refl
parents_run table.SummaryPointAttrs e = refl
parents_run table.HistPointAttrs e = refl
parents_run table.NumberExemplarAttrs e = refl
parents_run table.HistExemplarAttrs e = refl
parents_run _ e = absurd cc

-- the value of an attribute begins at the third column
pub has_value : (kind : Kind) → has_attributes kind ≡ true → HasValueAt kind 2
unfolding attrs deep_attrs
has_value table.ResourceAttrs e = record { names = refl; bases = refl }
has_value table.ScopeAttrs e = record { names = refl; bases = refl }
has_value table.LogAttrs e = record { names = refl; bases = refl }
has_value table.SpanAttrs e = record { names = refl; bases = refl }
has_value table.EventAttrs e = record { names = refl; bases = refl }
has_value table.LinkAttrs e = record { names = refl; bases = refl }
has_value table.NumberPointAttrs e = record { names = refl; bases = refl }
has_value table.SummaryPointAttrs e = record { names = refl; bases = refl }
has_value table.HistPointAttrs e = record { names = refl; bases = refl }
has_value table.NumberExemplarAttrs e = record { names = refl; bases = refl }
has_value table.HistExemplarAttrs e = record { names = refl; bases = refl }
has_value _ e = absurd cc

-- the cells of a value, one by one
pub seven_fit : (xs : List CellView) (d : CellView) → AreCellsOf value_bases (map seen xs)
    → AreCellsOf value_bases (seen (slice_index_or xs 0 d) ∷ seen (slice_index_or xs 1 d) ∷ seen (slice_index_or xs 2 d) ∷ seen (slice_index_or xs 3 d)
    ∷ seen (slice_index_or xs 4 d) ∷ seen (slice_index_or xs 5 d) ∷ seen (slice_index_or xs 6 d) ∷ [])
seven_fit [] d fits = absurd fits
seven_fit (x0 ∷ []) d fits = absurd fits.1
seven_fit (x0 ∷ x1 ∷ []) d fits = absurd fits.1.1
seven_fit (x0 ∷ x1 ∷ x2 ∷ []) d fits = absurd fits.1.1.1
seven_fit (x0 ∷ x1 ∷ x2 ∷ x3 ∷ []) d fits = absurd fits.1.1.1.1
seven_fit (x0 ∷ x1 ∷ x2 ∷ x3 ∷ x4 ∷ []) d fits = absurd fits.1.1.1.1.1
seven_fit (x0 ∷ x1 ∷ x2 ∷ x3 ∷ x4 ∷ x5 ∷ []) d fits = absurd fits.1.1.1.1.1.1
seven_fit (x0 ∷ x1 ∷ x2 ∷ x3 ∷ x4 ∷ x5 ∷ x6 ∷ []) d fits = fits
seven_fit (x0 ∷ x1 ∷ x2 ∷ x3 ∷ x4 ∷ x5 ∷ x6 ∷ x7 ∷ more) d fits = absurd fits.1.1.1.1.1.1.1

-- attributes of log records
pub log_width : (kind : Kind) → kind ≡ table.LogAttrs → width_of kind ≡ 9
log_width kind e = subst (λ (k : Kind). width_of k ≡ 9) (sym e) (attribute_width table.LogAttrs refl)
