-- Below structs in which no row is null a cell is the array's own.
use Rattle.std.proofs.Common.{◌≡◌, ◌≤◌, ◌<◌, ◌+◌, ℕ, zero, suc, true, false, List, [], ◌∷◌, ◌++◌, length, slice_get, Option, Some, None, refl, sym, ap, ◌∙◌, subst, inl, inr, arith}
use Rattle.std.proofs.lemmas.Bool.{cases_Bool, cases_lt, false≢true}
use Rattle.std.proofs.lemmas.List.{length_push}
use Rattle.std.proofs.lemmas.Option.{slice_get_within}
use Rattle.arrow_schema.specs.Limits.{max_depth}
use Rattle.arrow_schema.specs.declared.spec.ArrowType.{ArrowType}
use Rattle.arrow_schema.specs.declared.spec.ArrowType.TheVariants as kind
use Rattle.arrow_schema.specs.declared.spec.DictSpec.{DictSpec}
use Rattle.arrow_schema.specs.declared.spec.FieldSpec.{FieldSpec}
use Rattle.arrow_schema.specs.Types.{is_struct, is_list}
use Rattle.arrow_schema.specs.Trees.{count_of, kind_in, dict_in, children_in}
use Rattle.arrow_schema.specs.Readable.{IsReadable, are_readable, fits_children, no_fields, fits_dictionary}
use Rattle.arrow_ipc.specs.Batches.{BatchIn}
use Rattle.arrow_arrays.specs.declared.layout.Layout.TheVariants as layout
use Rattle.arrow_arrays.specs.declared.spec.Above.{Above}
use Rattle.arrow_arrays.specs.declared.spec.Above.TheVariants as parent
use Rattle.arrow_arrays.specs.declared.spec.ArraySpec.{ArraySpec}
use Rattle.arrow_arrays.specs.Layouts.{layout_of}
use Rattle.arrow_arrays.specs.Cells.{own_cell}
use Rattle.arrow_arrays.specs.Arrays.{above_children, add_field, add_fields, arrays_of, array_place, cell_above, cell_below, cell_in_array, cell_within, cell_of}
use Rattle.arrow_arrays.specs.Written.{HasWholeStructs}
use Rattle.arrow_arrays.proofs.Walking.{add_field_is}
use Rattle.arrow_arrays.proofs.Walked.{array_for, each_walk, slice_get_front, slice_get_last}
use Rattle.arrow_arrays.proofs.PathsWalked.{deep, one_extends, extends_walk, Extends}
use Rattle.arrow_arrays.proofs.ListsWalked.{list_is, no_fields_is}

-- ---- arrays at most so deep, below structs

abbrev IsStructAt : List ArraySpec → ℕ → Type 0
IsStructAt arrays place = (a : ArraySpec) × (slice_get arrays place ≡ Some a) × (layout_of a.kind a.dict ≡ layout.Struct)

abbrev IsRaisedBy : (ℕ → Type 0) → List ArraySpec → Above → Type 0
IsRaisedBy raised arrays parent.Top = Unit {0}
IsRaisedBy raised arrays (parent.Struct place) = IsStructAt arrays place × raised place
IsRaisedBy raised arrays parent.List = Unit {0}

IsRaised : ℕ → List ArraySpec → ℕ → Type 0
IsRaised zero arrays place = ⊥
IsRaised (suc depth) arrays place = (a : ArraySpec) × (slice_get arrays place ≡ Some a) × IsRaisedBy (IsRaised depth arrays) arrays a.above

AreRaised : List ArraySpec → Type 0
AreRaised arrays = (place : ℕ) → place < length arrays → (depth : ℕ) × (depth ≤ max_depth) × IsRaised depth arrays place

get_front : (arrays more : List ArraySpec) (place : ℕ) (a : ArraySpec) → slice_get arrays place ≡ Some a → slice_get (arrays ++ more) place ≡ Some a
get_front arrays more place a at = slice_get_front arrays more place (slice_get_within arrays place a at) ∙ at

by_front : (raised later : ℕ → Type 0) (arrays more : List ArraySpec) (above : Above) → ((place : ℕ) → raised place → later place) → IsRaisedBy raised arrays above → IsRaisedBy later (arrays ++ more) above
by_front raised later arrays more parent.Top on by = tt
by_front raised later arrays more (parent.Struct place) on by = ((by.0.0, get_front arrays more place by.0.0 by.0.1, by.0.2), on place by.1)
by_front raised later arrays more parent.List on by = tt

raised_front : (depth : ℕ) (arrays more : List ArraySpec) (place : ℕ) → IsRaised depth arrays place → IsRaised depth (arrays ++ more) place
unfolding IsRaised
raised_front zero arrays more place is = absurd is
raised_front (suc depth) arrays more place is =
    (is.0, get_front arrays more place is.0 is.1, by_front (IsRaised depth arrays) (IsRaised depth (arrays ++ more)) arrays more is.0.above (raised_front depth arrays more) is.2)

-- ---- the walk

struct_layout : (k : ArrowType) (dict : Option DictSpec) → is_struct k ≡ true → fits_dictionary k dict ≡ true → (k ≡ kind.Struct) × (layout_of k dict ≡ layout.Struct)
struct_layout kind.Struct None is fits = (refl, refl)
struct_layout kind.Struct (Some dict) is fits = absurd (false≢true fits)
struct_layout other dict is fits = absurd (false≢true is)

no_children : (children : List FieldSpec) (k : ArrowType) → is_list k ≡ false → is_struct k ≡ false → fits_children k children ≡ true → no_fields children ≡ true
no_children children k list struct fits = rw (list, struct) at fits

-- one more array, below what is raised so far
record IsOneMore (level : ℕ) (arrays : List ArraySpec) (x : ArraySpec) : Type 0 where
  all : AreRaised (arrays ++ x ∷ [])
  own : IsRaised (suc level) (arrays ++ x ∷ []) (length arrays)

one_more : (level : ℕ) (arrays : List ArraySpec) (x : ArraySpec) → suc level ≤ max_depth → AreRaised arrays → IsRaisedBy (IsRaised level arrays) arrays x.above → IsOneMore level arrays x
unfolding AreRaised IsRaised
one_more level arrays x within all by =
    let own : IsRaised (suc level) (arrays ++ x ∷ []) (length arrays) =
    (x, slice_get_last arrays x (length arrays) refl, by_front (IsRaised level arrays) (IsRaised level (arrays ++ x ∷ [])) arrays (x ∷ []) x.above (raised_front level arrays (x ∷ [])) by) in
    record {
      all = λ place below.
          elim (cases_lt place (length arrays)) [
            | inl before ↦ let old = all place before in (old.0, old.1, raised_front old.0 arrays (x ∷ []) place old.2)
            | inr past ↦
                let here : length arrays ≡ place = omega (arith, below, past, length_push arrays x) in
                (suc level, within, subst (λ (p : ℕ). IsRaised (suc level) (arrays ++ x ∷ []) p) here own)
          ];
      own = own;
    }

Raises : List FieldSpec → Above → List ArraySpec → Type 0
Raises fields above arrays = (level depth : ℕ) → are_readable depth fields ≡ true → level + depth ≤ max_depth → AreRaised arrays → IsRaisedBy (IsRaised level arrays) arrays above
    → AreRaised (add_fields fields above arrays)

-- the children of a field below it
children_raised : (f : FieldSpec) (above : Above) (arrays : List ArraySpec) (level inner : ℕ) → fits_dictionary (kind_in f) (dict_in f) ≡ true → fits_children (kind_in f) (children_in f) ≡ true
    → are_readable inner (children_in f) ≡ true → level + (inner + 1) ≤ max_depth → IsOneMore level arrays (array_for f above arrays)
    → Raises (children_in f) (above_children (kind_in f) (length arrays)) (arrays ++ array_for f above arrays ∷ [])
    → AreRaised (add_fields (children_in f) (above_children (kind_in f) (length arrays)) (arrays ++ array_for f above arrays ∷ []))
unfolding Raises
children_raised f above arrays level inner dictionary fits readable within own below =
    let more = arrays ++ array_for f above arrays ∷ [] in
    let k = kind_in f in
    let go : IsRaisedBy (IsRaised (suc level) more) more (above_children k (length arrays)) → AreRaised (add_fields (children_in f) (above_children k (length arrays)) more) =
    below (suc level) inner readable (omega (arith, within)) own.all in
    elim (cases_Bool (is_list k)) [
      | inl list ↦ go (subst (λ (a : Above). IsRaisedBy (IsRaised (suc level) more) more a) (sym (ap (λ (t : ArrowType). above_children t (length arrays)) (list_is k list))) tt)
      | inr other ↦
          elim (cases_Bool (is_struct k)) [
            | inl struct ↦
                let s = struct_layout k (dict_in f) struct dictionary in
                go (subst (λ (a : Above). IsRaisedBy (IsRaised (suc level) more) more a) (sym (ap (λ (t : ArrowType). above_children t (length arrays)) s.0))
                ((array_for f above arrays, slice_get_last arrays (array_for f above arrays) (length arrays) refl, s.1), own.own))
            | inr plain ↦
                let none : [] ≡ children_in f = sym (no_fields_is (children_in f) (no_children (children_in f) k other plain fits)) in
                subst (λ (fs : List FieldSpec). AreRaised (add_fields fs (above_children k (length arrays)) more)) none own.all
          ]
    ]

raises_more : (f : FieldSpec) (fs : List FieldSpec) (above : Above) (arrays : List ArraySpec) → Raises (children_in f) (above_children (kind_in f) (length arrays)) (arrays ++ array_for f above arrays ∷ [])
    → Raises fs above (add_field f above arrays) → Raises (f ∷ fs) above arrays
unfolding Raises Extends
raises_more f fs above arrays below rest level depth readable within all by =
    let d = deep depth f fs readable in
    let own = one_more level arrays (array_for f above arrays) (omega (arith, within, d.deeper)) all by in
    let added : AreRaised (add_field f above arrays) =
    subst AreRaised (sym (add_field_is f above arrays)) (children_raised f above arrays level d.inner d.dictionary d.fits d.children (omega (arith, within, d.deeper)) own below) in
    let longer = one_extends f above arrays (extends_walk (count_of (children_in f)) (children_in f) (omega arith) (above_children (kind_in f) (length arrays)) (arrays ++ array_for f above arrays ∷ [])) in
    let still : IsRaisedBy (IsRaised level (add_field f above arrays)) (add_field f above arrays) above =
    subst (λ (more : List ArraySpec). IsRaisedBy (IsRaised level more) more above) (sym longer.1)
    (by_front (IsRaised level arrays) (IsRaised level (arrays ++ longer.0)) arrays longer.0 above (raised_front level arrays longer.0) by) in
    rest level depth d.later within added still

none_raised : AreRaised []
unfolding AreRaised
none_raised place below = absurd (omega (arith, below))

all_raised : (fields : List FieldSpec) → IsReadable fields → AreRaised (arrays_of fields)
unfolding Raises arrays_of
all_raised fields readable =
    each_walk Raises (λ above arrays level depth is within all by. all) raises_more (count_of fields) fields (omega arith) parent.Top [] 0 max_depth readable.each (omega arith) none_raised tt

-- ---- cells

above_whole : (cell : ℕ → ℕ → Option (List ℕ)) (raised : ℕ → Type 0) (arrays : List ArraySpec) (batch : BatchIn) (row : ℕ) (above : Above) → HasWholeStructs arrays batch row → IsRaisedBy raised arrays above
    → ((place : ℕ) (a : ArraySpec) → raised place → slice_get arrays place ≡ Some a → cell place row ≡ own_cell batch (array_place a) row) → cell_above cell above row ≡ Some []
above_whole cell raised arrays batch row parent.Top whole by is = refl
above_whole cell raised arrays batch row (parent.Struct place) whole by is =
    is place by.0.0 by.1 by.0.1 ∙ whole.each place by.0.0 by.0.1 by.0.2
above_whole cell raised arrays batch row parent.List whole by is = refl

raised_cell : (depth limit : ℕ) (arrays : List ArraySpec) (batch : BatchIn) (row : ℕ) → HasWholeStructs arrays batch row → depth ≤ limit → (place : ℕ) (a : ArraySpec) → IsRaised depth arrays place
    → slice_get arrays place ≡ Some a → cell_within limit arrays batch place row ≡ own_cell batch (array_place a) row
unfolding IsRaised cell_within
raised_cell zero limit arrays batch row whole within place a is at = absurd is
raised_cell (suc depth) zero arrays batch row whole within place a is at = absurd (omega (arith, within))
raised_cell (suc depth) (suc limit) arrays batch row whole within place a is at =
    let same : is.0 ≡ a = cc (is.1, at) in
    let none : cell_above (cell_within limit arrays batch) is.0.above row ≡ Some [] =
    above_whole (cell_within limit arrays batch) (IsRaised depth arrays) arrays batch row is.0.above whole is.2
    (λ p b raised there. raised_cell depth limit arrays batch row whole (omega (arith, within)) p b raised there) in
    ap (cell_in_array (cell_within limit arrays batch) batch row) is.1
    ∙ ap (λ (above : Option (List ℕ)). cell_below above (own_cell batch (array_place is.0) row)) none
    ∙ ap (λ (b : ArraySpec). own_cell batch (array_place b) row) same

pub whole_cells : (fields : List FieldSpec) (batch : BatchIn) (row : ℕ) → IsReadable fields → HasWholeStructs (arrays_of fields) batch row → (place : ℕ) (a : ArraySpec) → slice_get (arrays_of fields) place ≡ Some a
    → cell_of (arrays_of fields) batch place row ≡ own_cell batch (array_place a) row
unfolding AreRaised
whole_cells fields batch row readable whole place a at =
    let raised = all_raised fields readable place (slice_get_within (arrays_of fields) place a at) in
    raised_cell raised.0 max_depth (arrays_of fields) batch row whole raised.1 place a raised.2 at
