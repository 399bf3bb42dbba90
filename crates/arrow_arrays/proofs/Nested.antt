-- A column below structs: its cells are null where theirs are.
use Rattle.std.proofs.Common.{◌≡◌, ℕ, zero, suc, ◌+◌, ◌-◌, ◌<◌, ◌≤◌, min, nat_lt, ◌&&◌, Bool, true, false, List, [], slice_get, Option, Some, None, IsSome, if◌then◌else◌, refl, sym, ap, ◌∙◌, inl, inr, arith}
use Rattle.std.proofs.lemmas.Bool.{cases_lt, lt-ltb, le-ltb, ltb-true, false≢true}
use Rattle.std.proofs.Math.Nat.{min-le_left, min-le_right, le-min}
use Rattle.arrow_buffers.specs.Bits.{is_valid}
use Rattle.arrow_ipc.specs.Batches.{BatchIn}
use Rattle.arrow_arrays.specs.declared.column.ColumnView.{ColumnView}
use Rattle.arrow_arrays.specs.declared.spec.Above.{Above}
use Rattle.arrow_arrays.specs.declared.spec.Above.TheVariants as parent
use Rattle.arrow_arrays.specs.declared.spec.ArraySpec.{ArraySpec}
use Rattle.arrow_arrays.specs.Cells.{own_cell}
use Rattle.arrow_arrays.specs.Arrays.{array_place, cell_above, cell_below, cell_in_array, cell_within}
use Rattle.arrow_arrays.specs.Views.{value_seen, is_there, cell_seen}
use Rattle.arrow_arrays.specs.Found.{IsBelow, IsEmpty, Finds, FindsWithin}

none_below : (above : Option (List ℕ)) → cell_below above None ≡ None
none_below None = refl
none_below (Some value) = refl

some_below : (above own : Option (List ℕ)) → IsSome above → cell_below above own ≡ own
some_below None own there = absurd (false≢true there)
some_below (Some value) own there = refl

-- below: the rows of both, the own bitmap, and those of the structs above
joined : (a b o u w : Bool) (x own : Option (List ℕ)) → (b ≡ true → IsSome x)
    → (if (a && b) && (o && (u && w)) then own else None) ≡ cell_below (if b && (u && (w && true)) then x else None) (if a && (o && (true && true)) then own else None)
joined false b o u w x own some = sym (none_below (if b && (u && (w && true)) then x else None))
joined true false o u w x own some = refl
joined true true false u w x own some = sym (none_below (if u && (w && true) then x else None))
joined true true true false w x own some = refl
joined true true true true false x own some = refl
joined true true true true true x own some = sym (some_below x own (some refl))

lt_min : (row m n : ℕ) → nat_lt row (min m n) ≡ (nat_lt row m && nat_lt row n)
lt_min row m n =
    elim (cases_lt row m) [
      | inl first ↦ elim (cases_lt row n) [
        | inl second ↦
            let both : row + 1 ≤ min m n = le-min (omega arith) (omega arith) in
            rw (lt-ltb row (min m n) (omega arith), lt-ltb row m first, lt-ltb row n second) refl
        | inr past ↦ let le = min-le_right m n in rw (le-ltb row (min m n) (omega arith), lt-ltb row m first, le-ltb row n past) refl
      ]
      | inr past ↦ let le = min-le_left m n in rw (le-ltb row (min m n) (omega arith), le-ltb row m past) refl
    ]

-- a column of no rows has no cells
pub none_seen : (v : ColumnView) (row : ℕ) → v.rows ≡ 0 → cell_seen v row ≡ None
unfolding cell_seen is_there
none_seen v row rows = rw (rows, le-ltb row 0 (omega arith)) refl

-- a column without rows
pub empty_within : (depth : ℕ) (arrays : List ArraySpec) (batch : BatchIn) (place : ℕ) (v : ColumnView) → IsEmpty v → ((row : ℕ) → cell_within depth arrays batch place row ≡ None) → FindsWithin depth arrays batch place v
empty_within depth arrays batch place v empty none = record {
  cells = λ row. empty.cells row ∙ sym (none row);
  full = λ row below. let rows = empty.rows in absurd (omega (arith, below, rows));
  own = λ _. empty.own;
  above = λ _. empty.above;
  top = λ _. empty.top;
}

pub zero_within : (arrays : List ArraySpec) (batch : BatchIn) (place : ℕ) (depth : ℕ) (v : ColumnView) → depth ≡ 0 → IsEmpty v → FindsWithin depth arrays batch place v
unfolding cell_within
zero_within arrays batch place zero v is empty = empty_within zero arrays batch place v empty (λ row. refl)
zero_within arrays batch place (suc depth) v is empty = absurd (omega (arith, is))

pub missing_within : (arrays : List ArraySpec) (batch : BatchIn) (place : ℕ) (depth : ℕ) (v : ColumnView) → None ≡ slice_get arrays place → IsEmpty v → FindsWithin depth arrays batch place v
unfolding cell_within
missing_within arrays batch place zero v is empty = empty_within zero arrays batch place v empty (λ row. refl)
missing_within arrays batch place (suc depth) v is empty =
    empty_within (suc depth) arrays batch place v empty (λ row. ap (cell_in_array (cell_within depth arrays batch) batch row) (sym is))

-- an array of the list, at its index
cell_is : (depth : ℕ) (arrays : List ArraySpec) (batch : BatchIn) (place row : ℕ) (a : ArraySpec) → Some a ≡ slice_get arrays place
    → cell_within (suc depth) arrays batch place row ≡ cell_below (cell_above (cell_within depth arrays batch) a.above row) (own_cell batch (array_place a) row)
unfolding cell_within
cell_is depth arrays batch place row a at = ap (cell_in_array (cell_within depth arrays batch) batch row) (sym at)

-- no struct is above
pub data IsAlone (above : Above) : Type 0 where
  at_top : above ≡ parent.Top → IsAlone above
  in_list : above ≡ parent.List → IsAlone above

above_alone : (cell : ℕ → ℕ → Option (List ℕ)) (above : Above) (row : ℕ) → IsAlone above → cell_above cell above row ≡ Some []
above_alone cell above row (at_top is) = ap (λ (b : Above). cell_above cell b row) is
above_alone cell above row (in_list is) = ap (λ (b : Above). cell_above cell b row) is

pub alone_within : (depth : ℕ) (arrays : List ArraySpec) (batch : BatchIn) (place : ℕ) (a : ArraySpec) (v : ColumnView) → (depth ≡ 0 → ⊥) → Some a ≡ slice_get arrays place → IsAlone a.above
    → Finds batch (array_place a) v → FindsWithin depth arrays batch place v
alone_within zero arrays batch place a v some at above finds = absurd (some refl)
alone_within (suc depth) arrays batch place a v some at above finds = record {
  cells = λ row.
      finds.cells row ∙ sym (cell_is depth arrays batch place row a at
      ∙ ap (λ (c : Option (List ℕ)). cell_below c (own_cell batch (array_place a) row)) (above_alone (cell_within depth arrays batch) a.above row above));
  full = finds.full;
  own = λ shallow. absurd (omega (arith, shallow));
  above = λ _. finds.above;
  top = λ _. finds.top;
}

-- the cells of a column that is seen, by the parts that it is made of
seen_by : (v : ColumnView) (row : ℕ) → cell_seen v row ≡ (if nat_lt row v.rows && (is_valid v.own.now row && (is_valid v.above.now row && is_valid v.top.now row)) then value_seen v.stored row else None)
unfolding cell_seen is_there
seen_by v row = refl

below_seen : (outer inner v : ColumnView) (row : ℕ) → IsBelow outer inner v → inner.above.now ≡ [] → inner.top.now ≡ [] → outer.top.now ≡ [] → (row < outer.rows → IsSome (value_seen outer.stored row))
    → cell_seen v row ≡ cell_below (cell_seen outer row) (cell_seen inner row)
below_seen outer inner v row is above top shallow full =
    let some : nat_lt row outer.rows ≡ true → IsSome (value_seen outer.stored row) = λ below. full (ltb-true row outer.rows below) in
    let own = is_valid inner.own.now row in
    let one = is_valid outer.own.now row in
    let two = is_valid outer.above.now row in
    let now : cell_seen v row ≡ (if (nat_lt row inner.rows && nat_lt row outer.rows) && (own && (one && two)) then value_seen inner.stored row else None) =
    seen_by v row ∙ rw (is.rows, is.own, is.above, is.top, is.stored, lt_min row inner.rows outer.rows) refl in
    let outer_is : cell_seen outer row ≡ (if nat_lt row outer.rows && (one && (two && true)) then value_seen outer.stored row else None) =
    seen_by outer row ∙ rw shallow refl in
    let inner_is : cell_seen inner row ≡ (if nat_lt row inner.rows && (own && (true && true)) then value_seen inner.stored row else None) =
    seen_by inner row ∙ rw (above, top) refl in
    now ∙ joined (nat_lt row inner.rows) (nat_lt row outer.rows) own one two (value_seen outer.stored row) (value_seen inner.stored row) some
    ∙ rw (outer_is, inner_is) refl

pub below_within : (depth : ℕ) (arrays : List ArraySpec) (batch : BatchIn) (place p : ℕ) (a : ArraySpec) (outer inner v : ColumnView) → (depth ≡ 0 → ⊥) → depth ≤ 3 → Some a ≡ slice_get arrays place
    → a.above ≡ parent.Struct p
    → Finds batch (array_place a) inner → FindsWithin (depth - 1) arrays batch p outer → IsBelow outer inner v → FindsWithin depth arrays batch place v
below_within zero arrays batch place p a outer inner v some deep at above finds within is = absurd (some refl)
below_within (suc depth) arrays batch place p a outer inner v some deep at above finds within is =
    let less : suc depth - 1 ≡ depth = omega arith in
    let cells : (row : ℕ) → cell_seen outer row ≡ cell_within depth arrays batch p row = λ row. within.cells row ∙ ap (λ (d : ℕ). cell_within d arrays batch p row) less in
    record {
      cells = λ row.
          below_seen outer inner v row is finds.above finds.top (within.top (omega arith)) (within.full row)
          ∙ rw (cells row, finds.cells row) refl
          ∙ sym (cell_is depth arrays batch place row a at
          ∙ ap (λ (b : Above). cell_below (cell_above (cell_within depth arrays batch) b row) (own_cell batch (array_place a) row)) above);
      full = λ row below.
          let rows = is.rows in
          let le = min-le_left inner.rows outer.rows in
          let own : IsSome (value_seen inner.stored row) = finds.full row (omega (arith, below, rows, le)) in
          rw is.stored own;
      own = λ shallow. absurd (omega (arith, shallow));
      above = λ shallow. is.above ∙ within.own (omega arith);
      top = λ shallow. is.top ∙ within.above (omega arith);
    }
