-- What a list ends as, where a `&mut` to one of its items is returned.
use Rattle.std.specs.Prelude.{ℕ, List, [], ◌∷◌, ◌++◌, Option, Result, slice_set}
use Rattle.std.specs.Borrow.{LendsIf, LendsIfOk, Fml, RattleType, MutBor}
use Rattle.lists.specs.contracts.items.Items.{the_row}

-- once the borrow r ends, the element at the index has the last value written through r; at `None` the list stays as it is
abbrev pub lends_item : (T : RattleType) → MutBor (List T.Denot) → ℕ → Option (MutBor T.Denot) → Fml
lends_item T items place r = LendsIf (the_row T) T items r (λ w. slice_set items.now place w) items.now

-- the same for an item that is added; where memory runs out the list stays as it is
abbrev pub lends_added : {E : Type 0} (T : RattleType) → MutBor (List T.Denot) → Result (MutBor T.Denot) E → Fml
lends_added T items r = LendsIfOk (the_row T) T items r (λ w. items.now ++ w ∷ []) items.now
