-- Where the values of a dictionary lie in its bytes: used in private contracts.
use Rattle.std.specs.Prelude.{◌≡◌, ℕ, zero, suc, ◌-◌, ◌≤◌, false, List, [], ◌∷◌, take, drop, Option, None, Some, if◌then◌else◌}
use Rattle.otap_columns.specs.declared.reader.ends.End.{End}

-- the value between two offsets, if it is valid
abbrev pub value_between : List ℕ → ℕ → End → Option (List ℕ)
value_between bytes from end = if end.there then Some (take (end.place - from) (drop from bytes)) else None

-- the values that end at these offsets, the first of which begins at an offset
abbrev pub values_by_ends : List ℕ → ℕ → List End → List (Option (List ℕ))
values_by_ends bytes from [] = []
values_by_ends bytes from (e ∷ ends) = value_between bytes from e ∷ values_by_ends bytes e.place ends

-- where the value at an index of the list begins
abbrev pub start_of : ℕ → List End → ℕ → ℕ
start_of from ends zero = from
start_of from [] (suc place) = from
start_of from (e ∷ ends) (suc place) = start_of e.place ends place

-- a value begins there, doesn't end before, and has no bytes where it is null
pub record IsEnd (from : ℕ) (end : End) : Type 0 where
  pub begins : end.from ≡ from
  pub after : from ≤ end.place
  pub none : end.there ≡ false → end.place ≡ from

-- the values lie one after the other, up to an offset
abbrev pub AreEnds : ℕ → List End → ℕ → Type 0
AreEnds from [] last = from ≡ last
AreEnds from (e ∷ ends) last = IsEnd from e × AreEnds e.place ends last

-- the bytes of a value
abbrev pub bytes_or_none : Option (List ℕ) → List ℕ
bytes_or_none None = []
bytes_or_none (Some value) = value
