-- Ids: the numbers of rows, and how a column stores them.
use Rattle.std.specs.Prelude.{◌≡◌, ℕ, ◌+◌, ◌≤◌, ◌<◌, suc, nat_le, nat_eq, Bool, true, false, ◌&&◌, if◌then◌else◌, List, [], ◌∷◌, drop, Option, None, Some}
use Rattle.otap_cells.specs.declared.profile.Coding.{Coding}
use Rattle.otap_cells.specs.declared.profile.Coding.TheVariants as coding

-- whether the first of these rows continues the run of the row before it
abbrev pub goes_on : List Bool → Bool
goes_on [] = false
goes_on (continues ∷ rows) = continues

-- what a stored number is added to, by the id before it: nothing where ids are stored as they are, and where a run begins
abbrev pub base_of : Coding → Bool → ℕ → ℕ
base_of coding.Plain continues before = 0
base_of coding.Delta continues before = before
base_of coding.Run continues before = if continues then before else 0

-- a row without an id is passed over; runs have none
abbrev pub takes_null : Coding → Bool
takes_null coding.Plain = true
takes_null coding.Delta = true
takes_null coding.Run = false

-- these numbers encode these ids, none of them above `last`, after the id `before`
abbrev pub IdsAfter : Coding → ℕ → ℕ → List Bool → List (Option ℕ) → List (Option ℕ) → Type 0
IdsAfter how last before rows [] [] = Unit {0}
IdsAfter how last before rows (None ∷ ns) (None ∷ ids) = (takes_null how ≡ true) × IdsAfter how last before (drop 1 rows) ns ids
IdsAfter how last before rows (Some n ∷ ns) (Some id ∷ ids) = (id ≡ base_of how (goes_on rows) before + n) × (id ≤ last) × IdsAfter how last id (drop 1 rows) ns ids
IdsAfter how last before rows [] (id ∷ ids) = ⊥
IdsAfter how last before rows (n ∷ ns) [] = ⊥
IdsAfter how last before rows (None ∷ ns) (Some id ∷ ids) = ⊥
IdsAfter how last before rows (Some n ∷ ns) (None ∷ ids) = ⊥

-- THE IDS of a column: the first number that isn't null is the id itself; `rows` says of each row whether it continues a run
abbrev pub Ids : Coding → ℕ → List Bool → List (Option ℕ) → List (Option ℕ) → Type 0
Ids how last rows numbers ids = IdsAfter how last 0 rows numbers ids

-- ids that can be stored: no difference is below 0
abbrev pub RiseAfter : Coding → ℕ → List Bool → List (Option ℕ) → Type 0
RiseAfter how before rows [] = Unit {0}
RiseAfter how before rows (None ∷ ids) = (takes_null how ≡ true) × RiseAfter how before (drop 1 rows) ids
RiseAfter how before rows (Some id ∷ ids) = (base_of how (goes_on rows) before ≤ id) × RiseAfter how id (drop 1 rows) ids

abbrev pub Rise : Coding → List Bool → List (Option ℕ) → Type 0
Rise how rows ids = RiseAfter how 0 rows ids

-- no id is above `last`
abbrev pub AtMost : ℕ → List (Option ℕ) → Type 0
AtMost last [] = Unit {0}
AtMost last (None ∷ ids) = AtMost last ids
AtMost last (Some id ∷ ids) = (id ≤ last) × AtMost last ids

-- numbers replaced by their ids, up to the first that has none: its id would be above `last`, or it is a null in a run; that
-- one and all after it are as they were
abbrev pub undone_after : Coding → ℕ → ℕ → List Bool → List (Option ℕ) → List (Option ℕ)
undone_after how last before rows [] = []
undone_after how last before rows (None ∷ ns) = None ∷ (if takes_null how then undone_after how last before (drop 1 rows) ns else ns)
undone_after how last before rows (Some n ∷ ns) =
    if nat_le (base_of how (goes_on rows) before + n) last
    then Some (base_of how (goes_on rows) before + n) ∷ undone_after how last (base_of how (goes_on rows) before + n) (drop 1 rows) ns
    else Some n ∷ ns

abbrev pub undone : Coding → ℕ → List Bool → List (Option ℕ) → List (Option ℕ)
undone how last rows numbers = undone_after how last 0 rows numbers

-- whether all numbers have ids
abbrev pub fits_after : Coding → ℕ → ℕ → List Bool → List (Option ℕ) → Bool
fits_after how last before rows [] = true
fits_after how last before rows (None ∷ ns) = takes_null how && fits_after how last before (drop 1 rows) ns
fits_after how last before rows (Some n ∷ ns) =
    nat_le (base_of how (goes_on rows) before + n) last && fits_after how last (base_of how (goes_on rows) before + n) (drop 1 rows) ns

-- how often a number occurs among ids
abbrev pub times : ℕ → List (Option ℕ) → ℕ
times n [] = 0
times n (None ∷ ids) = times n ids
times n (Some id ∷ ids) = if nat_eq id n then suc (times n ids) else times n ids

-- some number occurs twice
abbrev pub Twice : List (Option ℕ) → Type 0
Twice ids = (n : ℕ) × (1 < times n ids)
