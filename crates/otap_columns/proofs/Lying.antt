-- The values of a dictionary in its bytes, and one more.
use Rattle.std.proofs.Common.{◌≡◌, ℕ, zero, suc, ◌+◌, ◌-◌, ◌*◌, ◌≤◌, ◌<◌, Bool, true, false, List, [], ◌∷◌, ◌++◌, length, get_or, take, drop, Option, Some, None, refl, sym, ap, ◌∙◌, arith, length-append, length-drop}
use Rattle.std.specs.Prelude.{sum_by, is_some, if◌then◌else◌}
use Rattle.std.proofs.lemmas.List.{drop-append-le, take_all, length-take, get_or_past}
use Rattle.std.proofs.lemmas.List.Sums.{sum_by-cons}
use Rattle.lists.proofs.Parts.{part_stays}
use Rattle.arrow_buffers.specs.Columns.{cell_len}
use Rattle.otap_columns.specs.declared.reader.ends.End.{End}
use Rattle.otap_columns.specs.Dictionaries.{value_weight}
use Rattle.otap_columns.specs.Ends.{value_between, values_by_ends, start_of, IsEnd, AreEnds, bytes_or_none}

-- the bytes of the values, and 8 for each
pub weighs : (values : List (Option (List ℕ))) → sum_by value_weight values ≡ sum_by cell_len values + 8 * length values
weighs [] = omega arith
weighs (v ∷ values) = omega (arith, sum_by-cons value_weight v values, sum_by-cons cell_len v values, weighs values)

-- there are as many values as ends
pub values_len : (bytes : List ℕ) (from : ℕ) (ends : List End) → length (values_by_ends bytes from ends) ≡ length ends
values_len bytes from [] = refl
values_len bytes from (e ∷ ends) = ap (λ n. suc n) (values_len bytes e.place ends)

-- none begins after the last offset
pub first_before : (from : ℕ) (ends : List End) (last : ℕ) → AreEnds from ends last → from ≤ last
first_before from [] last are = omega (arith, are)
first_before from (e ∷ ends) last are = omega (arith, are.0.after, first_before e.place ends last are.1)

-- a value by whether it is valid
pub value_none : (bytes : List ℕ) (from : ℕ) (e : End) → e.there ≡ false → value_between bytes from e ≡ None
value_none bytes from e is = rw is refl

pub value_some : (bytes : List ℕ) (from : ℕ) (e : End) → e.there ≡ true → value_between bytes from e ≡ Some (take (e.place - from) (drop from bytes))
value_some bytes from e is = rw is refl

-- the value at an index
pub record IsThere (bytes : List ℕ) (from : ℕ) (ends : List End) (place : ℕ) (last : ℕ) (e : End) : Type 0 where
  pub is : get_or (values_by_ends bytes from ends) place None ≡ value_between bytes (start_of from ends place) e
  pub begins : e.from ≡ start_of from ends place
  pub first : start_of from ends place ≤ e.place
  pub within : e.place ≤ last

pub value_there : (bytes : List ℕ) (from : ℕ) (ends : List End) (place last : ℕ) (d : End) → AreEnds from ends last → place < length ends
    → IsThere bytes from ends place last (get_or ends place d)
value_there bytes from [] place last d are below = absurd (omega (arith, below))
value_there bytes from (e ∷ ends) zero last d are below = record { is = refl; begins = are.0.begins; first = are.0.after; within = first_before e.place ends last are.1 }
value_there bytes from (e ∷ ends) (suc place) last d are below =
    let r : IsThere bytes e.place ends place last (get_or ends place d) = value_there bytes e.place ends place last d are.1 (omega (arith, below)) in
    record { is = r.is; begins = r.begins; first = r.first; within = r.within }

-- there is none after the last one
pub none_there : (bytes : List ℕ) (from : ℕ) (ends : List End) (place : ℕ) → length ends ≤ place → get_or (values_by_ends bytes from ends) place None ≡ None
none_there bytes from ends place past = get_or_past (values_by_ends bytes from ends) place None (omega (arith, past, values_len bytes from ends))

-- ---- bytes that come after

value_stays : (old more : List ℕ) (from : ℕ) (e : End) → from ≤ e.place → e.place ≤ length old → value_between (old ++ more) from e ≡ value_between old from e
value_stays old more from e after within =
    ap (λ (part : List ℕ). if e.there then Some part else None) (part_stays from (e.place - from) old more (omega (arith, after, within)))

-- the values of these ends, with one more after them
pub record Pushed (old new : List ℕ) (from : ℕ) (ends after : List End) (value : Option (List ℕ)) : Type 0 where
  pub values : values_by_ends new from after ≡ values_by_ends old from ends ++ value ∷ []
  pub are : AreEnds from after (length new)
  pub count : length after ≡ length ends + 1

last_value : (value : Option (List ℕ)) (old : List ℕ) (e : End) → e.place ≡ length (old ++ bytes_or_none value) → e.there ≡ is_some value → value_between (old ++ bytes_or_none value) (length old) e ≡ value
last_value None old e at there = rw there refl
last_value (Some value) old e at there =
    let size : e.place - length old ≡ length value = omega (arith, at, length-append old value) in
    let rest : drop (length old) (old ++ value) ≡ value = drop-append-le (length old) old value (omega arith) ∙ ap (λ (part : List ℕ). part ++ value) (dropped old) in
    rw there (ap Some ((λ i. take (size i) (rest i)) ∙ take_all (length value) value (omega arith)))
  where
    dropped : (xs : List ℕ) → drop (length xs) xs ≡ []
    dropped [] = refl
    dropped (x ∷ xs) = dropped xs

last_none : (value : Option (List ℕ)) (old : List ℕ) (e : End) → e.place ≡ length (old ++ bytes_or_none value) → e.there ≡ is_some value → e.there ≡ false → e.place ≡ length old
last_none None old e at there none = omega (arith, at, length-append old [])
last_none (Some value) old e at there none = absurd (cc (there, none))

pub pushed : (old : List ℕ) (from : ℕ) (ends : List End) (e : End) (value : Option (List ℕ)) → AreEnds from ends (length old) → e.from ≡ length old → e.place ≡ length (old ++ bytes_or_none value) → e.there ≡ is_some value
    → Pushed old (old ++ bytes_or_none value) from ends (ends ++ e ∷ []) value
pushed old from [] e value are begins at there =
    let place : value_between (old ++ bytes_or_none value) from e ≡ value = ap (λ (f : ℕ). value_between (old ++ bytes_or_none value) f e) are ∙ last_value value old e at there in
    record {
      values = λ i. place i ∷ [];
      are = (record { begins = begins ∙ sym are; after = omega (arith, are, at, length-append old (bytes_or_none value)); none = λ none. last_none value old e at there none ∙ sym are }, at);
      count = refl;
    }
pushed old from (f ∷ ends) e value are begins at there =
    let r : Pushed old (old ++ bytes_or_none value) f.place ends (ends ++ e ∷ []) value = pushed old f.place ends e value are.1 begins at there in
    let here : value_between (old ++ bytes_or_none value) from f ≡ value_between old from f = value_stays old (bytes_or_none value) from f are.0.after (first_before f.place ends (length old) are.1) in
    record {
      values = λ i. here i ∷ r.values i;
      are = (are.0, r.are);
      count = omega (arith, r.count);
    }

-- ---- how much they have

len_between : (bytes : List ℕ) (from : ℕ) (e : End) (there : Bool) → e.there ≡ there → IsEnd from e → e.place ≤ length bytes → cell_len (value_between bytes from e) + from ≡ e.place
len_between bytes from e true there is within =
    let size : length (take (e.place - from) (drop from bytes)) ≡ e.place - from = omega (arith, length-take (e.place - from) (drop from bytes), length-drop from bytes, within) in
    ap (λ (b : Bool). cell_len (if b then Some (take (e.place - from) (drop from bytes)) else None) + from) there ∙ omega (arith, size, is.after)
len_between bytes from e false there is within =
    ap (λ (b : Bool). cell_len (if b then Some (take (e.place - from) (drop from bytes)) else None) + from) there ∙ omega (arith, is.none there)

pub values_sum : (bytes : List ℕ) (from : ℕ) (ends : List End) → AreEnds from ends (length bytes) → sum_by cell_len (values_by_ends bytes from ends) + from ≡ length bytes
values_sum bytes from [] are = omega (arith, are)
values_sum bytes from (e ∷ ends) are =
    omega (
      arith,
      sum_by-cons cell_len (value_between bytes from e) (values_by_ends bytes e.place ends),
      len_between bytes from e e.there refl are.0 (first_before e.place ends (length bytes) are.1),
      values_sum bytes e.place ends are.1,
    )
