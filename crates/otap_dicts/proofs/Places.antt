-- The indexes of values in a dictionary, as more values are observed.
use Rattle.std.proofs.Common.{◌≡◌, ℕ, ◌+◌, Bool, true, false, if◌then◌else◌, nat_lt, List, [], ◌∷◌, ◌++◌, length, position, Some, refl, sym, ap, ◌∙◌, subst, true≢false}
use Rattle.std.specs.Prelude.{bytes_eq}
use Rattle.std.specs.List.{list_any, position_from}
use Rattle.std.proofs.lemmas.Bool.{false≢true}
use Rattle.std.proofs.lemmas.Iterator.Adapters.{position_from-zero}
use Rattle.otap_dicts.specs.declared.form.Form.TheVariants.{Dict8, Dict16, Plain}
use Rattle.otap_dicts.specs.Forms.{byte_count, is_too_large}
use Rattle.otap_dicts.specs.Ladders.{LadderIn, is_plain, kept_in, observed, takes, with_new}
use Rattle.otap_dicts.specs.Limits.{narrow_limit}
use Rattle.otap_dicts.proofs.Found.{last_place}
use Rattle.otap_dicts.proofs.Repeated.{known, unknown}

module _ {X : Type 0} (test : X → Bool) where
  some_from : (i n : ℕ) (xs ys : List X) → position_from test i xs ≡ Some n → position_from test i (xs ++ ys) ≡ Some n
  some_from i n [] ys is = absurd (cc)
  some_from i n (x ∷ xs) ys is = by (test x) refl (some_from (i + 1) n xs ys)
    where
      by : (b : Bool) → test x ≡ b → (position_from test (i + 1) xs ≡ Some n → position_from test (i + 1) (xs ++ ys) ≡ Some n) → position_from test i (x ∷ xs ++ ys) ≡ Some n
      by true here rest = rw here (rw here at is)
      by false here rest = rw here (rest (rw here at is))

  -- what is found stays where it is as more follows
  some_stays : (n : ℕ) (xs ys : List X) → position test xs ≡ Some n → position test (xs ++ ys) ≡ Some n
  some_stays n xs ys is = position_from-zero test (xs ++ ys) ∙ some_from 0 n xs ys (sym (position_from-zero test xs) ∙ is)

  pub found_from : (i : ℕ) (xs : List X) → list_any test xs ≡ true → (n : ℕ) × (position_from test i xs ≡ Some n)
  found_from i [] is = absurd (false≢true is)
  found_from i (x ∷ xs) is = by (test x) refl (found_from (i + 1) xs)
    where
      by : (b : Bool) → test x ≡ b → (list_any test xs ≡ true → (n : ℕ) × (position_from test (i + 1) xs ≡ Some n)) → (n : ℕ) × (position_from test i (x ∷ xs) ≡ Some n)
      by true here rest = (i, rw here refl)
      by false here rest = let found = rest (rw here at is) in (found.0, rw here found.1)

  -- what is there is found
  is_found : (xs : List X) → list_any test xs ≡ true → (n : ℕ) × (position test xs ≡ Some n)
  is_found xs is = let found = found_from 0 xs is in (found.0, position_from-zero test xs ∙ found.1)

not_plain : (large wide : Bool) (values : List (List ℕ)) → (let form = if large then Plain else (if wide then Dict16 else Dict8) in is_plain form ≡ false → kept_in form values ≡ values)
not_plain true wide values is = absurd (true≢false is)
not_plain false true values is = refl
not_plain false false values is = refl

-- a value that is new in a dictionary that isn't given up is put last
with_new_last : (ladder : LadderIn) (value : List ℕ) → is_plain (with_new ladder value).form ≡ false → (with_new ladder value).values ≡ ladder.values ++ value ∷ []
unfolding with_new
with_new_last ladder value is =
    not_plain (is_too_large (length ladder.values + 1) (byte_count ladder.values + length value)) (nat_lt narrow_limit (length ladder.values + 1)) (ladder.values ++ value ∷ []) is

-- a ladder that takes no value becomes plain
not_taken : (ladder : LadderIn) (value : List ℕ) → takes ladder ≡ false → is_plain (observed ladder value).form ≡ true
unfolding observed
not_taken ladder value takes_is = rw takes_is refl

Stays : LadderIn → LadderIn → Type 0
Stays old new = (other : List ℕ) (place : ℕ) → position (bytes_eq other) old.values ≡ Some place → position (bytes_eq other) new.values ≡ Some place

Has : LadderIn → List ℕ → Type 0
Has ladder value = (place : ℕ) × (position (bytes_eq value) ladder.values ≡ Some place)

both : (ladder : LadderIn) (value : List ℕ) (fits has : Bool) → takes ladder ≡ fits → list_any (bytes_eq value) ladder.values ≡ has → is_plain (observed ladder value).form ≡ false
    → Stays ladder (observed ladder value) × Has (observed ladder value) value
unfolding Stays Has
both ladder value false has takes_is has_is climbs = absurd (true≢false (sym (not_taken ladder value takes_is) ∙ climbs))
both ladder value true true takes_is has_is climbs =
    subst (λ (l : LadderIn). Stays ladder l × Has l value) (sym (known ladder value takes_is has_is)) ((λ other place is. is), is_found (bytes_eq value) ladder.values has_is)
both ladder value true false takes_is has_is climbs =
    let is : observed ladder value ≡ with_new ladder value = unknown ladder value takes_is has_is in
    let last : (with_new ladder value).values ≡ ladder.values ++ value ∷ [] = with_new_last ladder value (sym (ap (λ (l : LadderIn). is_plain l.form) is) ∙ climbs) in
    subst (λ (l : LadderIn). Stays ladder l × Has l value) (sym is) (
      (λ other place here. ap (position (bytes_eq other)) last ∙ some_stays (bytes_eq other) place ladder.values (value ∷ []) here),
      (length ladder.values, ap (position (bytes_eq value)) last ∙ last_place ladder.values value has_is),
    )

pub stay : (ladder : LadderIn) (value other : List ℕ) (place : ℕ) → is_plain (observed ladder value).form ≡ false
    → position (bytes_eq other) ladder.values ≡ Some place → position (bytes_eq other) (observed ladder value).values ≡ Some place
unfolding Stays
stay ladder value other place climbs is = (both ladder value (takes ladder) (list_any (bytes_eq value) ladder.values) refl refl climbs).0 other place is

pub found : (ladder : LadderIn) (value : List ℕ) → is_plain (observed ladder value).form ≡ false → (place : ℕ) × (position (bytes_eq value) (observed ladder value).values ≡ Some place)
unfolding Has
found ladder value climbs = (both ladder value (takes ladder) (list_any (bytes_eq value) ladder.values) refl refl climbs).1
