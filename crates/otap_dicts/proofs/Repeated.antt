-- A value that is observed again.
use Rattle.std.proofs.Common.{◌≡◌, ℕ, ◌+◌, Bool, true, false, nat_lt, if◌then◌else◌, List, [], ◌∷◌, ◌++◌, length, refl, sym, ap, ◌∙◌, arith, length-append}
use Rattle.std.specs.Prelude.{bytes_eq}
use Rattle.std.specs.List.{list_any}
use Rattle.std.proofs.Math.Seq.{get_or-append_seam}
use Rattle.std.proofs.lemmas.Cmp.{nat_list_eq_equiv}
use Rattle.std.proofs.lemmas.List.Folds.{list_any_at}
use Rattle.otap_dicts.specs.declared.form.Form.{Form}
use Rattle.otap_dicts.specs.declared.form.Form.TheVariants.{Absent, Dict8, Dict16, Plain}
use Rattle.otap_dicts.specs.Forms.{byte_count, is_too_large, dictionary_form}
use Rattle.otap_dicts.specs.Ladders.{LadderIn, in_form, takes, with_new, observed}
use Rattle.otap_dicts.specs.Limits.{narrow_limit}

-- a plain ladder stays as it is
plain_of : (dictionary : Bool) (form : Form) (values : List (List ℕ)) (value : List ℕ) → form ≡ Plain
    → observed (record { dictionary = dictionary; form = form; values = values }) value ≡ record { dictionary = dictionary; form = form; values = values }
unfolding observed
plain_of true Plain values value plain = refl
plain_of false Plain values value plain = refl
plain_of dictionary Absent values value plain = cc
plain_of dictionary Dict8 values value plain = cc
plain_of dictionary Dict16 values value plain = cc

pub plain_stays : (ladder : LadderIn) (value : List ℕ) → ladder.form ≡ Plain → observed ladder value ≡ ladder
plain_stays ladder value plain = plain_of ladder.dictionary ladder.form ladder.values value plain

-- a value that was put last is there
there : (values : List (List ℕ)) (value : List ℕ) → list_any (bytes_eq value) (values ++ value ∷ []) ≡ true
there values value =
    list_any_at (bytes_eq value) (values ++ value ∷ []) (length values) [] (omega (arith, length-append values (value ∷ [])))
    (ap (bytes_eq value) (get_or-append_seam values value [] []) ∙ nat_list_eq_equiv.refl value)

-- one that is there changes nothing
known_of : (dictionary : Bool) (form : Form) (values : List (List ℕ)) (value : List ℕ) → takes (record { dictionary = dictionary; form = form; values = values }) ≡ true
    → list_any (bytes_eq value) values ≡ true
    → observed (record { dictionary = dictionary; form = form; values = values }) value ≡ record { dictionary = dictionary; form = form; values = values }
unfolding observed
known_of dictionary form values value takes has = rw (takes, has) refl

new_of : (was : Form) (large wide : Bool) (values : List (List ℕ)) (value : List ℕ)
    → (let ladder : LadderIn = record { dictionary = true; form = was; values = values } in
    let form = if large then Plain else (if wide then Dict16 else Dict8) in
    observed (in_form ladder form value) value ≡ in_form ladder form value)
new_of was true wide values value = plain_of true Plain [] value refl
new_of was false true values value = known_of true Dict16 (values ++ value ∷ []) value refl (there values value)
new_of was false false values value = known_of true Dict8 (values ++ value ∷ []) value refl (there values value)

again : (first second : LadderIn) (value : List ℕ) → observed first value ≡ second → observed second value ≡ second → observed (observed first value) value ≡ observed first value
again first second value is stays = ap (λ l. observed l value) is ∙ stays ∙ sym is

not_taken : (dictionary : Bool) (form : Form) (values : List (List ℕ)) (value : List ℕ) → takes (record { dictionary = dictionary; form = form; values = values }) ≡ false
    → observed (record { dictionary = dictionary; form = form; values = values }) value ≡ record { dictionary = dictionary; form = Plain; values = values }
unfolding observed
not_taken dictionary form values value takes = rw takes refl

added : (dictionary : Bool) (form : Form) (values : List (List ℕ)) (value : List ℕ) → takes (record { dictionary = dictionary; form = form; values = values }) ≡ true
    → list_any (bytes_eq value) values ≡ false
    → observed (record { dictionary = dictionary; form = form; values = values }) value
    ≡ in_form (record { dictionary = dictionary; form = form; values = values }) (dictionary_form (length values + 1) (byte_count values + length value)) value
unfolding observed with_new
added dictionary form values value takes new = rw (takes, new) refl

twice_by : (dictionary : Bool) (form : Form) (values : List (List ℕ)) (value : List ℕ) (fits has : Bool) → takes (record { dictionary = dictionary; form = form; values = values }) ≡ fits
    → list_any (bytes_eq value) values ≡ has
    → (let ladder : LadderIn = record { dictionary = dictionary; form = form; values = values } in observed (observed ladder value) value ≡ observed ladder value)
twice_by dictionary form values value false has takes_is has_is =
    again (record { dictionary = dictionary; form = form; values = values }) (record { dictionary = dictionary; form = Plain; values = values }) value
    (not_taken dictionary form values value takes_is) (plain_of dictionary Plain values value refl)
twice_by dictionary form values value true true takes_is has_is =
    again (record { dictionary = dictionary; form = form; values = values }) (record { dictionary = dictionary; form = form; values = values }) value
    (known_of dictionary form values value takes_is has_is) (known_of dictionary form values value takes_is has_is)
twice_by false form values value true false takes_is has_is = cc
twice_by true form values value true false takes_is has_is =
    again (record { dictionary = true; form = form; values = values }) _ value
    (added true form values value takes_is has_is) (new_of form (is_too_large (length values + 1) (byte_count values + length value)) (nat_lt narrow_limit (length values + 1)) values value)

pub twice : (ladder : LadderIn) (value : List ℕ) → observed (observed ladder value) value ≡ observed ladder value
twice ladder value = twice_by ladder.dictionary ladder.form ladder.values value (takes ladder) (list_any (bytes_eq value) ladder.values) refl refl

pub known : (ladder : LadderIn) (value : List ℕ) → takes ladder ≡ true → list_any (bytes_eq value) ladder.values ≡ true → observed ladder value ≡ ladder
known ladder value takes_is has = known_of ladder.dictionary ladder.form ladder.values value takes_is has

pub unknown : (ladder : LadderIn) (value : List ℕ) → takes ladder ≡ true → list_any (bytes_eq value) ladder.values ≡ false → observed ladder value ≡ with_new ladder value
unfolding observed
unknown ladder value takes_is new = rw (takes_is, new) refl
