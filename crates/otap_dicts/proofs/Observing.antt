-- One more observed value: the ladder of the longer list.
use Rattle.std.proofs.Common.{◌≡◌, ℕ, nat_lt, ◌≤◌, Bool, true, false, if◌then◌else◌, List, [], ◌∷◌, ◌++◌, length, true≢false, refl, sym, ap, ◌∙◌, arith, length-append}
use Rattle.std.specs.Prelude.{bytes_eq}
use Rattle.std.specs.List.{list_any}
use Rattle.std.proofs.lemmas.List.Sums.{fold-append, sum_by_push}
use Rattle.otap_dicts.specs.declared.form.Form.{Form}
use Rattle.otap_dicts.specs.declared.form.Form.TheVariants.{Absent, Dict8, Dict16, Plain}
use Rattle.otap_dicts.specs.Forms.{with_value, distinct, byte_count, is_too_large, dictionary_form, form_of}
use Rattle.otap_dicts.specs.Ladders.{LadderIn, StandsForMore, kept_in, ladder_of, takes, with_new, observed}
use Rattle.otap_dicts.specs.Limits.{narrow_limit}
use Rattle.otap_dicts.proofs.Larger.{large-plain, large-stays}

pub distinct-push : (values : List (List ℕ)) (value : List ℕ) → distinct (values ++ value ∷ []) ≡ with_value (distinct values) value
unfolding distinct
distinct-push values value = fold-append with_value [] values (value ∷ [])

-- a dictionary column that had a value isn't absent
abbrev is_absent : Form → Bool
is_absent Absent = true
is_absent form = false

not-absent : (large wide : Bool) → is_absent (if large then Plain else (if wide then Dict16 else Dict8)) ≡ false
not-absent true wide = refl
not-absent false true = refl
not-absent false false = refl

-- a value is never lost
grows : (has : Bool) (values : List (List ℕ)) (value : List ℕ) → let more = if has then values else values ++ value ∷ [] in (length values ≤ length more) × (byte_count values ≤ byte_count more)
grows true values value = (omega arith, omega arith)
grows false values value = (omega (arith, length-append values (value ∷ [])), omega (arith, sum_by_push length values value))

-- the ladder of a dictionary column with these distinct values
ladder_by : List (List ℕ) → LadderIn
ladder_by values = record { dictionary = true; form = dictionary_form (length values) (byte_count values); values = kept_in (dictionary_form (length values) (byte_count values)) values }

with_form : Form → List (List ℕ) → LadderIn
with_form form values = record { dictionary = true; form = form; values = kept_in form values }

one-new : (form : Form) (values : List (List ℕ)) (value : List ℕ) → with_new (record { dictionary = true; form = form; values = values }) value ≡ ladder_by (values ++ value ∷ [])
unfolding with_new ladder_by
one-new form values value = rw (length-append values (value ∷ []), sum_by_push length values value) refl

in-dictionary : (form : Form) (values : List (List ℕ)) (value : List ℕ) (has : Bool) → list_any (bytes_eq value) values ≡ has
    → takes (record { dictionary = true; form = form; values = values }) ≡ true → kept_in form values ≡ values → form ≡ dictionary_form (length values) (byte_count values)
    → observed (record { dictionary = true; form = form; values = values }) value ≡ ladder_by (with_value values value)
unfolding observed ladder_by
in-dictionary form values value true has takes kept same = rw (takes, has, sym same, kept) refl
in-dictionary form values value false has takes kept same = rw (takes, has) (one-new form values value)

no-more : (values : List (List ℕ)) (value : List ℕ) → dictionary_form (length values) (byte_count values) ≡ Plain → with_form Plain values ≡ ladder_by (with_value values value)
unfolding with_form ladder_by
no-more values value plain =
    let more = grows (list_any (bytes_eq value) values) values value in
    let large : is_too_large (length (with_value values value)) (byte_count (with_value values value)) ≡ true =
    large-stays (length values) (byte_count values) (length (with_value values value)) (byte_count (with_value values value)) more.0 more.1 (large-plain (length values) (byte_count values) plain) in
    rw large refl

any-form : (form : Form) (values : List (List ℕ)) (value : List ℕ) → form ≡ dictionary_form (length values) (byte_count values) → observed (with_form form values) value ≡ ladder_by (with_value values value)
unfolding with_form observed
any-form Absent values value same = absurd (true≢false (ap is_absent same ∙ not-absent (is_too_large (length values) (byte_count values)) (nat_lt narrow_limit (length values))))
any-form Dict8 values value same = in-dictionary Dict8 values value (list_any (bytes_eq value) values) refl refl refl same
any-form Dict16 values value same = in-dictionary Dict16 values value (list_any (bytes_eq value) values) refl refl refl same
any-form Plain values value same = no-more values value (sym same)

-- The main lemma.
pub observed-push : (dictionary : Bool) (values : List (List ℕ)) (value : List ℕ) → observed (ladder_of dictionary values) value ≡ ladder_of dictionary (values ++ value ∷ [])
unfolding observed ladder_of with_form ladder_by distinct
observed-push false [] value = refl
observed-push false (first ∷ values) value = refl
observed-push true [] value = one-new Absent [] value ∙ ap ladder_by (sym (distinct-push [] value))
observed-push true (first ∷ values) value =
    any-form (form_of true (first ∷ values)) (distinct (first ∷ values)) value refl ∙ ap ladder_by (sym (distinct-push (first ∷ values) value))

pub stands_for_more : (old new : LadderIn) (value : List ℕ) → new ≡ observed old value → StandsForMore old new value
stands_for_more old new value is = record { at = λ values same. is ∙ ap (λ ladder. observed ladder value) same ∙ observed-push old.dictionary values value }
