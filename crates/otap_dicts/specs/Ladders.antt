-- What a ladder says of the values that were observed, and what one more value changes.
use Rattle.std.specs.Prelude.{◌≡◌, ℕ, ◌+◌, Bool, true, false, ◌&&◌, not, if◌then◌else◌, List, [], ◌∷◌, ◌++◌, length, bytes_eq}
use Rattle.std.specs.List.{list_any}
use Rattle.otap_dicts.specs.declared.form.Form.{Form}
use Rattle.otap_dicts.specs.declared.form.Form.TheVariants.{Dict8, Dict16, Plain}
use Rattle.otap_dicts.specs.Forms.{distinct, byte_count, dictionary_form, form_of}

abbrev pub is_dictionary : Form → Bool
is_dictionary Dict8 = true
is_dictionary Dict16 = true
is_dictionary form = false

abbrev pub is_plain : Form → Bool
is_plain Plain = true
is_plain form = false

-- A ladder as its callers see it: whether the column may be written as a dictionary, its form, and the values of its dictionary.
pub record LadderIn : Type 0 where
  pub dictionary : Bool
  pub form : Form
  pub values : List (List ℕ)

-- The values that are kept in a form: all distinct ones in a dictionary, else none.
abbrev pub kept_in : Form → List (List ℕ) → List (List ℕ)
kept_in form values = if is_dictionary form then values else []

-- The ladder of a list of observed values.
unfoldable pub ladder_of : Bool → List (List ℕ) → LadderIn
ladder_of dictionary values = record { dictionary = dictionary; form = form_of dictionary values; values = kept_in (form_of dictionary values) (distinct values) }

-- A ladder with one more value that it didn't have.
abbrev pub in_form : LadderIn → Form → List ℕ → LadderIn
in_form ladder form value = record { dictionary = ladder.dictionary; form = form; values = kept_in form (ladder.values ++ value ∷ []) }

unfoldable pub with_new : LadderIn → List ℕ → LadderIn
with_new ladder value = in_form ladder (dictionary_form (length ladder.values + 1) (byte_count ladder.values + length value)) value

-- The ladder after one more observed value. A form that is plain stays so.
abbrev pub takes : LadderIn → Bool
takes ladder = ladder.dictionary && not (is_plain ladder.form)

unfoldable pub observed : LadderIn → List ℕ → LadderIn
observed ladder value =
    if takes ladder
    then (if list_any (bytes_eq value) ladder.values then ladder else with_new ladder value)
    else record { dictionary = ladder.dictionary; form = Plain; values = ladder.values }

-- Where the old ladder is that of some values, the new one is that of these and of one more value after them.
pub record StandsForMore (old new : LadderIn) (value : List ℕ) : Type 0 where
  pub at : (values : List (List ℕ)) → old ≡ ladder_of old.dictionary values → new ≡ ladder_of old.dictionary (values ++ value ∷ [])
