-- The form of a column, by all values that were observed in it. Values are lists of bytes.
use Rattle.std.specs.Prelude.{ℕ, nat_lt, Bool, ◌||◌, if◌then◌else◌, List, [], ◌∷◌, ◌++◌, length, fold, sum_by, bytes_eq}
use Rattle.std.specs.List.{list_any}
use Rattle.otap_dicts.specs.declared.form.Form.{Form}
use Rattle.otap_dicts.specs.declared.form.Form.TheVariants.{Absent, Dict8, Dict16, Plain}
use Rattle.otap_dicts.specs.Limits.{narrow_limit, value_limit, byte_limit}

-- The distinct values in the order of their first occurrence: each value is put last unless it is there.
abbrev pub with_value : List (List ℕ) → List ℕ → List (List ℕ)
with_value values value = if list_any (bytes_eq value) values then values else values ++ value ∷ []

unfoldable pub distinct : List (List ℕ) → List (List ℕ)
distinct values = fold with_value [] values

-- The bytes of all values together.
abbrev pub byte_count : List (List ℕ) → ℕ
byte_count values = sum_by length values

-- The form of a dictionary column, by the number of its distinct values and by the bytes that these have together.
abbrev pub is_too_large : ℕ → ℕ → Bool
is_too_large count bytes = nat_lt value_limit count || nat_lt byte_limit bytes

abbrev pub dictionary_form : ℕ → ℕ → Form
dictionary_form count bytes = if is_too_large count bytes then Plain else (if nat_lt narrow_limit count then Dict16 else Dict8)

-- The form of a column: absent without values; plain where it isn't written as a dictionary at all, or its dictionary would be too large.
abbrev pub form_of : Bool → List (List ℕ) → Form
form_of dictionary [] = Absent
form_of dictionary (value ∷ values) = let known = distinct (value ∷ values) in if dictionary then dictionary_form (length known) (byte_count known) else Plain
