-- When a name is text.
use Rattle.std.proofs.Common.{◌≡◌, ℕ, List, Ok, Err, refl}
use Rattle.std.proofs.lemmas.Str.{IsUtf8-from_is_utf8, is_utf8-from_IsUtf8}
use Rattle.std.proofs.lemmas.Bool.{false_from_ne_true}
use Rattle.std.specs.Str.{IsUtf8, is_utf8}
use Rattle.flat_tables.specs.Tables.{TableIn}
use Rattle.arrow_schema.specs.declared.refusal.SchemaRefusal.TheVariants.{BadName}
use Rattle.arrow_schema.specs.Slots.{name_slot}
use Rattle.arrow_schema.specs.Reading.{name_of}

pub name_is_text : (t : TableIn) (name : List ℕ) → name_slot t ≡ Ok name → IsUtf8 name → name_of t ≡ Ok name
unfolding name_of
name_is_text t name read h = rw (read, is_utf8-from_IsUtf8 name h) refl

pub name_is_none : (t : TableIn) (name : List ℕ) → name_slot t ≡ Ok name → (IsUtf8 name → ⊥) → name_of t ≡ Err BadName
unfolding name_of
name_is_none t name read h = rw (read, false_from_ne_true (is_utf8 name) (λ e. h (IsUtf8-from_is_utf8 name e))) refl
