-- The fields that only points have: what is written of each fits, reads back and is short.
use Rattle.std.proofs.Common.{◌≡◌, ℕ, ◌+◌, ◌*◌, ◌^◌, ◌<◌, List, [], ◌∷◌, length, append-nil, true, Option, Some, None, refl, ap, arith}
use Rattle.std.specs.Prelude.{nat_lt, IsTrue}
use Rattle.std.specs.Int.{w64, cast_unsigned}
use Rattle.std.specs.List.{AllByRecursion}
use Rattle.std.proofs.lemmas.Bool.{ltb-true}
use Rattle.std.proofs.lemmas.Int.{to_z-of_z}
use Rattle.otlp_wire.specs.Wire as wire
use Rattle.otlp_wire.specs.Wire.{FieldValue, spelling}
use Rattle.otlp_messages.specs.declared.messages.Message.{Message}
use Rattle.otlp_messages.specs.declared.messages.FieldKind.TheVariants as kinds
use Rattle.otlp_codec.specs.Limits.{level_limit}
use Rattle.otlp_messages.specs.Table.{kind_of}
use Rattle.otlp_messages.specs.Rows.{optional_in, packed_in}
use Rattle.otlp_messages.specs.Canon.{canon_row, optional_row, packed_row}
use Rattle.otlp_messages.proofs.Canonical.{short_value}
use Rattle.otlp_messages.proofs.RowKinds.{none_fits, fixed64_field_fits, part_field_fits}
use Rattle.otlp_messages.proofs.Packed.{run, length-run, packed_fits, packed_back, sfixed64_fits}
use Rattle.otlp_model.specs.declared.metrics.Number.{Number}
use Rattle.otlp_model.specs.declared.metrics.Number.TheVariants.{Missing, Int, Double}
use Rattle.otlp_model.specs.Real.{is_real_number, is_real_optional}
use Rattle.otlp_codec.specs.Numbers.{double_in, int_in, double_row, int_row}
use Rattle.otlp_codec.proofs.Chain.{Held, Law}
use Rattle.otlp_codec.proofs.FieldLaw.{fixed64_short, part_short}
use Rattle.otlp_model.proofs.RealParts.{signed_of_real}

-- a field that is not there
pub none_held : {A P : Type 0} {m : Message} {n : ℕ} {read : A → FieldValue → A} {none : A} → Held P m level_limit n read none none [] 0 0
none_held {m = m} {n = n} = record { back = λ p short. (none_fits m level_limit n, refl); bound = λ few. omega arith }

pub optional_held : {P : Type 0} (m : Message) (n : ℕ) (x : Option ℕ) → kind_of m n ≡ kinds.Fixed64 → nat_lt n 2048 ≡ true → IsTrue (is_real_optional x)
    → Held P m level_limit n optional_in None x (optional_row x) 0 10
optional_held m n None is low real = record { back = λ p short. (none_fits m level_limit n, refl); bound = λ few. omega arith }
optional_held m n (Some bits) is low real = record {
  back = λ p short. (fixed64_field_fits m level_limit n bits is (ltb-true bits (2 ^ 64) real), refl);
  bound = λ few. omega (arith, fixed64_short n bits low);
}

-- the number once the field of a double is read, before that of an integer is
abbrev pub double_of : Number → Number
double_of (Double bits) = Double bits
double_of number = Missing

pub double_held : {P : Type 0} (m : Message) (n : ℕ) (x : Number) → kind_of m n ≡ kinds.Fixed64 → nat_lt n 2048 ≡ true → IsTrue (is_real_number x)
    → Held P m level_limit n double_in Missing (double_of x) (double_row x) 0 10
double_held m n Missing is low real = record { back = λ p short. (none_fits m level_limit n, refl); bound = λ few. omega arith }
double_held m n (Int z) is low real = record { back = λ p short. (none_fits m level_limit n, refl); bound = λ few. omega arith }
double_held m n (Double bits) is low real = record {
  back = λ p short. (fixed64_field_fits m level_limit n bits is (ltb-true bits (2 ^ 64) real), refl);
  bound = λ few. omega (arith, fixed64_short n bits low);
}

pub int_held : {P : Type 0} (m : Message) (n : ℕ) (x : Number) → kind_of m n ≡ kinds.Fixed64 → nat_lt n 2048 ≡ true → IsTrue (is_real_number x)
    → Held P m level_limit n int_in (double_of x) x (int_row x) 0 10
int_held m n Missing is low real = record { back = λ p short. (none_fits m level_limit n, refl); bound = λ few. omega arith }
int_held m n (Int z) is low real = record {
  back = λ p short. (sfixed64_fits m level_limit n z is (signed_of_real z real), ap (λ y. Int y) (to_z-of_z w64 z (signed_of_real z real)));
  bound = λ few. omega (arith, fixed64_short n (cast_unsigned w64 z) low);
}
int_held m n (Double bits) is low real = record { back = λ p short. (none_fits m level_limit n, refl); bound = λ few. omega arith }

pub packed_held : {P : Type 0} (m : Message) (n : ℕ) (ns : List ℕ) → kind_of m n ≡ kinds.Packed64 → nat_lt n 2048 ≡ true → AllByRecursion (λ x. x < 2 ^ 64) ns
    → Held P m level_limit n packed_in [] ns (packed_row ns) (8 * length ns) 12
packed_held m n [] is low small = record { back = λ p short. (packed_fits m level_limit n [] is, refl); bound = λ few. omega arith }
packed_held m n (x ∷ ns) is low small = record {
  back = λ p short. (packed_fits m level_limit n (x ∷ ns) is, packed_back (x ∷ ns) small);
  bound = λ few. (let size = length-run (x ∷ ns) in omega (arith, part_short n (run (x ∷ ns)) low (omega (arith, size, few)), size));
}

-- a message that is a member of a oneof, and is written also where it is empty
pub member_held : {A B P : Type 0} (m : Message) (n : ℕ) (item : Message) (read : List ℕ → B) (write : B → List ℕ) (y : B) (take_in : A → FieldValue → A) {none x : A} {w e : ℕ}
    → kind_of m n ≡ kinds.Embedded item → nat_lt n 2048 ≡ true → nat_lt e 4096 ≡ true → Law P item level_limit read write y w e
    → (read (write y) ≡ y → take_in none (wire.Bytes (write y)) ≡ x) → Held P m level_limit n take_in none x (wire.Bytes (write y) ∷ []) w (e + 12)
member_held m n item read write y take_in {w = w} {e = e} is low light law taken = record {
  back = λ p short. (let made = law.back p (short_value n (wire.Bytes (write y)) (omega (arith, short, one_row (write y)))) in
      (part_field_fits m level_limit n (write y) (λ _. rw is made.0), taken made.1));
  bound = λ few. (let inside = law.bound few in let small = ltb-true e 4096 light in omega (arith, inside, part_short n (write y) low (omega (arith, inside, few, small))));
}
  where
    one_row : (part : List ℕ) → length (canon_row n (wire.Bytes part ∷ [])) ≡ length (spelling (record { number = n; value = wire.Bytes part }))
    one_row part = ap length (append-nil (spelling (record { number = n; value = wire.Bytes part })))
