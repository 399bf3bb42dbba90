-- The law of attribute lists and of values that are in no array and no key-value list.
use Rattle.std.proofs.Common.{◌≡◌, ℕ, List, [], map, true, refl}
use Rattle.std.specs.Prelude.{nat_lt}
use Rattle.std.specs.List.{All}
use Rattle.std.proofs.lemmas.List.Elements.{recursion_from_All}
use Rattle.lists.proofs.Every.{every_weaker}
use Rattle.otlp_messages.specs.declared.messages.Message.{Message}
use Rattle.otlp_messages.specs.declared.messages.Message.TheVariants as messages
use Rattle.otlp_messages.specs.declared.messages.FieldKind.TheVariants as kinds
use Rattle.otlp_codec.specs.Limits.{level_limit}
use Rattle.otlp_messages.specs.Table.{kind_of, mark_of}
use Rattle.otlp_messages.specs.Rows.{many_in}
use Rattle.otlp_messages.specs.Canon.{many_row}
use Rattle.otlp_model.specs.declared.value.Value.{Value}
use Rattle.otlp_model.specs.declared.value.Pair.{Pair}
use Rattle.otlp_model.specs.Weight.{total, weight_of_value, weight_of_pair}
use Rattle.otlp_model.specs.Real.{is_real_value, is_real_pair, are_real_pairs}
use Rattle.otlp_model.specs.Profile.{IsProfileValue, IsProfilePair}
use Rattle.otlp_codec.specs.Groups.{value_in, pair_in}
use Rattle.otlp_codec.specs.Canonical.{canon_value, canon_pair}
use Rattle.otlp_codec.proofs.Chain.{Held, Law}
use Rattle.otlp_codec.proofs.FieldLaw.{many_held}
use Rattle.otlp_codec.proofs.Lists.{tests_from}
use Rattle.otlp_codec.proofs.ValueLaw.{value_law, pair_law}
use Rattle.otlp_codec.proofs.ValueBounds.{value_bound, pair_bound}

pub value_whole : {P : Type 0} (v : Value) → is_real_value v ≡ true → (P → IsProfileValue v) → Law P messages.AnyValue level_limit value_in canon_value v (weight_of_value v) 20
value_whole v real deep = record { back = λ p. ((value_law v).at level_limit real (deep p)).at; bound = (value_bound v).at real }

pair_whole : (p : Pair) → is_real_pair p ≡ true → Law (IsProfilePair p) messages.KeyValue level_limit pair_in canon_pair p (weight_of_pair p) 236
pair_whole p real = record { back = λ deep. (pair_law level_limit p (value_law p.value) real deep).at; bound = (pair_bound p real (value_bound p.value)).at }

pub pairs_held : {P : Type 0} (m : Message) (n : ℕ) (pairs : List Pair) → kind_of m n ≡ kinds.Embedded messages.KeyValue → mark_of m n ≡ 0 → nat_lt n 2048 ≡ true
    → are_real_pairs pairs ≡ true → (P → All IsProfilePair pairs) → Held P m level_limit n (many_in pair_in) [] pairs (many_row (map canon_pair pairs)) (total 32 weight_of_pair pairs) 0
pairs_held m n pairs is unmarked low real profile =
    many_held IsProfilePair m n messages.KeyValue pair_in canon_pair 32 weight_of_pair 236 pairs is unmarked low refl refl
    (every_weaker (λ p. is_real_pair p ≡ true) (λ p. Law (IsProfilePair p) messages.KeyValue level_limit pair_in canon_pair p (weight_of_pair p) 236) pair_whole pairs (tests_from is_real_pair pairs real))
    (λ p. recursion_from_All IsProfilePair pairs (profile p))
