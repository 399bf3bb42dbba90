-- What a value of one field and a short pair say, and their defects: the words of `fill_value` and `fill_pair`.
use Rattle.std.proofs.Common.{◌≡◌, ℕ, ◌+◌, ◌<◌, ◌≤◌, List, [], ◌∷◌, length, Bool, true, false, cond, refl, sym, ap, ◌∙◌, arith, inl, inr}
use Rattle.std.proofs.lemmas.Bool.{cases_eq, ne_eqb}
use Rattle.std.specs.Prelude.{fold, None, ◌==◌, IsUtf8, Result, Ok, Err, OnOk}
use Rattle.otlp_wire.specs.Wire as wire
use Rattle.otlp_wire.specs.Wire.{Entry}
use Rattle.otlp_wire.specs.Fields.{fields_of, end_of}
use Rattle.otlp_wire.proofs.Readings.{part_len}
use Rattle.otlp_messages.specs.declared.messages.Message.TheVariants as messages
use Rattle.otlp_messages.specs.declared.messages.FieldKind.TheVariants as kinds
use Rattle.otlp_messages.specs.Table.{kind_of, mark_of}
use Rattle.otlp_messages.specs.Defects.{IsFine, Occurs}
use Rattle.otlp_messages.specs.Fine.{FineValue}
use Rattle.otlp_messages.specs.Rows.{bytes_in}
use Rattle.otlp_messages.proofs.Steps.{fine_of, marked, count-one, value_stands, value_is_shorter}
use Rattle.otlp_model.specs.declared.value.Value.TheVariants.{Empty}
use Rattle.otlp_model.specs.declared.value.Pair.{Pair}
use Rattle.otlp_codec.specs.declared.refusal.ReadRefusal.{ReadRefusal}
use Rattle.otlp_codec.specs.Limits.{level_limit}
use Rattle.otlp_codec.specs.PartRefusals.{Refuses, RefusesValue}
use Rattle.otlp_codec.specs.Values.{any_in, any_value_at, key_value_at}
use Rattle.otlp_codec.specs.Steps.{array_at, map_at, no_pair, pair_step}
use Rattle.otlp_codec.proofs.Passing.{names_map}
use Rattle.otlp_codec.proofs.Folded.{value_is, pair_is}

-- field 1 of an AnyValue or of a KeyValue, which is a text; and field 2 of a KeyValue
abbrev pub text_field : List ℕ → Entry
text_field text = record { number = 1; value = wire.Bytes text }

abbrev pub value_field : List ℕ → Entry
value_field value = record { number = 2; value = wire.Bytes value }

at_most_one : (b : Bool) (n more : ℕ) → n ≡ cond b 1 0 + more → more ≡ 0 → n ≤ 1
at_most_one true n more is none = omega arith
at_most_one false n more is none = omega arith

-- of the marks 1 and 2 one at most is k
once_each : (k n more : ℕ) → n ≡ cond (1 == k) 1 0 + more → more ≡ cond (2 == k) 1 0 + 0 → n ≤ 1
once_each k n more is rest =
    elim (cases_eq 1 k) [
      | inl same ↦ at_most_one (1 == k) n more is (rest ∙ ap (λ b. cond b 1 0 + 0) (ne_eqb 2 k (omega (arith, same))))
      | inr other ↦
          (let none : n ≡ 0 + more = is ∙ ap (λ b. cond b 1 0 + more) (ne_eqb 1 k other) in
          let few : more ≤ 1 = at_most_one (2 == k) more 0 rest refl in
          omega (arith, none, few))
    ]

pub both : {T E : Type 0} (r : Result T E) (P Q : Type 0) → OnOk r P → OnOk r Q → OnOk r (P × Q)
both (Ok x) P Q p q = (p, q)
both (Err e) P Q p q = tt

-- one field
module _ (levels : ℕ) (bytes : List ℕ) (f : Entry) (is : fields_of bytes ≡ f ∷ []) where
  pub one_is_fine : end_of bytes ≡ None → FineValue (kind_of messages.AnyValue f.number) levels f.value → IsFine messages.AnyValue levels bytes
  one_is_fine end fine =
      let has : ℕ → Entry → Bool = λ k g. mark_of messages.AnyValue g.number == k in
      fine_of messages.AnyValue levels bytes (f ∷ []) is end (fine, tt)
      (λ k above. at_most_one (has k f) (marked messages.AnyValue k (f ∷ [])) 0 (count-one (has k) f []) refl)

  pub one_says : any_in (array_at levels) (map_at levels) Empty f ≡ any_value_at levels bytes
  one_says = sym (ap (fold (any_in (array_at levels) (map_at levels)) Empty) is) ∙ value_is levels bytes

  pub one_refused : (refusal : ReadRefusal) → RefusesValue (kind_of messages.AnyValue f.number) levels f.value refusal → Refuses messages.AnyValue levels bytes refusal
  one_refused refusal fault = names_map refusal _ _ (λ e stands. value_stands messages.AnyValue levels bytes f.number f.value e ([], [], is) stands) fault

  pub one_is_short : part_len f.value < length bytes
  one_is_short = value_is_shorter bytes f ([], [], is)

-- a key and a value
module _ (levels : ℕ) (bytes key value : List ℕ) (is : fields_of bytes ≡ text_field key ∷ value_field value ∷ []) where
  value_occurs : Occurs bytes (value_field value)
  value_occurs = (text_field key ∷ [], [], is)

  pub value_is_short : length value < length bytes
  value_is_short = value_is_shorter bytes (value_field value) value_occurs

  pub pair_is_fine : end_of bytes ≡ None → IsUtf8 key → IsFine messages.AnyValue levels value → IsFine messages.KeyValue levels bytes
  pair_is_fine end text fine = fine_of messages.KeyValue levels bytes (text_field key ∷ value_field value ∷ []) is end (text, (fine, tt)) once
    where
      once : (k : ℕ) → 0 < k → marked messages.KeyValue k (text_field key ∷ value_field value ∷ []) ≤ 1
      once k above =
          let has : Entry → Bool = λ f. mark_of messages.KeyValue f.number == k in
          once_each k (marked messages.KeyValue k (text_field key ∷ value_field value ∷ [])) (marked messages.KeyValue k (value_field value ∷ []))
          (count-one has (text_field key) (value_field value ∷ [])) (count-one has (value_field value) [])

  pub pair_says : (read : Pair) → wire.Bytes key ≡ wire.Bytes read.key → read.value ≡ any_value_at levels value → read ≡ key_value_at levels bytes
  pair_says read text says =
      let made : read ≡ record { key = key; value = any_value_at levels value } = λ i. record { key = sym (ap (bytes_in []) text) i; value = says i } in
      made ∙ sym (ap (fold (pair_step levels) no_pair) is) ∙ pair_is levels bytes

  pub key_refused : (refusal : ReadRefusal) → RefusesValue kinds.Text level_limit (wire.Bytes key) refusal → Refuses messages.KeyValue levels bytes refusal
  key_refused refusal fault = names_map refusal _ _ (λ e stands. value_stands messages.KeyValue levels bytes 1 (wire.Bytes key) e ([], value_field value ∷ [], is) stands) fault

  pub value_refused : (refusal : ReadRefusal) → Refuses messages.AnyValue levels value refusal → Refuses messages.KeyValue levels bytes refusal
  value_refused refusal fault = names_map refusal _ _ (λ e stands. value_stands messages.KeyValue levels bytes 2 (wire.Bytes value) e value_occurs (inr stands)) fault
