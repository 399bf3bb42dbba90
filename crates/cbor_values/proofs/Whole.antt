-- All of the bytes: what is returned, and what it says.
use Rattle.std.proofs.Common.{◌≡◌, ℕ, ◌≤◌, List, [], ◌∷◌, Option, Some, None, Result, Ok, Err, refl, sym, ap, subst, ◌∙◌}
use Rattle.std.specs.Prelude.{IfOk, IfErr}
use Rattle.std.proofs.lemmas.List.{append-nil}
use Rattle.std.proofs.lemmas.Option.{same_Some}
use Rattle.lists.proofs.AllBytes.{IsBytes}
use Rattle.otlp_model.specs.declared.value.Value.{Value}
use Rattle.otlp_model.specs.Depth.{depth_of}
use Rattle.cbor_values.specs.declared.refusal.CborRefusal.{CborRefusal}
use Rattle.cbor_values.specs.declared.refusal.CborRefusal.TheVariants.{Cut, BadHead, BadKey, BadUtf8, OutOfRange, TooDeep, Trailing, Memory}
use Rattle.cbor_values.specs.Cbor.{Cbor}
use Rattle.cbor_values.specs.Refusals.{Stands, Refuses}
use Rattle.cbor_values.specs.Values.{value_if, value_of, GivesValue}
use Rattle.cbor_values.specs.Reading.{item_at, whole_item, all_at}
use Rattle.cbor_values.specs.Returned.{ReturnsReading}
use Rattle.cbor_values.proofs.Steps.{bind_ok, ok_is, done, got}
use Rattle.cbor_values.proofs.Again.{item_again}
use Rattle.cbor_values.proofs.ItemTakes.{item_takes}
use Rattle.cbor_values.proofs.Refused.{all_refused}

nothing_left : (bytes : List ℕ) (value : Value) (rest : List ℕ) (v : Value) → IsBytes bytes → item_at 32 bytes ≡ got value rest
    → whole_item (value, rest) ≡ Ok v → Cbor bytes v × (depth_of v ≤ 32)
nothing_left bytes value [] v fits read e =
    let t = item_takes 32 bytes value [] fits read in
    let same : t.front ≡ bytes = sym (append-nil t.front) ∙ sym t.parts in
    subst (λ (w : Value). Cbor bytes w × (depth_of w ≤ 32)) (ok_is value v e)
    (subst (λ (b : List ℕ). Cbor b value) same t.is.0, t.is.1)
nothing_left bytes value (first ∷ rest) v fits read e = absurd cc

pub all_takes : (bytes : List ℕ) (v : Value) → IsBytes bytes → all_at bytes ≡ Ok v → Cbor bytes v × (depth_of v ≤ 32)
unfolding all_at
all_takes bytes v fits e =
    let b = bind_ok (item_at 32 bytes) whole_item v e in
    nothing_left bytes b.0.0 b.0.1 v fits b.1 b.2

pub all_again : (bytes : List ℕ) (v : Value) → Cbor bytes v → depth_of v ≤ 32 → all_at bytes ≡ Ok v
unfolding all_at
all_again bytes v cbor deep =
    let read : item_at 32 bytes ≡ got v [] = ap (item_at 32) (sym (append-nil bytes)) ∙ item_again 32 bytes v (cbor, deep) [] in
    rw read refl

-- ---- what a result says

pub is_found : (bytes : List ℕ) (r : Result Value CborRefusal) → IsBytes bytes → ReturnsReading (λ v. v) r (all_at bytes)
    → IfOk r (λ v. Cbor bytes v × (depth_of v ≤ 32))
is_found bytes (Ok v) fits reads = all_takes bytes v fits reads
is_found bytes (Err e) fits reads = tt

pub is_refused : (bytes : List ℕ) (r : Result Value CborRefusal) → IsBytes bytes → ReturnsReading (λ v. v) r (all_at bytes)
    → IfErr r (Refuses bytes)
is_refused bytes (Ok v) fits reads = tt
is_refused bytes (Err Cut) fits reads = all_refused bytes Cut fits reads
is_refused bytes (Err BadHead) fits reads = all_refused bytes BadHead fits reads
is_refused bytes (Err BadKey) fits reads = all_refused bytes BadKey fits reads
is_refused bytes (Err BadUtf8) fits reads = all_refused bytes BadUtf8 fits reads
is_refused bytes (Err OutOfRange) fits reads = all_refused bytes OutOfRange fits reads
is_refused bytes (Err TooDeep) fits reads = all_refused bytes TooDeep fits reads
is_refused bytes (Err Trailing) fits reads = all_refused bytes Trailing fits reads
is_refused bytes (Err (Memory error)) fits reads = tt

gives_value : (r reading : Result Value CborRefusal) → ReturnsReading (λ v. v) r reading → GivesValue r (value_if reading)
gives_value (Ok v) reading reads = ap value_if reads
gives_value (Err Cut) reading reads = ap value_if reads
gives_value (Err BadHead) reading reads = ap value_if reads
gives_value (Err BadKey) reading reads = ap value_if reads
gives_value (Err BadUtf8) reading reads = ap value_if reads
gives_value (Err OutOfRange) reading reads = ap value_if reads
gives_value (Err TooDeep) reading reads = ap value_if reads
gives_value (Err Trailing) reading reads = ap value_if reads
gives_value (Err (Memory error)) reading reads = tt

pub is_value : (bytes : List ℕ) (r : Result Value CborRefusal) → ReturnsReading (λ v. v) r (all_at bytes) → GivesValue r (value_of bytes)
unfolding value_of
is_value bytes r reads = gives_value r (all_at bytes) reads

-- ---- the value of bytes

pub value_again : (bytes : List ℕ) (v : Value) → Cbor bytes v → depth_of v ≤ 32 → value_of bytes ≡ Some v
unfolding value_of
value_again bytes v cbor deep = ap value_if (all_again bytes v cbor deep)

pub value_takes : (bytes : List ℕ) (v : Value) → IsBytes bytes → value_of bytes ≡ Some v → Cbor bytes v × (depth_of v ≤ 32)
unfolding value_of
value_takes bytes v fits e = go (all_at bytes) refl
  where
    go : (r : Result Value CborRefusal) → all_at bytes ≡ r → Cbor bytes v × (depth_of v ≤ 32)
    go (Ok w) is =
        let same : w ≡ v = same_Some w v (ap value_if (sym is) ∙ e) in
        all_takes bytes v fits (is ∙ ap done same)
    go (Err d) is = absurd (let clash : None ≡ Some v = ap value_if (sym is) ∙ e in cc)

-- bytes without a value have a refusal that applies
pub refusal_stands : (bytes : List ℕ) → IsBytes bytes → value_of bytes ≡ None → (e : CborRefusal) × Stands e bytes
unfolding value_of
refusal_stands bytes fits e = go (all_at bytes) refl
  where
    go : (r : Result Value CborRefusal) → all_at bytes ≡ r → (e : CborRefusal) × Stands e bytes
    go (Ok w) is = absurd (let clash : Some w ≡ None = ap value_if (sym is) ∙ e in cc)
    go (Err d) is = (d, all_refused bytes d fits is)

pub only_value : (bytes : List ℕ) (r : Result Value CborRefusal) (v : Value) → GivesValue r (value_of bytes) → Cbor bytes v → depth_of v ≤ 32
    → GivesValue r (Some v)
only_value bytes r v gives cbor deep = subst (λ (o : Option Value). GivesValue r o) (value_again bytes v cbor deep) gives
