-- The value of bytes, the relation and the refusals agree.
use Rattle.std.proofs.Common.{◌≡◌, ℕ, ◌<◌, ◌≤◌, ◌↔◌, List, Option, Some, None, All, refl, true}
use Rattle.lists.proofs.AllBytes.{IsBytes, IsBytes-from_all}
use Rattle.otlp_model.specs.declared.value.Value.{Value}
use Rattle.otlp_model.specs.Depth.{depth_of}
use Rattle.otlp_model.specs.Real.{is_real_value}
use Rattle.cbor_values.specs.declared.refusal.CborRefusal.{CborRefusal}
use Rattle.cbor_values.specs.Cbor.{Cbor}
use Rattle.cbor_values.specs.Refusals.{Stands}
use Rattle.cbor_values.specs.Values.{value_of}
use Rattle.cbor_values.specs.Written.{cbor_of}
use Rattle.cbor_values.proofs.Whole.{value_again, value_takes, refusal_stands}
use Rattle.cbor_values.proofs.Excluded.{never_both}
use Rattle.cbor_values.proofs.WrittenLaws.{written_is}

pub value_told : (bytes : List ℕ) (v : Value) → All (λ byte. byte < 256) bytes
    → value_of bytes ≡ Some v ↔ (Cbor bytes v × (depth_of v ≤ 32))
value_told bytes v all = (λ e. value_takes bytes v (IsBytes-from_all bytes all) e, λ cbor. value_again bytes v cbor.0 cbor.1)

pub no_value : (bytes : List ℕ) → IsBytes bytes → (refusal : CborRefusal) → Stands refusal bytes
    → (found : Option Value) → value_of bytes ≡ found → found ≡ None
no_value bytes fits refusal stands None is = refl
no_value bytes fits refusal stands (Some v) is =
    let taken = value_takes bytes v fits is in
    absurd (never_both bytes v refusal fits taken.0 taken.1 stands)

pub refusal_told : (bytes : List ℕ) → All (λ byte. byte < 256) bytes
    → value_of bytes ≡ None ↔ ((refusal : CborRefusal) × Stands refusal bytes)
refusal_told bytes all =
    let fits = IsBytes-from_all bytes all in
    (refusal_stands bytes fits, λ some. no_value bytes fits some.0 some.1 (value_of bytes) refl)

pub written_again : (v : Value) → is_real_value v ≡ true → depth_of v ≤ 32 → value_of (cbor_of v) ≡ Some v
written_again v real deep = value_again (cbor_of v) v (written_is v real) deep
