-- Induction over values: what holds of a value if it holds of its members holds of each.
use Rattle.std.proofs.Common.{ℕ, List, map, subst, Bool}
use Rattle.std.specs.Prelude.{ℤ}
use Rattle.std.specs.List.{AllByRecursion}
use Rattle.lists.proofs.Every.{every_made}
use Rattle.otlp_model.specs.declared.value.Value.{Value, ind-Value, roll-Value, map-Value}
use Rattle.otlp_model.specs.declared.value.Value as values
use Rattle.otlp_model.specs.declared.value.Value.TheOpen.{Value-F}
use Rattle.otlp_model.specs.declared.value.Pair.{Pair}
use denote.Hole.Carrier.{roll}
use denote.Hole.Holds.{Such}

pub record Step (P : Value → Type 0) : Type 0 where
  pub empty : P values.Empty
  pub str : (text : List ℕ) → P (values.Str text)
  pub flag : (b : Bool) → P (values.Bool b)
  pub int : (z : ℤ) → P (values.Int z)
  pub double : (bits : ℕ) → P (values.Double bits)
  pub array : (members : List Value) → AllByRecursion P members → P (values.Array members)
  pub pairs : (pairs : List Pair) → AllByRecursion (λ pair. P pair.value) pairs → P (values.Map pairs)
  pub bytes : (octets : List ℕ) → P (values.Bytes octets)

-- a value or a pair, with what holds of it
abbrev SuchValue : (Value → Type 0) → Type 0
SuchValue P = Such values.TheBlock.the_family (values.TheFolds.claims P (λ pair. P pair.value)) values.TheBlock.member-Value

abbrev SuchPair : (Value → Type 0) → Type 0
SuchPair P = Such values.TheBlock.the_family (values.TheFolds.claims P (λ pair. P pair.value)) values.TheBlock.member-Pair

level : (P : Value → Type 0) → Step P → (y : Value-F (SuchValue P) (SuchPair P))
    → P (roll-Value (map-Value (SuchValue P) (SuchPair P) Value Pair (λ e. e.0) (λ e. e.0) y))
unfolding roll-Value roll
level P step Value-F.Empty = step.empty
level P step (Value-F.Str text) = step.str text
level P step (Value-F.Bool b) = step.flag b
level P step (Value-F.Int z) = step.int z
level P step (Value-F.Double bits) = step.double bits
level P step (Value-F.Array members) = step.array (map (λ e. e.0) members) (every_made P (λ e. e.0) members (λ e. e.1))
level P step (Value-F.Map pairs) = step.pairs (map (λ e. e.0) pairs) (every_made (λ pair. P pair.value) (λ e. e.0) pairs (λ e. e.1))
level P step (Value-F.Bytes octets) = step.bytes octets

pub holds : (P : Value → Type 0) → Step P → (value : Value) → P value
holds P step value = ind-Value P (λ pair. P pair.value)
    (λ x y e. subst (λ w. P (roll-Value w)) e (level P step y))
    (λ x y e. subst (λ w. P w.value) e y.value.1) value
