-- The payload types of a batch: each is one of the signal's, and occurs once.
use Rattle.std.specs.Prelude.{◌≡◌, ℕ, ◌<◌, ◌≤◌, ℤ, List, ◌∷◌, ◌++◌, None, IsSome, count_by}
use Rattle.std.specs.List.{AllByRecursion}
use Rattle.std.specs.Ordering.{int_eq}
use Rattle.lists.specs.Payloads.{PayloadIn}
use Rattle.otlp_model.specs.declared.request.Signal.{Signal}
use Rattle.otap_cells.specs.Payload.{kind_numbered}
use Rattle.otap_consume.specs.declared.payload_types.TypesRefusal.{TypesRefusal}
use Rattle.otap_consume.specs.declared.payload_types.TypesRefusal.TheVariants.{PayloadType, PayloadTwice}

-- a payload of a batch
pub record HasPayload (payloads : List PayloadIn) (payload : PayloadIn) : Type 0 where
  pub before : List PayloadIn
  pub after : List PayloadIn
  pub is : payloads ≡ before ++ payload ∷ after

-- how many payloads have a type
abbrev pub times : ℤ → List PayloadIn → ℕ
times kind payloads = count_by (λ payload. int_eq payload.kind kind) payloads

abbrev pub IsDefectOfTypes : Signal → List PayloadIn → TypesRefusal → Type 0
IsDefectOfTypes signal payloads (PayloadType kind) =
    (payload : PayloadIn) × HasPayload payloads payload × (payload.kind ≡ kind) × (kind_numbered signal kind ≡ None)
IsDefectOfTypes signal payloads (PayloadTwice kind) = 1 < times kind payloads

-- none of these holds
pub record IsFineType (signal : Signal) (payloads : List PayloadIn) (payload : PayloadIn) : Type 0 where
  pub known : IsSome (kind_numbered signal payload.kind)
  pub once : times payload.kind payloads ≤ 1

abbrev pub HasFineTypes : Signal → List PayloadIn → Type 0
HasFineTypes signal payloads = AllByRecursion (IsFineType signal payloads) payloads
