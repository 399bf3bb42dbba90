-- The schema ids that are open for the types of a signal: used in private contracts.
use Rattle.std.specs.Prelude.{ℕ, ◌&&◌, not, Bool, List, map, Option, Some, if◌then◌else◌}
use Rattle.std.specs.List.{list_any}
use Rattle.std.specs.Ordering.{int_eq}
use Rattle.lists.specs.Payloads.{PayloadIn}
use Rattle.otlp_model.specs.declared.request.Signal.{Signal}
use Rattle.otap_cells.specs.declared.payload.Kind.{Kind}
use Rattle.otap_cells.specs.Payload.{kinds_of}
use Rattle.otap_columns.specs.Streams.{open_id}
use Rattle.otap_consume.specs.Defects.{is_open_id}
use Rattle.otap_consume.specs.Payloads.{payload_type_of}
use Rattle.otap_consume.specs.Streams.{StreamIn}
use Rattle.otap_consume.specs.StreamSteps.{schema_id_of}

pub record OpenIdIn : Type 0 where
  pub kind : Kind
  pub id : Option (List ℕ)

-- the ids that are open in streams, and after payloads
abbrev pub ids_of : List StreamIn → List OpenIdIn
ids_of streams = map (λ s. record { kind = s.kind; id = schema_id_of s }) streams

abbrev pub ids_after : Signal → List PayloadIn → List OpenIdIn
ids_after signal payloads = map (λ kind. record { kind = kind; id = open_id (payload_type_of kind) payloads }) (kinds_of signal)

-- the id that is open for another type is that of the payload
abbrev pub has_other_type : PayloadIn → OpenIdIn → Bool
has_other_type p x = not (int_eq p.kind (payload_type_of x.kind)) && is_open_id p.schema_id x.id

abbrev pub has_other : PayloadIn → List OpenIdIn → Bool
has_other p ids = list_any (has_other_type p) ids

-- the id of the payload is open for its type
abbrev pub with_open_id : PayloadIn → OpenIdIn → OpenIdIn
with_open_id p x = if int_eq p.kind (payload_type_of x.kind) then record { kind = x.kind; id = Some p.schema_id } else x
