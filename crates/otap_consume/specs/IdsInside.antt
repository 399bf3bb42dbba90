-- What the open schema ids are kept as: used in private contracts.
use Rattle.std.specs.Prelude.{ℕ, List, map, Option, None, Some, option_map}
use Rattle.otap_consume.specs.declared.ids.OpenId.{OpenId}
use Rattle.otap_consume.specs.declared.ids.OpenIds.TheInside as ids
use Rattle.otap_consume.specs.Ids.{OpenIdIn}
use Rattle.otap_consume.specs.StreamSteps.{schema_id_of}

abbrev pub id_here : Option (List ℕ) → Option (List ℕ) → Option (List ℕ)
id_here None before = before
id_here (Some id) before = Some id

abbrev pub open_id_in : OpenId → OpenIdIn
open_id_in x = record { kind = x.stream.now.kind; id = id_here (option_map (λ id. id.now) x.here) (schema_id_of x.stream.now) }

abbrev pub open_ids : ids.Inside → List OpenIdIn
open_ids s = map open_id_in s.ids.items
