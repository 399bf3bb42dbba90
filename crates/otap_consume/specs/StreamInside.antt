-- What a stream keeps, a reader of its kind that isn't broken: used in private contracts.
use Rattle.std.specs.Prelude.{◌≡◌, ⊤, false, Option, Some, None}
use Rattle.otap_cells.specs.declared.payload.Kind.{Kind}
use Rattle.otap_consume.specs.declared.stream.Substream.{Substream}
use Rattle.otap_consume.specs.declared.stream.Stream.TheInside as stream
use Rattle.otap_consume.specs.Streams.{OpenIn, StreamIn}

abbrev pub open_in : Option Substream → Option OpenIn
open_in None = None
open_in (Some current) = Some (record { schema_id = current.schema_id; reader = current.reader })

abbrev pub stream_in : stream.Inside → StreamIn
stream_in s = record { kind = s.kind; current = open_in s.current }

abbrev pub HasReader : Kind → Option Substream → Type 0
HasReader kind None = ⊤
HasReader kind (Some current) = (current.reader.kind ≡ kind) × (current.reader.broken ≡ false)

pub record IsStream (s : stream.Inside) : Type 0 where
  pub reader : HasReader s.kind s.current
