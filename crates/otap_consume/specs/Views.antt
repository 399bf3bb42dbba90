-- The views of the records of a batch: used in private contracts.
use Rattle.std.specs.Prelude.{◌≡◌, ℤ, Bool, List, Option, Some, None, find}
use Rattle.std.specs.List.{AllZip}
use Rattle.std.specs.Ordering.{int_eq}
use Rattle.lists.specs.Payloads.{PayloadIn}
use Rattle.otlp_model.specs.declared.request.Signal.{Signal}
use Rattle.otap_cells.specs.Payload.{kinds_of, kind_numbered}
use Rattle.otap_cells.specs.Tables.{Table}
use Rattle.otap_columns.specs.Substreams.{logical}
use Rattle.otap_columns.specs.Streams.{last_of, stream_of}
use Rattle.otap_consume.specs.Payloads.{payload_type_of}
use Rattle.otap_consume.specs.Streams.{StreamIn, AreAfter, ShowsIf, kinds_in}

-- the stream of a type shows the record of a payload
abbrev pub ShownBy : Option StreamIn → PayloadIn → Type 0
ShownBy None p = ⊥
ShownBy (Some s) p = ShowsIf s.current p.bytes

abbrev pub is_stream_of : ℤ → StreamIn → Bool
is_stream_of type s = int_eq type (payload_type_of s.kind)

abbrev pub Shown : List StreamIn → PayloadIn → Type 0
Shown streams p = ShownBy (find (is_stream_of p.kind) streams) p

-- a table is that of a payload, wherever the payload is the last one of its type
pub record IsViewOf (streams : List StreamIn) (p : PayloadIn) (table : Table) : Type 0 where
  pub type : payload_type_of table.kind ≡ p.kind
  pub known : (signal : Signal) → kinds_in streams ≡ kinds_of signal → kind_numbered signal p.kind ≡ Some table.kind
  pub shows : (payloads : List PayloadIn) → AreAfter payloads streams → last_of p.kind payloads ≡ Some p
      → logical table.kind (stream_of p.kind payloads) ≡ Some table

-- each of these tables is that of its payload
abbrev pub AreViewsOf : List StreamIn → List PayloadIn → List Table → Type 0
AreViewsOf streams payloads tables = AllZip (IsViewOf streams) payloads tables
