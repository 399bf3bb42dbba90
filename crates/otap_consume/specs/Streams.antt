-- The sub-streams of the types of a signal, as a segment keeps them: of each type the open one, with its reader.
use Rattle.std.specs.Prelude.{◌≡◌, ⊤, ℕ, List, map, All, Option, Some, None}
use Rattle.lists.specs.Payloads.{PayloadIn}
use Rattle.otap_cells.specs.declared.payload.Kind.{Kind}
use Rattle.otap_columns.specs.Views.{ReaderIn, StandsForRecord, Shows}
use Rattle.otap_columns.specs.Streams.{last_of, stream_of}
use Rattle.otap_consume.specs.Payloads.{payload_type_of}

-- a sub-stream that is open: its schema id, and its reader
pub record OpenIn : Type 0 where
  pub schema_id : List ℕ
  pub reader : ReaderIn

pub record StreamIn : Type 0 where
  pub kind : Kind
  pub current : Option OpenIn

-- the sub-stream is that of the last payload of its type, and its reader has read to it
pub record IsReadTo (payloads : List PayloadIn) (kind : Kind) (last : PayloadIn) (current : OpenIn) : Type 0 where
  pub id : current.schema_id ≡ last.schema_id
  pub stands : StandsForRecord (stream_of (payload_type_of kind) payloads) last.bytes current.reader
  pub shows : Shows current.reader last.bytes

abbrev pub IsOpenAfter : List PayloadIn → Kind → Option PayloadIn → Option OpenIn → Type 0
IsOpenAfter payloads kind None None = ⊤
IsOpenAfter payloads kind None (Some current) = ⊥
IsOpenAfter payloads kind (Some last) None = ⊥
IsOpenAfter payloads kind (Some last) (Some current) = IsReadTo payloads kind last current

-- THE STREAM OF A TYPE AFTER PAYLOADS: no sub-stream is open where no payload of the type came before
pub record IsAfter (payloads : List PayloadIn) (s : StreamIn) : Type 0 where
  pub current : IsOpenAfter payloads s.kind (last_of (payload_type_of s.kind) payloads) s.current

abbrev pub AreAfter : List PayloadIn → List StreamIn → Type 0
AreAfter payloads streams = All (IsAfter payloads) streams

-- the open sub-stream shows the record of a payload
abbrev pub ShowsIf : Option OpenIn → List ℕ → Type 0
ShowsIf None bytes = ⊥
ShowsIf (Some current) bytes = Shows current.reader bytes

-- the sub-stream that is open shows the record of the last payload of its type among these
abbrev pub ShowsLast : Option PayloadIn → Option OpenIn → Type 0
ShowsLast None current = ⊤
ShowsLast (Some last) current = ShowsIf current last.bytes

abbrev pub ShowsAfter : List PayloadIn → StreamIn → Type 0
ShowsAfter payloads s = ShowsLast (last_of (payload_type_of s.kind) payloads) s.current

abbrev pub kinds_in : List StreamIn → List Kind
kinds_in streams = map (λ s. s.kind) streams
