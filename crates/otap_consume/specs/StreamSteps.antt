-- What a stream makes of one payload, and what is asked of it: used in private contracts.
use Rattle.std.specs.Prelude.{◌≡◌, ⊤, ℕ, true, false, List, [], ◌∷◌, ◌++◌, Option, Some, None}
use Rattle.std.specs.Ordering.{int_eq}
use Rattle.lists.specs.Payloads.{PayloadIn}
use Rattle.otap_cells.specs.declared.payload.Kind.{Kind}
use Rattle.otap_columns.specs.declared.refusal.ColumnRefusal.{ColumnRefusal}
use Rattle.otap_columns.specs.declared.refusal.ColumnRefusal.TheVariants as refusal
use Rattle.otap_columns.specs.Records.{IsRead, Stands}
use Rattle.otap_columns.specs.Dictionaries.{held_weight}
use Rattle.otap_columns.specs.Views.{ReaderIn}
use Rattle.otap_consume.specs.Payloads.{payload_type_of, messages_before}
use Rattle.otap_consume.specs.Streams.{OpenIn, StreamIn, IsAfter, ShowsIf}

-- ---- one payload

-- a stream has taken a payload: one of another type it passes over
pub record Takes (old : StreamIn) (p : PayloadIn) (new : StreamIn) : Type 0 where
  pub kind : new.kind ≡ old.kind
  pub other : int_eq p.kind (payload_type_of old.kind) ≡ false → new ≡ old
  pub shows : int_eq p.kind (payload_type_of old.kind) ≡ true → ShowsIf new.current p.bytes
  pub reads : (past : List PayloadIn) → IsAfter past old → int_eq p.kind (payload_type_of old.kind) ≡ true → IsRead old.kind (messages_before past p) p.bytes
  pub after : (past : List PayloadIn) → IsAfter past old → IsAfter (past ++ p ∷ []) new

-- or the stream has found a defect in the payload
abbrev pub RefusesFor : List PayloadIn → Kind → PayloadIn → ColumnRefusal → Type 0
RefusesFor past kind p (refusal.Memory e) = ⊤
RefusesFor past kind p refusal = int_eq p.kind (payload_type_of kind) ≡ true × Stands kind (messages_before past p) p.bytes refusal

abbrev pub DoesNotTake : StreamIn → PayloadIn → ColumnRefusal → Type 0
DoesNotTake old p refusal = (past : List PayloadIn) → IsAfter past old → RefusesFor past old.kind p refusal

-- ---- what is asked of a stream

abbrev pub id_if : Option OpenIn → Option (List ℕ)
id_if None = None
id_if (Some current) = Some current.schema_id

-- the schema id of the sub-stream that is open
abbrev pub schema_id_of : StreamIn → Option (List ℕ)
schema_id_of s = id_if s.current

abbrev pub reader_if : Option OpenIn → Option ReaderIn
reader_if None = None
reader_if (Some current) = Some current.reader

abbrev pub reader_of : StreamIn → Option ReaderIn
reader_of s = reader_if s.current

-- what its dictionaries hold
abbrev pub held_if : Option OpenIn → ℕ
held_if None = 0
held_if (Some current) = held_weight current.reader.substream.dictionaries

abbrev pub held_of : StreamIn → ℕ
held_of s = held_if s.current

-- the stream of a kind, with no open sub-stream
abbrev pub closed : StreamIn → StreamIn
closed s = record { kind = s.kind; current = None }
