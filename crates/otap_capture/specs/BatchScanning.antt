-- Words of private contracts: what a reader knows of a batch while it looks at its fields one by one, and the fields of a payload that is written.
use Rattle.std.specs.Prelude.{◌≡◌, ◌⊎◌, ⊤, ◌+◌, ◌||◌, ◌==◌, Bool, true, false, cond, is_some, length, ℕ, List, if◌then◌else◌, Option, Some, None, ℤ, ◌++◌}
use Rattle.otlp_wire.specs.Wire.{Entry, FieldValue, Bytes}
use Rattle.otlp_messages.specs.declared.messages.Message.TheVariants.{BatchArrowRecords}
use Rattle.otlp_messages.specs.declared.messages.Defect.{Defect}
use Rattle.otlp_messages.specs.declared.messages.Defect.TheVariants as defects
use Rattle.otlp_messages.specs.Table.{kind_of}
use Rattle.otlp_messages.specs.Rows.{at, int64_in}
use Rattle.otlp_messages.specs.Canon.{canon_row, bytes_row, signed_row}
use Rattle.otlp_messages.specs.Inside.{ValueStands}
use Rattle.otap_capture.specs.declared.batch.BatchRefusal.{BatchRefusal}
use Rattle.otap_capture.specs.declared.batch.BatchRefusal.TheVariants.{Repeated}
use Rattle.otap_capture.specs.declared.batch.Scan.{Scan}
use Rattle.otap_capture.specs.Batch.{BatchContent, defect_of}

-- what was found is what the batch says
abbrev pub Says : BatchContent → Scan → Type 0
Says batch scan = (scan.id ≡ batch.id) × (scan.count ≡ length batch.payloads)

-- the message in a field, where the field has this number
abbrev pub part_in : FieldValue → Option (List ℕ)
part_in (Bytes part) = Some part
part_in value = None

abbrev pub numbered_part : ℕ → Entry → Option (List ℕ)
numbered_part n f = if f.number == n then part_in f.value else None

-- one more field is looked at
pub record SaysMore (old new : Scan) (f : Entry) : Type 0 where
  pub once : f.number ≡ 1 → old.seen ≡ false
  pub seen : new.seen ≡ (old.seen || f.number == 1)
  pub id : new.id ≡ at 1 int64_in old.id f
  pub count : new.count ≡ old.count + cond (is_some (numbered_part 2 f)) 1 0

-- a defect is in the field, or the id occurs again
abbrev pub FieldFaults : Bool → Entry → BatchRefusal → Type 0
FieldFaults seen f refusal = ValueStands (kind_of BatchArrowRecords f.number) 0 f.value (defect_of refusal) ⊎ ((refusal ≡ Repeated) × (seen ≡ true) × (f.number ≡ 1))

-- the defects that can be in a batch message
abbrev pub IsOfBatch : Defect → Type 0
IsOfBatch defects.BadMessage = ⊤
IsOfBatch defects.Repeated = ⊤
IsOfBatch defects.BadUtf8 = ⊤
IsOfBatch defect = ⊥

-- the fields of a payload, one after the other
abbrev pub fields_of_payload : List ℕ → ℤ → List ℕ → List ℕ
fields_of_payload schema_id kind bytes = canon_row 1 (bytes_row schema_id) ++ (canon_row 2 (signed_row kind) ++ canon_row 3 (bytes_row bytes))
