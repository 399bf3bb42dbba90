use Rattle.std.proofs.Common.{◌≡◌, [], pos}
use Rattle.std.specs.Prelude.{fold}
use Rattle.otlp_wire.specs.Fields.{fields_of}
use Rattle.otlp_messages.specs.Rows.{only, said, bytes_in, int32_in}
use Rattle.otap_capture.proofs.batch.parts_of.Given as goal

abbrev pub invariant-fields : goal.invariant-fields
invariant-fields l = record {
  schema_id : fold bytes_in l.parts.schema_id.now (only 1 (fields_of l.next-iterator)) ≡ said 1 bytes_in [] l.part;
  kind : fold int32_in l.parts.kind (only 2 (fields_of l.next-iterator)) ≡ said 2 int32_in (pos 0) l.part;
  bytes : fold bytes_in l.parts.bytes.now (only 3 (fields_of l.next-iterator)) ≡ said 3 bytes_in [] l.part;
}
