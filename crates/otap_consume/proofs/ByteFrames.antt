-- The payloads of a batch are bytes where its message is.
use Rattle.std.proofs.Common.{◌+◌, ℕ, zero, suc, List, [], ◌∷◌, take, drop, length, Ok, Err, IfOk, sym, subst}
use Rattle.std.specs.Prelude.{nat_lt, ◌==◌, ◌/◌, ◌%◌, ◌&&◌, filter, fold, if◌then◌else◌, slice_index}
use Rattle.std.specs.List.{AllByRecursion}
use Rattle.lists.proofs.AllBytes.{IsBytes, IsBytes-nil, IsBytes-drop, IsBytes-take}
use Rattle.otlp_wire.specs.declared.parts.WireError.{WireError}
use Rattle.otlp_wire.specs.declared.parts.WireError.TheVariants.{Cut, BadVarint, BadTag}
use Rattle.otlp_wire.specs.Limits.{number_limit}
use Rattle.otlp_wire.specs.Fields.{WireRead, going_on, first_varint, as_varint, as_part, as_fixed, first_value, with_number, after_tag, first_field, and_then, reading_in, fields_of}
use Rattle.otlp_wire.specs.Varint.{sevens}
use Rattle.otlp_wire.specs.Wire.{FieldValue, Varint, Fixed64, Fixed32, Entry}
use Rattle.otlp_wire.specs.Wire as wire
use Rattle.otlp_messages.specs.Rows.{only, bytes_in, parts_of}
use Rattle.otap_capture.specs.Batch.{BatchContent, ReadsBatch, payload_in}
use Rattle.otap_consume.proofs.ByteLists.{each_filter, each_map, either_or, ok_or}
use Rattle.otap_consume.proofs.ByteTables.{PayloadBytes}

abbrev FieldBytes : FieldValue → Type 0
FieldBytes (Varint n) = Unit {0}
FieldBytes (Fixed64 n) = Unit {0}
FieldBytes (wire.Bytes part) = IsBytes part
FieldBytes (Fixed32 n) = Unit {0}

abbrev EntryBytes : Entry → Type 0
EntryBytes f = FieldBytes f.value

-- what is taken off, and what is left
abbrev NumberTaken : ℕ × List ℕ → Type 0
NumberTaken x = IsBytes x.1

abbrev ValueTaken : FieldValue × List ℕ → Type 0
ValueTaken x = FieldBytes x.0 × IsBytes x.1

abbrev EntryTaken : Entry × List ℕ → Type 0
EntryTaken x = EntryBytes x.0 × IsBytes x.1

varint_bytes : (bytes : List ℕ) → IsBytes bytes → IfOk (first_varint bytes) NumberTaken
unfolding first_varint
varint_bytes bytes fits =
    ok_or NumberTaken (nat_lt 8 (going_on bytes) && nat_lt 1 (slice_index bytes 9)) BadVarint
    (if nat_lt (going_on bytes) (length bytes) then Ok (sevens (take (going_on bytes + 1) bytes), drop (going_on bytes + 1) bytes) else Err Cut)
    (either_or NumberTaken (nat_lt (going_on bytes) (length bytes)) (Ok (sevens (take (going_on bytes + 1) bytes), drop (going_on bytes + 1) bytes)) (Err Cut)
    (IsBytes-drop (going_on bytes + 1) bytes fits) tt)

taken_ok : (value : FieldValue) (rest : List ℕ) → FieldBytes value → IsBytes rest → IfOk {E = WireError} (Ok (value, rest)) ValueTaken
taken_ok value rest own left = (own, left)

as_varint_bytes : (r : WireRead ℕ) → IfOk r NumberTaken → IfOk (as_varint r) ValueTaken
as_varint_bytes (Ok x) fits = (tt, fits)
as_varint_bytes (Err e) fits = tt

as_part_bytes : (r : WireRead ℕ) → IfOk r NumberTaken → IfOk (as_part r) ValueTaken
as_part_bytes (Ok x) fits = ok_or ValueTaken (nat_lt (length x.1) x.0) Cut _ (taken_ok (wire.Bytes (take x.0 x.1)) (drop x.0 x.1) (IsBytes-take x.0 x.1 fits) (IsBytes-drop x.0 x.1 fits))
as_part_bytes (Err e) fits = tt

as_fixed_bytes : (size : ℕ) (value : ℕ → FieldValue) (bytes : List ℕ) → ((n : ℕ) → FieldBytes (value n)) → IsBytes bytes → IfOk (as_fixed size value bytes) ValueTaken
as_fixed_bytes size value bytes plain fits = ok_or ValueTaken (nat_lt (length bytes) size) Cut _ (taken_ok _ (drop size bytes) (plain _) (IsBytes-drop size bytes fits))

value_taken : (t : ℕ) (bytes : List ℕ) → IsBytes bytes → IfOk (first_value t bytes) ValueTaken
value_taken t bytes fits =
    either_or ValueTaken (t == 0) _ _ (as_varint_bytes (first_varint bytes) (varint_bytes bytes fits))
    (either_or ValueTaken (t == 1) _ _ (as_fixed_bytes 8 (λ n. Fixed64 n) bytes (λ n. tt) fits)
    (either_or ValueTaken (t == 2) _ _ (as_part_bytes (first_varint bytes) (varint_bytes bytes fits))
    (either_or ValueTaken (t == 5) _ _ (as_fixed_bytes 4 (λ n. Fixed32 n) bytes (λ n. tt) fits) tt)))

numbered_bytes : (n : ℕ) (r : WireRead FieldValue) → IfOk r ValueTaken → IfOk (with_number n r) EntryTaken
numbered_bytes n (Ok x) fits = fits
numbered_bytes n (Err e) fits = tt

tag_bytes : (r : WireRead ℕ) → IfOk r NumberTaken → IfOk (after_tag r) EntryTaken
tag_bytes (Ok x) fits =
    either_or EntryTaken (nat_lt 0 (x.0 / 8) && nat_lt (x.0 / 8) number_limit) (with_number (x.0 / 8) (first_value (x.0 % 8) x.1)) (Err BadTag)
    (numbered_bytes (x.0 / 8) (first_value (x.0 % 8) x.1) (value_taken (x.0 % 8) x.1 fits)) tt
tag_bytes (Err e) fits = tt

field_taken : (bytes : List ℕ) → IsBytes bytes → IfOk (first_field bytes) EntryTaken
unfolding first_field
field_taken bytes fits = tag_bytes (first_varint bytes) (varint_bytes bytes fits)

reading_bytes : (most : ℕ) (bytes : List ℕ) → IsBytes bytes → AllByRecursion EntryBytes (reading_in most bytes).fields
reading_bytes zero [] fits = tt
reading_bytes (suc most) [] fits = tt
reading_bytes zero (byte ∷ bytes) fits = tt
reading_bytes (suc most) (byte ∷ bytes) fits = go_on (first_field (byte ∷ bytes)) (field_taken (byte ∷ bytes) fits) (λ rest own. reading_bytes most rest own)
  where
    go_on : (r : WireRead Entry) → IfOk r EntryTaken → ((rest : List ℕ) → IsBytes rest → AllByRecursion EntryBytes (reading_in most rest).fields)
        → AllByRecursion EntryBytes (and_then (λ rest. reading_in most rest) r).fields
    go_on (Ok x) taken again = (taken.0, again x.1 taken.1)
    go_on (Err e) taken again = tt

fields_bytes : (bytes : List ℕ) → IsBytes bytes → AllByRecursion EntryBytes (fields_of bytes)
unfolding fields_of
fields_bytes bytes fits = reading_bytes (length bytes) bytes fits

only_bytes : (n : ℕ) (bytes : List ℕ) → IsBytes bytes → AllByRecursion FieldBytes (only n (fields_of bytes))
only_bytes n bytes fits =
    each_map EntryBytes FieldBytes (λ f. f.value) (λ f own. own) (filter (λ f. f.number == n) (fields_of bytes)) (each_filter EntryBytes (λ f. f.number == n) (fields_of bytes) (fields_bytes bytes fits))

said_bytes : (before : List ℕ) (values : List FieldValue) → IsBytes before → AllByRecursion FieldBytes values → IsBytes (fold bytes_in before values)
said_bytes before [] fits each = fits
said_bytes before (Varint n ∷ values) fits each = said_bytes before values fits each.1
said_bytes before (Fixed64 n ∷ values) fits each = said_bytes before values fits each.1
said_bytes before (wire.Bytes part ∷ values) fits each = said_bytes part values each.0 each.1
said_bytes before (Fixed32 n ∷ values) fits each = said_bytes before values fits each.1

payload_bytes : (part : List ℕ) → IsBytes part → PayloadBytes (payload_in part)
payload_bytes part fits = said_bytes [] (only 3 (fields_of part)) IsBytes-nil (only_bytes 3 part fits)

parts_bytes : (values : List FieldValue) → AllByRecursion FieldBytes values → AllByRecursion IsBytes (parts_of values)
parts_bytes [] each = tt
parts_bytes (Varint n ∷ values) each = parts_bytes values each.1
parts_bytes (Fixed64 n ∷ values) each = parts_bytes values each.1
parts_bytes (wire.Bytes part ∷ values) each = (each.0, parts_bytes values each.1)
parts_bytes (Fixed32 n ∷ values) each = parts_bytes values each.1

pub payloads_bytes : (bytes : List ℕ) (batch : BatchContent) → IsBytes bytes → ReadsBatch bytes batch → AllByRecursion PayloadBytes batch.payloads
payloads_bytes bytes batch fits reads =
    subst (λ (b : BatchContent). AllByRecursion PayloadBytes b.payloads) (sym reads.1)
    (each_map IsBytes PayloadBytes payload_in payload_bytes (parts_of (only 2 (fields_of bytes))) (parts_bytes (only 2 (fields_of bytes)) (only_bytes 2 bytes fits)))
