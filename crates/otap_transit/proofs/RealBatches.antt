-- A batch message is one that a program holds: its id fits 64 bits.
use Rattle.std.proofs.Common.{ℕ, ◌^◌, ◌<◌, List, [], ◌∷◌, ℤ, pos, inl, inr, arith}
use Rattle.std.specs.Prelude.{⊤, FitsSigned, fold, Option, ◌==◌}
use Rattle.std.specs.List.{AllByRecursion}
use Rattle.std.specs.Int.{w64}
use Rattle.std.proofs.lemmas.Bool.{cases_Bool}
use Rattle.std.proofs.Math.Facts.{sfits_to_z}
use Rattle.otlp_wire.specs.declared.parts.WireError.{WireError}
use Rattle.otlp_wire.specs.Fields.{fields_of, end_of}
use Rattle.otlp_wire.specs.Reading.{Reads}
use Rattle.otlp_wire.specs.Wire as wire
use Rattle.otlp_wire.specs.Wire.{FieldValue, Entry, IsValue, IsField}
use Rattle.otlp_wire.proofs.FieldsOf.{fields_of-reads}
use Rattle.otlp_wire.proofs.Sevens.{varint_below}
use Rattle.otlp_messages.specs.Rows.{only, int64_in}
use Rattle.otap_capture.specs.Batch.{batch_content}

-- a varint that is read fits 64 bits
abbrev Fits : FieldValue → Type 0
Fits (wire.Varint n) = n < 2 ^ 64
Fits value = ⊤

value_fits : (bytes : List ℕ) (v : FieldValue) → IsValue bytes v → Fits v
value_fits bytes (wire.Varint n) is = varint_below bytes n is
value_fits bytes (wire.Fixed64 n) is = tt
value_fits bytes (wire.Bytes part) is = tt
value_fits bytes (wire.Fixed32 n) is = tt

all_fit : (fs : List Entry) (bytes : List ℕ) (end : Option WireError) → Reads bytes fs end → AllByRecursion (λ f. Fits f.value) fs
all_fit [] bytes end reads = tt
all_fit (f ∷ fs) bytes end reads =
    let field : IsField reads.1.0 f = reads.1.2 in
    (value_fits field.value f.value field.is_value, all_fit fs reads.0 end reads.2)

only_fit : (n : ℕ) (fs : List Entry) → AllByRecursion (λ f. Fits f.value) fs → AllByRecursion Fits (only n fs)
only_fit n [] all = tt
only_fit n (f ∷ fs) all =
    elim (cases_Bool (f.number == n)) [
      | inl own ↦ rw own (all.0, only_fit n fs all.1)
      | inr other ↦ rw other (only_fit n fs all.1)
    ]

-- so a number that is said fits
said_fits : (vs : List FieldValue) (old : ℤ) → AllByRecursion Fits vs → FitsSigned w64 old → FitsSigned w64 (fold int64_in old vs)
said_fits [] old all fits = fits
said_fits (wire.Varint n ∷ vs) old all fits = said_fits vs (int64_in old (wire.Varint n)) all.1 (sfits_to_z {w = w64} (record { fits = all.0 }))
said_fits (wire.Fixed64 n ∷ vs) old all fits = said_fits vs old all.1 fits
said_fits (wire.Bytes part ∷ vs) old all fits = said_fits vs old all.1 fits
said_fits (wire.Fixed32 n ∷ vs) old all fits = said_fits vs old all.1 fits

pub id_fits : (message : List ℕ) → FitsSigned w64 (batch_content message).id
id_fits message =
    said_fits (only 1 (fields_of message)) (pos 0) (only_fit 1 (fields_of message) (all_fit (fields_of message) message (end_of message) (fields_of-reads message)))
    (record { sfits = omega arith })
