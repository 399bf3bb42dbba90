-- Sources and sinks in memory: what each call does by its number.
use Rattle.std.specs.Prelude.{◌≡◌, ℕ, ◌+◌, ◌-◌, ◌^◌, min, Bool, true, false, List, ◌++◌, length, drop, slice_get, Some, None, nat_eq}
use Rattle.std.specs.List.{list_any}
use Rattle.std.specs.declared.option.Option.{Option}
use Rattle.std.specs.declared.result.Result.{Result}
use Rattle.std.specs.declared.result.Result.TheVariants.{Ok, Err}
use Rattle.otap_capture.specs.declared.outside.ReadFailed.{ReadFailed}
use Rattle.otap_capture.specs.declared.outside.SinkRefusal.{SinkRefusal}
use Rattle.otap_capture.specs.declared.outside.SinkRefusal.TheVariants.{Failed, Memory}

-- a sink in memory: the bytes written, and how many of them are passed on
pub record SinkIn : Type 0 where
  pub bytes : List ℕ
  pub passed : ℕ

-- The calls that fail, by their numbers, and those made so far.
pub record Calls : Type 0 where
  pub failing : List ℕ
  pub made : ℕ
  pub faults : ℕ

-- one more, up to the last value of a u64
abbrev pub next : ℕ → ℕ
next n = min (n + 1) (2 ^ 64 - 1)

abbrev pub fails : Calls → Bool
fails calls = list_any (λ number. nat_eq number calls.made) calls.failing

abbrev pub called : Calls → Calls
called calls = record calls { made = next calls.made }

abbrev pub failed : Calls → Calls
failed calls = record calls { made = next calls.made; faults = next calls.faults }

-- a source in memory: the bytes left, and how many each call gives at most
pub record Supply : Type 0 where
  pub left : List ℕ
  pub pieces : List ℕ
  pub calls : Calls

-- as many bytes as the room takes, but no more than the piece of this call
abbrev pub size_in : Option ℕ → ℕ → ℕ
size_in None room = room
size_in (Some piece) room = min piece room

abbrev pub bytes_given : Supply → ℕ → ℕ
bytes_given supply room = min (length supply.left) (size_in (slice_get supply.pieces supply.calls.made) room)

abbrev pub ReadsByNumber : Supply → Supply → Result ℕ ReadFailed → ℕ → Type 0
ReadsByNumber old new (Ok count) room = (fails old.calls ≡ false) × (count ≡ bytes_given old room)
    × (new ≡ record { left = drop count old.left; pieces = old.pieces; calls = called old.calls })
ReadsByNumber old new (Err e) room = (fails old.calls ≡ true) × (new ≡ record old { calls = failed old.calls })

-- a sink in memory whose calls fail by their numbers, writes and flushes counted together
pub record Store : Type 0 where
  pub bytes : List ℕ
  pub passed : ℕ
  pub calls : Calls

-- a refused call leaves what was written
abbrev pub RefusesByNumber : Store → Store → SinkRefusal → Type 0
RefusesByNumber old new Failed = (fails old.calls ≡ true) × (new ≡ record old { calls = failed old.calls })
RefusesByNumber old new (Memory e) = (fails old.calls ≡ false) × (new ≡ record old { calls = called old.calls })

abbrev pub WritesByNumber : Store → Store → Result ℕ SinkRefusal → List ℕ → Type 0
WritesByNumber old new (Ok count) part = (fails old.calls ≡ false) × (count ≡ length part)
    × (new ≡ record { bytes = old.bytes ++ part; passed = old.passed; calls = called old.calls })
WritesByNumber old new (Err refusal) part = RefusesByNumber old new refusal

abbrev pub FlushesByNumber : Store → Store → Result (Unit {0}) SinkRefusal → Type 0
FlushesByNumber old new (Ok x) = (fails old.calls ≡ false)
    × (new ≡ record { bytes = old.bytes; passed = length old.bytes; calls = called old.calls })
FlushesByNumber old new (Err refusal) = RefusesByNumber old new refusal
