-- The buffer of a reader, in the words of private contracts.
use Rattle.std.specs.Prelude.{◌≡◌, ℕ, ◌≤◌, List, length, take, drop}
use Rattle.std.specs.declared.option.Option.{Option}
use Rattle.std.specs.declared.result.Result.{Result}
use Rattle.std.specs.declared.result.Result.TheVariants.{Ok, Err}
use Rattle.std.specs.Io.KnownBytes.{Consumes, Keeps, IsAtEnd}
use Rattle.otap_capture.specs.declared.buffer.Buffer.{Buffer}
use Rattle.otap_capture.specs.declared.outside.ReadFailed.{ReadFailed}
use Rattle.otap_capture.specs.Limits.{read_ahead}

-- the bytes that are kept: those that are filled, from the place on
abbrev pub kept_in : Buffer → List ℕ
kept_in b = drop b.place (take b.filled b.bytes.items)

pub record IsInOrder (b : Buffer) : Type 0 where
  pub ordered : b.place ≤ b.filled
  pub within : b.filled ≤ length b.bytes.items

-- what is filled stays, at its offsets, and the buffer gets no shorter
pub record KeepsPlaces (old new : Buffer) : Type 0 where
  pub place : new.place ≡ old.place
  pub filled : new.filled ≡ old.filled
  pub bytes : take old.filled new.bytes.items ≡ take old.filled old.bytes.items
  pub no_shorter : length old.bytes.items ≤ length new.bytes.items

-- a read filled the front of these bytes
pub record FillsFront (bytes : List ℕ) (before after : Option (List ℕ)) (count : ℕ) : Type 0 where
  pub taken : Consumes before after (take count bytes)
  pub few : count ≤ read_ahead
  pub there : count ≤ length bytes
  pub ends : count ≡ 0 → IsAtEnd after

-- a read that fills the front of these bytes, or fails and takes nothing
abbrev pub ReadsBehind : List ℕ → Option (List ℕ) → Option (List ℕ) → Result ℕ ReadFailed → Type 0
ReadsBehind bytes before after (Ok count) = FillsFront bytes before after count
ReadsBehind bytes before after (Err e) = Keeps before after
