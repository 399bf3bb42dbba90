-- What a source and a sink of bytes return, and when they may fail.
use Rattle.std.specs.Prelude.{◌≡◌, ◌≢◌, ℕ, ◌-◌, ◌^◌, ◌<◌, ◌≤◌, List, ◌++◌, length, ⊤, Some, None}
use Rattle.std.specs.declared.option.Option.{Option}
use Rattle.std.specs.declared.result.Result.{Result}
use Rattle.std.specs.declared.result.Result.TheVariants.{Ok, Err}
use Rattle.std.specs.Io.KnownBytes.{Appends, Keeps}
use Rattle.otap_capture.specs.declared.outside.SinkRefusal.{SinkRefusal}
use Rattle.otap_capture.specs.declared.outside.SinkRefusal.TheVariants.{Failed, Memory}

-- A count of faults rose: it is greater than it was, unless it was the last value of a u64. It never falls.
pub record Rose (before now : ℕ) : Type 0 where
  pub later : before ≤ now
  pub greater : before ≢ 2 ^ 64 - 1 → before < now

-- a call's count of faults: it rises where the call fails, and is the same elsewhere
abbrev pub Counts : {T E : Type 0} → ℕ → ℕ → Result T E → Type 0
Counts before now (Ok x) = now ≡ before
Counts before now (Err e) = Rose before now

-- a refusal by a sink: running out of memory is no fault
abbrev pub RefusalCounts : ℕ → ℕ → SinkRefusal → Type 0
RefusalCounts before now Failed = Rose before now
RefusalCounts before now (Memory e) = now ≡ before

abbrev pub SinkCounts : {T : Type 0} → ℕ → ℕ → Result T SinkRefusal → Type 0
SinkCounts before now (Ok x) = now ≡ before
SinkCounts before now (Err refusal) = RefusalCounts before now refusal

-- a write of n bytes of a part: to take none of a part that isn't empty is a fault
pub record TookCounts (before now n : ℕ) (part : List ℕ) : Type 0 where
  pub none : n ≡ 0 → 0 < length part → Rose before now
  pub some : 0 < n → now ≡ before
  pub nothing : length part ≡ 0 → now ≡ before

abbrev pub WriteCounts : ℕ → ℕ → Result ℕ SinkRefusal → List ℕ → Type 0
WriteCounts before now (Ok n) part = TookCounts before now n part
WriteCounts before now (Err refusal) part = RefusalCounts before now refusal

-- a flush passes on all that is written, and a failed one nothing
abbrev pub FlushPasses : {E : Type 0} → Option (List ℕ) → Option (List ℕ) → Option (List ℕ) → Result (Unit {0}) E → Type 0
FlushPasses old new written (Ok x) = new ≡ written
FlushPasses old new written (Err e) = Keeps old new

-- what is passed on is a front of what is written, and is known where that is
abbrev pub IsFront : Option (List ℕ) → Option (List ℕ) → Type 0
IsFront None None = ⊤
IsFront None (Some whole) = ⊥
IsFront (Some front) None = ⊥
IsFront (Some front) (Some whole) = (rest : List ℕ) × (whole ≡ front ++ rest)

-- known bytes grow by a front of the text
pub record AppendsFront (old new : Option (List ℕ)) (text : List ℕ) : Type 0 where
  pub front : List ℕ
  pub rest : List ℕ
  pub whole : text ≡ front ++ rest
  pub grown : Appends old new front
