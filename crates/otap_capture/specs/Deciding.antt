-- Whether the bytes at an offset decide what is there, whatever comes after them.
use Rattle.std.specs.Prelude.{◌≡◌, ◌⊎◌, ℕ, ◌<◌, ◌≤◌, List, [], ◌++◌, length, Some}
use Rattle.otap_capture.specs.declared.frame.Why.TheVariants.{Truncated}
use Rattle.otap_capture.specs.Limits.{capture_limit, read_ahead}
use Rattle.otap_capture.specs.Capture.{front_reason}

-- no byte, a part of a head, or fewer bytes than a head says
abbrev pub IsShort : List ℕ → Type 0
IsShort bytes = (bytes ≡ []) ⊎ (front_reason bytes ≡ Some Truncated)

-- What is at this offset isn't decided by the bytes that are there: more of them change it.
abbrev pub IsOpen : ℕ → List ℕ → Type 0
IsOpen place bytes = (place < capture_limit) × IsShort bytes

-- All of the bytes but the last few, read_ahead at most, are short: the bytes of one frame, and few more.
pub record IsLean (bytes : List ℕ) : Type 0 where
  pub front : List ℕ
  pub rest : List ℕ
  pub whole : bytes ≡ front ++ rest
  pub short : IsShort front
  pub few : length rest ≤ read_ahead
