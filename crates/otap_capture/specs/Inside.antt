-- The fields of `Frames` as callers see them.
use Rattle.std.specs.Prelude.{◌≤◌, ◌+◌, ℕ, List, length, slice_range, Some, None}
use Rattle.std.specs.declared.option.Option.{Option}
use Rattle.otap_capture.specs.declared.front.Flag.{Flag}
use Rattle.otap_capture.specs.declared.front.Flag.TheVariants as flags
use Rattle.otap_capture.specs.declared.frames.Frames.TheInside.{Inside}
use Rattle.otap_capture.specs.Buffering.{kept_in, IsInOrder}
use Rattle.otap_capture.specs.Capture.{Frame, Message, Packed, Reset}
use Rattle.otap_capture.specs.Deciding.{IsLean}
use Rattle.otap_capture.specs.Limits.{frame_head, longest_frame, capture_limit, most_held}
use Rattle.otap_capture.specs.Reading.{Reading}

-- a frame with that flag and these bytes
abbrev pub frame_in : Flag → List ℕ → Frame
frame_in flags.Message part = Message part
frame_in flags.Packed part = Packed
frame_in flags.Reset part = Reset

abbrev pub shown : Option Flag → List ℕ → Option Frame
shown None part = None
shown (Some f) part = Some (frame_in f part)

abbrev pub reading_of : Inside → Reading
reading_of s = record {
  handed = s.handed;
  kept = kept_in s.buffer;
  complete = s.complete;
  frame = shown s.last (slice_range s.buffer.bytes.items s.begin s.buffer.place);
  ended = s.ended;
  held = length s.buffer.bytes.items;
}

-- The bytes of the last frame are there, those that are kept are few, and no count comes near the end of its type.
pub record IsSound (s : Inside) : Type 0 where
  pub ordered : s.begin ≤ s.buffer.place
  pub order : IsInOrder s.buffer
  pub lean : IsLean (kept_in s.buffer)
  pub few : length s.buffer.bytes.items ≤ most_held
  pub below : s.handed ≤ capture_limit + longest_frame + frame_head
