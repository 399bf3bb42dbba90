-- How long frames and captures may be, and how much a reader holds.
use Rattle.std.specs.Prelude.{ℕ, ◌+◌, ◌*◌, ◌^◌}

-- the flag and the length before the bytes of a frame are this many bytes
abbrev pub frame_head : ℕ
frame_head = 5

-- the bytes of a frame after its head are at most this many
abbrev pub longest_frame : ℕ
longest_frame = 2 ^ 29

-- each frame of a capture begins below this offset
abbrev pub capture_limit : ℕ
capture_limit = 2 ^ 40

-- a reader takes at most this many bytes at a time
abbrev pub read_ahead : ℕ
read_ahead = 65536

-- and its buffer, with what was handed out and room for reads, has at most this many bytes
abbrev pub most_held : ℕ
most_held = 2 * (longest_frame + frame_head) + read_ahead
