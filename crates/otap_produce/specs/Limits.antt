-- The limits of a segment that is exported.
use Rattle.std.specs.Prelude.{ℕ}
use Rattle.otap_capture.specs.Capture.{capture_limit}

-- how many batches a segment has at most: a capture has no more bytes
abbrev pub batch_limit : ℕ
batch_limit = capture_limit

-- how many bytes a schema id has at most: it is a number below 2^64 in decimal
abbrev pub schema_id_limit : ℕ
schema_id_limit = 20
