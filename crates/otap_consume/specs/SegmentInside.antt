-- What a segment keeps: a stream for each kind of its signal.
use Rattle.std.specs.Prelude.{◌≡◌}
use Rattle.otap_cells.specs.Payload.{kinds_of}
use Rattle.otap_consume.specs.declared.segment.Segment.TheInside as segment
use Rattle.otap_consume.specs.Streams.{kinds_in}
use Rattle.otap_consume.specs.Segments.{SegmentIn}

abbrev pub segment_in : segment.Inside → SegmentIn
segment_in s = record { signal = s.signal; broken = s.broken; streams = s.streams.items }

pub record IsSegment (s : segment.Inside) : Type 0 where
  pub kinds : kinds_in s.streams.items ≡ kinds_of s.signal
