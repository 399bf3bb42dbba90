-- Numbers that are bytes.
use Rattle.std.specs.Prelude.{◌<◌, ⊤, All}
use Rattle.otap_capture.specs.Capture.{Frame, Message, Packed}
use Rattle.otap_capture.specs.Capture as capture

-- a message is a list of bytes, numbers below 256
abbrev pub IsOfBytes : Frame → Type 0
IsOfBytes (Message bytes) = All (λ byte. byte < 256) bytes
IsOfBytes Packed = ⊤
IsOfBytes capture.Reset = ⊤
