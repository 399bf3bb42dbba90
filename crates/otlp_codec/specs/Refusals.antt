-- What a refusal to read says of the bytes.
use Rattle.std.specs.Prelude.{⊤}
use Rattle.otlp_messages.specs.declared.messages.Defect.{Defect}
use Rattle.otlp_messages.specs.declared.messages.Defect.TheVariants as defect
use Rattle.otlp_codec.specs.declared.refusal.ReadRefusal.{ReadRefusal}
use Rattle.otlp_codec.specs.declared.refusal.ReadRefusal.TheVariants.{BadMessage, Repeated, BadUtf8, BadLength, Unsupported, TooDeep, Memory}

-- the refusal that names a defect
abbrev pub refusal_of : Defect → ReadRefusal
refusal_of defect.BadMessage = BadMessage
refusal_of defect.Repeated = Repeated
refusal_of defect.BadUtf8 = BadUtf8
refusal_of defect.BadLength = BadLength
refusal_of defect.Unsupported = Unsupported
refusal_of defect.TooDeep = TooDeep

-- what a refusal names is true; running out of memory names nothing
abbrev pub HoldsNamed : ReadRefusal → (Defect → Type 0) → Type 0
HoldsNamed BadMessage IsSo = IsSo defect.BadMessage
HoldsNamed Repeated IsSo = IsSo defect.Repeated
HoldsNamed BadUtf8 IsSo = IsSo defect.BadUtf8
HoldsNamed BadLength IsSo = IsSo defect.BadLength
HoldsNamed Unsupported IsSo = IsSo defect.Unsupported
HoldsNamed TooDeep IsSo = IsSo defect.TooDeep
HoldsNamed (Memory error) IsSo = ⊤
