-- The printed names of defects.
use Rattle.std.specs.Prelude.{ℕ, List, codes}
use Rattle.otlp_messages.specs.declared.messages.Defect.{Defect}
use Rattle.otlp_messages.specs.declared.messages.Defect.TheVariants.{BadMessage, Repeated, BadUtf8, BadLength, Unsupported, TooDeep}

abbrev pub defect_text : Defect → List ℕ
defect_text BadMessage = codes "BadMessage"
defect_text Repeated = codes "Repeated"
defect_text BadUtf8 = codes "BadUtf8"
defect_text BadLength = codes "BadLength"
defect_text Unsupported = codes "Unsupported"
defect_text TooDeep = codes "TooDeep"
