-- The numbers of points and exemplars: a oneof of a double and an integer (OTLP, metrics.proto). Its
-- members are two fields, between which others may come, so each is read and written by itself.
use Rattle.std.specs.Prelude.{ℕ, List, [], ◌∷◌, fold}
use Rattle.std.specs.Int.{w64, cast_signed, cast_unsigned}
use Rattle.otlp_wire.specs.Wire as wire
use Rattle.otlp_wire.specs.Wire.{FieldValue, Entry}
use Rattle.otlp_wire.specs.Fields.{fields_of}
use Rattle.otlp_messages.specs.Rows.{at}
use Rattle.otlp_model.specs.declared.metrics.Number.{Number}
use Rattle.otlp_model.specs.declared.metrics.Number.TheVariants.{Missing, Int, Double}

-- a member; a field of another wire type says nothing
abbrev pub double_in : Number → FieldValue → Number
double_in old (wire.Fixed64 bits) = Double bits
double_in old value = old

abbrev pub int_in : Number → FieldValue → Number
int_in old (wire.Fixed64 bits) = Int (cast_signed w64 bits)
int_in old value = old

-- the number, whose members have these field numbers: the member that is there
abbrev pub number_step : ℕ → ℕ → Number → Entry → Number
number_step double int old f = at int int_in (at double double_in old f) f

abbrev pub number_said : ℕ → ℕ → List ℕ → Number
number_said double int bytes = fold (number_step double int) Missing (fields_of bytes)

-- a member is written also where it is zero
abbrev pub double_row : Number → List FieldValue
double_row (Double bits) = wire.Fixed64 bits ∷ []
double_row number = []

abbrev pub int_row : Number → List FieldValue
int_row (Int z) = wire.Fixed64 (cast_unsigned w64 z) ∷ []
int_row number = []
