-- A measured number as two cells, one for integers and one for doubles. A cell is null where the number isn't of its sort; the
-- number 0 is stored as 0.
use Rattle.otlp_model.specs.declared.metrics.Number.{Number}
use Rattle.otlp_model.specs.declared.metrics.Number.TheVariants as numbers
use Rattle.otap_cells.specs.Cells.{Cell, null, number, bits}

abbrev pub int_value : Number → Cell
int_value numbers.Missing = null
int_value (numbers.Int n) = number n
int_value (numbers.Double n) = null

abbrev pub double_value : Number → Cell
double_value numbers.Missing = null
double_value (numbers.Int n) = null
double_value (numbers.Double n) = bits n

-- the double that a cell says, where it says no integer
abbrev pub double_in : Cell → Number
double_in (bits n) = numbers.Double n
double_in _ = numbers.Missing

-- THE NUMBER that both cells say; it means nothing where both are there
abbrev pub measured_in : Cell → Cell → Number
measured_in (number n) double = numbers.Int n
measured_in int double = double_in double
