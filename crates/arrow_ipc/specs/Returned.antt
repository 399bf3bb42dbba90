-- What private calls return, by what reading gives: used in private contracts.
use Rattle.flat_tables.specs.Tables.{TableIn}
use Rattle.arrow_schema.specs.Defects.{HasDefect}
use Rattle.arrow_ipc.specs.declared.fault.IpcFault.{IpcFault}
use Rattle.arrow_ipc.specs.declared.fault.IpcFault.TheVariants.{Schema, Memory}
use Rattle.arrow_ipc.specs.declared.header.Header.{Header}
use Rattle.arrow_ipc.specs.declared.header.Header.TheVariants as header

-- why no schema is returned: it is refused, or memory ran out
abbrev pub RefusesSchema : TableIn → IpcFault → Type 0
RefusesSchema table (Schema refusal) = HasDefect table refusal
RefusesSchema table (Memory e) = Unit {0}
RefusesSchema table _ = ⊥

abbrev pub RefusesHeader : Header → IpcFault → Type 0
RefusesHeader (header.Schema table) fault = RefusesSchema table fault
RefusesHeader _ fault = ⊥
