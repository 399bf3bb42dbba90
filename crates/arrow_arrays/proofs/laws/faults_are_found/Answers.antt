use Rattle.std.proofs.Common.{Result, ap, is_ok}
use Rattle.arrow_buffers.specs.declared.fault.BufferFault.{BufferFault}
use Rattle.arrow_arrays.proofs.Checked.{none_have_faults, no_fault_checks, first_fault}
use Rattle.arrow_arrays.proofs.FaultsNamed.{named, never_fault, fine_where_none}
use Rattle.arrow_arrays.proofs.laws.faults_are_found.Goals as goal

pub returns-clause-array : goal.returns-clause-array
returns-clause-array c = λ batch a. (λ fine fault bad. never_fault batch a fault fine bad, fine_where_none batch a)

pub returns-clause-named : goal.returns-clause-named
returns-clause-named c = λ batch a fault is. named batch a fault is

pub returns-clause-all : goal.returns-clause-all
returns-clause-all c = λ batch arrays. (λ ok. none_have_faults batch arrays (ap (λ (r : Result (Unit {0}) BufferFault). is_ok r) ok), no_fault_checks batch arrays)

pub returns-clause-first : goal.returns-clause-first
returns-clause-first c = λ batch arrays fault is. first_fault batch arrays fault is
