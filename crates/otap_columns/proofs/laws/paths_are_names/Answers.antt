use Rattle.std.proofs.Common.{refl}
use Rattle.otap_columns.proofs.PathsNamed.{known_named, named_known}
use Rattle.otap_columns.proofs.laws.paths_are_names.Goals as goal

pub returns-clause-named : goal.returns-clause-named
returns-clause-named c = known_named

pub returns-clause-known : goal.returns-clause-known
returns-clause-known c = named_known

pub returns-clause-dotted : goal.returns-clause-dotted
returns-clause-dotted c = λ kind arrays place dot. rw dot refl
