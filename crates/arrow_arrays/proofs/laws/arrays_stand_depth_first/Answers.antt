use Rattle.arrow_arrays.proofs.Walked.{fields_law, places_law}
use Rattle.arrow_arrays.proofs.PathsWalked.{paths_law}
use Rattle.arrow_arrays.proofs.ListsWalked.{elements_law}
use Rattle.arrow_arrays.proofs.laws.arrays_stand_depth_first.Goals as goal

pub returns-clause-fields : goal.returns-clause-fields
returns-clause-fields c = fields_law

pub returns-clause-places : goal.returns-clause-places
returns-clause-places c = places_law

pub returns-clause-paths : goal.returns-clause-paths
returns-clause-paths c = paths_law

pub returns-clause-elements : goal.returns-clause-elements
returns-clause-elements c = elements_law
