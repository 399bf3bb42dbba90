use Rattle.std.proofs.Common.{refl, arith}
use Rattle.otlp_model.specs.declared.request.Signal.TheVariants as signal
use Rattle.otap_cells.specs.declared.payload.Kind.TheVariants as table
use Rattle.otap_checks.specs.Links.{links_of}
use Rattle.otap_checks.proofs.RulesFit.{known_at}
use Rattle.otap_points.proofs.PointColumns.{hist_exemplars_are_parts}
use Rattle.otap_points.proofs.indexing.find_hist_exemplars.Goals as goal

pub find_exemplars-requires-clause-part : goal.find_exemplars-requires-clause-part
find_exemplars-requires-clause-part g c = hist_exemplars_are_parts

pub find_exemplars-requires-clause-columns : goal.find_exemplars-requires-clause-columns
find_exemplars-requires-clause-columns g c = refl

pub find_exemplars-requires-clause-known : goal.find_exemplars-requires-clause-known
unfolding links_of
find_exemplars-requires-clause-known g c = known_at signal.Metrics c.args.set.now c.args.known.now.ids c.requires.known 10 table.HistExemplars (omega arith) refl

pub find_exemplars-requires-clause-pairs : goal.find_exemplars-requires-clause-pairs
unfolding links_of
find_exemplars-requires-clause-pairs g c = known_at signal.Metrics c.args.set.now c.args.known.now.ids c.requires.known 12 table.HistExemplarAttrs (omega arith) refl
