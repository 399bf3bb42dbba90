use Rattle.std.proofs.Common.{ℕ, ◌<◌, get_or}
use Rattle.otap_attrs.specs.declared.refusal.RowRefusal.{RowRefusal}
use Rattle.otap_checks.specs.declared.signals.TableLink.{TableLink}
use Rattle.otap_checks.specs.Inside.{KnownFault}
use Rattle.otap_checks.proofs.checking.check_links.Given as goal

abbrev pub invariant-links : goal.invariant-links
invariant-links l = (k : ℕ) (d : TableLink) → k < l.place → (why : RowRefusal) → KnownFault l.known (get_or l.links k d) why → ⊥
