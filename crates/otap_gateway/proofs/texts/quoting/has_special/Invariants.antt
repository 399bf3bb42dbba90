use Rattle.std.proofs.Common.{◌≡◌, ◌||◌, drop}
use Rattle.std.specs.List.{list_any}
use Rattle.otap_gateway.specs.Quoting.{is_special}
use Rattle.otap_gateway.proofs.texts.quoting.has_special.Given as goal

abbrev pub invariant-bytes : goal.invariant-bytes
invariant-bytes l = (l.found || list_any is_special (drop l.byte-index l.text)) ≡ list_any is_special l.text
