use Rattle.std.proofs.Common.{◌≡◌, ◌++◌, drop}
use Rattle.std.specs.List.{flat_map}
use Rattle.otap_gateway.proofs.jobs.unfile.put_dictionaries.Given as goal

abbrev pub invariant-dictionaries : goal.invariant-dictionaries
invariant-dictionaries l = l.message ≡ flat_map (λ d. d) (drop l.place l.file.dictionaries) ++ l.initial.message
