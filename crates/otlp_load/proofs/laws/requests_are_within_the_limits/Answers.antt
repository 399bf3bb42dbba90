use Rattle.otlp_load.proofs.ItemsWithin.{is_within}
use Rattle.otlp_load.proofs.LoadLight.{is_light}
use Rattle.otlp_load.proofs.laws.requests_are_within_the_limits.Goals as goal

pub returns-clause-profile : goal.returns-clause-profile
returns-clause-profile c = is_within

pub returns-clause-weight : goal.returns-clause-weight
returns-clause-weight c = is_light
