use Rattle.otap_dicts.proofs.Places.{stay, found}
use Rattle.otap_dicts.proofs.laws.places_stay.Goals as goal

pub returns-clause-stay : goal.returns-clause-stay
returns-clause-stay c = stay

pub returns-clause-found : goal.returns-clause-found
returns-clause-found c = found
