use Rattle.otap_consume.proofs.OpeningSteps.{accepted_rows, refused_rows}
use Rattle.otap_consume.proofs.receiving_laws.opened_leads_to_an_outcome.Goals as goal

pub returns-clause-accepted : goal.returns-clause-accepted
returns-clause-accepted c = λ old new outcomes frame batch o stands. accepted_rows old new frame batch o outcomes stands

pub returns-clause-refused : goal.returns-clause-refused
returns-clause-refused c = λ old opened new outcomes frame batch cause payload o stands.
    refused_rows old opened frame batch o outcomes stands new cause payload
