use Rattle.otap_consume.proofs.Excluding.{one_stage}
use Rattle.otap_consume.proofs.laws.refused_in_one_stage.Goals as goal

pub returns : goal.returns
returns c = λ signal past payloads a b p q one other. one_stage signal past payloads a b p q one other
