use Rattle.otap_gateway.proofs.EachLoad.{all_words}
use Rattle.otap_gateway.proofs.runs.laws.each_words.Goals as goal

pub returns : goal.returns
returns c = all_words
