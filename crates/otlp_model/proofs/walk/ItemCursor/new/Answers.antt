use Rattle.otlp_model.proofs.Places.{left_start}
use Rattle.otlp_model.proofs.walk.ItemCursor.new.Goals as goal

pub returns-clause-all : goal.returns-clause-all
returns-clause-all g c = left_start c.args.groups.now
