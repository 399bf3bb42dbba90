use Rattle.otap_groups.proofs.OrderLaws.{reordered}
use Rattle.otap_groups.proofs.laws.the_order_of_rows_does_not_count.Goals as goal

pub returns : goal.returns
returns c item xs ys moved parent = reordered item xs ys moved parent
