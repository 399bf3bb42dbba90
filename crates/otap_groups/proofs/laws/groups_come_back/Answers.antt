use Rattle.otap_groups.proofs.Grouping.{groups_back}
use Rattle.otap_groups.proofs.laws.groups_come_back.Goals as goal

pub returns : goal.returns
returns g c cells_of resources scopes item groups reads of_resources of_scopes = groups_back cells_of resources scopes item groups reads of_resources of_scopes
