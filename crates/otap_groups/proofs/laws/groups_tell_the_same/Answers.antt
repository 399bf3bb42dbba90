use Rattle.otap_groups.proofs.GroupsTold.{groups_told}
use Rattle.otap_groups.proofs.laws.groups_tell_the_same.Goals as goal

pub returns : goal.returns
returns g c kind cells_of resources found_resources scopes found_scopes item found_item groups =
    groups_told kind cells_of resources found_resources scopes found_scopes item found_item groups
