use Rattle.std.proofs.Common.{◌∙◌, ap, sym}
use Rattle.otap_groups.specs.Found.{of_parent}
use Rattle.otap_kept.specs.Numbering.{first_place}
use Rattle.otap_kept.specs.Numbers.{new_number}
use Rattle.otap_kept.proofs.Numberings.{number_found}
use Rattle.otap_kept.proofs.numbering.Numbering.number.Goals as goal

pub returns : goal.returns
returns c ids is =
    c.first_of.ensures ∙ ap (λ xs. first_place (of_parent c.in-Some.id xs)) c.deref.ensures.value
    ∙ number_found ids c.args.self.now.entries.items c.in-Some.id is ∙ ap (new_number ids) (sym c.in-Some.is)
