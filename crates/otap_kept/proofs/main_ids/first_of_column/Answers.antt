use Rattle.std.proofs.Common.{◌∙◌, ap, map, subst}
use Rattle.std.specs.Prelude.{IfSome}
use Rattle.otap_groups.specs.Rows.{id_at}
use Rattle.otap_kept.specs.Numbering.{IsFirstIds}
use Rattle.otap_kept.proofs.main_ids.first_of_column.Goals as goal

pub returns-clause-ordered : goal.returns-clause-ordered
returns-clause-ordered c =
    subst (λ ids. IfSome c.in_ok-first.first (λ first. IsFirstIds ids first.items))
    (c.deref.ensures.value ∙ c.in_ok-ids.ensures ∙ ap (λ ids. map (id_at ids) c.args.places.now) c.of.ensures) c.in_ok-first.ensures.ordered
