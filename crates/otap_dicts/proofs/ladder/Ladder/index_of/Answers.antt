use Rattle.std.proofs.Common.{position, bytes_eq, ap, ◌∙◌}
use Rattle.otap_dicts.specs.Ladders.{LadderIn}
use Rattle.otap_dicts.proofs.Keyed.{position-map}
use Rattle.otap_dicts.proofs.ladder.Ladder.index_of.Goals as goal

pub returns-in_err-place : goal.returns-in_err-place
returns-in_err-place c =
    c.from_residual.ensures ∙ c.in_err-place.ensures.index ∙ position-map (λ key. key.bytes.items) c.args.value.now c.self.inside.values.keys
    ∙ ap (λ (l : LadderIn). position (bytes_eq c.args.value.now) l.values) c.self.view_is

pub returns : goal.returns
returns c =
    c.in_ok-place.ensures.index ∙ position-map (λ key. key.bytes.items) c.args.value.now c.self.inside.values.keys ∙ ap (λ (l : LadderIn). position (bytes_eq c.args.value.now) l.values) c.self.view_is
