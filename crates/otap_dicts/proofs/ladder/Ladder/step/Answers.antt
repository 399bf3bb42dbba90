use Rattle.std.proofs.Common.{◌≡◌, false, true, bytes_eq, subst, sym, ◌∙◌}
use Rattle.std.specs.Prelude.{OnOk}
use Rattle.std.specs.List.{list_any}
use Rattle.otap_dicts.specs.Ladders.{LadderIn, takes}
use Rattle.otap_dicts.proofs.Found.{found_there, none_found}
use Rattle.otap_dicts.proofs.Repeated.{known, unknown}
use Rattle.otap_dicts.proofs.ladder.Ladder.step.Goals as goal

pub returns-then-is_some-clause-ok : goal.returns-then-is_some-clause-ok
returns-then-is_some-clause-ok c =
    sym (known c.args.self.now c.args.value.now (sym c.takes.ensures ∙ c.if-not-takes.false)
    (found_there c.index_of-known.result c.args.self.now.values c.args.value.now c.index_of-known.ensures (sym c.is_some.ensures ∙ c.if-is_some.true)))

pub add-requires-clause-new : goal.add-requires-clause-new
add-requires-clause-new c =
    none_found c.index_of-known.result c.args.self.now.values c.args.value.now c.index_of-known.ensures (sym c.is_some.ensures ∙ c.if-is_some.false)

pub returns-clause-ok : goal.returns-clause-ok
returns-clause-ok c =
    let takes_is : takes c.args.self.now ≡ true = sym c.takes.ensures ∙ c.if-not-takes.false in
    let new : list_any (bytes_eq c.args.value.now) c.args.self.now.values ≡ false =
    none_found c.index_of-known.result c.args.self.now.values c.args.value.now c.index_of-known.ensures (sym c.is_some.ensures ∙ c.if-is_some.false) in
    subst (λ (l : LadderIn). OnOk c.add.result (c.add.new.self ≡ l)) (sym (unknown c.args.self.now c.args.value.now takes_is new)) c.add.ensures.ok
