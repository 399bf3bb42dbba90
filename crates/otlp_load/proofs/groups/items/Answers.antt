use Rattle.std.proofs.Common.{arith, rules}
use Rattle.std.proofs.lemmas.Grind.{common_steps}
use Rattle.otlp_load.specs.Load.{item_number}
use Rattle.otlp_load.proofs.GroupPlaces.{no_places, made_for_one, made_for_none}
use Rattle.otlp_load.proofs.groups.items.Goals as goal
use Rattle.otlp_load.proofs.groups.items.Goals.{then-place-group+in_ok-made+in_ok-push, else-place-group}

pub places-init : goal.places-init
places-init g c = rw (no_places c.args.group) (search rules)

pub places-preserved : goal.places-preserved
places-preserved g c = elim c.if-place-group.branch [
  | then-place-group+in_ok-made+in_ok-push w ↦
      let made = made_for_one (λ k. g.I.LoadItem.item_of c.args.request (item_number c.args.request k)) c.args.group c.places.place c.places.items c.places.invariant w.if-place-group.true in
      grind (arith, common_steps, made, w.items-is, w.push.ensures.ok, w.in_ok-push.was, w.in_ok-made.ensures)
  | else-place-group w ↦
      let made = made_for_none (λ k. g.I.LoadItem.item_of c.args.request (item_number c.args.request k)) c.args.group c.places.place c.places.items c.places.invariant w.if-place-group.false in
      rw (w.items-is) made
]
