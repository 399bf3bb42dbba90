use Rattle.std.specs.Int.{w64}
use Rattle.std.proofs.lemmas.Int.{to_z-of_z}
use Rattle.std.proofs.Common.{rules, ◌≡◌, ◌+◌, ℕ, List, [], ◌∷◌, map, length, drop, length-append, refl, sym, ap, ◌∙◌, subst, arith, Option, Some, None, IfNone}
use Rattle.std.proofs.lemmas.List.{map-append}
use Rattle.arrow_file.specs.Blocks.{blocks_in}
use Rattle.arrow_file.proofs.BlocksFound.{slice_get-blocks_in}
use Rattle.arrow_file.proofs.Taking.{Took, took_next, took_stops, took_all}
use Rattle.arrow_file.proofs.message.messages_in.Goals as goal

pub unwrap-offset-requires : goal.unwrap-offset-requires
unwrap-offset-requires c = rw (c.offset_at.ensures, slice_get-blocks_in c.args.blocks.now c.loop-place.place (omega arith)) refl

-- what is absent is None
absent : {A : Type 0} (found : Option A) (P : Type 0) → ((x : A) → found ≡ Some x → ⊥) → IfNone found P → P
absent None P none h = h
absent (Some x) P none h = absurd (none x refl)

pub returns-in_default-clause-none : goal.returns-in_default-clause-none
returns-in_default-clause-none c =
    took_stops c.args.bytes.now c.args.kind c.args.from c.args.blocks.now c.loop-place.place c.loop-place.end (map (λ m. m.now) c.loop-place.messages.items)
    _ (omega arith) (sym c.offset_at.ensures ∙ c.unwrap-offset.ensures ∙ ap Some (sym (to_z-of_z w64 c.unwrap-offset.result (search rules))))
    (absent c.in_ok-found.field-0 _ c.in_default.not-Some c.in_ok-found.ensures.none) c.loop-place.invariant.took

pub loop-place-preserved : goal.loop-place-preserved
loop-place-preserved c =
    let items = c.in_ok-push.ensures.items in
    let bytes = c.args.bytes.now in
    let blocks = c.args.blocks.now in
    record {
      took = subst (λ (ms : List (List ℕ)). Took bytes c.args.kind c.args.from (blocks_in blocks) (drop (c.loop-place.place + 1) (blocks_in blocks)) c.in-Some.found.end ms)
          (sym (ap (map (λ m. m.now)) items ∙ map-append (λ m. m.now) c.loop-place.messages.items (c.in-Some.found.message ∷ [])))
          (took_next bytes c.args.kind c.args.from blocks c.loop-place.place c.loop-place.end (map (λ m. m.now) c.loop-place.messages.items) _
          c.in-Some.found (omega arith) (sym c.offset_at.ensures ∙ c.unwrap-offset.ensures ∙ ap Some (sym (to_z-of_z w64 c.unwrap-offset.result (search rules)))) (rw c.in-Some.is at c.in_ok-found.ensures.some) c.loop-place.invariant.took);
      count = omega (arith, ap length items, length-append c.loop-place.messages.items (c.in-Some.found.message ∷ []), c.loop-place.invariant.count);
    }

pub returns-clause-some : goal.returns-clause-some
returns-clause-some c =
    took_all c.args.bytes.now c.args.kind c.args.from c.args.blocks.now c.loop-place.place c.loop-place.end (map (λ m. m.now) c.loop-place.messages.items)
    (omega arith) c.loop-place.invariant.took
