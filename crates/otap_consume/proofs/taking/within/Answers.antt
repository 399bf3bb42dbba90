use Rattle.std.proofs.Common.{◌<◌, ◌∙◌, ◌++◌, ℕ, sym, subst, refl}
use Rattle.std.specs.Prelude.{sum_by}
use Rattle.std.proofs.lemmas.Bool.{ltb-true}
use Rattle.otap_cells.specs.Weights.{weight_of_tables}
use Rattle.otap_consume.specs.Limits.{held_limit}
use Rattle.otap_consume.specs.declared.not_taken.NotTaken.{NotTaken}
use Rattle.otap_consume.specs.Defects.{tables_of, held_after}
use Rattle.otap_consume.specs.StreamSteps.{held_of}
use Rattle.otap_consume.specs.Opening.{StopsBySize}
use Rattle.otap_consume.proofs.SizeSteps.{held_are}
use Rattle.otap_consume.proofs.ViewSteps.{too_large, views_tables, weighs}
use Rattle.otap_consume.proofs.taking.within.Goals as goal

pub returns-in-Ok-clause-stops : goal.returns-in-Ok-clause-stops
returns-in-Ok-clause-stops c = λ past are.
    let payloads = c.args.batch.now.payloads in
    let P : NotTaken → Type 0 = StopsBySize c.args.signal past payloads in
    subst P (sym c.of_size.ensures) (
      refl,
      subst (λ (n : ℕ). held_limit < n) (held_are c.args.signal (past ++ payloads) c.args.streams.now c.requires.kinds are)
          (ltb-true held_limit (sum_by held_of c.args.streams.now) (sym c.hold_too_much.ensures ∙ c.if-hold_too_much.true)),
    )

pub returns-in-Ok-2-clause-within : goal.returns-in-Ok-2-clause-within
returns-in-Ok-2-clause-within c =
    let signal = c.args.signal in
    let payloads = c.args.batch.now.payloads in
    let streams = c.args.streams.now in
    let tables = c.in_ok-tables.tables in
    record {
      tables = λ past are. views_tables signal past payloads streams tables c.requires.kinds are c.requires.shows c.in_ok-tables.ensures;
      weighs = λ past are.
          weighs signal past payloads streams tables (weight_of_tables tables) c.requires.kinds are c.requires.shows c.in_ok-tables.ensures
          c.in-Ok.ensures.within (sym c.hold_too_much.ensures ∙ c.if-hold_too_much.false);
      limits = c.in-Ok.ensures.within;
    }

pub returns-clause-stops : goal.returns-clause-stops
returns-clause-stops c = λ past are.
    let payloads = c.args.batch.now.payloads in
    let views = c.in_ok-tables.tables in
    let P : NotTaken → Type 0 = StopsBySize c.args.signal past payloads in
    subst P (sym c.of_size-in-Err.ensures) (
      refl,
      too_large c.args.signal views (tables_of c.args.signal past payloads) (held_after c.args.signal (past ++ payloads)) c.in-Err.cause
          (views_tables c.args.signal past payloads c.args.streams.now views c.requires.kinds are c.requires.shows c.in_ok-tables.ensures) c.in-Err.ensures.past,
    )
