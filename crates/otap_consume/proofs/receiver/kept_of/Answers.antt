use Rattle.std.proofs.Common.{List, Result, Ok, Err, IfOk, subst}
use Rattle.otlp_model.specs.declared.request.Signal.{Signal}
use Rattle.otap_cells.specs.Tables.{Table}
use Rattle.otap_cells.specs.Weights.{weight_of_tables}
use Rattle.otap_signals.specs.BySignal.{meaning_by}
use Rattle.otap_signals.specs.Regroups.{IsRegrouped}
use Rattle.otap_signals.specs.declared.regrouped.Regrouped.{Regrouped}
use Rattle.otap_consume.specs.declared.not_taken.NotTaken.{NotTaken}
use Rattle.otap_consume.specs.ReceiverInside.{MakesUnweighed}
use Rattle.otap_consume.proofs.receiver.kept_of.Goals as goal

-- what is more of a result that is Ok
more : (r : Result Regrouped NotTaken) (P Q : Regrouped → Type 0) → ((kept : Regrouped) → P kept → Q kept) → IfOk r P → IfOk r Q
more (Ok kept) P Q step holds = step kept holds
more (Err why) P Q step holds = tt

pub returns-clause-makes : goal.returns-clause-makes
returns-clause-makes c =
    let signal = c.args.segment.now.signal in
    let tables = c.in_ok-tables.tables in
    let within = c.in_ok-tables.ensures.within in
    more c.regroup.result (IsRegrouped (meaning_by c.signal.result) tables) (MakesUnweighed signal c.args.segment.now.streams c.args.batch.now.payloads)
    (λ kept is. record {
      rows = weight_of_tables tables;
      makes = λ past are. record {
        weighs = within.weighs past are;
        is = subst (λ (ts : List Table). IsRegrouped (meaning_by signal) ts kept) (within.tables past are)
            (subst (λ (s : Signal). IsRegrouped (meaning_by s) tables kept) c.signal.ensures is);
      };
    })
    c.regroup.ensures.regrouped
