use Rattle.std.proofs.Common.{◌≡◌, ◌++◌, List, false}
use Rattle.otlp_model.specs.declared.request.Signal.{Signal}
use Rattle.otap_consume.specs.Defects.{is_taken}
use Rattle.otap_consume.specs.Ids.{ids_of, ids_after}
use Rattle.lists.specs.EachAfter.{AllAfter}
use Rattle.lists.specs.Payloads.{PayloadIn}
use Rattle.otap_consume.proofs.ids.check_ids.Given as goal

-- the ids are those after the payloads so far, whose own ids are not taken
abbrev pub invariant-payloads : goal.invariant-payloads
invariant-payloads l = record {
  front : List PayloadIn;
  whole : l.initial.payload-iterator ≡ front ++ l.payload-iterator;
  ids : (signal : Signal) (past : List PayloadIn) → ids_of l.streams ≡ ids_after signal past → l.ids ≡ ids_after signal (past ++ front);
  free : (signal : Signal) (past : List PayloadIn) → ids_of l.streams ≡ ids_after signal past → AllAfter (λ before p. is_taken signal before p ≡ false) past front;
}
