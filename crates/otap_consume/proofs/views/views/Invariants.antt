use Rattle.std.proofs.Common.{◌≡◌, ◌++◌, List}
use Rattle.std.specs.Prelude.{All}
use Rattle.otap_cells.specs.Sets.{tables_in}
use Rattle.otap_consume.proofs.ViewSteps.{IsBeside}
use Rattle.lists.specs.Payloads.{PayloadIn}
use Rattle.otap_consume.specs.Views.{AreViewsOf}
use Rattle.otap_consume.proofs.views.views.Given as goal

abbrev pub invariant-payloads : goal.invariant-payloads
invariant-payloads l = record {
  front : List PayloadIn;
  whole : l.initial.payload-iterator ≡ front ++ l.payload-iterator;
  views : AreViewsOf l.streams front (tables_in (λ t. t) l.tables.items);
  beside : All IsBeside l.tables.items;
}
