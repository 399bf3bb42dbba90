-- The request that tables of spans make.
use Rattle.std.proofs.Common.{◌≡◌, ℕ, List, [], Option, refl}
use Rattle.std.specs.Prelude.{All}
use Rattle.otap_cells.specs.declared.payload.Kind.TheVariants as table
use Rattle.otap_cells.specs.GivenIds.{ReadAs}
use Rattle.otap_cells.specs.Named.{table_named}
use Rattle.otap_cells.specs.Tables.{Table, profile_table}
use Rattle.otap_groups.specs.Children.{children}
use Rattle.otap_groups.proofs.FrontKinds.{events_front, links_front}
use Rattle.otap_checks.specs.Reading.{HasAllIds}
use Rattle.otap_checks.proofs.MainKinds.{spans_are_main}
use Rattle.otap_checks.proofs.NamedAlike.{pairs_alike, parts_alike}
use Rattle.otap_checks.proofs.Regrouped.{no_groups, request_alike}
use Rattle.otap_spans.specs.Records.{event_of, link_of, span_of}
use Rattle.otap_spans.specs.Requests.{events_in, links_in, regrouped_spans, span_in}

-- no rows make no groups
pub no_spans : (tables : List Table) → table_named table.Spans tables ≡ profile_table table.Spans [] → regrouped_spans tables ≡ []
unfolding regrouped_spans
no_spans = no_groups table.Spans span_in

-- tables that read as others make their request
module _ (tables others : List Table) (reads : ReadAs tables others) (given : All HasAllIds others) where
  events_alike : (parent : Option ℕ) → events_in (table_named table.SpanEvents tables) (table_named table.EventAttrs tables) parent
      ≡ events_in (table_named table.SpanEvents others) (table_named table.EventAttrs others) parent
  events_alike parent = λ i.
      children (λ id cells. event_of cells (pairs_alike tables others reads given table.EventAttrs refl id i)) (parts_alike tables others reads given table.SpanEvents events_front i) parent

  links_alike : (parent : Option ℕ) → links_in (table_named table.SpanLinks tables) (table_named table.LinkAttrs tables) parent
      ≡ links_in (table_named table.SpanLinks others) (table_named table.LinkAttrs others) parent
  links_alike parent = λ i.
      children (λ id cells. link_of cells (pairs_alike tables others reads given table.LinkAttrs refl id i)) (parts_alike tables others reads given table.SpanLinks links_front i) parent

  pub same_request : regrouped_spans tables ≡ regrouped_spans others
  unfolding regrouped_spans
  same_request = request_alike table.Spans span_in tables others reads given spans_are_main
      (λ id cells. λ i. span_of cells (pairs_alike tables others reads given table.SpanAttrs refl id i) (events_alike id i) (links_alike id i))
