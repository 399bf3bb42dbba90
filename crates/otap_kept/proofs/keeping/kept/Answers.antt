use Rattle.std.proofs.Common.{◌≡◌, ◌∙◌, ◌++◌, ◌∷◌, [], List, true, false, Option, map, sym, ap, subst}
use Rattle.std.specs.Prelude.{All, IfNone, IfSome}
use Rattle.std.specs.List.{flat_map}
use Rattle.otap_cells.specs.Named.{table_named}
use Rattle.otap_attrs.specs.Tables.{beside_kind, where_rows}
use Rattle.otap_checks.specs.declared.known.ColumnIds.{ColumnIds}
use Rattle.otap_checks.specs.declared.signals.TableLink.{TableLink}
use Rattle.otap_checks.specs.Known.{Knows}
use Rattle.otap_kept.specs.Kept.{kept_below}
use Rattle.otap_kept.specs.Texts.{text_pair}
use Rattle.otap_kept.specs.Writing.{IsBelow, main_ids_kept, places_rise, seen_ids}
use Rattle.otap_kept.proofs.KeptBatch.{ids_found, kept_sound, kept_tables, main_is, main_knows, main_within, order_is, pairs_kept, rows_few}
use Rattle.otap_kept.proofs.KeptSets.{all_below, all_known}
use Rattle.otap_kept.proofs.keeping.kept.Goals as goal

pub main_table-requires-clause-main : goal.main_table-requires-clause-main
main_table-requires-clause-main g c = main_is
    c.args.signal c.args.whose (text_pair c.args.pair.now) c.args.set.now c.in_ok-read.read c.in_ok-read.ensures
    c.in_ok-places.places.items c.in_ok-places.ensures.rows c.main_of-main.result c.main_of-main.ensures

pub main_table-requires-clause-known : goal.main_table-requires-clause-known
main_table-requires-clause-known g c = main_knows
    c.args.signal c.args.whose (text_pair c.args.pair.now) c.args.set.now c.in_ok-read.read c.in_ok-read.ensures
    c.in_ok-places.places.items c.in_ok-places.ensures.rows c.main_of-main.result c.main_of-main.ensures

pub main_table-requires-clause-within : goal.main_table-requires-clause-within
main_table-requires-clause-within g c = main_within
    c.args.signal c.args.whose (text_pair c.args.pair.now) c.args.set.now c.in_ok-read.read c.in_ok-read.ensures
    c.in_ok-places.places.items c.in_ok-places.ensures.rows c.main_of-main.result c.main_of-main.ensures
    c.deref-2.result.now c.deref-2.ensures.value c.in_ok-places.ensures.within

pub main_table-requires-clause-few : goal.main_table-requires-clause-few
main_table-requires-clause-few g c = rows_few
    c.args.signal c.args.whose (text_pair c.args.pair.now) c.args.set.now c.in_ok-read.read c.in_ok-read.ensures
    c.in_ok-places.places.items c.in_ok-places.ensures.rows c.main_of-main.result c.main_of-main.ensures
    c.deref-2.result.now c.deref-2.ensures.value c.requires

pub main_table-requires-clause-kept : goal.main_table-requires-clause-kept
main_table-requires-clause-kept g c =
    let known = ids_found
    c.args.signal c.args.whose (text_pair c.args.pair.now) c.args.set.now c.in_ok-read.read c.in_ok-read.ensures
    c.in_ok-places.places.items c.in_ok-places.ensures.rows c.main_of-main.result c.main_of-main.ensures
    c.deref.result.now c.deref.ensures.value c.in_ok-ids.field-0 c.in-Some.ids c.in-Some.is c.in_ok-ids.ensures.ids in
    known
    ∙ ap (main_ids_kept c.main_of-main.result c.in_ok-read.read) (c.deref.ensures.value ∙ sym c.deref-2.ensures.value)

pub add_below-requires-clause-below : goal.add_below-requires-clause-below
add_below-requires-clause-below g c = subst (All IsBelow) (sym c.below.ensures) (all_below c.args.signal)

pub add_below-requires-clause-known : goal.add_below-requires-clause-known
add_below-requires-clause-known g c =
    subst (All (λ (link : TableLink). Knows (table_named link.kind c.args.set.now) link.kind c.in_ok-read.read)) (sym c.below.ensures)
    (all_known c.args.signal c.args.set.now c.in_ok-read.read c.in_ok-read.ensures)

pub returns-clause-kept : goal.returns-clause-kept
returns-clause-kept g c =
    let known = ids_found
    c.args.signal c.args.whose (text_pair c.args.pair.now) c.args.set.now c.in_ok-read.read c.in_ok-read.ensures
    c.in_ok-places.places.items c.in_ok-places.ensures.rows c.main_of-main.result c.main_of-main.ensures
    c.deref.result.now c.deref.ensures.value c.in_ok-ids.field-0 c.in-Some.ids c.in-Some.is c.in_ok-ids.ensures.ids in
    let pairs = pairs_kept
    c.args.signal c.args.whose (text_pair c.args.pair.now) c.args.set.now c.in_ok-read.read c.in_ok-read.ensures
    c.in_ok-places.places.items c.in_ok-places.ensures.rows c.main_of-main.result c.main_of-main.ensures
    c.deref.result.now c.deref.ensures.value c.deref-2.result.now c.deref-2.ensures.value c.in_ok-first.first c.in-Some.ids
    c.add_below.new.tables.items c.below.result.now
    c.in_ok-first.ensures known c.below.ensures
    (c.in_ok-add_below.ensures
    ∙ ap (λ xs. xs ++ map beside_kind (flat_map where_rows
    (kept_below c.args.set.now (map seen_ids c.in-Some.ids) c.below.result.now)))
    (c.in_ok-push.ensures.items ∙ ap (λ xs. xs ++ (c.main_of-main.result, c.in_ok-first.first) ∷ []) c.new-tables.ensures.items)) in
    kept_tables c.args.signal c.args.whose (text_pair c.args.pair.now) c.args.set.now c.add_below.new.tables.items pairs

pub invariant_of-result : goal.invariant_of-result
invariant_of-result g c =
    let known = ids_found
    c.args.signal c.args.whose (text_pair c.args.pair.now) c.args.set.now c.in_ok-read.read c.in_ok-read.ensures
    c.in_ok-places.places.items c.in_ok-places.ensures.rows c.main_of-main.result c.main_of-main.ensures
    c.deref.result.now c.deref.ensures.value c.in_ok-ids.field-0 c.in-Some.ids c.in-Some.is c.in_ok-ids.ensures.ids in
    let pairs = pairs_kept
    c.args.signal c.args.whose (text_pair c.args.pair.now) c.args.set.now c.in_ok-read.read c.in_ok-read.ensures
    c.in_ok-places.places.items c.in_ok-places.ensures.rows c.main_of-main.result c.main_of-main.ensures
    c.deref.result.now c.deref.ensures.value c.deref-2.result.now c.deref-2.ensures.value c.in_ok-first.first c.in-Some.ids
    c.add_below.new.tables.items c.below.result.now
    c.in_ok-first.ensures known c.below.ensures
    (c.in_ok-add_below.ensures
    ∙ ap (λ xs. xs ++ map beside_kind (flat_map where_rows
    (kept_below c.args.set.now (map seen_ids c.in-Some.ids) c.below.result.now)))
    (c.in_ok-push.ensures.items ∙ ap (λ xs. xs ++ (c.main_of-main.result, c.in_ok-first.first) ∷ []) c.new-tables.ensures.items)) in
    kept_sound c.args.signal c.args.whose (text_pair c.args.pair.now) c.args.set.now c.add_below.new.tables.items pairs

pub returns-clause-ordered : goal.returns-clause-ordered
returns-clause-ordered g c = order_is
    c.args.signal c.args.whose (text_pair c.args.pair.now) c.args.set.now c.in_ok-read.read c.in_ok-read.ensures
    c.in_ok-places.places.items c.in_ok-places.ensures.rows c.main_of-main.result c.main_of-main.ensures
    c.deref.result.now c.deref.ensures.value true
    (subst (λ found. IfSome found (λ (ids : List ColumnIds).
    places_rise c.main_of-main.result c.in_ok-read.read c.deref.result.now ≡ true)) c.in-Some.is c.in_ok-ids.ensures.ordered)

pub returns-in_default-clause-unordered : goal.returns-in_default-clause-unordered
returns-in_default-clause-unordered g c = order_is
    c.args.signal c.args.whose (text_pair c.args.pair.now) c.args.set.now c.in_ok-read.read c.in_ok-read.ensures
    c.in_ok-places.places.items c.in_ok-places.ensures.rows c.main_of-main.result c.main_of-main.ensures
    c.deref.result.now c.deref.ensures.value false
    (subst (λ (found : Option (List ColumnIds)). IfNone found
    (places_rise c.main_of-main.result c.in_ok-read.read c.deref.result.now ≡ false)) c.in_default.is c.in_ok-ids.ensures.unordered)
