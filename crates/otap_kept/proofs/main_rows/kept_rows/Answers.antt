use Rattle.std.proofs.Common.{◌≡◌, ◌∙◌, sym, ap, subst, length, map, Some}
use Rattle.otap_cells.specs.GivenIds.{ids_in}
use Rattle.otap_cells.specs.Named.{table_named}
use Rattle.otap_cells.specs.Payload.{main_of}
use Rattle.otap_checks.specs.Known.{Knows, ids_named}
use Rattle.otap_kept.specs.Holding.{looked_at, main_row_in, places_among}
use Rattle.otap_kept.specs.Texts.{text_pair}
use Rattle.otap_kept.proofs.KeptCall.{ids_read, read_long}
use Rattle.otap_kept.proofs.KeptSets.{main_known}
use Rattle.otap_kept.proofs.MainPlaces.{IsLookedAt, kept_at, kept_none, looked, looked_fine, places_within}
use Rattle.otap_kept.proofs.main_rows.kept_rows.Goals as goal

pub returns-in_default-clause-rows : goal.returns-in_default-clause-rows
returns-in_default-clause-rows g c =
    ap (map (main_row_in (table_named (main_of c.args.signal) c.args.set.now))) c.new.ensures.items
    ∙ sym (kept_none c.args.signal c.args.whose (text_pair c.args.pair.now) c.args.set.now (sym c.looked_at.ensures ∙ c.in_default.is))

pub holders-requires-clause-kind : goal.holders-requires-clause-kind
holders-requires-clause-kind g c = (looked c.args.signal c.args.whose c.in-Some.kind c.in-Some.column (sym c.looked_at.ensures ∙ c.in-Some.is)).kinds

pub holders-requires-clause-known : goal.holders-requires-clause-known
holders-requires-clause-known g c =
    let at : IsLookedAt c.args.signal c.in-Some.kind c.in-Some.column = looked c.args.signal c.args.whose c.in-Some.kind c.in-Some.column (sym c.looked_at.ensures ∙ c.in-Some.is) in
    subst (λ kind. Knows (table_named kind c.args.set.now) kind c.args.read.now) at.names (c.requires.known at.link at.listed)

pub holders-requires-clause-fine : goal.holders-requires-clause-fine
holders-requires-clause-fine g c =
    looked_fine c.args.signal c.args.set.now c.in-Some.kind c.in-Some.column c.requires.accepted
    (looked c.args.signal c.args.whose c.in-Some.kind c.in-Some.column (sym c.looked_at.ensures ∙ c.in-Some.is))

pub returns-clause-rows : goal.returns-clause-rows
returns-clause-rows g c =
    let of = c.args.signal in
    let tables = c.args.set.now in
    let read = c.args.read.now in
    let column = c.in-Some.column in
    let here : looked_at of c.args.whose ≡ Some (c.in-Some.kind, column) = sym c.looked_at.ensures ∙ c.in-Some.is in
    let at : IsLookedAt of c.in-Some.kind column = looked of c.args.whose c.in-Some.kind column here in
    let t = table_named (main_of of) tables in
    let known = main_known of tables read c.requires.known in
    let owners : c.of-owners.result.now ≡ ids_in t column =
    c.of-owners.ensures ∙ ap (λ main. ids_named main column read) c.main_of.ensures ∙ ids_read (main_of of) t read known column at.ids in
    let long : length (ids_in t column) ≡ length t.rows = sym (ap length (ids_read (main_of of) t read known column at.ids)) ∙ read_long (main_of of) t read known column at.ids in
    ap (map (main_row_in t)) (c.in_ok-places.ensures ∙ (λ i. places_among (c.deref.ensures.value i) 0 (owners i)))
    ∙ kept_at of c.args.whose (text_pair c.args.pair.now) tables c.in-Some.kind column here c.in_ok-found.found.items c.in_ok-found.ensures.hold long

pub returns-clause-within : goal.returns-clause-within
returns-clause-within g c =
    let of = c.args.signal in
    let tables = c.args.set.now in
    let read = c.args.read.now in
    let column = c.in-Some.column in
    let at : IsLookedAt of c.in-Some.kind column = looked of c.args.whose c.in-Some.kind column (sym c.looked_at.ensures ∙ c.in-Some.is) in
    let t = table_named (main_of of) tables in
    let long : length c.of-owners.result.now ≡ length t.rows =
    ap length (c.of-owners.ensures ∙ ap (λ main. ids_named main column read) c.main_of.ensures)
    ∙ read_long (main_of of) t read (main_known of tables read c.requires.known) column at.ids in
    rw c.in_ok-places.ensures (places_within c.deref.result.now c.of-owners.result.now (length t.rows) (sym long))
