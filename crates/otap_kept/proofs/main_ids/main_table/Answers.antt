use Rattle.std.proofs.Common.{◌<◌, ◌∙◌, length, map, sym, ap, subst}
use Rattle.std.specs.Prelude.{All}
use Rattle.otap_cells.specs.Named.{table_named}
use Rattle.otap_cells.specs.Tables.{Table}
use Rattle.otap_kept.specs.Holding.{main_row_in}
use Rattle.otap_kept.specs.Rows.{renewed}
use Rattle.otap_kept.specs.Tables.{kept_main}
use Rattle.otap_kept.specs.Writing.{mains_from}
use Rattle.otap_kept.proofs.KeptCall.{mains_read}
use Rattle.otap_kept.proofs.MainAgain.{no_mains}
use Rattle.otap_kept.proofs.main_ids.main_table.Goals as goal

pub returns-in_default : goal.returns-in_default
returns-in_default g c =
    let places = c.args.places.now in
    c.new.ensures
    ∙ no_mains c.args.main places (subst (λ (t : Table). All (λ place. place < length t.rows) places) c.in_default.ensures.table c.requires.within)
    ∙ ap (λ (t : Table). kept_main c.args.main (renewed (map (main_row_in t) places))) (sym c.in_default.ensures.table)

pub write_main-requires-clause-within : goal.write_main-requires-clause-within
write_main-requires-clause-within g c =
    subst (λ (t : Table). All (λ place. place < length t.rows) c.args.places.now) c.in-Some.ensures.table c.requires.within

pub returns : goal.returns
returns g c =
    let places = c.args.places.now in
    let resources = c.deref.result.now in
    let scopes = c.deref-2.result.now in
    c.in_ok-table.ensures
    ∙ ap (λ kind. kept_main kind (mains_from resources scopes (g.R.Rows.table c.in-Some.rows.now).rows 0 places)) c.in-Some.ensures.of_kind
    ∙ ap (λ (t : Table). kept_main c.args.main (mains_from resources scopes t.rows 0 places)) (sym c.in-Some.ensures.table)
    ∙ ap (kept_main c.args.main)
    (mains_read c.args.main (table_named c.args.main c.args.set.now) c.args.read.now c.requires.known c.requires.main places
    c.args.kept.now c.requires.kept resources scopes (c.deref.ensures.value ∙ c.in_ok-resources.ensures) (c.deref-2.ensures.value ∙ c.in_ok-scopes.ensures))
