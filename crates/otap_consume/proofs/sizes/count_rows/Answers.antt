use Rattle.std.proofs.Common.{◌≡◌, ◌∙◌, ◌+◌, ◌++◌, [], ◌∷◌, ap, sym, subst, take, arith, add-one}
use Rattle.std.proofs.lemmas.Grind.{common_steps}
use Rattle.std.specs.Prelude.{All}
use Rattle.std.proofs.Math.Seq.{take-suc}
use Rattle.std.proofs.lemmas.List.{take_all}
use Rattle.std.proofs.lemmas.List.Elements.{All-append, All-cons, All-map, All-nil}
use Rattle.otap_cells.specs.Sets.{tables_in}
use Rattle.otap_cells.specs.Tables.{IsTable}
use Rattle.otap_consume.proofs.sizes.count_rows.Goals as goal

pub tables-preserved : goal.tables-preserved
tables-preserved g c =
    let items = c.deref-rows-items.result.now in
    let i = c.tables.rows-index in
    let item = c.tables-item.result in
    let more : take (i + 1) items ≡ take i items ++ item ∷ []
    = rw (add-one i) (take-suc items i item c.tables-test.true ∙ ap (λ x. take i items ++ x ∷ []) (sym c.tables-item.is)) in
    record {
      count = grind (arith, common_steps);
      sound = subst (All (λ pair. IsTable (g.R.Rows.table pair.1))) (sym more)
          (All-append (λ pair. IsTable (g.R.Rows.table pair.1)) (take i items) (item ∷ []) c.tables.invariant.sound
          (All-cons (λ pair. IsTable (g.R.Rows.table pair.1)) item [] c.rows.ensures.sound (All-nil (λ pair. IsTable (g.R.Rows.table pair.1)))));
    }

pub returns-clause-sound : goal.returns-clause-sound
returns-clause-sound g c =
    let items = c.deref-rows-items.result.now in
    let whole = take_all c.tables.rows-index items (omega (arith, c.tables-test.false)) in
    subst (All IsTable) (ap (tables_in g.R.Rows.table) c.deref-rows-items.ensures.value ∙ c.set.view_is)
    (All-map IsTable (λ pair. g.R.Rows.table pair.1) items
    (subst (λ pairs. All (λ pair. IsTable (g.R.Rows.table pair.1)) pairs) whole c.tables.invariant.sound))
