use Rattle.std.proofs.Common.{◌∷◌, [], ◌∙◌, sym, subst}
use Rattle.otap_cells.specs.declared.payload.Kind.{Kind}
use Rattle.otap_cells.specs.Tables.{Table}
use Rattle.otap_produce.specs.SentMessages.{Adds, AreReady}
use Rattle.otap_produce.proofs.Adding.{adds_at, ready_at}
use Rattle.otap_produce.proofs.senders.Senders.add_all.Goals as goal

pub add-requires : goal.add-requires
add-requires c =
    subst (λ (pair : Kind × Table). AreReady pair.1 c.tables.self) (sym c.tables-item.is)
    (ready_at c.args.tables.now c.tables.table-index c.tables-item.result c.args.self.now c.tables.self c.args.batch.now c.tables.batch c.tables-test.true c.tables.invariant.adds
    c.requires c.tables.invariant.kinds)

pub tables-preserved : goal.tables-preserved
tables-preserved c = record {
  adds =
      adds_at c.args.tables.now c.tables.table-index c.tables-item.result c.args.self.now c.tables.self c.args.batch.now c.tables.batch c.tables-test.true c.tables.invariant.adds
      c.add.new.self c.add.new.batch
      (subst (λ (pair : Kind × Table). Adds (pair.1 ∷ []) c.tables.self c.add.new.self c.tables.batch c.add.new.batch) c.tables-item.is c.in_ok-add.ensures.adds);
  kinds = c.in_ok-add.ensures.kinds ∙ c.tables.invariant.kinds;
}
