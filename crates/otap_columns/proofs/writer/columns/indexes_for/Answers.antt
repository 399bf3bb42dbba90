use Rattle.std.proofs.Common.{◌≡◌, ◌*◌, ◌-◌, ◌++◌, ℕ, None, length, map, replicate, sym, ap, subst, ◌∙◌}
use Rattle.std.specs.Prelude.{IfSome}
use Rattle.std.proofs.lemmas.List.{length-map}
use Rattle.arrow_buffers.specs.Columns.{HoldsParts}
use Rattle.arrow_buffers.specs.declared.width.Width.TheVariants.{Fixed}
use Rattle.otap_columns.specs.BuiltCells.{AreParts, index_of, index_size}
use Rattle.otap_columns.proofs.Indexed.{filled_indexes}
use Rattle.otap_columns.proofs.Whole.{parts_column, values_length}
use Rattle.otap_columns.proofs.writer.columns.indexes_for.Goals as goal

pub full-requires : goal.full-requires
full-requires c =
    let cells = map (index_of c.args.form) c.args.places.now in
    let size = index_size c.args.form in
    let are : AreParts size cells c.in-Some.values.items = subst (λ o. IfSome o (λ v. AreParts size cells v.items)) c.in-Some.is c.in_ok-values.ensures in
    values_length size cells c.in-Some.values.items are
    ∙ ap (λ (n : ℕ). n * size) (length-map c.args.places.now (index_of c.args.form))
    ∙ ap (λ (n : ℕ). length c.args.places.now * n) (sym c.index_width.ensures)

pub returns : goal.returns
returns c =
    let cells = map (index_of c.args.form) c.args.places.now in
    let size = index_size c.args.form in
    let n = c.args.rows - length c.args.places.now in
    let are : AreParts size cells c.in-Some.values.items = subst (λ o. IfSome o (λ v. AreParts size cells v.items)) c.in-Some.is c.in_ok-values.ensures in
    let holds = subst (λ (k : ℕ). HoldsParts k (length c.args.places.now) c.in-Some.values.items c.in_ok-built.built) c.index_width.ensures c.in_ok-built.ensures in
    let full : c.in_ok-built.built ≡ record { width = Fixed size; cells = cells } =
    parts_column size (length c.args.places.now) cells c.in-Some.values.items c.in_ok-built.built are (sym (length-map c.args.places.now (index_of c.args.form))) holds in
    c.in_ok-push_nulls.ensures.ok
    ∙ (λ i. record { width = (full i).width; cells = (full i).cells ++ replicate n None })
    ∙ (λ i. record { width = Fixed size; cells = sym (filled_indexes c.args.form c.args.places.now n) i })
