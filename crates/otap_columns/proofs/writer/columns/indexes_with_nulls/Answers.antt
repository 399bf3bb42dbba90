use Rattle.std.proofs.Common.{◌≡◌, ◌-◌, ◌++◌, None, length, map, take, replicate, arith, sym, ◌∙◌}
use Rattle.std.proofs.lemmas.List.{take_all}
use Rattle.arrow_buffers.specs.declared.width.Width.TheVariants.{Fixed}
use Rattle.otap_columns.specs.BuiltCells.{index_of, index_size}
use Rattle.otap_columns.proofs.Indexed.{filled_indexes, filled_room, index_room, nulls_indexed}
use Rattle.otap_columns.proofs.writer.columns.indexes_with_nulls.Goals as goal

pub rows-init : goal.rows-init
rows-init c =
    c.in_ok-push_nulls.ensures.ok
    ∙ (λ i. record { width = (c.in_ok-built.ensures i).width; cells = (c.in_ok-built.ensures i).cells ++ replicate c.unplaced_rows-first.result None })
    ∙ (λ i. record { width = Fixed (c.index_width.ensures i); cells = nulls_indexed c.args.form c.unplaced_rows-first.result c.args.places.now c.unplaced_rows-first.ensures.none c.unplaced_rows-first.ensures.within i })

pub push_index-requires-clause-room : goal.push_index-requires-clause-room
push_index-requires-clause-room c =
    index_room c.args.form c.args.places.now c.rows.row (Fixed (index_size c.args.form)) c.rows.built (omega arith) c.rows.invariant
    (omega (arith, filled_room c.args.form c.args.places.now (c.args.rows - length c.args.places.now), c.requires.room))

pub returns : goal.returns
returns c =
    let n = c.args.rows - length c.args.places.now in
    let all : take c.rows.row c.args.places.now ≡ c.args.places.now = take_all c.rows.row c.args.places.now (omega arith) in
    c.in_ok-push_nulls-2.ensures.ok
    ∙ (λ i. record { width = (c.rows.invariant i).width; cells = (c.rows.invariant i).cells ++ replicate n None })
    ∙ (λ i. record { width = Fixed (index_size c.args.form); cells = map (index_of c.args.form) (all i) ++ replicate n None })
    ∙ (λ i. record { width = Fixed (index_size c.args.form); cells = sym (filled_indexes c.args.form c.args.places.now n) i })
