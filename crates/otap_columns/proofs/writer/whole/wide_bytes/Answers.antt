use Rattle.std.proofs.Common.{◌≡◌, List, ℕ, Option, Some, arith, sym, ap, subst, map, length, ◌∙◌}
use Rattle.std.proofs.lemmas.List.{length-map, take_all}
use Rattle.byteorder.specs.Endian.{little_bytes}
use Rattle.otap_columns.specs.BuiltCells.{AreParts, IsIndexFor, index_of, index_size}
use Rattle.otap_columns.proofs.CellsBack.{length-little_bytes}
use Rattle.otap_columns.proofs.Whole.{index_part, wide_index, no_parts, part_more}
use Rattle.otap_columns.proofs.writer.whole.wide_bytes.Goals as goal

pub rows-init : goal.rows-init
rows-init c = no_parts (index_size c.args.form) (map (index_of c.args.form) c.args.places.now) _ c.in_ok-values.ensures.items

pub rows-preserved : goal.rows-preserved
rows-preserved c =
    let reached : IsIndexFor c.args.form (Some c.in-Some.place) = subst (IsIndexFor c.args.form) c.in-Some.is (c.requires.reached c.rows.row) in
    let small = wide_index c.args.form c.in-Some.place c.requires.size reached in
    let part : c.to_le_bytes.result ≡ little_bytes (index_size c.args.form) c.in-Some.place = c.to_le_bytes.ensures ∙ ap (λ (n : ℕ). little_bytes n c.in-Some.place) (sym c.requires.size) in
    let long : length c.to_le_bytes.result ≡ index_size c.args.form = ap length part ∙ length-little_bytes (index_size c.args.form) c.in-Some.place in
    part_more (index_size c.args.form) (map (index_of c.args.form) c.args.places.now) c.rows.row c.to_le_bytes.result _ _ long c.in_ok-push_two.ensures.items
    (index_part c.args.form c.args.places.now c.rows.row c.in-Some.place c.to_le_bytes.result (omega arith) c.in-Some.is part) c.rows.invariant

pub returns : goal.returns
returns c =
    let cells = map (index_of c.args.form) c.args.places.now in
    subst (λ (all : List (Option (List ℕ))). AreParts (index_size c.args.form) all c.rows.values.items)
    (take_all c.rows.row cells (omega (arith, length-map c.args.places.now (index_of c.args.form), c.rows-test.false))) c.rows.invariant
