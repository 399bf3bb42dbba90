use Rattle.std.proofs.Common.{◌≡◌, [], ◌∷◌, ◌++◌, map, sym, ap, ◌∙◌, arith}
use Rattle.std.proofs.lemmas.Grind.{common_steps}
use Rattle.std.proofs.lemmas.List.FromFn.{map-range_with_len_more}
use Rattle.otap_cells.specs.Columns.{columns_of, place_of_path}
use Rattle.otap_columns.specs.Known.{known_column}
use Rattle.otap_columns.proofs.reader.known.known_columns.Goals as goal

pub arrays-preserved : goal.arrays-preserved
arrays-preserved c =
    let pushed : c.push.new.self.items ≡ c.arrays.known.items ++ c.column_of.result ∷ [] = grind (arith, common_steps, c.in_ok-push.ensures.items) in
    let path : map (λ name. name.now) c.deref.result.now ≡ map (λ name. name.now) c.in_ok-path.path.items = ap (map (λ name. name.now)) c.deref.ensures.value in
    let same : c.column_of.result ≡ known_column c.args.kind c.args.arrays.now c.arrays.place =
    c.column_of.ensures ∙ ap (place_of_path (columns_of c.args.kind)) (path ∙ c.in_ok-path.ensures) in
    pushed ∙ (λ i. c.arrays.invariant i ++ same i ∷ []) ∙ sym (map-range_with_len_more (known_column c.args.kind c.args.arrays.now) 0 c.arrays.place c.arrays.place (omega arith))
