use Rattle.std.proofs.Common.{◌≡◌, [], ◌∷◌, ◌++◌, sym, ◌∙◌, arith}
use Rattle.std.proofs.lemmas.Grind.{common_steps}
use Rattle.std.proofs.lemmas.List.FromFn.{map-range_with_len_more}
use Rattle.otap_columns.specs.Known.{place_in}
use Rattle.otap_columns.proofs.reader.known.places.Goals as goal

pub columns-preserved : goal.columns-preserved
columns-preserved c =
    let pushed : c.push.new.self.items ≡ c.columns.places.items ++ c.place_in.result ∷ [] = grind (arith, common_steps, c.in_ok-push.ensures.items) in
    let same : c.place_in.result ≡ place_in c.args.known.now c.columns.column = c.place_in.ensures in
    pushed ∙ (λ i. c.columns.invariant i ++ same i ∷ []) ∙ sym (map-range_with_len_more (place_in c.args.known.now) 0 c.columns.column c.columns.column (omega arith))
