-- The rows of pairs after the rows of a table.
use Rattle.std.proofs.Common.{◌≡◌, ◌∙◌, List, ◌++◌, take, length, sym, ap, subst, arith}
use Rattle.std.proofs.lemmas.List.{length-append, take-take}
use Rattle.std.proofs.Math.Seq.{take-append_seam}
use Rattle.otap_cells.specs.Cells.{Cell}

-- the former rows stay first
pub first_stay : (was more before rows : List (List Cell)) → before ≡ was ++ more → take (length before) rows ≡ before → take (length was) rows ≡ was
first_stay was more before rows are is =
    let whole : take (length (was ++ more)) rows ≡ was ++ more = subst (λ (xs : List (List Cell)). take (length xs) rows ≡ xs) are is in
    sym (take-take (length was) (length (was ++ more)) rows (omega (arith, length-append was more))) ∙ ap (take (length was)) whole ∙ take-append_seam was more
