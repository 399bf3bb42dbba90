use Rattle.std.proofs.Common.{◌≡◌, ◌∙◌, ap, arith, drop, sym}
use Rattle.std.specs.Int.Bits.{bit_and}
use Rattle.std.proofs.lemmas.Bool.{eqb-true}
use Rattle.std.proofs.lemmas.List.{take_rest}
use Rattle.byteorder.specs.Endian.{little_number}
use Rattle.lists.proofs.Ascii.{low_from}
use Rattle.lists.proofs.utf8.is_ascii_at.Goals as goal

pub returns : goal.returns
returns c = λ none.
    let xs = c.args.part.now in
    let at = c.args.at in
    let word : c.read_u64.result ≡ little_number 8 (drop at xs) = c.read_u64.ensures ∙ ap (little_number 8) (take_rest xs at) in
    let zero : bit_and (little_number 8 (drop at xs)) 9259542123273814144 ≡ 0 =
    ap (λ n. bit_and n 9259542123273814144) (sym word) ∙ eqb-true _ 0 none in
    low_from xs at (λ i. omega (arith, c.type_inv.part i)) zero
