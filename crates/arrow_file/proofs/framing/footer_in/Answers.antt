use Rattle.std.proofs.Common.{◌≡◌, ℕ, ◌-◌, List, take, drop, length, refl, subst, sym, ap, ◌∙◌, arith}
use Rattle.byteorder.specs.Endian.{little_number}
use Rattle.std.proofs.lemmas.Bool.{true≢false}
use Rattle.arrow_file.specs.Files.{IsFramedFile}
use Rattle.arrow_file.specs.Defects.{HasMagics}
use Rattle.arrow_file.specs.Defects
use Rattle.arrow_file.proofs.Frames.{framed_by, too_large}
use Rattle.arrow_file.proofs.framing.footer_in.Goals as goal

pub returns-then-not-has_magics-clause-err : goal.returns-then-not-has_magics-clause-err
returns-then-not-has_magics-clause-err c = Defects.bad_magic c.requires (λ h. true≢false (sym (c.if-not-has_magics.ensures.1 h)))

pub returns-then-size-end-clause-err : goal.returns-then-size-end-clause-err
returns-then-size-end-clause-err c =
    Defects.bad_size c.requires (c.if-not-has_magics.ensures.0 refl) (too_large c.args.bytes.now c.read_u32-size.result (c.read_u32-size.ensures ∙ ap (little_number 4) c.rest.ensures) (omega arith) (omega arith))

pub returns-clause-ok : goal.returns-clause-ok
returns-clause-ok c =
    let bytes : List ℕ = c.args.bytes.now in
    let n : ℕ = c.read_u32-size.result in
    let magics : HasMagics bytes = c.if-not-has_magics.ensures.0 refl in
    let same : length bytes - 10 - (length bytes - 10 - n) ≡ n = omega arith in
    subst (λ (k : ℕ). IsFramedFile bytes (take k (drop (length bytes - 10 - n) bytes))) (sym same)
    (framed_by bytes n (λ i. omega (arith, c.type_inv.bytes i)) magics (c.read_u32-size.ensures ∙ ap (little_number 4) c.rest.ensures) (omega (arith, magics.long)) (omega arith))
