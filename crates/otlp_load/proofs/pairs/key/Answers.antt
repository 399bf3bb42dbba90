use Rattle.std.proofs.Common.{◌≡◌, ℕ, ◌<◌, ◌+◌, ◌∷◌, [], ◌++◌, sym, ap, ◌∙◌, arith}
use Rattle.std.specs.Fmt.{decimal}
use Rattle.std.proofs.lemmas.Fmt.{decimal_digit, decimal_step}
use Rattle.otlp_load.proofs.pairs.key.Goals as goal

one_digit : (n : ℕ) → n < 10 → 107 ∷ (48 + n) ∷ [] ≡ 107 ∷ decimal n
one_digit n h = ap (λ text. 107 ∷ text) (sym (decimal_digit n h))

pub returns-in-0 : goal.returns-in-0
returns-in-0 c = rw c.in-0.is (one_digit 0 (omega arith))

pub returns-in-1 : goal.returns-in-1
returns-in-1 c = rw c.in-1.is (one_digit 1 (omega arith))

pub returns-in-2 : goal.returns-in-2
returns-in-2 c = rw c.in-2.is (one_digit 2 (omega arith))

pub returns-in-3 : goal.returns-in-3
returns-in-3 c = rw c.in-3.is (one_digit 3 (omega arith))

pub returns-in-4 : goal.returns-in-4
returns-in-4 c = rw c.in-4.is (one_digit 4 (omega arith))

pub returns-in-5 : goal.returns-in-5
returns-in-5 c = rw c.in-5.is (one_digit 5 (omega arith))

pub returns-in-6 : goal.returns-in-6
returns-in-6 c = rw c.in-6.is (one_digit 6 (omega arith))

pub returns-in-7 : goal.returns-in-7
returns-in-7 c = rw c.in-7.is (one_digit 7 (omega arith))

pub returns-in-8 : goal.returns-in-8
returns-in-8 c = rw c.in-8.is (one_digit 8 (omega arith))

pub returns-in-9 : goal.returns-in-9
returns-in-9 c = rw c.in-9.is (one_digit 9 (omega arith))

pub returns-in-10 : goal.returns-in-10
returns-in-10 c = rw c.in-10.is (ap (λ text. 107 ∷ text) (sym (decimal_step 10 (omega arith) (omega arith) ∙ ap (λ text. text ++ 48 ∷ []) (decimal_digit 1 (omega arith)))))

pub returns-in-11 : goal.returns-in-11
returns-in-11 c = rw c.in-11.is (ap (λ text. 107 ∷ text) (sym (decimal_step 11 (omega arith) (omega arith) ∙ ap (λ text. text ++ 49 ∷ []) (decimal_digit 1 (omega arith)))))
