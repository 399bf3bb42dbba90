use Rattle.std.proofs.Common.{◌≡◌, ◌<◌, ◌≤◌, ◌^◌, ℕ, List, sym, ◌∙◌, arith}
use Rattle.std.specs.Fmt.{decimal}
use Rattle.std.proofs.lemmas.Fmt.{decimal_injective}
use Rattle.otlp_load.specs.Load.{requests_at_most}
use Rattle.otap_gateway.proofs.runs.load.count_of.Goals as goal
use Rattle.otap_gateway.proofs.runs.load.count_of.Goals.{then-count-eq0-via-then-count-eq0, then-count-eq0-via-else-count-eq0+then-count-gt-REQUESTS}

same_number : (word : List ℕ) (count n : ℕ) → count < 2 ^ 32 → n ≤ requests_at_most → word ≡ decimal count → word ≡ decimal n → count ≡ n
same_number word count n fits few is says = decimal_injective count n (omega arith) (omega arith) (sym is ∙ says)

pub returns-then-count-eq0 : goal.returns-then-count-eq0
returns-then-count-eq0 c = λ n some few is.
    let same = same_number c.args.word.now c.in_ok-count.count n c.in_ok-count.ensures.0 few c.in_ok-count.ensures.1 is in
    elim c.then-count-eq0.branch [
      | then-count-eq0-via-then-count-eq0 w ↦ let zero = w.if-count-eq0.true in omega arith
      | then-count-eq0-via-else-count-eq0+then-count-gt-REQUESTS w ↦ let many = w.if-count-gt-REQUESTS.true in omega arith
    ]
