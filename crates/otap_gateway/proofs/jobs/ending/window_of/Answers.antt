use Rattle.std.proofs.Common.{◌≡◌, ◌<◌, ◌≤◌, ◌^◌, ℕ, List, sym, ◌∙◌, arith}
use Rattle.std.specs.Fmt.{decimal}
use Rattle.std.proofs.lemmas.Fmt.{decimal_injective}
use Rattle.otap_gateway.specs.Endings.{window_limit}
use Rattle.otap_gateway.proofs.jobs.ending.window_of.Goals as goal
use Rattle.otap_gateway.proofs.jobs.ending.window_of.Goals.{then-window-eq0-via-then-window-eq0, then-window-eq0-via-else-window-eq0+then-window-gt-MAX_WINDOW}

same_number : (word : List ℕ) (count n : ℕ) → count < 2 ^ 32 → n ≤ window_limit → word ≡ decimal count → word ≡ decimal n → count ≡ n
same_number word count n fits few is says = decimal_injective count n (omega arith) (omega arith) (sym is ∙ says)

pub returns-then-window-eq0 : goal.returns-then-window-eq0
returns-then-window-eq0 c = λ n fits is.
    let same = same_number c.args.word.now c.in_ok-window.window n c.in_ok-window.ensures.0 fits.few c.in_ok-window.ensures.1 is in
    elim c.then-window-eq0.branch [
      | then-window-eq0-via-then-window-eq0 w ↦ let zero = w.if-window-eq0.true in let some = fits.some in omega arith
      | then-window-eq0-via-else-window-eq0+then-window-gt-MAX_WINDOW w ↦ let many = w.if-window-gt-MAX_WINDOW.true in let few = fits.few in omega arith
    ]
