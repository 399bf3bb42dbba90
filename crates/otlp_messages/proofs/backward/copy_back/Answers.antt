use Rattle.std.proofs.Common.{◌≡◌, ℕ, List, ◌+◌, ◌-◌, ◌≤◌, ◌++◌, length, take, drop, ap, ◌∙◌, arith}
use Rattle.std.proofs.Math.Seq.{drop-append_seam, drop-append-add}
use Rattle.std.proofs.lemmas.List.{drop-take, take_rest}
use Rattle.otlp_messages.proofs.backward.copy_back.Goals as goal

-- what comes after the first two parts of three
last : (n : ℕ) (front between end : List ℕ) → n ≡ length front + length between → drop n (front ++ (between ++ end)) ≡ end
last n front between end len =
    ap (λ k. drop k (front ++ (between ++ end))) len ∙ drop-append-add front (between ++ end) (length between) ∙ drop-append_seam between end

-- the bytes between two offsets, in two ways
part : (start end : ℕ) (bytes : List ℕ) → start ≤ end → drop start (take end bytes) ≡ take (end - start) (drop start bytes)
part start end bytes order =
    let whole : end ≡ start + (end - start) = omega (arith, order) in
    ap (λ n. drop start (take n bytes)) whole ∙ drop-take start (end - start) bytes

pub returns-clause-copied : goal.returns-clause-copied
returns-clause-copied c =
    last _ c.split_at_mut-front.result.0.now c.split_at_mut-between.result.0.now c.copy_from_slice.new.self
    (omega (arith, c.requires.order, c.requires.apart, c.split_at_mut-front.ensures, c.split_at_mut-between.ensures))
    ∙ c.copy_from_slice.ensures.after ∙ take_rest c.split_at_mut-front.result.0.now c.args.start ∙ ap (drop c.args.start) c.split_at_mut-front.ensures.front
    ∙ part c.args.start c.args.end c.args.bytes.now c.requires.order
