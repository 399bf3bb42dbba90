use Rattle.std.proofs.Common.{◌≡◌, ℕ, ◌+◌, List, ◌++◌, take, drop, drop-drop, sym, ap, ◌∙◌, arith}
use Rattle.std.proofs.Math.Seq.{take-add}
use Rattle.otlp_messages.proofs.backward.move_to_front.Goals as goal

-- one more piece is moved, and what follows it is as before
moved_on : (start place size : ℕ) (old now new : List ℕ) → take place now ≡ take place (drop start old) → drop place now ≡ drop place old
    → take (place + size) new ≡ take place now ++ take size (drop (start + place) now) → take (place + size) new ≡ take (place + size) (drop start old)
moved_on start place size old now new front rest moved =
    let turn : start + place ≡ place + start = omega arith in
    let from : drop (start + place) now ≡ drop place (drop start old) = ap (λ n. drop n now) turn ∙ sym (drop-drop start place now) ∙ ap (drop start) rest
    ∙ drop-drop start place old ∙ ap (λ n. drop n old) (sym turn) ∙ sym (drop-drop place start old) in
    moved ∙ ap (λ xs. xs ++ take size (drop (start + place) now)) front ∙ ap (λ xs. take place (drop start old) ++ take size xs) from ∙ sym (take-add place size (drop start old))

still_there : (place size : ℕ) (old now new : List ℕ) → drop place now ≡ drop place old → drop (place + size) new ≡ drop (place + size) now
    → drop (place + size) new ≡ drop (place + size) old
still_there place size old now new rest kept = kept ∙ sym (drop-drop size place now) ∙ ap (drop size) rest ∙ drop-drop size place old

pub pieces-preserved : goal.pieces-preserved
pieces-preserved c =
    let h = c.pieces.invariant in let e = c.move_piece.ensures in (
      omega (arith, c.min-size.ensures, h.0),
      e.len ∙ h.1,
      moved_on c.args.start c.pieces.place c.min-size.result c.args.bytes.now c.pieces.bytes c.move_piece.new.bytes h.2 h.3 e.moved,
      still_there c.pieces.place c.min-size.result c.args.bytes.now c.pieces.bytes c.move_piece.new.bytes h.3 e.rest,
    )
