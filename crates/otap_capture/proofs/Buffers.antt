-- What a read leaves in a buffer.
use Rattle.std.proofs.Common.{◌≡◌, ℕ, zero, suc, ◌+◌, ◌≤◌, false, List, [], ◌++◌, length, take, drop, Some, None, Ok, Err, refl, sym, ap, ◌∙◌, subst, append-nil, length-append, arith}
use Rattle.std.proofs.Math.Dec.{eqb-suc-zero}
use Rattle.std.proofs.Math.Seq.{drop-append_seam, take-add}
use Rattle.std.proofs.lemmas.List.{drop-append-le, take-append-le, length-take-le}
use Rattle.std.specs.Prelude.{nat_eq}
use Rattle.std.specs.declared.option.Option.{Option}
use Rattle.std.specs.declared.result.Result.{Result}
use Rattle.std.specs.Io.{ReadsAtMost}
use Rattle.std.specs.Io.KnownBytes.{Consumes, Keeps, ReadConsumes}
use Rattle.otap_capture.specs.declared.buffer.Buffer.{Buffer}
use Rattle.otap_capture.specs.declared.outside.ReadFailed.{ReadFailed}
use Rattle.otap_capture.specs.Buffering.{kept_in, IsInOrder, KeepsPlaces, FillsFront, ReadsBehind}
use Rattle.otap_capture.specs.Cutting.{GivesPiece}
use Rattle.otap_capture.specs.Limits.{read_ahead}

-- what a source says of its room is true of all that lies behind the bytes in front of it
pub reads_behind : (n : ℕ) (front room rest : List ℕ) (before after : Option (List ℕ)) (r : Result ℕ ReadFailed) → length front ≡ n → length room ≡ read_ahead
    → ReadsAtMost r room → ReadConsumes before after r room → ReadsBehind (drop n (front ++ (room ++ rest))) before after r
reads_behind n front room rest before after (Err e) at full bound bytes = bytes
reads_behind n front room rest before after (Ok count) at full bound bytes =
    let behind : drop n (front ++ (room ++ rest)) ≡ room ++ rest = subst (λ k. drop k (front ++ (room ++ rest)) ≡ room ++ rest) at (drop-append_seam front (room ++ rest)) in
    let most : count ≤ length room = bound.0 in
    subst (λ l. FillsFront l before after count) (sym behind) (record {
      taken = rw (take-append-le count room rest most) bytes.0;
      few = omega (arith, most, full);
      there = omega (arith, most, length-append room rest);
      ends = λ none. bytes.1 none (omega (arith, full));
    })

-- the bytes that are kept are followed by those behind them
kept_more : (place filled count : ℕ) (old new : List ℕ) → place ≤ filled → filled ≤ length old → take filled new ≡ take filled old
    → drop place (take (filled + count) new) ≡ drop place (take filled old) ++ take count (drop filled new)
kept_more place filled count old new ordered within same =
    let long : length (take filled old) ≡ filled = length-take-le filled old within in
    ap (drop place) (take-add filled count new ∙ ap (λ l. l ++ take count (drop filled new)) same)
    ∙ drop-append-le place (take filled old) (take count (drop filled new)) (omega (arith, long, ordered))

nothing_taken : (before after : Option (List ℕ)) → Consumes before after [] → Keeps before after
nothing_taken None after p = tt
nothing_taken (Some xs) None p = absurd p
nothing_taken (Some xs) (Some ys) p = sym p

-- a read behind the bytes that are kept gives a piece of the source
pub gives_piece : (old mid : Buffer) (now new : List ℕ) (count : ℕ) (before after : Option (List ℕ)) → IsInOrder old → KeepsPlaces old mid → now ≡ new
    → take mid.filled new ≡ take mid.filled mid.bytes.items → FillsFront (drop mid.filled new) before after count
    → GivesPiece (kept_in old) (drop mid.place (take (mid.filled + count) now)) before after (Ok (nat_eq count 0))
gives_piece old mid now new count before after order places is same fills = by_count count fills
  where
    kept : kept_in mid ≡ kept_in old
    kept = rw (places.place, places.filled, places.bytes) refl

    more : (n : ℕ) → drop mid.place (take (mid.filled + n) now) ≡ kept_in old ++ take n (drop mid.filled new)
    more n =
        let ordered : mid.place ≤ mid.filled = rw (places.place, places.filled) order.ordered in
        let within : mid.filled ≤ length mid.bytes.items = let a = places.filled in let b = order.within in let c = places.no_shorter in omega (arith, a, b, c) in
        ap (λ l. drop mid.place (take (mid.filled + n) l)) is ∙ kept_more mid.place mid.filled n mid.bytes.items new ordered within same
        ∙ ap (λ l. l ++ take n (drop mid.filled new)) kept

    by_count : (n : ℕ) → FillsFront (drop mid.filled new) before after n → GivesPiece (kept_in old) (drop mid.place (take (mid.filled + n) now)) before after (Ok (nat_eq n 0))
    by_count zero f = (more zero ∙ append-nil (kept_in old), nothing_taken before after f.taken, f.ends refl)
    by_count (suc n) f =
        let long : length (take (suc n) (drop mid.filled new)) ≡ suc n = length-take-le (suc n) (drop mid.filled new) f.there in
        let few = f.few in
        let now_kept = drop mid.place (take (mid.filled + suc n) now) in
        let piece : GivesPiece (kept_in old) now_kept before after (Ok false) = record {
          piece = take (suc n) (drop mid.filled new);
          kept = more (suc n);
          taken = f.taken;
          some = omega (arith, long);
          few = omega (arith, long, few);
        } in
        subst (λ b. GivesPiece (kept_in old) now_kept before after (Ok b)) (sym (eqb-suc-zero n)) piece
