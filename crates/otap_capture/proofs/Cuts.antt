-- A frame that is cut from bytes, and the rest of them.
use Rattle.std.proofs.Common.{◌≡◌, ℕ, ◌+◌, ◌-◌, ◌≤◌, List, ◌++◌, length, take, drop, Some, refl, sym, ap, ◌∙◌, subst, length-append, length-drop, arith}
use Rattle.std.specs.Prelude.{slice_range}
use Rattle.std.proofs.lemmas.List.{drop-drop, drop-take, length-take-le, take-take}
use Rattle.otap_capture.specs.Buffering.{kept_in, IsInOrder}
use Rattle.otap_capture.specs.declared.buffer.Buffer.{Buffer}
use Rattle.otap_capture.specs.declared.front.Flag.{Flag}
use Rattle.otap_capture.specs.declared.frames.Frames.TheInside.{Inside}
use Rattle.otap_capture.specs.Cutting.{BeginsFrame, CutsFrame}
use Rattle.otap_capture.specs.Inside.{reading_of, frame_in, IsSound}
use Rattle.otap_capture.specs.Limits.{read_ahead}
use Rattle.otap_capture.specs.Reading.{KeepsFew}
use Rattle.otap_capture.proofs.Decided.{few_lean, frame_bound, lean_rest}
use Rattle.otap_capture.proofs.Framing.{split}

abbrev cut_from : Inside → Flag → ℕ → Inside
cut_from s k size = record s { handed = s.handed + (5 + size); buffer = record s.buffer { place = s.buffer.place + 5 + size }; begin = s.buffer.place + 5; last = Some k }

-- how many bytes are kept
pub kept_length : (b : Buffer) → IsInOrder b → length (kept_in b) ≡ b.filled - b.place
kept_length b order = length-drop b.place (take b.filled b.bytes.items) ∙ ap (λ n. n - b.place) (length-take-le b.filled b.bytes.items order.within)

long : (bytes : List ℕ) (size : ℕ) → 5 + size ≤ length bytes → length (take 5 bytes ++ take size (drop 5 bytes)) ≡ 5 + size
long bytes size room =
    let head : length (take 5 bytes) ≡ 5 = length-take-le 5 bytes (omega arith) in
    let left : length (drop 5 bytes) ≡ length bytes - 5 = length-drop 5 bytes in
    let part : length (take size (drop 5 bytes)) ≡ size = length-take-le size (drop 5 bytes) (omega arith) in
    omega (arith, length-append (take 5 bytes) (take size (drop 5 bytes)))

pub cuts_frame : (s : Inside) (k : Flag) (size : ℕ) → IsSound s → BeginsFrame s.handed (kept_in s.buffer) k size
    → CutsFrame (reading_of s) (reading_of (cut_from s k size))
cuts_frame s k size sound b =
    let bytes = kept_in s.buffer in
    let filled = take s.buffer.filled s.buffer.bytes.items in
    record {
      front = take 5 bytes ++ take size (drop 5 bytes);
      frame = frame_in k (take size (drop 5 bytes));
      is_frame = b.is_frame;
      begins = b.begins;
      kept = split bytes size ∙ ap (λ l. (take 5 bytes ++ take size (drop 5 bytes)) ++ l) (drop-drop (5 + size) s.buffer.place filled ∙ ap (λ n. drop n filled) sums);
      handed = ap (λ n. s.handed + n) (sym (long bytes size b.room));
      shown = ap (λ l. Some (frame_in k l)) part;
      ended = refl;
      complete = refl;
    }
  where
    sums : s.buffer.place + (5 + size) ≡ s.buffer.place + 5 + size
    sums = omega arith

    part : slice_range s.buffer.bytes.items (s.buffer.place + 5) (s.buffer.place + 5 + size) ≡ take size (drop 5 (kept_in s.buffer))
    part =
        let items = s.buffer.bytes.items in
        let begin = s.buffer.place + 5 in
        let room = b.room in
        let ordered = sound.order.ordered in
        let within = sound.order.within in
        let left = s.buffer.filled - begin in
        let enough : begin + size ≤ s.buffer.filled = omega (arith, room, ordered, within, kept_length s.buffer sound.order) in
        let width : begin + size - begin ≡ size = omega arith in
        let fits : size ≤ left = omega (arith, enough) in
        let sum : begin + left ≡ s.buffer.filled = omega (arith, enough) in
        let back : drop begin (take s.buffer.filled items) ≡ take left (drop begin items) = subst (λ n. drop begin (take n items) ≡ take left (drop begin items)) sum (drop-take begin left items) in
        rw (width, drop-drop 5 s.buffer.place (take s.buffer.filled items), back, take-take size left (drop begin items) fits) refl

-- few bytes are left
pub rest_cut : (s : Inside) (k : Flag) (size : ℕ) → IsSound s → BeginsFrame s.handed (kept_in s.buffer) k size
    → length (kept_in (cut_from s k size).buffer) ≤ read_ahead
rest_cut s k size sound b =
    let cut = cuts_frame s k size sound b in
    lean_rest (kept_in s.buffer) cut.front (kept_in (cut_from s k size).buffer) cut.frame sound.lean cut.kept cut.is_frame

-- what was kept is still few bytes, and all else is in order
pub sound_cut : (s : Inside) (k : Flag) (size : ℕ) → IsSound s → BeginsFrame s.handed (kept_in s.buffer) k size
    → IsSound (cut_from s k size)
sound_cut s k size sound b = record {
  ordered = omega arith;
  order = record {
    ordered = let room = b.room in let ordered = sound.order.ordered in omega (arith, room, ordered, kept_length s.buffer sound.order);
    within = sound.order.within;
  };
  lean = few_lean _ (rest_cut s k size sound b);
  few = sound.few;
  below = let bound = frame_bound _ _ b.is_frame in let e = long (kept_in s.buffer) size b.room in let begins = b.begins in omega (arith, bound, e, begins);
}

pub few_cut : (s : Inside) (k : Flag) (size : ℕ) → IsSound s → BeginsFrame s.handed (kept_in s.buffer) k size
    → KeepsFew (reading_of s) (reading_of (cut_from s k size))
few_cut s k size sound b = record {
  taken = let few = rest_cut s k size sound b in let fits = frame_bound _ _ b.is_frame in let e = long (kept_in s.buffer) size b.room in omega (arith, few, fits, e);
  lean = (sound_cut s k size sound b).lean;
  memory = sound.few;
}
