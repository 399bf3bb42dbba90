-- No list of bytes has two captures.
use Rattle.std.proofs.Common.{◌≡◌, ℕ, ◌+◌, ◌<◌, ◌≤◌, List, [], ◌∷◌, ◌++◌, length, Some, None, refl, sym, ap, ◌∙◌, subst, append_assoc, length-append, zero-add, arith}
use Rattle.std.specs.declared.option.Option.{Option}
use Rattle.std.proofs.lemmas.Bool.{le-ltb, lt-leb}
use Rattle.byteorder.specs.Endian.{big_number}
use Rattle.otlp_wire.proofs.Varints.{same_front}
use Rattle.otap_capture.specs.declared.frame.Damage.{Damage}
use Rattle.otap_capture.specs.Capture.{Frame, Message, Packed, Reset, Carries, IsFrame, AreFrames, EndsAt, IsCapture, head_reason, front_reason, longest_frame, capture_limit}

-- a flag and the bytes after a head are one frame at most
one_carried : (flag : ℕ) (part : List ℕ) (f g : Frame) → Carries flag part f → Carries flag part g → f ≡ g
one_carried flag part (Message xs) (Message ys) p q = ap Message (sym p.1 ∙ q.1)
one_carried flag part (Message xs) Packed p q = absurd (omega arith)
one_carried flag part (Message xs) Reset p q = absurd (omega arith)
one_carried flag part Packed (Message ys) p q = absurd (omega arith)
one_carried flag part Packed Packed p q = refl
one_carried flag part Packed Reset p q = absurd (omega arith)
one_carried flag part Reset (Message ys) p q = absurd (omega arith)
one_carried flag part Reset Packed p q = absurd (omega arith)
one_carried flag part Reset Reset p q = refl

-- the parts of a frame
record Parts (bytes : List ℕ) (frame : Frame) : Type 0 where
  flag : ℕ
  size : List ℕ
  part : List ℕ
  whole : bytes ≡ flag ∷ (size ++ part)
  four : length size ≡ 4
  long : length part ≡ big_number 4 size
  fits : length part ≤ longest_frame
  carries : Carries flag part frame

parts_of : (bytes : List ℕ) (frame : Frame) → IsFrame bytes frame → Parts bytes frame
parts_of [] frame p = absurd p
parts_of (flag ∷ []) frame p = absurd p
parts_of (flag ∷ a ∷ []) frame p = absurd p
parts_of (flag ∷ a ∷ b ∷ []) frame p = absurd p
parts_of (flag ∷ a ∷ b ∷ c ∷ []) frame p = absurd p
parts_of (flag ∷ a ∷ b ∷ c ∷ d ∷ part) frame p = record {
  flag = flag;
  size = a ∷ b ∷ c ∷ d ∷ [];
  part = part;
  whole = refl;
  four = refl;
  long = p.0;
  fits = p.1;
  carries = p.2;
}

-- one frame at most is at the front of bytes
one_frame : (front front' rest rest' : List ℕ) (f g : Frame) → front ++ rest ≡ front' ++ rest' → IsFrame front f → IsFrame front' g → (front ≡ front') × (rest ≡ rest') × (f ≡ g)
one_frame front front' rest rest' f g whole p q =
    let a = parts_of front f p in
    let b = parts_of front' g q in
    let spelled : a.flag ∷ (a.size ++ a.part ++ rest) ≡ b.flag ∷ (b.size ++ b.part ++ rest') = sym (ap (λ l. l ++ rest) a.whole) ∙ whole ∙ ap (λ l. l ++ rest') b.whole in
    let flag : a.flag ≡ b.flag = cc in
    let tails : a.size ++ a.part ++ rest ≡ b.size ++ b.part ++ rest' = cc in
    let sizes = same_front a.size b.size (a.part ++ rest) (b.part ++ rest') (sym (append_assoc a.size a.part rest) ∙ tails ∙ append_assoc b.size b.part rest') (a.four ∙ sym b.four) in
    let parts = same_front a.part b.part rest rest' sizes.1 (a.long ∙ ap (big_number 4) sizes.0 ∙ sym b.long) in
    let front_is : front ≡ front' = a.whole ∙ ap (λ l. a.flag ∷ (l ++ a.part)) sizes.0 ∙ ap (λ l. a.flag ∷ (b.size ++ l)) parts.0 ∙ ap (λ n. n ∷ (b.size ++ b.part)) flag ∙ sym b.whole in
    (front_is, parts.1, one_carried a.flag a.part f g a.carries (subst (λ l. Carries a.flag l g) (sym parts.0) (subst (λ n. Carries n b.part g) (sym flag) b.carries)))

-- where a frame begins there is no reason
head_fine : (flag size left : ℕ) (part : List ℕ) (f : Frame) → Carries flag part f → length part ≡ size → size ≤ longest_frame → size ≤ left → head_reason flag size left ≡ None
head_fine flag size left part (Message xs) p long fits room = rw (p.0, le-ltb longest_frame size fits, le-ltb left size room) refl
head_fine flag size left part Packed p long fits room = rw (p, le-ltb longest_frame size fits, le-ltb left size room) refl
head_fine flag size left part Reset p long fits room =
    let none : size ≡ 0 = sym long ∙ ap length p.1 in
    rw (p.0, none, le-ltb left 0 (omega arith)) refl

pub front_fine : (front rest : List ℕ) (f : Frame) → IsFrame front f → front_reason (front ++ rest) ≡ None
front_fine [] rest f p = absurd p
front_fine (flag ∷ []) rest f p = absurd p
front_fine (flag ∷ a ∷ []) rest f p = absurd p
front_fine (flag ∷ a ∷ b ∷ []) rest f p = absurd p
front_fine (flag ∷ a ∷ b ∷ c ∷ []) rest f p = absurd p
front_fine (flag ∷ a ∷ b ∷ c ∷ d ∷ part) rest f p =
    let size = big_number 4 (a ∷ b ∷ c ∷ d ∷ []) in
    let fits : size ≤ longest_frame = rw (← p.0) p.1 in
    let room : size ≤ length (part ++ rest) = omega (arith, length-append part rest, p.0) in
    head_fine flag size (length (part ++ rest)) part f p.2 p.0 fits room

-- a frame has bytes
some_bytes : (front : List ℕ) (f : Frame) → IsFrame front f → 0 < length front
some_bytes front f p = let a = parts_of front f p in let e = ap length a.whole in omega (arith, e)

-- a capture doesn't end where a frame begins
no_end : (place : ℕ) (front rest : List ℕ) (f : Frame) (end : Option Damage) → place < capture_limit → IsFrame front f → EndsAt place (front ++ rest) end → ⊥
no_end place front rest f None below p ends = let none = ap length ends.0 in let some = some_bytes front f p in omega (arith, length-append front rest, none, some)
no_end place front rest f (Some damage) below p ends =
    let reason : None ≡ Some damage.why = sym (front_fine front rest f p) ∙ (rw (lt-leb capture_limit place below) at ends.1) in cc

-- a capture has one end
one_end : (place : ℕ) (rest : List ℕ) (end other : Option Damage) → EndsAt place rest end → EndsAt place rest other → end ≡ other
one_end place rest None None p q = refl
one_end place rest None (Some d) p q = let clash : None ≡ Some d.why = sym p.1 ∙ q.1 in cc
one_end place rest (Some d) None p q = let clash : None ≡ Some d.why = sym q.1 ∙ p.1 in cc
one_end place rest (Some d) (Some e) p q =
    let both : Some d.why ≡ Some e.why = sym p.1 ∙ q.1 in
    let why : d.why ≡ e.why = cc in
    let at : d.at ≡ e.at = p.0 ∙ sym q.0 in
    λ i. Some (record { at = at i; why = why i })

-- where a frame comes before a capture's end, the end is that after it
after_frame : (place : ℕ) (front first more rest : List ℕ) (end : Option Damage) → front ≡ first ++ more → EndsAt (place + length front) rest end
    → EndsAt (place + length first + length more) rest end
after_frame place front first more rest end whole ends =
    let at : place + length front ≡ place + length first + length more = let e = ap length whole in omega (arith, e, length-append first more) in
    subst (λ n. EndsAt n rest end) at ends

at_place : (place : ℕ) (front rest : List ℕ) (end : Option Damage) → front ≡ [] → EndsAt (place + length front) rest end → EndsAt place rest end
at_place place front rest end none ends =
    let at : place + length front ≡ place = let e = ap length none in omega (arith, e) in
    subst (λ n. EndsAt n rest end) at ends

-- the frames from an offset on, and the end, are unique
one_reading : (place : ℕ) (front front' rest rest' : List ℕ) (fs gs : List Frame) (end other : Option Damage) → front ++ rest ≡ front' ++ rest'
    → AreFrames place front fs → AreFrames place front' gs → EndsAt (place + length front) rest end → EndsAt (place + length front') rest' other → (fs ≡ gs) × (end ≡ other)
one_reading place front front' rest rest' [] [] end other whole p q ends ends' =
    let same : rest' ≡ rest = sym (ap (λ l. l ++ rest') q) ∙ sym whole ∙ ap (λ l. l ++ rest) p in
    (refl, one_end place rest end other (at_place place front rest end p ends) (subst (λ l. EndsAt place l other) same (at_place place front' rest' other q ends')))
one_reading place front front' rest rest' [] (g ∷ gs) end other whole p q ends ends' =
    let same : rest ≡ q.0 ++ (q.1 ++ rest') = sym (ap (λ l. l ++ rest) p) ∙ whole ∙ ap (λ l. l ++ rest') q.2 ∙ append_assoc q.0 q.1 rest' in
    absurd (no_end place q.0 (q.1 ++ rest') g end q.3 q.4 (subst (λ l. EndsAt place l end) same (at_place place front rest end p ends)))
one_reading place front front' rest rest' (f ∷ fs) [] end other whole p q ends ends' =
    let same : rest' ≡ p.0 ++ (p.1 ++ rest) = sym (ap (λ l. l ++ rest') q) ∙ sym whole ∙ ap (λ l. l ++ rest) p.2 ∙ append_assoc p.0 p.1 rest in
    absurd (no_end place p.0 (p.1 ++ rest) f other p.3 p.4 (subst (λ l. EndsAt place l other) same (at_place place front' rest' other q ends')))
one_reading place front front' rest rest' (f ∷ fs) (g ∷ gs) end other whole p q ends ends' =
    let both : p.0 ++ (p.1 ++ rest) ≡ q.0 ++ (q.1 ++ rest') =
    sym (append_assoc p.0 p.1 rest) ∙ sym (ap (λ l. l ++ rest) p.2) ∙ whole ∙ ap (λ l. l ++ rest') q.2 ∙ append_assoc q.0 q.1 rest' in
    let one = one_frame p.0 q.0 (p.1 ++ rest) (q.1 ++ rest') f g both p.4 q.4 in
    let further = one_reading (place + length p.0) p.1 q.1 rest rest' fs gs end other one.1 p.5
    (subst (λ l. AreFrames (place + length l) q.1 gs) (sym one.0) q.5)
    (after_frame place front p.0 p.1 rest end p.2 ends)
    (subst (λ l. EndsAt (place + length l + length q.1) rest' other) (sym one.0) (after_frame place front' q.0 q.1 rest' other q.2 ends')) in
    ((λ i. one.2 i ∷ further.0 i), further.1)

pub one_capture : (bytes : List ℕ) (frames others : List Frame) (end other : Option Damage) → IsCapture bytes frames end → IsCapture bytes others other → (frames ≡ others) × (end ≡ other)
one_capture bytes frames others end other p q =
    one_reading 0 p.front q.front p.rest q.rest frames others end other (sym p.whole ∙ q.whole) p.each q.each (rw (zero-add (length p.front)) p.ends) (rw (zero-add (length q.front)) q.ends)
