-- Where a refusal applies nothing is read.
use Rattle.std.proofs.Common.{◌≡◌, ℕ, zero, suc, ◌+◌, ◌-◌, ◌*◌, ◌/◌, ◌%◌, ◌^◌, ◌<◌, ◌≤◌, Bool, true, false, cond, eqb, ltb}
use Rattle.std.proofs.Common.{List, [], ◌∷◌, ◌++◌, length, Option, Some, None, Ok, Err, refl, sym, ap, subst, ◌∙◌, arith, inl, inr}
use Rattle.std.specs.Prelude.{pos, negsuc}
use Rattle.std.specs.Str.{IsUtf8, is_utf8}
use Rattle.std.proofs.lemmas.Bool.{ltb-true, le-ltb, lt-ltb, eqb-true, ne_eqb, cases_Bool, cases_eq, false_from_ne_true}
use Rattle.std.proofs.lemmas.List.{append-nil}
use Rattle.std.proofs.lemmas.Str.{IsUtf8-from_is_utf8}
use Rattle.lists.proofs.AllBytes.{IsBytes, IsBytes-suffix}
use Rattle.otlp_model.specs.declared.value.Value.{Value}
use Rattle.otlp_model.specs.declared.value.Value as values
use Rattle.otlp_model.specs.declared.value.Pair.{Pair}
use Rattle.otlp_model.specs.Depth.{depth_of}
use Rattle.cbor_values.specs.declared.refusal.CborRefusal.{CborRefusal}
use Rattle.cbor_values.specs.declared.refusal.CborRefusal.TheVariants.{Cut, BadHead, BadKey, BadUtf8, OutOfRange, TooDeep, Trailing, Memory}
use Rattle.cbor_values.specs.declared.heads.Head.{Head}
use Rattle.cbor_values.specs.declared.heads.Head.TheVariants as heads
use Rattle.cbor_values.specs.Heads.{IsHead, short, long, argument_len}
use Rattle.cbor_values.specs.Strings.{IsAny, Chunks}
use Rattle.cbor_values.specs.Cbor.{Cbor}
use Rattle.cbor_values.specs.Items.{IsItem, AreItems, ArePairs}
use Rattle.cbor_values.specs.Refusals as places
use Rattle.cbor_values.specs.Refusals.{Due, may_break, begins, IsCutHead, IsCutString, IsBadHead, IsBadKey, IsBadText, IsOutOfRange, IsTooDeep, Faults, IsOtherChunk, ChunkFaults}
use Rattle.cbor_values.specs.Refusals.{HasNextMember, definite, indefinite, Within, at_front, in_bytes, in_text, in_array, in_key, in_value, Stands}
use Rattle.lists.specs.Results.{◌>>=◌}
use Rattle.cbor_values.specs.Reading.{ValueReading, front_part, argument_at, head_by, head_at, break_at, many_at, until_at, open_at, joined, letters_at}
use Rattle.cbor_values.specs.Reading.{octets_of_head, letters_of_head, octets_chunk_at, text_chunk_at, octets_at, text_at, key_of_head, key_at, pair_at, whole_of, body_at, item_at}
use Rattle.cbor_values.proofs.Steps.{bind_ok, ok_is, got}
use Rattle.cbor_values.proofs.Front.{part_again, head_again, open_head, head_of_break}
use Rattle.cbor_values.proofs.Again.{item_again}
use Rattle.cbor_values.proofs.Takes.{IsFront, IsSized, IsDouble, half, single, double, head_takes, break_is}
use Rattle.cbor_values.proofs.Faulty.{TellsMajor, major_of_head, front_major}
use Rattle.cbor_values.proofs.Extents.{many_pass, until_pass, StillOpen, octets_pass, text_pass, IsPair, item_parts, pair_parts, item_begins, pair_begins, key_ends, item_ends, pair_ends_at}

-- ---- what a successful reading comes to after the head of an item

-- a head with what follows it is read as an item, or as a key
pub data Use (d : ℕ) (kind : Head) (inner : List ℕ) : Type 0 where
  as_item : (e : ℕ) → d ≡ suc e → (x : Value × List ℕ) → body_at (item_at e) kind inner ≡ Ok x → Use d kind inner
  as_key : (x : List ℕ × List ℕ) → key_of_head kind inner ≡ Ok x → Use d kind inner

-- what is due there is read, d levels being left
abbrev pub Reach : ℕ → Due → List ℕ → Type 0
Reach d (places.item may) bytes = (x : Value × List ℕ) × (item_at d bytes ≡ Ok x)
Reach d (places.key may) bytes = (x : Pair × List ℕ) × (pair_at (item_at d) bytes ≡ Ok x)
Reach d places.value bytes = (x : Value × List ℕ) × (item_at d bytes ≡ Ok x)

record Read (d : ℕ) (bytes : List ℕ) : Type 0 where
  pub kind : Head
  pub inner : List ℕ
  pub front : head_at bytes ≡ Ok (kind, inner)
  pub used : Use d kind inner
  pub some : 0 < d

item_read : (d : ℕ) (bytes : List ℕ) (x : Value × List ℕ) → item_at d bytes ≡ Ok x → Read d bytes
unfolding item_at
item_read zero bytes x read =
    let b = bind_ok (head_at bytes) (λ head. Err TooDeep) x read in
    absurd (let clash = b.2 in cc)
item_read (suc d) bytes x read =
    let b = bind_ok (head_at bytes) (λ head. body_at (item_at d) head.0 head.1) x read in
    record { kind = b.0.0; inner = b.0.1; front = b.1; used = as_item d refl x b.2; some = omega arith }

key_read : (d : ℕ) (bytes : List ℕ) (x : Pair × List ℕ) → pair_at (item_at d) bytes ≡ Ok x → Read d bytes
unfolding pair_at key_at
key_read d bytes x read =
    let a = bind_ok (key_at bytes) (λ key. item_at d key.1 >>= λ value. got (make key.0 value.0) value.1) x read in
    let b = bind_ok (item_at d a.0.1) (λ value. got (make a.0.0 value.0) value.1) x a.2 in
    let k = bind_ok (head_at bytes) (λ head. key_of_head head.0 head.1) a.0 a.1 in
    record { kind = k.0.0; inner = k.0.1; front = k.1; used = as_key a.0 k.2; some = (item_read d a.0.1 b.0 b.1).some }
  where
    make : List ℕ → Value → Pair
    make key value = record { key = key; value = value }

was_read : (d : ℕ) (place : Due) (bytes : List ℕ) → Reach d place bytes → Read d bytes
was_read d (places.item may) bytes r = item_read d bytes r.0 r.1
was_read d (places.key may) bytes r = key_read d bytes r.0 r.1
was_read d places.value bytes r = item_read d bytes r.0 r.1

-- the head that was read is the head that is known
known_use : (d : ℕ) (bytes : List ℕ) (kind : Head) (inner : List ℕ) → Read d bytes → head_at bytes ≡ Ok (kind, inner) → Use d kind inner
known_use d bytes kind inner r known =
    let told : got r.kind r.inner ≡ got kind inner = sym r.front ∙ known in
    let same : (r.kind, r.inner) ≡ (kind, inner) = ok_is (r.kind, r.inner) (kind, inner) told in
    subst (λ (x : Head × List ℕ). Use d x.0 x.1) same r.used

octets_use : (d : ℕ) (size : Option ℕ) (inner : List ℕ) → Use d (heads.Bytes size) inner → (s : List ℕ × List ℕ) × (octets_at size inner ≡ Ok s)
unfolding body_at
octets_use d size inner (as_item e is x read) =
    let b = bind_ok (octets_at size inner) (λ s. got (values.Bytes s.0) s.1) x read in (b.0, b.1)
octets_use d size inner (as_key x read) = absurd cc

text_use : (d : ℕ) (size : Option ℕ) (inner : List ℕ) → Use d (heads.Text size) inner → (s : List ℕ × List ℕ) × (text_at size inner ≡ Ok s)
unfolding body_at
text_use d size inner (as_item e is x read) =
    let b = bind_ok (text_at size inner) (λ s. got (values.Str s.0) s.1) x read in (b.0, b.1)
text_use d size inner (as_key x read) = (x, read)

in_range : (n m : ℕ) → whole_of n ≡ Ok m → n < 2 ^ 63
in_range n m read = elim (cases_Bool (ltb n (2 ^ 63))) [
  | inl small ↦ ltb-true n (2 ^ 63) small
  | inr large ↦ absurd (let clash = rw large at read in cc)
]

whole_use : (d n : ℕ) (inner : List ℕ) → Use d (heads.Whole n) inner → n < 2 ^ 63
unfolding body_at
whole_use d n inner (as_item e is x read) =
    let b = bind_ok (whole_of n) (λ n. got (values.Int (pos n)) inner) x read in in_range n b.0 b.1
whole_use d n inner (as_key x read) = absurd cc

negative_use : (d n : ℕ) (inner : List ℕ) → Use d (heads.Negative n) inner → n < 2 ^ 63
unfolding body_at
negative_use d n inner (as_item e is x read) =
    let b = bind_ok (whole_of n) (λ n. got (values.Int (negsuc n)) inner) x read in in_range n b.0 b.1
negative_use d n inner (as_key x read) = absurd cc

-- ---- faults at the front

-- the head's argument is there
whole_head : (bytes : List ℕ) (x : Head × List ℕ) → IsCutHead bytes → head_at bytes ≡ Ok x → ⊥
unfolding head_at argument_at
whole_head [] x cut read = absurd cc
whole_head (first ∷ rest) x cut read =
    let n0 = ne_eqb first 244 (λ e. omega (arith, cut.0)) in
    let n1 = ne_eqb first 245 (λ e. omega (arith, cut.0)) in
    let n2 = ne_eqb first 246 (λ e. omega (arith, cut.0)) in
    let float_cut : (byte width : ℕ) → first ≡ byte → argument_len (byte % 32) ≡ width → ltb (length rest) width ≡ true =
    λ byte width is len. lt-ltb (length rest) width (subst (λ (w : ℕ). length rest < w) (ap (λ (b : ℕ). argument_len (b % 32)) is ∙ len) cut.2) in
    elim (cases_Bool (eqb first 249)) [
      | inl t3 ↦ absurd (let clash = rw (n0, n1, n2, t3, float_cut 249 2 (eqb-true first 249 t3) refl) at read in cc)
      | inr f3 ↦ elim (cases_Bool (eqb first 250)) [
        | inl t4 ↦ absurd (let clash = rw (n0, n1, n2, f3, t4, float_cut 250 4 (eqb-true first 250 t4) refl) at read in cc)
        | inr f4 ↦ elim (cases_Bool (eqb first 251)) [
          | inl t5 ↦ absurd (let clash = rw (n0, n1, n2, f3, f4, t5, float_cut 251 8 (eqb-true first 251 t5) refl) at read in cc)
          | inr f5 ↦ absurd (let clash = rw (n0, n1, n2, f3, f4, f5, le-ltb (first % 32) 24 cut.0, lt-ltb (first % 32) 28 cut.1, lt-ltb (length rest) (argument_len (first % 32)) cut.2) at read in cc)
        ]
      ]
    ]

whole_part : (n : ℕ) (bytes : List ℕ) (s : List ℕ × List ℕ) → length bytes < n → front_part n bytes ≡ Ok s → ⊥
whole_part n bytes s few read = absurd (let clash = rw (lt-ltb (length bytes) n few) at read in cc)

-- a string of definite length, known by its head
octets_known : (d n : ℕ) (bytes head rest : List ℕ) → Read d bytes → bytes ≡ head ++ rest → IsHead 2 n head
    → (s : List ℕ × List ℕ) × (front_part n rest ≡ Ok s)
unfolding head_by octets_at
octets_known d n bytes head rest r is is_head =
    octets_use d (Some n) rest (known_use d bytes (heads.Bytes (Some n)) rest r
    (ap head_at is ∙ head_again 2 n head (heads.Bytes (Some n)) is_head (omega arith) refl rest))

letters_known : (d n : ℕ) (bytes head rest : List ℕ) → Read d bytes → bytes ≡ head ++ rest → IsHead 3 n head
    → (s : List ℕ × List ℕ) × (letters_at n rest ≡ Ok s)
unfolding head_by text_at
letters_known d n bytes head rest r is is_head =
    text_use d (Some n) rest (known_use d bytes (heads.Text (Some n)) rest r
    (ap head_at is ∙ head_again 3 n head (heads.Text (Some n)) is_head (omega arith) refl rest))

letters_whole : (n : ℕ) (rest : List ℕ) (s : List ℕ × List ℕ) → length rest < n → letters_at n rest ≡ Ok s → ⊥
unfolding letters_at
letters_whole n rest s few read =
    let b = bind_ok (front_part n rest) (λ part. cond (is_utf8 part.0) (Ok part) (Err BadUtf8)) s read in
    whole_part n rest b.0 few b.1

letters_good : (text rest : List ℕ) (s : List ℕ × List ℕ) → (IsUtf8 text → ⊥) → letters_at (length text) (text ++ rest) ≡ Ok s → ⊥
unfolding letters_at
letters_good text rest s bad read =
    let other : is_utf8 text ≡ false = false_from_ne_true (is_utf8 text) (λ t. bad (IsUtf8-from_is_utf8 text t)) in
    absurd (let clash = rw (part_again text rest (length text) refl, other) at read in cc)

no_cut_octets : (d : ℕ) (bytes : List ℕ) → Read d bytes → IsCutString 2 bytes → ⊥
no_cut_octets d bytes r c =
    let s = octets_known d c.n bytes c.head c.rest r c.is c.is_head in
    whole_part c.n c.rest s.0 c.short s.1

no_cut_text : (d : ℕ) (bytes : List ℕ) → Read d bytes → IsCutString 3 bytes → ⊥
no_cut_text d bytes r c =
    let s = letters_known d c.n bytes c.head c.rest r c.is c.is_head in
    letters_whole c.n c.rest s.0 c.short s.1

no_bad_text : (d : ℕ) (bytes : List ℕ) → Read d bytes → IsBadText bytes → ⊥
no_bad_text d bytes r b =
    let s = letters_known d (length b.text) bytes b.head (b.text ++ b.rest) r b.is b.is_head in
    letters_good b.text b.rest s.0 b.bad s.1

no_large : (d : ℕ) (bytes : List ℕ) → Read d bytes → IsOutOfRange bytes → ⊥
unfolding head_by
no_large d bytes r o = elim (cases_eq o.major 0) [
  | inl is ↦
      let is_head : IsHead 0 o.n o.head = subst (λ (m : ℕ). IsHead m o.n o.head) is o.is_head in
      let used = known_use d bytes (heads.Whole o.n) o.rest r (ap head_at o.is ∙ head_again 0 o.n o.head (heads.Whole o.n) is_head (omega arith) refl o.rest) in
      let small = whole_use d o.n o.rest used in
      let large = o.large in
      absurd (omega arith)
  | inr other ↦
      let low = o.integer in
      let is : o.major ≡ 1 = omega arith in
      let is_head : IsHead 1 o.n o.head = subst (λ (m : ℕ). IsHead m o.n o.head) is o.is_head in
      let used = known_use d bytes (heads.Negative o.n) o.rest r (ap head_at o.is ∙ head_again 1 o.n o.head (heads.Negative o.n) is_head (omega arith) refl o.rest) in
      let small = negative_use d o.n o.rest used in
      let large = o.large in
      absurd (omega arith)
]

-- what is read as a head begins an item
abbrev pub Begins : List ℕ → Type 0
Begins [] = ⊥
Begins (first ∷ rest) = begins (first / 32) (first % 32) ≡ true

begins_low : (major info : ℕ) → major < 6 → info < 28 → begins major info ≡ true
begins_low major info low small = elim (cases_Bool (ltb major 2)) [
  | inl t ↦ rw (t, lt-ltb info 28 small) refl
  | inr f ↦ rw (f, lt-ltb major 6 low, lt-ltb info 28 small) refl
]

begins_head : (major n : ℕ) (front inner : List ℕ) → major < 6 → IsHead major n front → Begins (front ++ inner)
begins_head major n _ inner low (short small) =
    let upper : (32 * major + n) / 32 ≡ major = omega arith in
    let lower : (32 * major + n) % 32 ≡ n = omega arith in
    rw (upper, lower) (begins_low major n low (omega arith))
begins_head major n _ inner low (long info least most fits) =
    let upper : (32 * major + info) / 32 ≡ major = omega arith in
    let lower : (32 * major + info) % 32 ≡ info = omega arith in
    rw (upper, lower) (begins_low major info low most)

begins_double : (wide : ℕ) (front inner : List ℕ) → IsDouble front wide → Begins (front ++ inner)
begins_double _ _ inner (half bits fits) = refl
begins_double _ _ inner (single bits fits) = refl
begins_double _ _ inner (double bits fits) = refl

begins_sized : (major : ℕ) (size : Option ℕ) (front inner : List ℕ) → major < 6 → begins major 31 ≡ true → IsSized major front size → Begins (front ++ inner)
begins_sized major (Some n) front inner low open_ended is = begins_head major n front inner low is
begins_sized major None front inner low open_ended is =
    let upper : (32 * major + 31) / 32 ≡ major = omega arith in
    let lower : (32 * major + 31) % 32 ≡ 31 = omega arith in
    let told : begins ((32 * major + 31) / 32) ((32 * major + 31) % 32) ≡ true = rw (upper, lower) open_ended in
    subst (λ (f : List ℕ). Begins (f ++ inner)) (sym is) told

front_begins : (front : List ℕ) (kind : Head) (inner : List ℕ) → IsFront front kind → Begins (front ++ inner)
front_begins front (heads.Whole n) inner is = begins_head 0 n front inner (omega arith) is
front_begins front (heads.Negative n) inner is = begins_head 1 n front inner (omega arith) is
front_begins front (heads.Bytes size) inner is = begins_sized 2 size front inner (omega arith) refl is
front_begins front (heads.Text size) inner is = begins_sized 3 size front inner (omega arith) refl is
front_begins front (heads.Array size) inner is = begins_sized 4 size front inner (omega arith) refl is
front_begins front (heads.Map size) inner is = begins_sized 5 size front inner (omega arith) refl is
front_begins front (heads.Bool true) inner is = subst (λ (f : List ℕ). Begins (f ++ inner)) (sym is) refl
front_begins front (heads.Bool false) inner is = subst (λ (f : List ℕ). Begins (f ++ inner)) (sym is) refl
front_begins front heads.Null inner is = subst (λ (f : List ℕ). Begins (f ++ inner)) (sym is) refl
front_begins front (heads.Double wide) inner is = begins_double wide front inner is

read_begins : (d : ℕ) (bytes : List ℕ) → IsBytes bytes → Read d bytes → Begins bytes
read_begins d bytes fits r =
    let t = head_takes bytes r.kind r.inner fits r.front in
    subst (λ (b : List ℕ). Begins b) (sym t.parts) (front_begins t.front r.kind r.inner t.is)

no_bad_head : (may : Bool) (bytes : List ℕ) → Begins bytes → IsBadHead may bytes → ⊥
no_bad_head may [] good bad = bad
no_bad_head may (first ∷ rest) good bad = absurd (let clash : true ≡ false = sym good ∙ bad.0 in cc)

-- a key is a text
text_major : (front : List ℕ) (kind : Head) (inner : List ℕ) (x : List ℕ × List ℕ) → IsFront front kind → key_of_head kind inner ≡ Ok x
    → TellsMajor 3 (front ++ inner)
text_major front (heads.Text size) inner x is read = front_major front (heads.Text size) inner is
text_major front (heads.Whole n) inner x is read = absurd cc
text_major front (heads.Negative n) inner x is read = absurd cc
text_major front (heads.Bytes size) inner x is read = absurd cc
text_major front (heads.Array size) inner x is read = absurd cc
text_major front (heads.Map size) inner x is read = absurd cc
text_major front (heads.Bool flag) inner x is read = absurd cc
text_major front heads.Null inner x is read = absurd cc
text_major front (heads.Double wide) inner x is read = absurd cc

key_is_text : (d : ℕ) (bytes : List ℕ) (x : Pair × List ℕ) → IsBytes bytes → pair_at (item_at d) bytes ≡ Ok x → TellsMajor 3 bytes
unfolding pair_at key_at
key_is_text d bytes x fits read =
    let a = bind_ok (key_at bytes) (λ key. item_at d key.1 >>= λ value. got (make key.0 value.0) value.1) x read in
    let k = bind_ok (head_at bytes) (λ head. key_of_head head.0 head.1) a.0 a.1 in
    let t = head_takes bytes k.0.0 k.0.1 fits k.1 in
    subst (λ (b : List ℕ). TellsMajor 3 b) (sym t.parts) (text_major t.front k.0.0 k.0.1 a.0 t.is k.2)
  where
    make : List ℕ → Value → Pair
    make key value = record { key = key; value = value }

no_bad_key : (d : ℕ) (place : Due) (bytes : List ℕ) → IsBytes bytes → Reach d place bytes → IsBadKey place bytes → ⊥
no_bad_key d place [] fits r bad = bad
no_bad_key d (places.item may) (first ∷ rest) fits r bad = bad
no_bad_key d (places.key may) (first ∷ rest) fits r bad = bad.0 (key_is_text d (first ∷ rest) r.0 fits r.1)
no_bad_key d places.value (first ∷ rest) fits r bad =
    let read = item_read d (first ∷ rest) r.0 r.1 in
    absurd (let broken : head_at (first ∷ rest) ≡ Err BadHead = rw bad (head_of_break rest) in let clash = sym broken ∙ read.front in cc)

not_too_deep : (d inside : ℕ) (bytes : List ℕ) → d + inside ≡ 32 → 0 < d → IsTooDeep inside bytes → ⊥
not_too_deep d inside [] sum some deep = deep
not_too_deep d inside (first ∷ rest) sum some deep = let far = deep.1 in absurd (omega arith)

no_fault : (e : CborRefusal) (place : Due) (inside : ℕ) (bytes : List ℕ) (d : ℕ) → d + inside ≡ 32 → IsBytes bytes → Reach d place bytes
    → Faults e place inside bytes → ⊥
no_fault Cut place inside bytes d sum fits r (inl cut) = let read = was_read d place bytes r in whole_head bytes (read.kind, read.inner) cut read.front
no_fault Cut place inside bytes d sum fits r (inr (inl cut)) = no_cut_octets d bytes (was_read d place bytes r) cut
no_fault Cut place inside bytes d sum fits r (inr (inr cut)) = no_cut_text d bytes (was_read d place bytes r) cut
no_fault BadHead place inside bytes d sum fits r bad = no_bad_head (may_break place) bytes (read_begins d bytes fits (was_read d place bytes r)) bad
no_fault BadKey place inside bytes d sum fits r bad = no_bad_key d place bytes fits r bad
no_fault BadUtf8 place inside bytes d sum fits r bad = no_bad_text d bytes (was_read d place bytes r) bad
no_fault OutOfRange place inside bytes d sum fits r large = no_large d bytes (was_read d place bytes r) large
no_fault TooDeep place inside bytes d sum fits r deep = not_too_deep d inside bytes sum (was_read d place bytes r).some deep
no_fault Trailing place inside bytes d sum fits r fault = fault
no_fault (Memory error) place inside bytes d sum fits r fault = fault

-- ---- no fault at a break

seven : (major : ℕ) (bytes after : List ℕ) → major < 6 → bytes ≡ 255 ∷ after → TellsMajor major bytes → ⊥
seven major bytes after low is tells =
    let told : 255 / 32 ≡ major = subst (λ (b : List ℕ). TellsMajor major b) is tells in
    absurd (omega arith)

head_told : (major n : ℕ) (bytes head rest : List ℕ) → bytes ≡ head ++ rest → IsHead major n head → TellsMajor major bytes
head_told major n bytes head rest is is_head = subst (λ (b : List ℕ). TellsMajor major b) (sym is) (major_of_head major n head rest is_head)

break_is_whole : (bytes after : List ℕ) → bytes ≡ 255 ∷ after → IsCutHead bytes → ⊥
break_is_whole bytes after is cut =
    let told : (24 ≤ 255 % 32) × (255 % 32 < 28) × (length after < argument_len (255 % 32)) = subst (λ (b : List ℕ). IsCutHead b) is cut in
    let low = told.1 in
    absurd (omega arith)

no_fault_at_break : (e : CborRefusal) (place : Due) (inside : ℕ) (bytes after : List ℕ) → may_break place ≡ true → bytes ≡ 255 ∷ after
    → Faults e place inside bytes → ⊥
no_fault_at_break Cut place inside bytes after may is (inl cut) = break_is_whole bytes after is cut
no_fault_at_break Cut place inside bytes after may is (inr (inl c)) = seven 2 bytes after (omega arith) is (head_told 2 c.n bytes c.head c.rest c.is c.is_head)
no_fault_at_break Cut place inside bytes after may is (inr (inr c)) = seven 3 bytes after (omega arith) is (head_told 3 c.n bytes c.head c.rest c.is c.is_head)
no_fault_at_break BadHead place inside bytes after may is bad =
    let told : IsBadHead (may_break place) (255 ∷ after) = subst (λ (b : List ℕ). IsBadHead (may_break place) b) is bad in
    absurd (let clash : true ≡ false = sym may ∙ told.1 refl in cc)
no_fault_at_break BadKey (places.item m) inside bytes after may is bad =
    let told : IsBadKey (places.item m) (255 ∷ after) = subst (λ (b : List ℕ). IsBadKey (places.item m) b) is bad in told
no_fault_at_break BadKey (places.key m) inside bytes after may is bad =
    let told : IsBadKey (places.key m) (255 ∷ after) = subst (λ (b : List ℕ). IsBadKey (places.key m) b) is bad in
    absurd (let clash : true ≡ false = sym may ∙ told.1 refl in cc)
no_fault_at_break BadKey places.value inside bytes after may is bad = absurd (let clash : false ≡ true = may in cc)
no_fault_at_break BadUtf8 place inside bytes after may is b = seven 3 bytes after (omega arith) is (head_told 3 (length b.text) bytes b.head (b.text ++ b.rest) b.is b.is_head)
no_fault_at_break OutOfRange place inside bytes after may is o =
    let low = o.integer in
    seven o.major bytes after (omega arith) is (head_told o.major o.n bytes o.head o.rest o.is o.is_head)
no_fault_at_break TooDeep place inside bytes after may is deep =
    let told : IsTooDeep inside (255 ∷ after) = subst (λ (b : List ℕ). IsTooDeep inside b) is deep in told.0 refl
no_fault_at_break Trailing place inside bytes after may is fault = fault
no_fault_at_break (Memory error) place inside bytes after may is fault = fault

goes_major : (major k : ℕ) (may : Bool) (head rest : List ℕ) → HasNextMember major k may head → TellsMajor major (head ++ rest)
goes_major major k _ _ rest (definite n head is more) = major_of_head major n head rest is
goes_major major k _ _ rest indefinite = let told : (32 * major + 31) / 32 ≡ major = omega arith in told

other_first : (first : ℕ) (bytes after : List ℕ) → first < 255 → first ∷ bytes ≡ 255 ∷ after → ⊥
other_first first bytes after small is = let same : first ≡ 255 = cc in absurd (omega arith)

not_at_break : (e : CborRefusal) (place : Due) (inside : ℕ) (bytes : List ℕ) → Within e place inside bytes → (after : List ℕ)
    → may_break place ≡ true → bytes ≡ 255 ∷ after → ⊥
not_at_break e _ _ _ (at_front place inside bytes fault) after may is = no_fault_at_break e place inside bytes after may is fault
not_at_break e _ _ _ (in_bytes place inside chunks joined rest are fault) after may is = other_first 95 (chunks ++ rest) after (omega arith) is
not_at_break e _ _ _ (in_text place inside chunks joined rest are fault) after may is = other_first 127 (chunks ++ rest) after (omega arith) is
not_at_break e _ _ _ (in_array place inside k m head members rest on are inner) after may is = seven 4 (head ++ (members ++ rest)) after (omega arith) is (goes_major 4 k m head (members ++ rest) on)
not_at_break e _ _ _ (in_key place inside k m head pairs rest on are inner) after may is = seven 5 (head ++ (pairs ++ rest)) after (omega arith) is (goes_major 5 k m head (pairs ++ rest) on)
not_at_break e _ _ _ (in_value place inside k m head pairs key_bytes rest on are is_item inner) after may is =
    seven 5 (head ++ (pairs ++ (key_bytes ++ rest))) after (omega arith) is (goes_major 5 k m head (pairs ++ (key_bytes ++ rest)) on)

-- ---- chunks

-- the next one is read, where no break is due
next_open : {X : Type 0} (one : List ℕ → ValueReading X) (rest after : List ℕ) → ((tail : List ℕ) → rest ≡ 255 ∷ tail → ⊥) → StillOpen one rest after
    → (x : X × List ℕ) × (one rest ≡ Ok x)
unfolding until_at
next_open {X} one rest after unbroken (zero, (ys, read)) = go (break_at rest) refl
  where
    go : (o : Option (List ℕ)) → break_at rest ≡ o → (x : X × List ℕ) × (one rest ≡ Ok x)
    go (Some tail) is = absurd (unbroken tail (break_is rest tail is))
    go None is = absurd (let clash = rw is at read in cc)
next_open {X} one rest after unbroken (suc fuel, (ys, read)) = go (break_at rest) refl
  where
    go : (o : Option (List ℕ)) → break_at rest ≡ o → (x : X × List ℕ) × (one rest ≡ Ok x)
    go (Some tail) is = absurd (unbroken tail (break_is rest tail is))
    go None is =
        let told = rw is at read in
        let a = bind_ok (one rest) (λ first. until_at one fuel first.1 >>= λ others. got (first.0 ∷ others.0) others.1) (ys, after) told in
        (a.0, a.1)

next_of_many : {X : Type 0} (one : List ℕ → ValueReading X) (m : ℕ) (rest : List ℕ) (ys : List X) (after : List ℕ) → 0 < m → many_at one m rest ≡ got ys after
    → (x : X × List ℕ) × (one rest ≡ Ok x)
unfolding many_at
next_of_many one zero rest ys after some read = absurd (omega arith)
next_of_many one (suc m) rest ys after some read =
    let a = bind_ok (one rest) (λ first. many_at one m first.1 >>= λ others. got (first.0 ∷ others.0) others.1) (ys, after) read in
    (a.0, a.1)

chunk_at_break : (e : CborRefusal) (major : ℕ) (bytes after : List ℕ) → major < 6 → bytes ≡ 255 ∷ after → ChunkFaults e major bytes → ⊥
chunk_at_break Cut major bytes after low is (inl cut) = break_is_whole bytes after is cut
chunk_at_break Cut major bytes after low is (inr c) = seven major bytes after low is (head_told major c.n bytes c.head c.rest c.is c.is_head)
chunk_at_break BadHead major bytes after low is other =
    let told : IsOtherChunk major (255 ∷ after) = subst (λ (b : List ℕ). IsOtherChunk major b) is other in told.0 refl
chunk_at_break BadUtf8 major bytes after low is bad =
    let b = bad.1 in seven 3 bytes after (omega arith) is (head_told 3 (length b.text) bytes b.head (b.text ++ b.rest) b.is b.is_head)
chunk_at_break BadKey major bytes after low is fault = fault
chunk_at_break OutOfRange major bytes after low is fault = fault
chunk_at_break TooDeep major bytes after low is fault = fault
chunk_at_break Trailing major bytes after low is fault = fault
chunk_at_break (Memory error) major bytes after low is fault = fault

-- a head of definite length and this major type is no other chunk
same_chunk : (major n : ℕ) (bytes front inner : List ℕ) → bytes ≡ front ++ inner → IsHead major n front → IsOtherChunk major bytes → ⊥
same_chunk major n bytes front inner is is_head other =
    go front is_head (subst (λ (b : List ℕ). IsOtherChunk major b) is other)
  where
    go : (f : List ℕ) → IsHead major n f → IsOtherChunk major (f ++ inner) → ⊥
    go _ (short small) (different, inl upper) = upper (omega arith)
    go _ (short small) (different, inr lower) = absurd (omega arith)
    go _ (long info least most fits) (different, inl upper) = upper (omega arith)
    go _ (long info least most fits) (different, inr lower) = absurd (omega arith)

-- a chunk that is read is one of its kind
octets_chunk_read : (bytes : List ℕ) (x : List ℕ × List ℕ) → octets_chunk_at bytes ≡ Ok x
    → (h : Head × List ℕ) × ((head_at bytes ≡ Ok h) × (octets_of_head h.0 h.1 ≡ Ok x))
unfolding octets_chunk_at
octets_chunk_read bytes x read =
    let b = bind_ok (head_at bytes) (λ head. octets_of_head head.0 head.1) x read in
    (b.0, (b.1, b.2))

text_chunk_read : (bytes : List ℕ) (x : List ℕ × List ℕ) → text_chunk_at bytes ≡ Ok x
    → (h : Head × List ℕ) × ((head_at bytes ≡ Ok h) × (letters_of_head h.0 h.1 ≡ Ok x))
unfolding text_chunk_at
text_chunk_read bytes x read =
    let b = bind_ok (head_at bytes) (λ head. letters_of_head head.0 head.1) x read in
    (b.0, (b.1, b.2))

octets_kind : (front : List ℕ) (kind : Head) (inner : List ℕ) (x : List ℕ × List ℕ) → IsFront front kind → octets_of_head kind inner ≡ Ok x
    → (n : ℕ) × IsHead 2 n front
octets_kind front (heads.Bytes (Some n)) inner x is read = (n, is)
octets_kind front (heads.Bytes None) inner x is read = absurd cc
octets_kind front (heads.Whole n) inner x is read = absurd cc
octets_kind front (heads.Negative n) inner x is read = absurd cc
octets_kind front (heads.Text size) inner x is read = absurd cc
octets_kind front (heads.Array size) inner x is read = absurd cc
octets_kind front (heads.Map size) inner x is read = absurd cc
octets_kind front (heads.Bool flag) inner x is read = absurd cc
octets_kind front heads.Null inner x is read = absurd cc
octets_kind front (heads.Double wide) inner x is read = absurd cc

letters_kind : (front : List ℕ) (kind : Head) (inner : List ℕ) (x : List ℕ × List ℕ) → IsFront front kind → letters_of_head kind inner ≡ Ok x
    → (n : ℕ) × IsHead 3 n front
letters_kind front (heads.Text (Some n)) inner x is read = (n, is)
letters_kind front (heads.Text None) inner x is read = absurd cc
letters_kind front (heads.Whole n) inner x is read = absurd cc
letters_kind front (heads.Negative n) inner x is read = absurd cc
letters_kind front (heads.Bytes size) inner x is read = absurd cc
letters_kind front (heads.Array size) inner x is read = absurd cc
letters_kind front (heads.Map size) inner x is read = absurd cc
letters_kind front (heads.Bool flag) inner x is read = absurd cc
letters_kind front heads.Null inner x is read = absurd cc
letters_kind front (heads.Double wide) inner x is read = absurd cc

-- the head that was read is the head that is known
same_head : (A : Head → List ℕ → Type 0) (bytes : List ℕ) (h k : Head × List ℕ) → head_at bytes ≡ Ok h → head_at bytes ≡ Ok k → A h.0 h.1 → A k.0 k.1
same_head A bytes h k read known a = subst (λ (x : Head × List ℕ). A x.0 x.1) (ok_is h k (sym read ∙ known)) a

octets_faulty : (e : CborRefusal) (bytes : List ℕ) (x : List ℕ × List ℕ) → IsBytes bytes → octets_chunk_at bytes ≡ Ok x → ChunkFaults e 2 bytes → ⊥
unfolding head_by
octets_faulty Cut bytes x fits read (inl cut) = let h = octets_chunk_read bytes x read in whole_head bytes h.0 cut h.1.0
octets_faulty Cut bytes x fits read (inr c) =
    let h = octets_chunk_read bytes x read in
    let known : head_at bytes ≡ Ok (heads.Bytes (Some c.n), c.rest) = ap head_at c.is ∙ head_again 2 c.n c.head (heads.Bytes (Some c.n)) c.is_head (omega arith) refl c.rest in
    whole_part c.n c.rest x c.short (same_head (λ kind inner. octets_of_head kind inner ≡ Ok x) bytes h.0 (heads.Bytes (Some c.n), c.rest) h.1.0 known h.1.1)
octets_faulty BadHead bytes x fits read other =
    let h = octets_chunk_read bytes x read in
    let t = head_takes bytes h.0.0 h.0.1 fits h.1.0 in
    let k = octets_kind t.front h.0.0 h.0.1 x t.is h.1.1 in
    same_chunk 2 k.0 bytes t.front h.0.1 t.parts k.1 other
octets_faulty BadUtf8 bytes x fits read bad = let is = bad.0 in absurd (omega arith)
octets_faulty BadKey bytes x fits read fault = fault
octets_faulty OutOfRange bytes x fits read fault = fault
octets_faulty TooDeep bytes x fits read fault = fault
octets_faulty Trailing bytes x fits read fault = fault
octets_faulty (Memory error) bytes x fits read fault = fault

text_faulty : (e : CborRefusal) (bytes : List ℕ) (x : List ℕ × List ℕ) → IsBytes bytes → text_chunk_at bytes ≡ Ok x → ChunkFaults e 3 bytes → ⊥
unfolding head_by
text_faulty Cut bytes x fits read (inl cut) = let h = text_chunk_read bytes x read in whole_head bytes h.0 cut h.1.0
text_faulty Cut bytes x fits read (inr c) =
    let h = text_chunk_read bytes x read in
    let known : head_at bytes ≡ Ok (heads.Text (Some c.n), c.rest) = ap head_at c.is ∙ head_again 3 c.n c.head (heads.Text (Some c.n)) c.is_head (omega arith) refl c.rest in
    letters_whole c.n c.rest x c.short (same_head (λ kind inner. letters_of_head kind inner ≡ Ok x) bytes h.0 (heads.Text (Some c.n), c.rest) h.1.0 known h.1.1)
text_faulty BadHead bytes x fits read other =
    let h = text_chunk_read bytes x read in
    let t = head_takes bytes h.0.0 h.0.1 fits h.1.0 in
    let k = letters_kind t.front h.0.0 h.0.1 x t.is h.1.1 in
    same_chunk 3 k.0 bytes t.front h.0.1 t.parts k.1 other
text_faulty BadUtf8 bytes x fits read bad =
    let b = bad.1 in
    let h = text_chunk_read bytes x read in
    let inner = b.text ++ b.rest in
    let known : head_at bytes ≡ Ok (heads.Text (Some (length b.text)), inner) = ap head_at b.is ∙ head_again 3 (length b.text) b.head (heads.Text (Some (length b.text))) b.is_head (omega arith) refl inner in
    letters_good b.text b.rest x b.bad (same_head (λ kind rest. letters_of_head kind rest ≡ Ok x) bytes h.0 (heads.Text (Some (length b.text)), inner) h.1.0 known h.1.1)
text_faulty BadKey bytes x fits read fault = fault
text_faulty OutOfRange bytes x fits read fault = fault
text_faulty TooDeep bytes x fits read fault = fault
text_faulty Trailing bytes x fits read fault = fault
text_faulty (Memory error) bytes x fits read fault = fault

octets_excluded : (e : CborRefusal) (d : ℕ) (chunks joined rest : List ℕ) → Chunks 2 IsAny chunks joined → ChunkFaults e 2 rest → IsBytes rest
    → Read d (95 ∷ (chunks ++ rest)) → ⊥
unfolding head_by octets_at open_at
octets_excluded e d chunks s rest are fault fits r =
    let inner = chunks ++ rest in
    let used = known_use d (95 ∷ inner) (heads.Bytes None) inner r (open_head 2 (heads.Bytes None) (omega arith) refl inner) in
    let o = octets_use d None inner used in
    let b = bind_ok (until_at octets_chunk_at (length inner) inner) (λ parts. got (joined parts.0) parts.1) o.0 o.1 in
    let still = octets_pass chunks s are (length inner) rest b.0.0 b.0.1 b.1 in
    let x = next_open octets_chunk_at rest b.0.1 (λ tail is. chunk_at_break e 2 rest tail (omega arith) is fault) still in
    octets_faulty e rest x.0 fits x.1 fault

text_excluded : (e : CborRefusal) (d : ℕ) (chunks joined rest : List ℕ) → Chunks 3 IsAny chunks joined → ChunkFaults e 3 rest → IsBytes rest
    → Read d (127 ∷ (chunks ++ rest)) → ⊥
unfolding head_by text_at open_at
text_excluded e d chunks s rest are fault fits r =
    let inner = chunks ++ rest in
    let used = known_use d (127 ∷ inner) (heads.Text None) inner r (open_head 3 (heads.Text None) (omega arith) refl inner) in
    let o = text_use d None inner used in
    let b = bind_ok (until_at text_chunk_at (length inner) inner) (λ parts. got (joined parts.0) parts.1) o.0 o.1 in
    let still = text_pass chunks s are (length inner) rest b.0.0 b.0.1 b.1 in
    let x = next_open text_chunk_at rest b.0.1 (λ tail is. chunk_at_break e 3 rest tail (omega arith) is fault) still in
    text_faulty e rest x.0 fits x.1 fault

-- ---- arrays and maps

-- the members after some of them are read too, one level deeper
record NextMember (d : ℕ) (rest : List ℕ) : Type 0 where
  pub left : ℕ
  pub is : d ≡ suc left
  pub x : Value × List ℕ
  pub read : item_at left rest ≡ Ok x

record NextPair (d : ℕ) (rest : List ℕ) : Type 0 where
  pub left : ℕ
  pub is : d ≡ suc left
  pub x : Pair × List ℕ
  pub read : pair_at (item_at left) rest ≡ Ok x

next_member : (d k : ℕ) (may : Bool) (head members rest : List ℕ) → HasNextMember 4 k may head → AreItems k members
    → ((tail : List ℕ) → may ≡ true → rest ≡ 255 ∷ tail → ⊥) → Read d (head ++ (members ++ rest)) → NextMember d rest
unfolding head_by body_at open_at
next_member d k _ _ members rest (definite n head is_head more) are unbroken r =
    go (known_use d (head ++ (members ++ rest)) (heads.Array (Some n)) (members ++ rest) r (head_again 4 n head (heads.Array (Some n)) is_head (omega arith) refl (members ++ rest)))
  where
    go : Use d (heads.Array (Some n)) (members ++ rest) → NextMember d rest
    go (as_item e is x read) =
        let b = bind_ok (many_at (item_at e) n (members ++ rest)) (λ members. got (values.Array members.0) members.1) x read in
        let p = many_pass IsItem (item_at e) (item_ends e) k members (item_parts k members are) (n - k) n (omega arith) rest b.0.0 b.0.1 b.1 in
        let y = next_of_many (item_at e) (n - k) rest p.0 b.0.1 (omega arith) p.1 in
        record { left = e; is = is; x = y.0; read = y.1 }
    go (as_key x read) = absurd cc
next_member d k _ _ members rest indefinite are unbroken r =
    go (known_use d (159 ∷ (members ++ rest)) (heads.Array None) (members ++ rest) r (open_head 4 (heads.Array None) (omega arith) refl (members ++ rest)))
  where
    go : Use d (heads.Array None) (members ++ rest) → NextMember d rest
    go (as_item e is x read) =
        let b = bind_ok (until_at (item_at e) (length (members ++ rest)) (members ++ rest)) (λ members. got (values.Array members.0) members.1) x read in
        let still = until_pass IsItem (item_at e) (item_ends e) item_begins k members (item_parts k members are) (length (members ++ rest)) rest b.0.0 b.0.1 b.1 in
        let y = next_open (item_at e) rest b.0.1 (λ tail broken. unbroken tail refl broken) still in
        record { left = e; is = is; x = y.0; read = y.1 }
    go (as_key x read) = absurd cc

next_pair : (d k : ℕ) (may : Bool) (head pairs rest : List ℕ) → HasNextMember 5 k may head → ArePairs k pairs
    → ((tail : List ℕ) → may ≡ true → rest ≡ 255 ∷ tail → ⊥) → Read d (head ++ (pairs ++ rest)) → NextPair d rest
unfolding head_by body_at open_at
next_pair d k _ _ pairs rest (definite n head is_head more) are unbroken r =
    go (known_use d (head ++ (pairs ++ rest)) (heads.Map (Some n)) (pairs ++ rest) r (head_again 5 n head (heads.Map (Some n)) is_head (omega arith) refl (pairs ++ rest)))
  where
    go : Use d (heads.Map (Some n)) (pairs ++ rest) → NextPair d rest
    go (as_item e is x read) =
        let b = bind_ok (many_at (pair_at (item_at e)) n (pairs ++ rest)) (λ pairs. got (values.Map pairs.0) pairs.1) x read in
        let p = many_pass IsPair (pair_at (item_at e)) (pair_ends_at e) k pairs (pair_parts k pairs are) (n - k) n (omega arith) rest b.0.0 b.0.1 b.1 in
        let y = next_of_many (pair_at (item_at e)) (n - k) rest p.0 b.0.1 (omega arith) p.1 in
        record { left = e; is = is; x = y.0; read = y.1 }
    go (as_key x read) = absurd cc
next_pair d k _ _ pairs rest indefinite are unbroken r =
    go (known_use d (191 ∷ (pairs ++ rest)) (heads.Map None) (pairs ++ rest) r (open_head 5 (heads.Map None) (omega arith) refl (pairs ++ rest)))
  where
    go : Use d (heads.Map None) (pairs ++ rest) → NextPair d rest
    go (as_item e is x read) =
        let b = bind_ok (until_at (pair_at (item_at e)) (length (pairs ++ rest)) (pairs ++ rest)) (λ pairs. got (values.Map pairs.0) pairs.1) x read in
        let still = until_pass IsPair (pair_at (item_at e)) (pair_ends_at e) pair_begins k pairs (pair_parts k pairs are) (length (pairs ++ rest)) rest b.0.0 b.0.1 b.1 in
        let y = next_open (pair_at (item_at e)) rest b.0.1 (λ tail broken. unbroken tail refl broken) still in
        record { left = e; is = is; x = y.0; read = y.1 }
    go (as_key x read) = absurd cc

-- the value after a key is read too
next_value : (d : ℕ) (key_bytes rest : List ℕ) (x : Pair × List ℕ) → IsItem key_bytes → pair_at (item_at d) (key_bytes ++ rest) ≡ Ok x
    → (y : Value × List ℕ) × (item_at d rest ≡ Ok y)
unfolding pair_at
next_value d key_bytes rest x is read =
    let a = bind_ok (key_at (key_bytes ++ rest)) (λ key. item_at d key.1 >>= λ value. got (make key.0 value.0) value.1) x read in
    let b = bind_ok (item_at d a.0.1) (λ value. got (make a.0.0 value.0) value.1) x a.2 in
    let end = key_ends key_bytes is rest a.0.0 a.0.1 a.1 in
    (b.0, ap (item_at d) (sym end) ∙ b.1)
  where
    make : List ℕ → Value → Pair
    make key value = record { key = key; value = value }

key_at_break : (key_bytes rest tail : List ℕ) → IsItem key_bytes → key_bytes ++ rest ≡ 255 ∷ tail → ⊥
key_at_break key_bytes rest tail is broken =
    let unbroken = item_begins key_bytes is rest in
    absurd (let clash : Some tail ≡ None = sym (ap break_at broken) ∙ unbroken in cc)

suffix : (head middle rest : List ℕ) → IsBytes (head ++ (middle ++ rest)) → IsBytes rest
suffix head middle rest fits = IsBytes-suffix middle rest (IsBytes-suffix head (middle ++ rest) fits)

pub excluded : (e : CborRefusal) (place : Due) (inside : ℕ) (bytes : List ℕ) → Within e place inside bytes
    → (d : ℕ) → d + inside ≡ 32 → IsBytes bytes → Reach d place bytes → ⊥
excluded e _ _ _ (at_front place inside bytes fault) d sum fits r = no_fault e place inside bytes d sum fits r fault
excluded e _ _ _ (in_bytes place inside chunks joined rest are fault) d sum fits r =
    octets_excluded e d chunks joined rest are fault (suffix (95 ∷ []) chunks rest fits) (was_read d place (95 ∷ (chunks ++ rest)) r)
excluded e _ _ _ (in_text place inside chunks joined rest are fault) d sum fits r =
    text_excluded e d chunks joined rest are fault (suffix (127 ∷ []) chunks rest fits) (was_read d place (127 ∷ (chunks ++ rest)) r)
excluded e _ _ _ (in_array place inside k may head members rest on are inner) d sum fits r =
    let n = next_member d k may head members rest on are (λ tail open_ended broken. not_at_break e (places.item may) (suc inside) rest inner tail open_ended broken) (was_read d place (head ++ (members ++ rest)) r) in
    let is = n.is in
    excluded e (places.item may) (suc inside) rest inner n.left (omega arith) (suffix head members rest fits) (n.x, n.read)
excluded e _ _ _ (in_key place inside k may head pairs rest on are inner) d sum fits r =
    let n = next_pair d k may head pairs rest on are (λ tail open_ended broken. not_at_break e (places.key may) (suc inside) rest inner tail open_ended broken) (was_read d place (head ++ (pairs ++ rest)) r) in
    let is = n.is in
    excluded e (places.key may) (suc inside) rest inner n.left (omega arith) (suffix head pairs rest fits) (n.x, n.read)
excluded e _ _ _ (in_value place inside k may head pairs key_bytes rest on are is_item inner) d sum fits r =
    let n = next_pair d k may head pairs (key_bytes ++ rest) on are (λ tail open_ended broken. key_at_break key_bytes rest tail is_item broken) (was_read d place (head ++ (pairs ++ (key_bytes ++ rest))) r) in
    let is = n.is in
    let v = next_value n.left key_bytes rest n.x is_item n.read in
    excluded e places.value (suc inside) rest inner n.left (omega arith) (IsBytes-suffix key_bytes rest (suffix head pairs (key_bytes ++ rest) fits)) v

-- ---- all of the bytes

alone_excluded : (e : CborRefusal) (bytes : List ℕ) (v : Value) → IsBytes bytes → Within e (places.item false) 0 bytes → item_at 32 bytes ≡ got v [] → ⊥
alone_excluded e bytes v fits within read = excluded e (places.item false) 0 bytes within 32 (omega arith) fits ((v, []), read)

-- no refusal applies to bytes that have a value
pub never_both : (bytes : List ℕ) (v : Value) (e : CborRefusal) → IsBytes bytes → Cbor bytes v → depth_of v ≤ 32 → Stands e bytes → ⊥
never_both bytes v e fits cbor deep stands =
    let read : item_at 32 bytes ≡ got v [] = ap (item_at 32) (sym (append-nil bytes)) ∙ item_again 32 bytes v (cbor, deep) [] in
    go e stands read
  where
    go : (e : CborRefusal) → Stands e bytes → item_at 32 bytes ≡ got v [] → ⊥
    go Cut within read = alone_excluded Cut bytes v fits within read
    go BadHead within read = alone_excluded BadHead bytes v fits within read
    go BadKey within read = alone_excluded BadKey bytes v fits within read
    go BadUtf8 within read = alone_excluded BadUtf8 bytes v fits within read
    go OutOfRange within read = alone_excluded OutOfRange bytes v fits within read
    go TooDeep within read = alone_excluded TooDeep bytes v fits within read
    go Trailing trailing read =
        let end = item_ends 32 trailing.item_bytes trailing.is_item (trailing.first ∷ trailing.rest) v [] (ap (item_at 32) (sym trailing.is) ∙ read) in
        absurd cc
    go (Memory error) stands read = stands
