-- A refusal that is returned applies to the bytes.
use Rattle.std.proofs.Common.{◌≡◌, ℕ, zero, suc, ◌+◌, ◌^◌, ◌<◌, Bool, true, false, ltb, List, [], ◌∷◌, ◌++◌, length, Option, Some, None, Ok, Err, sym, ap, subst, ◌∙◌, arith, inl, inr}
use Rattle.std.specs.Prelude.{pos, negsuc}
use Rattle.std.specs.Str.{IsUtf8}
use Rattle.std.proofs.lemmas.Bool.{ltb-false, cases_Bool}
use Rattle.lists.proofs.AllBytes.{IsBytes}
use Rattle.otlp_model.specs.declared.value.Value.{Value}
use Rattle.otlp_model.specs.declared.value.Value as values
use Rattle.otlp_model.specs.declared.value.Pair.{Pair}
use Rattle.cbor_values.specs.declared.refusal.CborRefusal.{CborRefusal}
use Rattle.cbor_values.specs.declared.refusal.CborRefusal.TheVariants.{Cut, BadHead, BadKey, BadUtf8, OutOfRange, TooDeep, Trailing, Memory}
use Rattle.cbor_values.specs.declared.heads.Head.{Head}
use Rattle.cbor_values.specs.declared.heads.Head.TheVariants as heads
use Rattle.cbor_values.specs.Heads.{IsHead}
use Rattle.cbor_values.specs.Strings.{IsAny}
use Rattle.cbor_values.specs.Items.{ArePairs}
use Rattle.cbor_values.specs.Refusals as places
use Rattle.cbor_values.specs.Refusals.{Due, may_break, IsBadKey, Faults, HasNextMember, definite, indefinite, Within}
use Rattle.cbor_values.specs.Refusals.{at_front, in_bytes, in_text, in_array, in_key, in_value, IsTrailing, Stands}
use Rattle.lists.specs.Results.{◌>>=◌}
use Rattle.cbor_values.specs.Reading.{head_at, many_at, open_at, joined, octets_chunk_at, text_chunk_at, octets_at, text_at, key_of_head, key_at, pair_at, whole_of, body_at, item_at, whole_item, all_at}
use Rattle.cbor_values.proofs.Steps.{bind_err, err_is, failed, got}
use Rattle.cbor_values.proofs.Front.{head_of_break, head_of_nothing}
use Rattle.cbor_values.proofs.Again.{IsChunk, Shallow, ShallowPair}
use Rattle.cbor_values.proofs.Takes.{IsFront, IsSized, head_takes, row_chunks, key_takes}
use Rattle.cbor_values.proofs.ItemTakes.{octets_reader, text_reader, item_reader, pair_reader, item_takes}
use Rattle.cbor_values.proofs.Forms.{any_chunks, text_item, cbor_item, row_items, row_pair_items}
use Rattle.cbor_values.proofs.Stops.{many_stops, open_stops}
use Rattle.cbor_values.proofs.Faulty.{Closed, closed_never, closed_unbroken, head_fails, head_faults, part_fails, letters_fail}
use Rattle.cbor_values.proofs.Faulty.{cut_string, bad_text, octets_chunk_fails, text_chunk_fails, major_of, TellsMajor, front_major}

-- a fault under its name
fault : (place : Due) (inside : ℕ) (bytes : List ℕ) (d e : CborRefusal) → d ≡ e → Faults d place inside bytes
    → Within e place inside bytes
fault place inside bytes d e same is = at_front place inside bytes (subst (λ (r : CborRefusal). Faults r place inside bytes) same is)

-- the same bytes in another form
at_bytes : (e : CborRefusal) (place : Due) (inside : ℕ) (bytes told : List ℕ) → bytes ≡ told → Within e place inside told
    → Within e place inside bytes
at_bytes e place inside bytes told same is = subst (λ (b : List ℕ). Within e place inside b) (sym same) is

-- ---- strings

octets_refused : (place : Due) (inside : ℕ) (front : List ℕ) (size : Option ℕ) (bytes inner : List ℕ) (e : CborRefusal)
    → bytes ≡ front ++ inner → IsBytes inner → IsSized 2 front size → octets_at size inner ≡ Err e → Within e place inside bytes
unfolding octets_at
octets_refused place inside front (Some n) bytes inner e parts fits is fails =
    let p = part_fails n inner e fails in
    fault place inside bytes Cut e p.0 (inr (inl (cut_string 2 n front bytes inner parts is p.1)))
octets_refused place inside front None bytes inner e parts fits is fails =
    elim (bind_err (open_at octets_chunk_at inner) (λ parts. got (joined parts.0) parts.1) e fails) [
      | inl here ↦
          let stop = open_stops (IsChunk 2 IsAny) octets_chunk_at e octets_reader inner fits here in
          let s = stop.1.0 in
          let whole_bytes : bytes ≡ 95 ∷ (s.front ++ s.rest) = parts ∙ ap (λ (f : List ℕ). f ++ inner) is ∙ ap (λ (t : List ℕ). 95 ∷ t) s.parts in
          at_bytes e place inside bytes (95 ∷ (s.front ++ s.rest)) whole_bytes
          (in_bytes place inside s.front (joined stop.0) s.rest (row_chunks 2 IsAny s.front stop.0 s.row) (octets_chunk_fails s.rest e s.fits stop.1.1 s.fails))
      | inr never ↦ absurd (let clash = never.2 in cc)
    ]

text_refused : (place : Due) (inside : ℕ) (front : List ℕ) (size : Option ℕ) (bytes inner : List ℕ) (e : CborRefusal)
    → bytes ≡ front ++ inner → IsBytes inner → IsSized 3 front size → text_at size inner ≡ Err e → Within e place inside bytes
unfolding text_at
text_refused place inside front (Some n) bytes inner e parts fits is fails = elim (letters_fail n inner e fits fails) [
  | inl cut ↦ fault place inside bytes Cut e cut.0 (inr (inr (cut_string 3 n front bytes inner parts is cut.1)))
  | inr bad ↦ fault place inside bytes BadUtf8 e bad.0 (bad_text n front bytes inner parts is bad.1)
]
text_refused place inside front None bytes inner e parts fits is fails =
    elim (bind_err (open_at text_chunk_at inner) (λ parts. got (joined parts.0) parts.1) e fails) [
      | inl here ↦
          let stop = open_stops (IsChunk 3 IsUtf8) text_chunk_at e text_reader inner fits here in
          let s = stop.1.0 in
          let whole_bytes : bytes ≡ 127 ∷ (s.front ++ s.rest) = parts ∙ ap (λ (f : List ℕ). f ++ inner) is ∙ ap (λ (t : List ℕ). 127 ∷ t) s.parts in
          at_bytes e place inside bytes (127 ∷ (s.front ++ s.rest)) whole_bytes
          (in_text place inside s.front (joined stop.0) s.rest (any_chunks 3 IsUtf8 s.front (joined stop.0) (row_chunks 3 IsUtf8 s.front stop.0 s.row)) (text_chunk_fails s.rest e s.fits stop.1.1 s.fails))
      | inr never ↦ absurd (let clash = never.2 in cc)
    ]

-- ---- keys

no_text : (told : ℕ) (may : Bool) (bytes : List ℕ) → (told ≡ 3 → ⊥) → Closed may bytes → TellsMajor told bytes
    → IsBadKey (places.key may) bytes
no_text told may [] other closed tells = tells
no_text told may (first ∷ rest) other closed tells = (λ same. other (sym tells ∙ same), closed)

strange_key : (may : Bool) (inside : ℕ) (front : List ℕ) (kind : Head) (bytes inner : List ℕ) (e : CborRefusal) → bytes ≡ front ++ inner
    → Closed may bytes → IsFront front kind → (major_of kind ≡ 3 → ⊥) → failed (List ℕ × List ℕ) BadKey ≡ Err e
    → Within e (places.key may) inside bytes
strange_key may inside front kind bytes inner e parts closed is other fails =
    fault (places.key may) inside bytes BadKey e (err_is {A = List ℕ × List ℕ} BadKey e fails)
    (no_text (major_of kind) may bytes other closed (subst (λ (b : List ℕ). TellsMajor (major_of kind) b) (sym parts) (front_major front kind inner is)))

key_of_refused : (may : Bool) (inside : ℕ) (front : List ℕ) (kind : Head) (bytes inner : List ℕ) (e : CborRefusal)
    → bytes ≡ front ++ inner → Closed may bytes → IsBytes inner → IsFront front kind → key_of_head kind inner ≡ Err e
    → Within e (places.key may) inside bytes
key_of_refused may inside front (heads.Text size) bytes inner e parts closed fits is fails =
    text_refused (places.key may) inside front size bytes inner e parts fits is fails
key_of_refused may inside front (heads.Whole n) bytes inner e parts closed fits is fails = strange_key may inside front (heads.Whole n) bytes inner e parts closed is (λ s. omega arith) fails
key_of_refused may inside front (heads.Negative n) bytes inner e parts closed fits is fails = strange_key may inside front (heads.Negative n) bytes inner e parts closed is (λ s. omega arith) fails
key_of_refused may inside front (heads.Bytes size) bytes inner e parts closed fits is fails = strange_key may inside front (heads.Bytes size) bytes inner e parts closed is (λ s. omega arith) fails
key_of_refused may inside front (heads.Array size) bytes inner e parts closed fits is fails = strange_key may inside front (heads.Array size) bytes inner e parts closed is (λ s. omega arith) fails
key_of_refused may inside front (heads.Map size) bytes inner e parts closed fits is fails = strange_key may inside front (heads.Map size) bytes inner e parts closed is (λ s. omega arith) fails
key_of_refused may inside front (heads.Bool flag) bytes inner e parts closed fits is fails = strange_key may inside front (heads.Bool flag) bytes inner e parts closed is (λ s. omega arith) fails
key_of_refused may inside front heads.Null bytes inner e parts closed fits is fails = strange_key may inside front heads.Null bytes inner e parts closed is (λ s. omega arith) fails
key_of_refused may inside front (heads.Double wide) bytes inner e parts closed fits is fails = strange_key may inside front (heads.Double wide) bytes inner e parts closed is (λ s. omega arith) fails

key_refused : (may : Bool) (inside : ℕ) (bytes : List ℕ) (e : CborRefusal) → IsBytes bytes → Closed may bytes → key_at bytes ≡ Err e
    → Within e (places.key may) inside bytes
unfolding key_at
key_refused may inside bytes e fits closed fails =
    elim (bind_err (head_at bytes) (λ head. key_of_head head.0 head.1) e fails) [
      | inl here ↦ at_front (places.key may) inside bytes (head_faults (places.key may) inside bytes e closed (head_fails bytes e fits here))
      | inr there ↦
          let t = head_takes bytes there.0.0 there.0.1 fits there.1 in
          key_of_refused may inside t.front there.0.0 bytes there.0.1 e t.parts closed t.fits t.is there.2
    ]

-- ---- items

-- an item that may be no deeper
too_deep : (place : Due) (inside : ℕ) (bytes : List ℕ) (head : Head × List ℕ) → inside ≡ 32 → head_at bytes ≡ Ok head
    → Faults TooDeep place inside bytes
unfolding item_at
too_deep place inside bytes head deep read = go bytes read
  where
    go : (b : List ℕ) → head_at b ≡ Ok head → Faults TooDeep place inside b
    go [] found = absurd (let clash = sym head_of_nothing ∙ found in cc)
    go (first ∷ rest) found = (
      λ is. absurd (let broken : head_at (first ∷ rest) ≡ Err BadHead = rw is (head_of_break rest) in let clash = sym broken ∙ found in cc),
      omega arith,
    )

out_of_range : (major n : ℕ) (make : ℕ → Value) (front bytes inner : List ℕ) (e : CborRefusal) (place : Due) (inside : ℕ) → major < 2
    → bytes ≡ front ++ inner → IsHead major n front → (whole_of n >>= λ n. got (make n) inner) ≡ Err e → Within e place inside bytes
out_of_range major n make front bytes inner e place inside low parts is fails = elim (cases_Bool (ltb n (2 ^ 63))) [
  | inl small ↦ absurd (let clash = rw small at fails in cc)
  | inr large ↦
      fault place inside bytes OutOfRange e (err_is {A = Value × List ℕ} OutOfRange e (rw large at fails))
      (record { major = major; n = n; head = front; rest = inner; integer = low; is = parts; is_head = is; large = ltb-false n (2 ^ 63) large })
]

-- a refusal of an item applies within it, d levels being left
abbrev pub ItemRefused : ℕ → ℕ → Type 0
ItemRefused d inside = (place : Due) (bytes : List ℕ) (e : CborRefusal) → IsBytes bytes → Closed (may_break place) bytes
    → item_at d bytes ≡ Err e → Within e place inside bytes

-- what stopped a reading of pairs: a key, or a value after its key
pair_refused : (d inside : ℕ) → ItemRefused d (suc inside) → (place : Due) (k : ℕ) (may : Bool) (head pairs rest : List ℕ) (e : CborRefusal)
    → HasNextMember 5 k may head → ArePairs k pairs → IsBytes rest → Closed may rest → pair_at (item_at d) rest ≡ Err e
    → Within e place inside (head ++ (pairs ++ rest))
unfolding pair_at
pair_refused d inside refused place k may head pairs rest e on are fits closed fails =
    elim (bind_err (key_at rest) (λ key. item_at d key.1 >>= λ value. got (make key.0 value.0) value.1) e fails) [
      | inl here ↦ in_key place inside k may head pairs rest on are (key_refused may (suc inside) rest e fits closed here)
      | inr there ↦
          let key = key_takes rest there.0.0 there.0.1 fits there.1 in
          elim (bind_err (item_at d there.0.1) (λ value. got (make there.0.0 value.0) value.1) e there.2) [
            | inl inner ↦
                subst (λ (r : List ℕ). Within e place inside (head ++ (pairs ++ r))) (sym key.parts)
                (in_value place inside k may head pairs key.front there.0.1 on are (text_item key.front there.0.0 key.is)
                (refused places.value there.0.1 e key.fits (closed_never there.0.1) inner))
            | inr never ↦ absurd (let clash = never.2 in cc)
          ]
    ]
  where
    make : List ℕ → Value → Pair
    make key value = record { key = key; value = value }

split_front : (front bytes inner middle rest : List ℕ) → bytes ≡ front ++ inner → inner ≡ middle ++ rest → bytes ≡ front ++ (middle ++ rest)
split_front front bytes inner middle rest parts split = parts ∙ ap (λ (t : List ℕ). front ++ t) split

body_refused : (d inside : ℕ) → ItemRefused d (suc inside) → (place : Due) (front : List ℕ) (head : Head) (bytes inner : List ℕ) (e : CborRefusal)
    → bytes ≡ front ++ inner → IsBytes inner → IsFront front head → body_at (item_at d) head inner ≡ Err e → Within e place inside bytes
unfolding body_at
body_refused d inside refused place front heads.Null bytes inner e parts fits is fails = absurd cc
body_refused d inside refused place front (heads.Bool flag) bytes inner e parts fits is fails = absurd cc
body_refused d inside refused place front (heads.Double wide) bytes inner e parts fits is fails = absurd cc
body_refused d inside refused place front (heads.Whole n) bytes inner e parts fits is fails =
    out_of_range 0 n (λ n. values.Int (pos n)) front bytes inner e place inside (omega arith) parts is fails
body_refused d inside refused place front (heads.Negative n) bytes inner e parts fits is fails =
    out_of_range 1 n (λ n. values.Int (negsuc n)) front bytes inner e place inside (omega arith) parts is fails
body_refused d inside refused place front (heads.Bytes size) bytes inner e parts fits is fails =
    elim (bind_err (octets_at size inner) (λ s. got (values.Bytes s.0) s.1) e fails) [
      | inl here ↦ octets_refused place inside front size bytes inner e parts fits is here
      | inr never ↦ absurd (let clash = never.2 in cc)
    ]
body_refused d inside refused place front (heads.Text size) bytes inner e parts fits is fails =
    elim (bind_err (text_at size inner) (λ s. got (values.Str s.0) s.1) e fails) [
      | inl here ↦ text_refused place inside front size bytes inner e parts fits is here
      | inr never ↦ absurd (let clash = never.2 in cc)
    ]
body_refused d inside refused place front (heads.Array (Some n)) bytes inner e parts fits is fails =
    elim (bind_err (many_at (item_at d) n inner) (λ members. got (values.Array members.0) members.1) e fails) [
      | inl here ↦
          let stop = many_stops (Shallow d) (item_at d) e (item_reader d) n inner fits here in
          let s = stop.2 in
          at_bytes e place inside bytes (front ++ (s.front ++ s.rest)) (split_front front bytes inner s.front s.rest parts s.parts)
          (in_array place inside (length stop.0) false front s.front s.rest (definite n front is stop.1) (row_items d s.front stop.0 s.row)
          (refused (places.item false) s.rest e s.fits (closed_never s.rest) s.fails))
      | inr never ↦ absurd (let clash = never.2 in cc)
    ]
body_refused d inside refused place front (heads.Array None) bytes inner e parts fits is fails =
    elim (bind_err (open_at (item_at d) inner) (λ members. got (values.Array members.0) members.1) e fails) [
      | inl here ↦
          let stop = open_stops (Shallow d) (item_at d) e (item_reader d) inner fits here in
          let s = stop.1.0 in
          let told : bytes ≡ (159 ∷ []) ++ (s.front ++ s.rest) = split_front front bytes inner s.front s.rest parts s.parts ∙ ap (λ (f : List ℕ). f ++ (s.front ++ s.rest)) is in
          at_bytes e place inside bytes ((159 ∷ []) ++ (s.front ++ s.rest)) told
          (in_array place inside (length stop.0) true (159 ∷ []) s.front s.rest indefinite (row_items d s.front stop.0 s.row)
          (refused (places.item true) s.rest e s.fits (closed_unbroken true s.rest stop.1.1) s.fails))
      | inr never ↦ absurd (let clash = never.2 in cc)
    ]
body_refused d inside refused place front (heads.Map (Some n)) bytes inner e parts fits is fails =
    elim (bind_err (many_at (pair_at (item_at d)) n inner) (λ pairs. got (values.Map pairs.0) pairs.1) e fails) [
      | inl here ↦
          let stop = many_stops (ShallowPair d) (pair_at (item_at d)) e (pair_reader d) n inner fits here in
          let s = stop.2 in
          at_bytes e place inside bytes (front ++ (s.front ++ s.rest)) (split_front front bytes inner s.front s.rest parts s.parts)
          (pair_refused d inside refused place (length stop.0) false front s.front s.rest e (definite n front is stop.1) (row_pair_items d s.front stop.0 s.row) s.fits (closed_never s.rest) s.fails)
      | inr never ↦ absurd (let clash = never.2 in cc)
    ]
body_refused d inside refused place front (heads.Map None) bytes inner e parts fits is fails =
    elim (bind_err (open_at (pair_at (item_at d)) inner) (λ pairs. got (values.Map pairs.0) pairs.1) e fails) [
      | inl here ↦
          let stop = open_stops (ShallowPair d) (pair_at (item_at d)) e (pair_reader d) inner fits here in
          let s = stop.1.0 in
          let told : bytes ≡ (191 ∷ []) ++ (s.front ++ s.rest) = split_front front bytes inner s.front s.rest parts s.parts ∙ ap (λ (f : List ℕ). f ++ (s.front ++ s.rest)) is in
          at_bytes e place inside bytes ((191 ∷ []) ++ (s.front ++ s.rest)) told
          (pair_refused d inside refused place (length stop.0) true (191 ∷ []) s.front s.rest e indefinite (row_pair_items d s.front stop.0 s.row) s.fits (closed_unbroken true s.rest stop.1.1) s.fails)
      | inr never ↦ absurd (let clash = never.2 in cc)
    ]

pub item_refused : (d inside : ℕ) → d + inside ≡ 32 → ItemRefused d inside
unfolding item_at
item_refused zero inside sum place bytes e fits closed fails =
    elim (bind_err (head_at bytes) (λ head. Err TooDeep) e fails) [
      | inl here ↦ at_front place inside bytes (head_faults place inside bytes e closed (head_fails bytes e fits here))
      | inr there ↦
          fault place inside bytes TooDeep e (err_is {A = Value × List ℕ} TooDeep e there.2)
          (too_deep place inside bytes there.0 (omega arith) there.1)
    ]
item_refused (suc d) inside sum place bytes e fits closed fails =
    elim (bind_err (head_at bytes) (λ head. body_at (item_at d) head.0 head.1) e fails) [
      | inl here ↦ at_front place inside bytes (head_faults place inside bytes e closed (head_fails bytes e fits here))
      | inr there ↦
          let t = head_takes bytes there.0.0 there.0.1 fits there.1 in
          body_refused d inside (item_refused d (suc inside) (omega arith)) place t.front there.0.0 bytes there.0.1 e t.parts t.fits t.is there.2
    ]

-- ---- all of the bytes

within_stands : (e : CborRefusal) (bytes : List ℕ) → Within e (places.item false) 0 bytes → Stands e bytes
within_stands Cut bytes is = is
within_stands BadHead bytes is = is
within_stands BadKey bytes is = is
within_stands BadUtf8 bytes is = is
within_stands OutOfRange bytes is = is
within_stands TooDeep bytes is = is
within_stands Trailing bytes is = absurd (no_trailing (places.item false) 0 bytes is)
  where
    no_trailing : (place : Due) (inside : ℕ) (bytes : List ℕ) → Within Trailing place inside bytes → ⊥
    no_trailing _ _ _ (at_front place inside bytes fault) = fault
    no_trailing _ _ _ (in_bytes place inside chunks joined rest are fault) = fault
    no_trailing _ _ _ (in_text place inside chunks joined rest are fault) = fault
    no_trailing _ _ _ (in_array place inside k may head members rest on are inner) = no_trailing (places.item may) (suc inside) rest inner
    no_trailing _ _ _ (in_key place inside k may head pairs rest on are inner) = no_trailing (places.key may) (suc inside) rest inner
    no_trailing _ _ _ (in_value place inside k may head pairs key_bytes rest on are is_item inner) = no_trailing places.value (suc inside) rest inner
within_stands (Memory error) bytes is = absurd (no_memory (places.item false) 0 bytes is)
  where
    no_memory : (place : Due) (inside : ℕ) (bytes : List ℕ) → Within (Memory error) place inside bytes → ⊥
    no_memory _ _ _ (at_front place inside bytes fault) = fault
    no_memory _ _ _ (in_bytes place inside chunks joined rest are fault) = fault
    no_memory _ _ _ (in_text place inside chunks joined rest are fault) = fault
    no_memory _ _ _ (in_array place inside k may head members rest on are inner) = no_memory (places.item may) (suc inside) rest inner
    no_memory _ _ _ (in_key place inside k may head pairs rest on are inner) = no_memory (places.key may) (suc inside) rest inner
    no_memory _ _ _ (in_value place inside k may head pairs key_bytes rest on are is_item inner) = no_memory places.value (suc inside) rest inner

left_over : (bytes : List ℕ) (value : Value) (rest : List ℕ) (e : CborRefusal) → IsBytes bytes → item_at 32 bytes ≡ got value rest
    → whole_item (value, rest) ≡ Err e → Stands e bytes
left_over bytes value [] e fits read fails = absurd cc
left_over bytes value (first ∷ rest) e fits read fails =
    let t = item_takes 32 bytes value (first ∷ rest) fits read in
    let is : IsTrailing bytes = record { item_bytes = t.front; first = first; rest = rest; is_item = cbor_item t.front value t.is.0; is = t.parts } in
    subst (λ (d : CborRefusal). Stands d bytes) (err_is {A = Value} Trailing e fails) is

pub all_refused : (bytes : List ℕ) (e : CborRefusal) → IsBytes bytes → all_at bytes ≡ Err e → Stands e bytes
unfolding all_at
all_refused bytes e fits fails = elim (bind_err (item_at 32 bytes) whole_item e fails) [
  | inl here ↦ within_stands e bytes (item_refused 32 0 (omega arith) (places.item false) bytes e fits (closed_never bytes) here)
  | inr there ↦ left_over bytes there.0.0 there.0.1 e fits there.1 there.2
]
