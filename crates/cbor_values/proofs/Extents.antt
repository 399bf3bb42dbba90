-- Where an item ends, whatever it means: a reading that succeeds goes just as far.
use Rattle.std.proofs.Common.{◌≡◌, ℕ, zero, suc, ◌+◌, ◌<◌, true, false, List, [], ◌∷◌, ◌++◌, length, Option, Some, None, Ok, Err, refl, sym, ap, subst, ◌∙◌, append_assoc, arith, inl, inr}
use Rattle.std.specs.Prelude.{pos, negsuc}
use Rattle.std.specs.Str.{is_utf8}
use Rattle.std.proofs.lemmas.Bool.{cases_Bool}
use Rattle.byteorder.specs.Endian.{big_number}
use Rattle.otlp_model.specs.declared.value.Value.{Value}
use Rattle.otlp_model.specs.declared.value.Value as values
use Rattle.otlp_model.specs.declared.value.Pair.{Pair}
use Rattle.cbor_values.specs.declared.refusal.CborRefusal.TheVariants.{TooDeep}
use Rattle.cbor_values.specs.declared.heads.Head.{Head}
use Rattle.cbor_values.specs.declared.heads.Head.TheVariants as heads
use Rattle.cbor_values.specs.Floats.{of_half, of_single}
use Rattle.cbor_values.specs.Heads.{IsHead}
use Rattle.cbor_values.specs.Strings.{IsAny, Chunks, no_chunk, one_chunk, whole, chunked}
use Rattle.cbor_values.specs.Items as items
use Rattle.cbor_values.specs.Items.{IsItem, AreItems, ArePairs}
use Rattle.lists.specs.Results.{◌>>=◌}
use Rattle.cbor_values.specs.Reading.{ValueReading, front_part, head_by, float_at, head_at, break_at, many_at, until_at, open_at, joined}
use Rattle.cbor_values.specs.Reading.{letters_at, octets_chunk_at, text_chunk_at, octets_at, text_at, key_of_head, key_at, pair_at, whole_of, body_at, item_at}
use Rattle.cbor_values.proofs.Steps.{bind_ok, ok_is, got}
use Rattle.cbor_values.proofs.Rows.{Starts, unbroken}
use Rattle.cbor_values.proofs.Front.{part_again, head_again, open_head, head_of_nothing, head_of_break}

-- a reading goes just as far as the bytes do
abbrev pub Ends : {X : Type 0} → (List ℕ → ValueReading X) → List ℕ → Type 0
Ends {X} one bytes = (rest : List ℕ) (x : X) (after : List ℕ) → one (bytes ++ rest) ≡ got x after → after ≡ rest

-- ---- parts, one after the other

pub data Parts (P : List ℕ → Type 0) : ℕ → List ℕ → Type 0 where
  no_part : Parts P zero []
  one_part : (n : ℕ) (bytes others : List ℕ) → P bytes → Parts P n others → Parts P (suc n) (bytes ++ others)

pub many_pass : {X : Type 0} (P : List ℕ → Type 0) (one : List ℕ → ValueReading X) → ((bytes : List ℕ) → P bytes → Ends one bytes)
    → (n : ℕ) (bytes : List ℕ) → Parts P n bytes → (m k : ℕ) → k ≡ n + m → (rest : List ℕ) (xs : List X) (after : List ℕ)
    → many_at one k (bytes ++ rest) ≡ got xs after → (ys : List X) × (many_at one m rest ≡ got ys after)
unfolding many_at
many_pass {X} P one ends _ _ no_part m k sum rest xs after read =
    let same : k ≡ m = omega arith in
    (xs, subst (λ (n : ℕ). many_at one n rest ≡ got xs after) same read)
many_pass P one ends _ _ (one_part n bytes others is more) m zero sum rest xs after read = absurd (omega arith)
many_pass {X} P one ends _ _ (one_part n bytes others is more) m (suc k) sum rest xs after read =
    let told : many_at one (suc k) (bytes ++ (others ++ rest)) ≡ got xs after = ap (many_at one (suc k)) (sym (append_assoc bytes others rest)) ∙ read in
    let a = bind_ok (one (bytes ++ (others ++ rest))) (λ first. many_at one k first.1 >>= λ others. got (first.0 ∷ others.0) others.1) (xs, after) told in
    let b = bind_ok (many_at one k a.0.1) (λ others. got (a.0.0 ∷ others.0) others.1) (xs, after) a.2 in
    let end = ends bytes is (others ++ rest) a.0.0 a.0.1 a.1 in
    let there : many_at one k (others ++ rest) ≡ got b.0.0 b.0.1 = ap (many_at one k) (sym end) ∙ b.1 in
    let last : b.0.1 ≡ after = ap (λ (x : List X × List ℕ). x.1) (ok_is (a.0.0 ∷ b.0.0, b.0.1) (xs, after) b.2) in
    many_pass P one ends n others more m k (omega arith) rest b.0.0 after (there ∙ ap (got b.0.0) last)

-- the same up to a break, which begins no part
abbrev pub StillOpen : {X : Type 0} → (List ℕ → ValueReading X) → List ℕ → List ℕ → Type 0
StillOpen {X} one rest after = (fuel : ℕ) × ((ys : List X) × (until_at one fuel rest ≡ got ys after))

pub until_pass : {X : Type 0} (P : List ℕ → Type 0) (one : List ℕ → ValueReading X) → ((bytes : List ℕ) → P bytes → Ends one bytes)
    → ((bytes : List ℕ) → P bytes → (rest : List ℕ) → break_at (bytes ++ rest) ≡ None)
    → (n : ℕ) (bytes : List ℕ) → Parts P n bytes → (fuel : ℕ) (rest : List ℕ) (xs : List X) (after : List ℕ)
    → until_at one fuel (bytes ++ rest) ≡ got xs after → StillOpen one rest after
unfolding until_at
until_pass P one ends begins _ _ no_part fuel rest xs after read = (fuel, (xs, read))
until_pass {X} P one ends begins _ _ (one_part n bytes others is more) zero rest xs after read =
    absurd (let told : until_at one zero (bytes ++ (others ++ rest)) ≡ got xs after = ap (until_at one zero) (sym (append_assoc bytes others rest)) ∙ read in
    let clash = rw (begins bytes is (others ++ rest)) at told in cc)
until_pass {X} P one ends begins _ _ (one_part n bytes others is more) (suc fuel) rest xs after read =
    let told : until_at one (suc fuel) (bytes ++ (others ++ rest)) ≡ got xs after = ap (until_at one (suc fuel)) (sym (append_assoc bytes others rest)) ∙ read in
    let step = rw (begins bytes is (others ++ rest)) at told in
    let a = bind_ok (one (bytes ++ (others ++ rest))) (λ first. until_at one fuel first.1 >>= λ others. got (first.0 ∷ others.0) others.1) (xs, after) step in
    let b = bind_ok (until_at one fuel a.0.1) (λ others. got (a.0.0 ∷ others.0) others.1) (xs, after) a.2 in
    let end = ends bytes is (others ++ rest) a.0.0 a.0.1 a.1 in
    let there : until_at one fuel (others ++ rest) ≡ got b.0.0 b.0.1 = ap (until_at one fuel) (sym end) ∙ b.1 in
    let last : b.0.1 ≡ after = ap (λ (x : List X × List ℕ). x.1) (ok_is (a.0.0 ∷ b.0.0, b.0.1) (xs, after) b.2) in
    until_pass P one ends begins n others more fuel rest b.0.0 after (there ∙ ap (got b.0.0) last)

-- at the break the reading is done
pub until_breaks : {X : Type 0} (one : List ℕ → ValueReading X) (rest after : List ℕ) → StillOpen one (255 ∷ rest) after → after ≡ rest
unfolding until_at
until_breaks {X} one rest after (zero, (ys, read)) = sym (ap (λ (x : List X × List ℕ). x.1) (ok_is ([], rest) (ys, after) read))
until_breaks {X} one rest after (suc fuel, (ys, read)) = sym (ap (λ (x : List X × List ℕ). x.1) (ok_is ([], rest) (ys, after) read))

-- ---- chunks

pub record IsAnyChunk (major : ℕ) (bytes : List ℕ) : Type 0 where
  pub head : List ℕ
  pub part : List ℕ
  pub is : bytes ≡ head ++ part
  pub is_head : IsHead major (length part) head

pub chunk_parts : (major : ℕ) (bytes s : List ℕ) → Chunks major IsAny bytes s → (n : ℕ) × Parts (IsAnyChunk major) n bytes
chunk_parts major _ _ no_chunk = (zero, no_part)
chunk_parts major _ _ (one_chunk head part bytes s is_head kind chunks) =
    let rest = chunk_parts major bytes s chunks in
    let here : IsAnyChunk major (head ++ part) = record { head = head; part = part; is = refl; is_head = is_head } in
    (suc rest.0, subst (λ (b : List ℕ). Parts (IsAnyChunk major) (suc rest.0) b) (append_assoc head part bytes) (one_part rest.0 (head ++ part) bytes here rest.1))

octets_end : (bytes : List ℕ) → IsAnyChunk 2 bytes → Ends octets_chunk_at bytes
unfolding octets_chunk_at head_by
octets_end bytes chunk rest x after read =
    let front : bytes ++ rest ≡ chunk.head ++ (chunk.part ++ rest) = ap (λ (b : List ℕ). b ++ rest) chunk.is ∙ append_assoc chunk.head chunk.part rest in
    let told : octets_chunk_at (chunk.head ++ (chunk.part ++ rest)) ≡ got x after = ap octets_chunk_at (sym front) ∙ read in
    let inner = rw (head_again 2 (length chunk.part) chunk.head (heads.Bytes (Some (length chunk.part))) chunk.is_head (omega arith) refl (chunk.part ++ rest)) at told in
    let split = sym (part_again chunk.part rest (length chunk.part) refl) ∙ inner in
    sym (ap (λ (p : List ℕ × List ℕ). p.1) (ok_is (chunk.part, rest) (x, after) split))

-- a text that is read goes just as far
letters_end : (s rest x after : List ℕ) → letters_at (length s) (s ++ rest) ≡ got x after → after ≡ rest
unfolding letters_at
letters_end s rest x after read =
    let told = rw (part_again s rest (length s) refl) at read in
    elim (cases_Bool (is_utf8 s)) [
      | inl utf8 ↦ sym (ap (λ (p : List ℕ × List ℕ). p.1) (ok_is (s, rest) (x, after) (rw utf8 at told)))
      | inr other ↦ absurd (let clash = rw other at told in cc)
    ]

text_end : (bytes : List ℕ) → IsAnyChunk 3 bytes → Ends text_chunk_at bytes
unfolding text_chunk_at head_by
text_end bytes chunk rest x after read =
    let front : bytes ++ rest ≡ chunk.head ++ (chunk.part ++ rest) = ap (λ (b : List ℕ). b ++ rest) chunk.is ∙ append_assoc chunk.head chunk.part rest in
    let told : text_chunk_at (chunk.head ++ (chunk.part ++ rest)) ≡ got x after = ap text_chunk_at (sym front) ∙ read in
    let inner = rw (head_again 3 (length chunk.part) chunk.head (heads.Text (Some (length chunk.part))) chunk.is_head (omega arith) refl (chunk.part ++ rest)) at told in
    letters_end chunk.part rest x after inner

head_start : Starts head_at
head_start = record { nothing = head_of_nothing; broken = head_of_break }

-- a head is no break
pub head_unbroken : (bytes : List ℕ) (kind : Head) (inner : List ℕ) → head_at bytes ≡ Ok (kind, inner) → break_at bytes ≡ None
head_unbroken bytes kind inner e = unbroken head_at head_start bytes (kind, inner) e

chunk_begins : (major : ℕ) (kind : Option ℕ → Head) → major < 6 → ((size : Option ℕ) → head_by major size ≡ Ok (kind size))
    → (bytes : List ℕ) → IsAnyChunk major bytes → (rest : List ℕ) → break_at (bytes ++ rest) ≡ None
chunk_begins major kind low is bytes chunk rest =
    let front : bytes ++ rest ≡ chunk.head ++ (chunk.part ++ rest) = ap (λ (b : List ℕ). b ++ rest) chunk.is ∙ append_assoc chunk.head chunk.part rest in
    let read = head_again major (length chunk.part) chunk.head (kind (Some (length chunk.part))) chunk.is_head low (is (Some (length chunk.part))) (chunk.part ++ rest) in
    head_unbroken (bytes ++ rest) (kind (Some (length chunk.part))) (chunk.part ++ rest) (ap head_at front ∙ read)

pub octets_pass : (chunks s : List ℕ) → Chunks 2 IsAny chunks s → (fuel : ℕ) (rest : List ℕ) (xs : List (List ℕ)) (after : List ℕ)
    → until_at octets_chunk_at fuel (chunks ++ rest) ≡ got xs after → StillOpen octets_chunk_at rest after
unfolding head_by
octets_pass chunks s are fuel rest xs after read =
    let p = chunk_parts 2 chunks s are in
    until_pass (IsAnyChunk 2) octets_chunk_at octets_end (chunk_begins 2 heads.Bytes (omega arith) (λ size. refl)) p.0 chunks p.1 fuel rest xs after read

pub text_pass : (chunks s : List ℕ) → Chunks 3 IsAny chunks s → (fuel : ℕ) (rest : List ℕ) (xs : List (List ℕ)) (after : List ℕ)
    → until_at text_chunk_at fuel (chunks ++ rest) ≡ got xs after → StillOpen text_chunk_at rest after
unfolding head_by
text_pass chunks s are fuel rest xs after read =
    let p = chunk_parts 3 chunks s are in
    until_pass (IsAnyChunk 3) text_chunk_at text_end (chunk_begins 3 heads.Text (omega arith) (λ size. refl)) p.0 chunks p.1 fuel rest xs after read

-- ---- items

-- two items
pub record IsPair (bytes : List ℕ) : Type 0 where
  pub key : List ℕ
  pub value : List ℕ
  pub is : bytes ≡ key ++ value
  pub is_key : IsItem key
  pub is_value : IsItem value

pub item_parts : (n : ℕ) (bytes : List ℕ) → AreItems n bytes → Parts IsItem n bytes
item_parts _ _ items.no_item = no_part
item_parts _ _ (items.one_item n bytes others is more) = one_part n bytes others is (item_parts n others more)

pub pair_parts : (n : ℕ) (bytes : List ℕ) → ArePairs n bytes → Parts IsPair n bytes
pair_parts _ _ items.no_pair = no_part
pair_parts _ _ (items.one_pair n key bytes others is_key is more) =
    let here : IsPair (key ++ bytes) = record { key = key; value = bytes; is = refl; is_key = is_key; is_value = is } in
    subst (λ (b : List ℕ). Parts IsPair (suc n) b) (append_assoc key bytes others) (one_part n (key ++ bytes) others here (pair_parts n others more))

-- what is after the head of an item, up to where the item ends
abbrev pub Holds : (P : ℕ → List ℕ → Type 0) → Option ℕ → List ℕ → List ℕ → Type 0
Holds P (Some n) inner rest = (bytes : List ℕ) × (P n bytes) × (inner ≡ bytes ++ rest)
Holds P None inner rest = (n : ℕ) × (bytes : List ℕ) × (P n bytes) × (inner ≡ bytes ++ 255 ∷ rest)

abbrev pub HoldsString : ℕ → Option ℕ → List ℕ → List ℕ → Type 0
HoldsString major (Some n) inner rest = (s : List ℕ) × (length s ≡ n) × (inner ≡ s ++ rest)
HoldsString major None inner rest = (chunks : List ℕ) × (s : List ℕ) × (Chunks major IsAny chunks s) × (inner ≡ chunks ++ 255 ∷ rest)

abbrev pub HoldsKind : Head → List ℕ → List ℕ → Type 0
HoldsKind (heads.Bytes size) inner rest = HoldsString 2 size inner rest
HoldsKind (heads.Text size) inner rest = HoldsString 3 size inner rest
HoldsKind (heads.Array size) inner rest = Holds AreItems size inner rest
HoldsKind (heads.Map size) inner rest = Holds ArePairs size inner rest
HoldsKind _ inner rest = inner ≡ rest

pub record ItemFront (bytes rest : List ℕ) : Type 0 where
  pub kind : Head
  pub inner : List ℕ
  pub front : head_at (bytes ++ rest) ≡ Ok (kind, inner)
  pub holds : HoldsKind kind inner rest

broken_off : (first : ℕ) (bytes rest : List ℕ) (head : Head × List ℕ) → head_at (first ∷ (bytes ++ 255 ∷ rest)) ≡ Ok head
    → head_at (first ∷ ((bytes ++ 255 ∷ []) ++ rest)) ≡ Ok head
broken_off first bytes rest head e = ap (λ (t : List ℕ). head_at (first ∷ t)) (append_assoc bytes (255 ∷ []) rest) ∙ e

float_front : (widen : ℕ → ℕ) (width : ℕ) (bits rest : List ℕ) → length bits ≡ width
    → float_at widen width (bits ++ rest) ≡ Ok (heads.Double (widen (big_number width bits)), rest)
float_front widen width bits rest size = rw (part_again bits rest width size) refl

pub item_front : (bytes : List ℕ) → IsItem bytes → (rest : List ℕ) → ItemFront bytes rest
unfolding head_by head_at
item_front _ items.item_null rest = record { kind = heads.Null; inner = rest; front = refl; holds = refl }
item_front _ items.item_false rest = record { kind = heads.Bool false; inner = rest; front = refl; holds = refl }
item_front _ items.item_true rest = record { kind = heads.Bool true; inner = rest; front = refl; holds = refl }
item_front _ (items.item_whole n head is) rest =
    record { kind = heads.Whole n; inner = rest; front = head_again 0 n head (heads.Whole n) is (omega arith) refl rest; holds = refl }
item_front _ (items.item_negative n head is) rest =
    record { kind = heads.Negative n; inner = rest; front = head_again 1 n head (heads.Negative n) is (omega arith) refl rest; holds = refl }
item_front _ (items.item_half bits size) rest =
    record { kind = heads.Double (of_half (big_number 2 bits)); inner = rest; front = float_front of_half 2 bits rest size; holds = refl }
item_front _ (items.item_single bits size) rest =
    record { kind = heads.Double (of_single (big_number 4 bits)); inner = rest; front = float_front of_single 4 bits rest size; holds = refl }
item_front _ (items.item_double bits size) rest =
    record { kind = heads.Double (big_number 8 bits); inner = rest; front = float_front (λ n. n) 8 bits rest size; holds = refl }
item_front _ (items.item_bytes _ _ (whole head s is kind)) rest = record {
  kind = heads.Bytes (Some (length s));
  inner = s ++ rest;
  front = ap head_at (append_assoc head s rest) ∙ head_again 2 (length s) head (heads.Bytes (Some (length s))) is (omega arith) refl (s ++ rest);
  holds = (s, refl, refl);
}
item_front _ (items.item_bytes _ _ (chunked bytes s chunks)) rest = record {
  kind = heads.Bytes None;
  inner = bytes ++ 255 ∷ rest;
  front = broken_off 95 bytes rest (heads.Bytes None, bytes ++ 255 ∷ rest) (open_head 2 (heads.Bytes None) (omega arith) refl (bytes ++ 255 ∷ rest));
  holds = (bytes, s, chunks, refl);
}
item_front _ (items.item_text _ _ (whole head s is kind)) rest = record {
  kind = heads.Text (Some (length s));
  inner = s ++ rest;
  front = ap head_at (append_assoc head s rest) ∙ head_again 3 (length s) head (heads.Text (Some (length s))) is (omega arith) refl (s ++ rest);
  holds = (s, refl, refl);
}
item_front _ (items.item_text _ _ (chunked bytes s chunks)) rest = record {
  kind = heads.Text None;
  inner = bytes ++ 255 ∷ rest;
  front = broken_off 127 bytes rest (heads.Text None, bytes ++ 255 ∷ rest) (open_head 3 (heads.Text None) (omega arith) refl (bytes ++ 255 ∷ rest));
  holds = (bytes, s, chunks, refl);
}
item_front _ (items.item_array n head bytes is are) rest = record {
  kind = heads.Array (Some n);
  inner = bytes ++ rest;
  front = ap head_at (append_assoc head bytes rest) ∙ head_again 4 n head (heads.Array (Some n)) is (omega arith) refl (bytes ++ rest);
  holds = (bytes, are, refl);
}
item_front _ (items.item_open_array n bytes are) rest = record {
  kind = heads.Array None;
  inner = bytes ++ 255 ∷ rest;
  front = broken_off 159 bytes rest (heads.Array None, bytes ++ 255 ∷ rest) (open_head 4 (heads.Array None) (omega arith) refl (bytes ++ 255 ∷ rest));
  holds = (n, bytes, are, refl);
}
item_front _ (items.item_map n head bytes is are) rest = record {
  kind = heads.Map (Some n);
  inner = bytes ++ rest;
  front = ap head_at (append_assoc head bytes rest) ∙ head_again 5 n head (heads.Map (Some n)) is (omega arith) refl (bytes ++ rest);
  holds = (bytes, are, refl);
}
item_front _ (items.item_open_map n bytes are) rest = record {
  kind = heads.Map None;
  inner = bytes ++ 255 ∷ rest;
  front = broken_off 191 bytes rest (heads.Map None, bytes ++ 255 ∷ rest) (open_head 5 (heads.Map None) (omega arith) refl (bytes ++ 255 ∷ rest));
  holds = (n, bytes, are, refl);
}

pub item_begins : (bytes : List ℕ) → IsItem bytes → (rest : List ℕ) → break_at (bytes ++ rest) ≡ None
item_begins bytes is rest = let f = item_front bytes is rest in head_unbroken (bytes ++ rest) f.kind f.inner f.front

pub pair_begins : (bytes : List ℕ) → IsPair bytes → (rest : List ℕ) → break_at (bytes ++ rest) ≡ None
pair_begins bytes pair rest =
    subst (λ (b : List ℕ). break_at b ≡ None) (sym (ap (λ (b : List ℕ). b ++ rest) pair.is ∙ append_assoc pair.key pair.value rest))
    (item_begins pair.key pair.is_key (pair.value ++ rest))

second_is : {X : Type 0} (x y : X) (rest after : List ℕ) → got x rest ≡ got y after → after ≡ rest
second_is {X} x y rest after e = sym (ap (λ (p : X × List ℕ). p.1) (ok_is (x, rest) (y, after) e))

string_octets : (size : Option ℕ) (inner rest s after : List ℕ) → HoldsString 2 size inner rest → octets_at size inner ≡ got s after → after ≡ rest
unfolding octets_at open_at
string_octets (Some n) inner rest s after holds read =
    second_is holds.0 s rest after (sym (ap (front_part n) holds.2 ∙ part_again holds.0 rest n holds.1) ∙ read)
string_octets None inner rest s after holds read =
    let told : octets_at None (holds.0 ++ 255 ∷ rest) ≡ got s after = ap (octets_at None) (sym holds.3) ∙ read in
    let b = bind_ok (until_at octets_chunk_at (length (holds.0 ++ 255 ∷ rest)) (holds.0 ++ 255 ∷ rest)) (λ parts. got (joined parts.0) parts.1) (s, after) told in
    let end = until_breaks octets_chunk_at rest b.0.1 (octets_pass holds.0 holds.1 holds.2 (length (holds.0 ++ 255 ∷ rest)) (255 ∷ rest) b.0.0 b.0.1 b.1) in
    second_is (joined b.0.0) s b.0.1 after b.2 ∙ end

string_text : (size : Option ℕ) (inner rest s after : List ℕ) → HoldsString 3 size inner rest → text_at size inner ≡ got s after → after ≡ rest
unfolding text_at open_at
string_text (Some n) inner rest s after holds read =
    let told : letters_at (length holds.0) (holds.0 ++ rest) ≡ got s after = ap (letters_at (length holds.0)) (sym holds.2) ∙ subst (λ (m : ℕ). letters_at m inner ≡ got s after) (sym holds.1) read in
    letters_end holds.0 rest s after told
string_text None inner rest s after holds read =
    let told : text_at None (holds.0 ++ 255 ∷ rest) ≡ got s after = ap (text_at None) (sym holds.3) ∙ read in
    let b = bind_ok (until_at text_chunk_at (length (holds.0 ++ 255 ∷ rest)) (holds.0 ++ 255 ∷ rest)) (λ parts. got (joined parts.0) parts.1) (s, after) told in
    let end = until_breaks text_chunk_at rest b.0.1 (text_pass holds.0 holds.1 holds.2 (length (holds.0 ++ 255 ∷ rest)) (255 ∷ rest) b.0.0 b.0.1 b.1) in
    second_is (joined b.0.0) s b.0.1 after b.2 ∙ end

key_of_ends : (kind : Head) (inner rest s after : List ℕ) → HoldsKind kind inner rest → key_of_head kind inner ≡ got s after → after ≡ rest
key_of_ends (heads.Text size) inner rest s after holds read = string_text size inner rest s after holds read
key_of_ends (heads.Whole n) inner rest s after holds read = absurd cc
key_of_ends (heads.Negative n) inner rest s after holds read = absurd cc
key_of_ends (heads.Bytes size) inner rest s after holds read = absurd cc
key_of_ends (heads.Array size) inner rest s after holds read = absurd cc
key_of_ends (heads.Map size) inner rest s after holds read = absurd cc
key_of_ends (heads.Bool flag) inner rest s after holds read = absurd cc
key_of_ends heads.Null inner rest s after holds read = absurd cc
key_of_ends (heads.Double wide) inner rest s after holds read = absurd cc

pub key_ends : (bytes : List ℕ) → IsItem bytes → Ends key_at bytes
unfolding key_at
key_ends bytes is rest s after read =
    let f = item_front bytes is rest in
    let inner = rw f.front at read in
    key_of_ends f.kind f.inner rest s after f.holds inner

pair_ends : (one : List ℕ → ValueReading Value) → ((bytes : List ℕ) → IsItem bytes → Ends one bytes) → (bytes : List ℕ) → IsPair bytes → Ends (pair_at one) bytes
unfolding pair_at
pair_ends one ends bytes pair rest x after read =
    let told : pair_at one (pair.key ++ (pair.value ++ rest)) ≡ got x after = ap (pair_at one) (sym (ap (λ (b : List ℕ). b ++ rest) pair.is ∙ append_assoc pair.key pair.value rest)) ∙ read in
    let a = bind_ok (key_at (pair.key ++ (pair.value ++ rest))) (λ key. one key.1 >>= λ value. got (make key.0 value.0) value.1) (x, after) told in
    let b = bind_ok (one a.0.1) (λ value. got (make a.0.0 value.0) value.1) (x, after) a.2 in
    let behind_key = key_ends pair.key pair.is_key (pair.value ++ rest) a.0.0 a.0.1 a.1 in
    let value = ends pair.value pair.is_value rest b.0.0 b.0.1 (ap one (sym behind_key) ∙ b.1) in
    second_is (make a.0.0 b.0.0) x b.0.1 after b.2 ∙ value
  where
    make : List ℕ → Value → Pair
    make key value = record { key = key; value = value }

-- as many as there are
many_ends : {X : Type 0} (P : List ℕ → Type 0) (one : List ℕ → ValueReading X) → ((bytes : List ℕ) → P bytes → Ends one bytes)
    → (n : ℕ) (bytes rest : List ℕ) (xs : List X) (after : List ℕ) → Parts P n bytes → many_at one n (bytes ++ rest) ≡ got xs after → after ≡ rest
unfolding many_at
many_ends P one ends n bytes rest xs after parts read =
    let p = many_pass P one ends n bytes parts 0 n (omega arith) rest xs after read in
    second_is [] p.0 rest after p.1

open_ends_at : {X : Type 0} (P : List ℕ → Type 0) (one : List ℕ → ValueReading X) → ((bytes : List ℕ) → P bytes → Ends one bytes)
    → ((bytes : List ℕ) → P bytes → (rest : List ℕ) → break_at (bytes ++ rest) ≡ None)
    → (n : ℕ) (bytes rest : List ℕ) (xs : List X) (after : List ℕ) → Parts P n bytes → open_at one (bytes ++ 255 ∷ rest) ≡ got xs after → after ≡ rest
unfolding open_at
open_ends_at P one ends begins n bytes rest xs after parts read =
    until_breaks one rest after (until_pass P one ends begins n bytes parts (length (bytes ++ 255 ∷ rest)) (255 ∷ rest) xs after read)

body_ends : (d : ℕ) → ((bytes : List ℕ) → IsItem bytes → Ends (item_at d) bytes) → (kind : Head) (inner rest : List ℕ) (x : Value) (after : List ℕ)
    → HoldsKind kind inner rest → body_at (item_at d) kind inner ≡ got x after → after ≡ rest
unfolding body_at
body_ends d ends heads.Null inner rest x after holds read = second_is values.Empty x inner after read ∙ holds
body_ends d ends (heads.Bool flag) inner rest x after holds read = second_is (values.Bool flag) x inner after read ∙ holds
body_ends d ends (heads.Double wide) inner rest x after holds read = second_is (values.Double wide) x inner after read ∙ holds
body_ends d ends (heads.Whole n) inner rest x after holds read =
    let b = bind_ok (whole_of n) (λ n. got (values.Int (pos n)) inner) (x, after) read in
    second_is (values.Int (pos b.0)) x inner after b.2 ∙ holds
body_ends d ends (heads.Negative n) inner rest x after holds read =
    let b = bind_ok (whole_of n) (λ n. got (values.Int (negsuc n)) inner) (x, after) read in
    second_is (values.Int (negsuc b.0)) x inner after b.2 ∙ holds
body_ends d ends (heads.Bytes size) inner rest x after holds read =
    let b = bind_ok (octets_at size inner) (λ s. got (values.Bytes s.0) s.1) (x, after) read in
    second_is (values.Bytes b.0.0) x b.0.1 after b.2 ∙ string_octets size inner rest b.0.0 b.0.1 holds b.1
body_ends d ends (heads.Text size) inner rest x after holds read =
    let b = bind_ok (text_at size inner) (λ s. got (values.Str s.0) s.1) (x, after) read in
    second_is (values.Str b.0.0) x b.0.1 after b.2 ∙ string_text size inner rest b.0.0 b.0.1 holds b.1
body_ends d ends (heads.Array (Some n)) inner rest x after holds read =
    let b = bind_ok (many_at (item_at d) n inner) (λ members. got (values.Array members.0) members.1) (x, after) read in
    second_is (values.Array b.0.0) x b.0.1 after b.2
    ∙ many_ends IsItem (item_at d) ends n holds.0 rest b.0.0 b.0.1 (item_parts n holds.0 holds.1) (ap (many_at (item_at d) n) (sym holds.2) ∙ b.1)
body_ends d ends (heads.Array None) inner rest x after holds read =
    let b = bind_ok (open_at (item_at d) inner) (λ members. got (values.Array members.0) members.1) (x, after) read in
    second_is (values.Array b.0.0) x b.0.1 after b.2
    ∙ open_ends_at IsItem (item_at d) ends item_begins holds.0 holds.1 rest b.0.0 b.0.1 (item_parts holds.0 holds.1 holds.2) (ap (open_at (item_at d)) (sym holds.3) ∙ b.1)
body_ends d ends (heads.Map (Some n)) inner rest x after holds read =
    let b = bind_ok (many_at (pair_at (item_at d)) n inner) (λ pairs. got (values.Map pairs.0) pairs.1) (x, after) read in
    second_is (values.Map b.0.0) x b.0.1 after b.2
    ∙ many_ends IsPair (pair_at (item_at d)) (pair_ends (item_at d) ends) n holds.0 rest b.0.0 b.0.1 (pair_parts n holds.0 holds.1) (ap (many_at (pair_at (item_at d)) n) (sym holds.2) ∙ b.1)
body_ends d ends (heads.Map None) inner rest x after holds read =
    let b = bind_ok (open_at (pair_at (item_at d)) inner) (λ pairs. got (values.Map pairs.0) pairs.1) (x, after) read in
    second_is (values.Map b.0.0) x b.0.1 after b.2
    ∙ open_ends_at IsPair (pair_at (item_at d)) (pair_ends (item_at d) ends) pair_begins holds.0 holds.1 rest b.0.0 b.0.1 (pair_parts holds.0 holds.1 holds.2) (ap (open_at (pair_at (item_at d))) (sym holds.3) ∙ b.1)

pub item_ends : (d : ℕ) (bytes : List ℕ) → IsItem bytes → Ends (item_at d) bytes
unfolding item_at
item_ends zero bytes is rest x after read =
    let b = bind_ok (head_at (bytes ++ rest)) (λ head. Err TooDeep) (x, after) read in
    absurd (let clash = b.2 in cc)
item_ends (suc d) bytes is rest x after read =
    let f = item_front bytes is rest in
    let inner = rw f.front at read in
    body_ends d (item_ends d) f.kind f.inner rest x after f.holds inner

pub pair_ends_at : (d : ℕ) (bytes : List ℕ) → IsPair bytes → Ends (pair_at (item_at d)) bytes
pair_ends_at d = pair_ends (item_at d) (item_ends d)
