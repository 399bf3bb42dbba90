-- Bytes that encode a value are read as it.
use Rattle.std.proofs.Common.{◌≡◌, ℕ, zero, suc, ◌+◌, ◌^◌, ◌<◌, ◌≤◌, List, [], ◌∷◌, ◌++◌, length, map, Option, Some, None, Ok, refl, sym, ap, subst, ◌∙◌, append_assoc, arith}
use Rattle.std.specs.Prelude.{true, false}
use Rattle.std.specs.Str.{IsUtf8}
use Rattle.std.proofs.lemmas.Bool.{lt-ltb}
use Rattle.std.proofs.lemmas.Str.{is_utf8-from_IsUtf8}
use Rattle.byteorder.specs.Endian.{big_bytes}
use Rattle.otlp_model.specs.declared.value.Value.{Value, fold_out-Value}
use Rattle.otlp_model.specs.declared.value.Value.TheOpen.{Value-F}
use Rattle.otlp_model.specs.declared.value.Pair.{Pair}
use Rattle.otlp_model.specs.Depth.{depth_of, depth_step, greatest}
use Rattle.otlp_model.specs.PairDepth.{depth_of_pair}
use Rattle.otlp_model.proofs.Levels.{depth_of_array, depth_of_map}
use Rattle.cbor_values.specs.declared.heads.Head.{Head}
use Rattle.cbor_values.specs.declared.heads.Head.TheVariants as heads
use Rattle.cbor_values.specs.Floats.{of_half, of_single}
use Rattle.cbor_values.specs.Heads.{IsHead}
use Rattle.cbor_values.specs.Strings.{IsAny, Chunks, no_chunk, one_chunk, IsString, whole, chunked}
use Rattle.cbor_values.specs.Cbor.{Cbor, Members, Pairs, is_null, is_false, is_true, is_whole, is_negative, is_half, is_single, is_double}
use Rattle.cbor_values.specs.Cbor.{is_bytes, is_text, is_array, is_open_array, is_map, is_open_map, no_member, one_member, no_pair, one_pair}
use Rattle.cbor_values.specs.Reading.{ValueReading, head_by, head_at, open_at, joined, letters_at, octets_chunk_at, text_chunk_at, octets_at, text_at, key_at, pair_at, body_at, item_at}
use Rattle.cbor_values.proofs.Rows.{Row, no_more, one_more, Starts, many_again, open_again}
use Rattle.cbor_values.proofs.Front.{part_again, head_again, open_head, float_again, head_of_break, head_of_nothing}
use Rattle.cbor_values.proofs.Steps.{ok_is}

-- ---- chunks

-- a string of definite length, of that major type and kind
pub record IsChunk (major : ℕ) (P : List ℕ → Type 0) (bytes part : List ℕ) : Type 0 where
  pub head : List ℕ
  pub is : bytes ≡ head ++ part
  pub is_head : IsHead major (length part) head
  pub kind : P part

-- chunks as a row
pub record InParts (major : ℕ) (P : List ℕ → Type 0) (bytes s : List ℕ) : Type 0 where
  pub parts : List (List ℕ)
  pub row : Row (IsChunk major P) bytes parts
  pub join : joined parts ≡ s

pub in_parts : (major : ℕ) (P : List ℕ → Type 0) (bytes s : List ℕ) → Chunks major P bytes s → InParts major P bytes s
in_parts major P _ _ no_chunk = record { parts = []; row = no_more; join = refl }
in_parts major P _ _ (one_chunk head part bytes s is_head kind others) =
    let rest = in_parts major P bytes s others in
    let here : IsChunk major P (head ++ part) part = record { head = head; is = refl; is_head = is_head; kind = kind } in
    record {
      parts = part ∷ rest.parts;
      row = subst (λ (b : List ℕ). Row (IsChunk major P) b (part ∷ rest.parts)) (append_assoc head part bytes) (one_more (head ++ part) bytes part rest.parts here rest.row);
      join = ap (λ (t : List ℕ). part ++ t) rest.join;
    }

-- ---- strings

pub octets_start : Starts octets_chunk_at
unfolding octets_chunk_at
octets_start = record { nothing = rw head_of_nothing refl; broken = λ rest. rw (head_of_break rest) refl }

pub octets_chunk_again : (P : List ℕ → Type 0) (bytes part : List ℕ) → IsChunk 2 P bytes part → (rest : List ℕ)
    → octets_chunk_at (bytes ++ rest) ≡ Ok (part, rest)
unfolding octets_chunk_at head_by
octets_chunk_again P bytes part chunk rest =
    let front : bytes ++ rest ≡ chunk.head ++ (part ++ rest) = rw chunk.is (append_assoc chunk.head part rest) in
    ap octets_chunk_at front
    ∙ rw (head_again 2 (length part) chunk.head (heads.Bytes (Some (length part))) chunk.is_head (omega arith) refl (part ++ rest)) (part_again part rest (length part) refl)

pub text_start : Starts text_chunk_at
unfolding text_chunk_at
text_start = record { nothing = rw head_of_nothing refl; broken = λ rest. rw (head_of_break rest) refl }

letters_again : (s rest : List ℕ) → IsUtf8 s → letters_at (length s) (s ++ rest) ≡ Ok (s, rest)
unfolding letters_at
letters_again s rest utf8 = rw (part_again s rest (length s) refl, is_utf8-from_IsUtf8 s utf8) refl

pub text_chunk_again : (bytes part : List ℕ) → IsChunk 3 IsUtf8 bytes part → (rest : List ℕ)
    → text_chunk_at (bytes ++ rest) ≡ Ok (part, rest)
unfolding text_chunk_at head_by
text_chunk_again bytes part chunk rest =
    let front : bytes ++ rest ≡ chunk.head ++ (part ++ rest) = rw chunk.is (append_assoc chunk.head part rest) in
    ap text_chunk_at front
    ∙ rw (head_again 3 (length part) chunk.head (heads.Text (Some (length part))) chunk.is_head (omega arith) refl (part ++ rest)) (letters_again part rest chunk.kind)

-- the front is a head of that kind, after which the string is read
pub record ReadsString (kind : Option ℕ → Head) (string_at : Option ℕ → List ℕ → ValueReading (List ℕ)) (bytes s rest : List ℕ) : Type 0 where
  pub size : Option ℕ
  pub inner : List ℕ
  pub front : head_at bytes ≡ Ok (kind size, inner)
  pub string : string_at size inner ≡ Ok (s, rest)

behind_break : (bytes rest : List ℕ) → (bytes ++ 255 ∷ []) ++ rest ≡ bytes ++ 255 ∷ rest
behind_break bytes rest = append_assoc bytes (255 ∷ []) rest

pub octets_again : (P : List ℕ → Type 0) (bytes s : List ℕ) → IsString 2 P bytes s → (rest : List ℕ)
    → ReadsString heads.Bytes octets_at (bytes ++ rest) s rest
unfolding octets_at head_by
octets_again P _ _ (whole head s is_head kind) rest = record {
  size = Some (length s);
  inner = s ++ rest;
  front = ap head_at (append_assoc head s rest) ∙ head_again 2 (length s) head (heads.Bytes (Some (length s))) is_head (omega arith) refl (s ++ rest);
  string = part_again s rest (length s) refl;
}
octets_again P _ _ (chunked bytes s chunks) rest =
    let parts = in_parts 2 P bytes s chunks in
    let read : open_at octets_chunk_at (bytes ++ 255 ∷ rest) ≡ Ok (parts.parts, rest) = open_again (IsChunk 2 P) octets_chunk_at octets_start (octets_chunk_again P) bytes parts.parts parts.row rest in
    record {
      size = None;
      inner = bytes ++ 255 ∷ rest;
      front = ap (λ (t : List ℕ). head_at (95 ∷ t)) (behind_break bytes rest) ∙ open_head 2 (heads.Bytes None) (omega arith) refl (bytes ++ 255 ∷ rest);
      string = rw (read, parts.join) refl;
    }

pub text_again : (bytes s : List ℕ) → IsString 3 IsUtf8 bytes s → (rest : List ℕ)
    → ReadsString heads.Text text_at (bytes ++ rest) s rest
unfolding text_at head_by
text_again _ _ (whole head s is_head kind) rest = record {
  size = Some (length s);
  inner = s ++ rest;
  front = ap head_at (append_assoc head s rest) ∙ head_again 3 (length s) head (heads.Text (Some (length s))) is_head (omega arith) refl (s ++ rest);
  string = letters_again s rest kind;
}
text_again _ _ (chunked bytes s chunks) rest =
    let parts = in_parts 3 IsUtf8 bytes s chunks in
    let read : open_at text_chunk_at (bytes ++ 255 ∷ rest) ≡ Ok (parts.parts, rest) = open_again (IsChunk 3 IsUtf8) text_chunk_at text_start text_chunk_again bytes parts.parts parts.row rest in
    record {
      size = None;
      inner = bytes ++ 255 ∷ rest;
      front = ap (λ (t : List ℕ). head_at (127 ∷ t)) (behind_break bytes rest) ∙ open_head 3 (heads.Text None) (omega arith) refl (bytes ++ 255 ∷ rest);
      string = rw (read, parts.join) refl;
    }

-- ---- items

pub item_start : (d : ℕ) → Starts (item_at d)
unfolding item_at
item_start zero = record { nothing = rw head_of_nothing refl; broken = λ rest. rw (head_of_break rest) refl }
item_start (suc d) = record { nothing = rw head_of_nothing refl; broken = λ rest. rw (head_of_break rest) refl }

pub pair_start : (one : List ℕ → ValueReading Value) → Starts (pair_at one)
unfolding pair_at key_at
pair_start one = record { nothing = rw head_of_nothing refl; broken = λ rest. rw (head_of_break rest) refl }

-- an item whose value has at most that depth
abbrev pub Shallow : ℕ → List ℕ → Value → Type 0
Shallow d bytes value = Cbor bytes value × (depth_of value ≤ d)

-- a pair whose value has at most that depth
pub record ShallowPair (d : ℕ) (bytes : List ℕ) (pair : Pair) : Type 0 where
  pub key_bytes : List ℕ
  pub value_bytes : List ℕ
  pub is : bytes ≡ key_bytes ++ value_bytes
  pub is_key : IsString 3 IsUtf8 key_bytes pair.key
  pub is_value : Cbor value_bytes pair.value
  pub shallow : depth_of pair.value ≤ d

members_row : (d : ℕ) (bytes : List ℕ) (members : List Value) → Members bytes members
    → greatest (map depth_of members) ≤ d → Row (Shallow d) bytes members
members_row d _ _ no_member deep = no_more
members_row d _ _ (one_member bytes others member members cbor rest) deep =
    one_more bytes others member members (cbor, omega arith) (members_row d others members rest (omega arith))

pairs_row : (d : ℕ) (bytes : List ℕ) (pairs : List Pair) → Pairs bytes pairs
    → greatest (map depth_of_pair pairs) ≤ d → Row (ShallowPair d) bytes pairs
pairs_row d _ _ no_pair deep = no_more
pairs_row d _ _ (one_pair key_bytes bytes others key value pairs is_key cbor rest) deep =
    let pair : Pair = record { key = key; value = value } in
    let here : ShallowPair d (key_bytes ++ bytes) pair = record { key_bytes = key_bytes; value_bytes = bytes; is = refl; is_key = is_key; is_value = cbor; shallow = omega arith } in
    subst (λ (b : List ℕ). Row (ShallowPair d) b (pair ∷ pairs)) (append_assoc key_bytes bytes others)
    (one_more (key_bytes ++ bytes) others pair pairs here (pairs_row d others pairs rest (omega arith)))

some_step : (x : Value-F ℕ ℕ) → 0 < depth_step x
some_step Value-F.Empty = omega arith
some_step (Value-F.Str s) = omega arith
some_step (Value-F.Bool b) = omega arith
some_step (Value-F.Int n) = omega arith
some_step (Value-F.Double bits) = omega arith
some_step (Value-F.Array members) = omega arith
some_step (Value-F.Map pairs) = omega arith
some_step (Value-F.Bytes s) = omega arith

pub some_depth : (value : Value) → 0 < depth_of value
some_depth value = rw (fold_out-Value ℕ ℕ depth_step (λ pair. pair.value) value) (some_step _)

pub pair_again : (d : ℕ)
    → ((bytes : List ℕ) (value : Value) → Shallow d bytes value → (rest : List ℕ) → item_at d (bytes ++ rest) ≡ Ok (value, rest))
    → (bytes : List ℕ) (pair : Pair) → ShallowPair d bytes pair → (rest : List ℕ)
    → pair_at (item_at d) (bytes ++ rest) ≡ Ok (pair, rest)
unfolding pair_at key_at
pair_again d again bytes pair p rest =
    let front : bytes ++ rest ≡ p.key_bytes ++ (p.value_bytes ++ rest) = rw p.is (append_assoc p.key_bytes p.value_bytes rest) in
    let key = text_again p.key_bytes pair.key p.is_key (p.value_bytes ++ rest) in
    ap (pair_at (item_at d)) front
    ∙ rw (key.front, key.string, again p.value_bytes pair.value (p.is_value, p.shallow) rest) refl

-- the item after its head
item_by_head : (d : ℕ) (bytes : List ℕ) (head : Head) (rest : List ℕ) → head_at bytes ≡ Ok (head, rest)
    → item_at (suc d) bytes ≡ body_at (item_at d) head rest
unfolding item_at
item_by_head d bytes head rest e = rw e refl

pub item_again : (d : ℕ) (bytes : List ℕ) (value : Value) → Shallow d bytes value → (rest : List ℕ)
    → item_at d (bytes ++ rest) ≡ Ok (value, rest)
unfolding body_at head_by head_at
item_again zero bytes value shallow rest = absurd (let some = some_depth value in omega (arith, shallow.1))
item_again (suc d) _ _ (is_null, deep) rest = item_by_head d (246 ∷ rest) heads.Null rest refl
item_again (suc d) _ _ (is_false, deep) rest = item_by_head d (244 ∷ rest) (heads.Bool false) rest refl
item_again (suc d) _ _ (is_true, deep) rest = item_by_head d (245 ∷ rest) (heads.Bool true) rest refl
item_again (suc d) _ _ (is_whole n head is_head small, deep) rest =
    item_by_head d (head ++ rest) (heads.Whole n) rest (head_again 0 n head (heads.Whole n) is_head (omega arith) refl rest)
    ∙ rw (lt-ltb n (2 ^ 63) small) refl
item_again (suc d) _ _ (is_negative n head is_head small, deep) rest =
    item_by_head d (head ++ rest) (heads.Negative n) rest (head_again 1 n head (heads.Negative n) is_head (omega arith) refl rest)
    ∙ rw (lt-ltb n (2 ^ 63) small) refl
item_again (suc d) _ _ (is_half bits small, deep) rest =
    item_by_head d (249 ∷ (big_bytes 2 bits ++ rest)) (heads.Double (of_half bits)) rest (float_again of_half 2 bits rest small)
item_again (suc d) _ _ (is_single bits small, deep) rest =
    item_by_head d (250 ∷ (big_bytes 4 bits ++ rest)) (heads.Double (of_single bits)) rest (float_again of_single 4 bits rest small)
item_again (suc d) _ _ (is_double bits small, deep) rest =
    item_by_head d (251 ∷ (big_bytes 8 bits ++ rest)) (heads.Double bits) rest (float_again (λ n. n) 8 bits rest small)
item_again (suc d) _ _ (is_bytes bytes s string, deep) rest =
    let r = octets_again IsAny bytes s string rest in
    item_by_head d (bytes ++ rest) (heads.Bytes r.size) r.inner r.front ∙ rw r.string refl
item_again (suc d) _ _ (is_text bytes s string, deep) rest =
    let r = text_again bytes s string rest in
    item_by_head d (bytes ++ rest) (heads.Text r.size) r.inner r.front ∙ rw r.string refl
item_again (suc d) _ _ (is_array head bytes members is_head inner, deep) rest =
    let row = members_row d bytes members inner (omega (arith, deep, depth_of_array members)) in
    let read = many_again (Shallow d) (item_at d) (item_again d) bytes members row rest in
    item_by_head d ((head ++ bytes) ++ rest) (heads.Array (Some (length members))) (bytes ++ rest)
    (ap head_at (append_assoc head bytes rest) ∙ head_again 4 (length members) head (heads.Array (Some (length members))) is_head (omega arith) refl (bytes ++ rest))
    ∙ rw read refl
item_again (suc d) _ _ (is_open_array bytes members inner, deep) rest =
    let row = members_row d bytes members inner (omega (arith, deep, depth_of_array members)) in
    let read = open_again (Shallow d) (item_at d) (item_start d) (item_again d) bytes members row rest in
    item_by_head d (159 ∷ ((bytes ++ 255 ∷ []) ++ rest)) (heads.Array None) (bytes ++ 255 ∷ rest)
    (ap (λ (t : List ℕ). head_at (159 ∷ t)) (behind_break bytes rest) ∙ open_head 4 (heads.Array None) (omega arith) refl (bytes ++ 255 ∷ rest))
    ∙ rw read refl
item_again (suc d) _ _ (is_map head bytes pairs is_head inner, deep) rest =
    let row = pairs_row d bytes pairs inner (omega (arith, deep, depth_of_map pairs)) in
    let read = many_again (ShallowPair d) (pair_at (item_at d)) (pair_again d (item_again d)) bytes pairs row rest in
    item_by_head d ((head ++ bytes) ++ rest) (heads.Map (Some (length pairs))) (bytes ++ rest)
    (ap head_at (append_assoc head bytes rest) ∙ head_again 5 (length pairs) head (heads.Map (Some (length pairs))) is_head (omega arith) refl (bytes ++ rest))
    ∙ rw read refl
item_again (suc d) _ _ (is_open_map bytes pairs inner, deep) rest =
    let row = pairs_row d bytes pairs inner (omega (arith, deep, depth_of_map pairs)) in
    let read = open_again (ShallowPair d) (pair_at (item_at d)) (pair_start (item_at d)) (pair_again d (item_again d)) bytes pairs row rest in
    item_by_head d (191 ∷ ((bytes ++ 255 ∷ []) ++ rest)) (heads.Map None) (bytes ++ 255 ∷ rest)
    (ap (λ (t : List ℕ). head_at (191 ∷ t)) (behind_break bytes rest) ∙ open_head 5 (heads.Map None) (omega arith) refl (bytes ++ 255 ∷ rest))
    ∙ rw read refl

-- bytes that encode a value encode no other
pub one_value : (bytes : List ℕ) (v w : Value) → Cbor bytes v → Cbor bytes w → v ≡ w
one_value bytes v w first second =
    let d = depth_of v + depth_of w in
    let a = item_again d bytes v (first, omega arith) [] in
    let b = item_again d bytes w (second, omega arith) [] in
    let same : Ok (v, []) ≡ Ok (w, []) = sym a ∙ b in
    ap (λ (x : Value × List ℕ). x.0) (ok_is (v, []) (w, []) same)
