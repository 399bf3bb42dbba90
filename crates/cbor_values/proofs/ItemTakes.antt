-- An item that is read is one of the bytes that it took, and at most as deep as was allowed.
use Rattle.std.proofs.Common.{◌≡◌, ℕ, zero, suc, ◌^◌, ◌<◌, ◌≤◌, ltb, List, [], ◌∷◌, ◌++◌, map, Option, Some, None, Err, refl, sym, ap, subst, ◌∙◌, append_assoc, arith, inl, inr}
use Rattle.std.specs.Prelude.{pos, negsuc}
use Rattle.std.proofs.lemmas.Bool.{ltb-true, cases_Bool}
use Rattle.otlp_model.specs.declared.value.Value.{Value}
use Rattle.otlp_model.specs.declared.value.Value as values
use Rattle.otlp_model.specs.declared.value.Pair.{Pair}
use Rattle.otlp_model.specs.Depth.{depth_of, greatest}
use Rattle.otlp_model.specs.PairDepth.{depth_of_pair}
use Rattle.otlp_model.proofs.Levels.{depth_of_empty, depth_of_str, depth_of_bool, depth_of_int, depth_of_double, depth_of_bytes, depth_of_array, depth_of_map}
use Rattle.cbor_values.specs.declared.refusal.CborRefusal.TheVariants.{TooDeep}
use Rattle.cbor_values.specs.declared.heads.Head.{Head}
use Rattle.cbor_values.specs.declared.heads.Head.TheVariants as heads
use Rattle.cbor_values.specs.Heads.{IsHead}
use Rattle.cbor_values.specs.Cbor.{Cbor, Members, Pairs, is_null, is_whole, is_negative, is_half, is_single, is_double}
use Rattle.cbor_values.specs.Cbor.{is_bytes, is_text, is_array, is_open_array, is_map, is_open_map, no_member, one_member, no_pair, one_pair}
use Rattle.lists.specs.Results.{◌>>=◌}
use Rattle.cbor_values.specs.Reading.{head_at, many_at, open_at, octets_at, text_at, octets_chunk_at, text_chunk_at, pair_at, whole_of, body_at, item_at}
use Rattle.cbor_values.specs.Strings.{IsAny}
use Rattle.std.specs.Str.{IsUtf8}
use Rattle.lists.proofs.AllBytes.{IsBytes, IsBytes-tail}
use Rattle.cbor_values.proofs.Steps.{bind_ok, got, got_is}
use Rattle.cbor_values.proofs.Rows.{Row, no_more, one_more}
use Rattle.cbor_values.proofs.Again.{IsChunk, Shallow, ShallowPair, octets_start, octets_chunk_again, text_start, text_chunk_again, item_start, item_again, pair_start, pair_again}
use Rattle.cbor_values.proofs.Takes.{Taken, IsFront, IsSized, IsDouble, half, single, double, head_takes, many_takes, open_takes, octets_chunk_takes, text_chunk_takes, octets_takes, text_takes, pair_takes}
use Rattle.cbor_values.proofs.Loops.{Reader}
use Rattle.cbor_values.proofs.WrittenLaws.{cbor_bool}

row_members : (d : ℕ) (bytes : List ℕ) (members : List Value) → Row (Shallow d) bytes members
    → Members bytes members × (greatest (map depth_of members) ≤ d)
row_members d _ _ no_more = (no_member, omega arith)
row_members d _ _ (one_more bytes others member members shallow row) =
    let rest = row_members d others members row in
    (one_member bytes others member members shallow.0 rest.0, omega (arith, shallow.1, rest.1))

row_pairs : (d : ℕ) (bytes : List ℕ) (pairs : List Pair) → Row (ShallowPair d) bytes pairs
    → Pairs bytes pairs × (greatest (map depth_of_pair pairs) ≤ d)
row_pairs d _ _ no_more = (no_pair, omega arith)
row_pairs d _ _ (one_more bytes others pair pairs shallow row) =
    let rest = row_pairs d others pairs row in
    let same : shallow.key_bytes ++ (shallow.value_bytes ++ others) ≡ bytes ++ others = sym (append_assoc shallow.key_bytes shallow.value_bytes others) ∙ ap (λ (t : List ℕ). t ++ others) (sym shallow.is) in (
      subst (λ (t : List ℕ). Pairs t (pair ∷ pairs)) same
          (one_pair shallow.key_bytes shallow.value_bytes others pair.key pair.value pairs shallow.is_key shallow.is_value rest.0),
      omega (arith, shallow.shallow, rest.1),
    )

cbor_double : (front : List ℕ) (wide : ℕ) → IsDouble front wide → Cbor front (values.Double wide)
cbor_double _ _ (half bits fits) = is_half bits fits
cbor_double _ _ (single bits fits) = is_single bits fits
cbor_double _ _ (double bits fits) = is_double bits fits

-- an item that is its head
leaf : (d : ℕ) (front inner : List ℕ) (made value : Value) (rest : List ℕ) → IsBytes inner → Cbor front made
    → depth_of made ≡ 1 → got made inner ≡ got value rest → Taken (Shallow (suc d)) (front ++ inner) value rest
leaf d front inner made value rest fits is flat e =
    got_is (Taken (Shallow (suc d)) (front ++ inner)) made inner value rest e
    (record { front = front; is = (is, omega (arith, flat)); parts = refl; fits = fits })

in_range : (n : ℕ) (make : ℕ → Value) (inner : List ℕ) (value : Value) (rest : List ℕ)
    → (whole_of n >>= λ n. got (make n) inner) ≡ got value rest → (n < 2 ^ 63) × (got (make n) inner ≡ got value rest)
in_range n make inner value rest e = elim (cases_Bool (ltb n (2 ^ 63))) [
  | inl small ↦ (ltb-true n (2 ^ 63) small, rw small at e)
  | inr large ↦ absurd (let clash = rw large at e in cc)
]

-- a front and what follows it
joined_front : (front inner middle rest : List ℕ) → inner ≡ middle ++ rest → front ++ inner ≡ (front ++ middle) ++ rest
joined_front front inner middle rest e = ap (λ (t : List ℕ). front ++ t) e ∙ sym (append_assoc front middle rest)

open_front : (first : ℕ) (front inner middle rest : List ℕ) → front ≡ first ∷ [] → inner ≡ middle ++ 255 ∷ rest
    → front ++ inner ≡ (first ∷ (middle ++ 255 ∷ [])) ++ rest
open_front first front inner middle rest is e =
    ap (λ (f : List ℕ). f ++ inner) is ∙ ap (λ (t : List ℕ). first ∷ t) (e ∙ sym (append_assoc middle (255 ∷ []) rest))

module _ (d : ℕ)
    (takes : (bytes : List ℕ) (value : Value) (rest : List ℕ) → IsBytes bytes → item_at d bytes ≡ got value rest → Taken (Shallow d) bytes value rest)
  where
    array_takes : (front : List ℕ) (size : Option ℕ) (inner : List ℕ) (value : Value) (rest : List ℕ) → IsBytes inner
        → IsSized 4 front size → body_at (item_at d) (heads.Array size) inner ≡ got value rest
        → Taken (Shallow (suc d)) (front ++ inner) value rest
    unfolding body_at
    array_takes front (Some n) inner value rest fits is e =
        let b = bind_ok (many_at (item_at d) n inner) (λ members. got (values.Array members.0) members.1) (value, rest) e in
        let t = many_takes (Shallow d) (item_at d) takes n inner b.0.0 b.0.1 fits b.1 in
        let m = row_members d t.0.front b.0.0 t.0.row in
        got_is (Taken (Shallow (suc d)) (front ++ inner)) (values.Array b.0.0) b.0.1 value rest b.2
        (record {
          front = front ++ t.0.front;
          is = (is_array front t.0.front b.0.0 (subst (λ (k : ℕ). IsHead 4 k front) (sym t.1) is) m.0, omega (arith, depth_of_array b.0.0, m.1));
          parts = joined_front front inner t.0.front b.0.1 t.0.parts;
          fits = t.0.fits;
        })
    array_takes front None inner value rest fits is e =
        let b = bind_ok (open_at (item_at d) inner) (λ members. got (values.Array members.0) members.1) (value, rest) e in
        let t = open_takes (Shallow d) (item_at d) takes inner b.0.0 b.0.1 fits b.1 in
        let m = row_members d t.front b.0.0 t.row in
        got_is (Taken (Shallow (suc d)) (front ++ inner)) (values.Array b.0.0) b.0.1 value rest b.2
        (record {
          front = 159 ∷ (t.front ++ 255 ∷ []);
          is = (is_open_array t.front b.0.0 m.0, omega (arith, depth_of_array b.0.0, m.1));
          parts = open_front 159 front inner t.front b.0.1 is t.parts;
          fits = IsBytes-tail 255 b.0.1 t.fits;
        })

    map_takes : (front : List ℕ) (size : Option ℕ) (inner : List ℕ) (value : Value) (rest : List ℕ) → IsBytes inner
        → IsSized 5 front size → body_at (item_at d) (heads.Map size) inner ≡ got value rest
        → Taken (Shallow (suc d)) (front ++ inner) value rest
    unfolding body_at
    map_takes front (Some n) inner value rest fits is e =
        let b = bind_ok (many_at (pair_at (item_at d)) n inner) (λ pairs. got (values.Map pairs.0) pairs.1) (value, rest) e in
        let t = many_takes (ShallowPair d) (pair_at (item_at d)) (pair_takes d takes) n inner b.0.0 b.0.1 fits b.1 in
        let m = row_pairs d t.0.front b.0.0 t.0.row in
        got_is (Taken (Shallow (suc d)) (front ++ inner)) (values.Map b.0.0) b.0.1 value rest b.2
        (record {
          front = front ++ t.0.front;
          is = (is_map front t.0.front b.0.0 (subst (λ (k : ℕ). IsHead 5 k front) (sym t.1) is) m.0, omega (arith, depth_of_map b.0.0, m.1));
          parts = joined_front front inner t.0.front b.0.1 t.0.parts;
          fits = t.0.fits;
        })
    map_takes front None inner value rest fits is e =
        let b = bind_ok (open_at (pair_at (item_at d)) inner) (λ pairs. got (values.Map pairs.0) pairs.1) (value, rest) e in
        let t = open_takes (ShallowPair d) (pair_at (item_at d)) (pair_takes d takes) inner b.0.0 b.0.1 fits b.1 in
        let m = row_pairs d t.front b.0.0 t.row in
        got_is (Taken (Shallow (suc d)) (front ++ inner)) (values.Map b.0.0) b.0.1 value rest b.2
        (record {
          front = 191 ∷ (t.front ++ 255 ∷ []);
          is = (is_open_map t.front b.0.0 m.0, omega (arith, depth_of_map b.0.0, m.1));
          parts = open_front 191 front inner t.front b.0.1 is t.parts;
          fits = IsBytes-tail 255 b.0.1 t.fits;
        })

    body_takes : (front : List ℕ) (head : Head) (inner : List ℕ) (value : Value) (rest : List ℕ) → IsBytes inner
        → IsFront front head → body_at (item_at d) head inner ≡ got value rest
        → Taken (Shallow (suc d)) (front ++ inner) value rest
    unfolding body_at
    body_takes front heads.Null inner value rest fits is e =
        leaf d front inner values.Empty value rest fits (subst (λ (f : List ℕ). Cbor f values.Empty) (sym is) is_null) depth_of_empty e
    body_takes front (heads.Bool flag) inner value rest fits is e =
        leaf d front inner (values.Bool flag) value rest fits (subst (λ (f : List ℕ). Cbor f (values.Bool flag)) (sym is) (cbor_bool flag)) (depth_of_bool flag) e
    body_takes front (heads.Whole n) inner value rest fits is e =
        let r = in_range n (λ n. values.Int (pos n)) inner value rest e in
        leaf d front inner (values.Int (pos n)) value rest fits (is_whole n front is r.0) (depth_of_int (pos n)) r.1
    body_takes front (heads.Negative n) inner value rest fits is e =
        let r = in_range n (λ n. values.Int (negsuc n)) inner value rest e in
        leaf d front inner (values.Int (negsuc n)) value rest fits (is_negative n front is r.0) (depth_of_int (negsuc n)) r.1
    body_takes front (heads.Double wide) inner value rest fits is e =
        leaf d front inner (values.Double wide) value rest fits (cbor_double front wide is) (depth_of_double wide) e
    body_takes front (heads.Bytes size) inner value rest fits is e =
        let b = bind_ok (octets_at size inner) (λ s. got (values.Bytes s.0) s.1) (value, rest) e in
        let t = octets_takes front size (front ++ inner) inner b.0.0 b.0.1 refl fits is b.1 in
        got_is (Taken (Shallow (suc d)) (front ++ inner)) (values.Bytes b.0.0) b.0.1 value rest b.2
        (record { front = t.front; is = (is_bytes t.front b.0.0 t.is, omega (arith, depth_of_bytes b.0.0)); parts = t.parts; fits = t.fits })
    body_takes front (heads.Text size) inner value rest fits is e =
        let b = bind_ok (text_at size inner) (λ s. got (values.Str s.0) s.1) (value, rest) e in
        let t = text_takes front size (front ++ inner) inner b.0.0 b.0.1 refl fits is b.1 in
        got_is (Taken (Shallow (suc d)) (front ++ inner)) (values.Str b.0.0) b.0.1 value rest b.2
        (record { front = t.front; is = (is_text t.front b.0.0 t.is, omega (arith, depth_of_str b.0.0)); parts = t.parts; fits = t.fits })
    body_takes front (heads.Array size) inner value rest fits is e = array_takes front size inner value rest fits is e
    body_takes front (heads.Map size) inner value rest fits is e = map_takes front size inner value rest fits is e

pub item_takes : (d : ℕ) (bytes : List ℕ) (value : Value) (rest : List ℕ) → IsBytes bytes
    → item_at d bytes ≡ got value rest → Taken (Shallow d) bytes value rest
unfolding item_at
item_takes zero bytes value rest fits e =
    let b = bind_ok (head_at bytes) (λ head. Err TooDeep) (value, rest) e in
    absurd (let clash = b.2 in cc)
item_takes (suc d) bytes value rest fits e =
    let b = bind_ok (head_at bytes) (λ head. body_at (item_at d) head.0 head.1) (value, rest) e in
    let t = head_takes bytes b.0.0 b.0.1 fits b.1 in
    subst (λ (c : List ℕ). Taken (Shallow (suc d)) c value rest) (sym t.parts)
    (body_takes d (item_takes d) t.front b.0.0 b.0.1 value rest t.fits t.is b.2)

-- ---- the readers

pub octets_reader : Reader (IsChunk 2 IsAny) octets_chunk_at
octets_reader = record { starts = octets_start; again = octets_chunk_again IsAny; takes = octets_chunk_takes }

pub text_reader : Reader (IsChunk 3 IsUtf8) text_chunk_at
text_reader = record { starts = text_start; again = text_chunk_again; takes = text_chunk_takes }

pub item_reader : (d : ℕ) → Reader (Shallow d) (item_at d)
item_reader d = record { starts = item_start d; again = item_again d; takes = item_takes d }

pub pair_reader : (d : ℕ) → Reader (ShallowPair d) (pair_at (item_at d))
pair_reader d = record {
  starts = pair_start (item_at d);
  again = pair_again d (item_again d);
  takes = pair_takes d (item_takes d);
}
