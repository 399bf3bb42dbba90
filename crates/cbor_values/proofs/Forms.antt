-- The bytes of a value are an item.
use Rattle.std.proofs.Common.{◌≡◌, ℕ, suc, List, ◌++◌, length, refl, sym, ap, subst, ◌∙◌, append_assoc}
use Rattle.std.specs.Str.{IsUtf8}
use Rattle.byteorder.specs.Endian.{big_bytes}
use Rattle.otlp_model.specs.declared.value.Value.{Value}
use Rattle.otlp_model.specs.declared.value.Pair.{Pair}
use Rattle.cbor_values.specs.Strings.{IsAny, Chunks, no_chunk, one_chunk, IsString, whole, chunked}
use Rattle.cbor_values.specs.Cbor.{Cbor, Members, Pairs, is_null, is_false, is_true, is_whole, is_negative, is_half, is_single, is_double}
use Rattle.cbor_values.specs.Cbor.{is_bytes, is_text, is_array, is_open_array, is_map, is_open_map, no_member, one_member, no_pair, one_pair}
use Rattle.cbor_values.specs.Items as items
use Rattle.cbor_values.specs.Items.{IsItem, AreItems, ArePairs}
use Rattle.cbor_values.proofs.Rows.{Row, no_more, one_more}
use Rattle.cbor_values.proofs.Again.{Shallow, ShallowPair}

pub any_chunks : (major : ℕ) (P : List ℕ → Type 0) (bytes s : List ℕ) → Chunks major P bytes s → Chunks major IsAny bytes s
any_chunks major P _ _ no_chunk = no_chunk
any_chunks major P _ _ (one_chunk head part bytes joined is_head kind chunks) =
    one_chunk head part bytes joined is_head tt (any_chunks major P bytes joined chunks)

any_string : (major : ℕ) (P : List ℕ → Type 0) (bytes s : List ℕ) → IsString major P bytes s → IsString major IsAny bytes s
any_string major P _ _ (whole head s is_head kind) = whole head s is_head tt
any_string major P _ _ (chunked bytes s chunks) = chunked bytes s (any_chunks major P bytes s chunks)

pub text_item : (bytes s : List ℕ) → IsString 3 IsUtf8 bytes s → IsItem bytes
text_item bytes s string = items.item_text bytes s (any_string 3 IsUtf8 bytes s string)

mutual
  pub cbor_item : (bytes : List ℕ) (value : Value) → Cbor bytes value → IsItem bytes
  cbor_item _ _ is_null = items.item_null
  cbor_item _ _ is_false = items.item_false
  cbor_item _ _ is_true = items.item_true
  cbor_item _ _ (is_whole n head is_head small) = items.item_whole n head is_head
  cbor_item _ _ (is_negative n head is_head small) = items.item_negative n head is_head
  cbor_item _ _ (is_half bits fits) = items.item_half (big_bytes 2 bits) refl
  cbor_item _ _ (is_single bits fits) = items.item_single (big_bytes 4 bits) refl
  cbor_item _ _ (is_double bits fits) = items.item_double (big_bytes 8 bits) refl
  cbor_item _ _ (is_bytes bytes s string) = items.item_bytes bytes s string
  cbor_item _ _ (is_text bytes s string) = text_item bytes s string
  cbor_item _ _ (is_array head bytes members is_head inner) = items.item_array (length members) head bytes is_head (members_items bytes members inner)
  cbor_item _ _ (is_open_array bytes members inner) = items.item_open_array (length members) bytes (members_items bytes members inner)
  cbor_item _ _ (is_map head bytes pairs is_head inner) = items.item_map (length pairs) head bytes is_head (pairs_items bytes pairs inner)
  cbor_item _ _ (is_open_map bytes pairs inner) = items.item_open_map (length pairs) bytes (pairs_items bytes pairs inner)

  pub members_items : (bytes : List ℕ) (members : List Value) → Members bytes members → AreItems (length members) bytes
  members_items _ _ no_member = items.no_item
  members_items _ _ (one_member bytes others member members cbor rest) =
      items.one_item (length members) bytes others (cbor_item bytes member cbor) (members_items others members rest)

  pub pairs_items : (bytes : List ℕ) (pairs : List Pair) → Pairs bytes pairs → ArePairs (length pairs) bytes
  pairs_items _ _ no_pair = items.no_pair
  pairs_items _ _ (one_pair key_bytes bytes others key value pairs is_key cbor rest) =
      items.one_pair (length pairs) key_bytes bytes others (text_item key_bytes key is_key) (cbor_item bytes value cbor) (pairs_items others pairs rest)

pub row_items : (d : ℕ) (bytes : List ℕ) (members : List Value) → Row (Shallow d) bytes members → AreItems (length members) bytes
row_items d _ _ no_more = items.no_item
row_items d _ _ (one_more bytes others member members shallow row) =
    items.one_item (length members) bytes others (cbor_item bytes member shallow.0) (row_items d others members row)

pub row_pair_items : (d : ℕ) (bytes : List ℕ) (pairs : List Pair) → Row (ShallowPair d) bytes pairs → ArePairs (length pairs) bytes
row_pair_items d _ _ no_more = items.no_pair
row_pair_items d _ _ (one_more bytes others pair pairs shallow row) =
    let same : shallow.key_bytes ++ (shallow.value_bytes ++ others) ≡ bytes ++ others = sym (append_assoc shallow.key_bytes shallow.value_bytes others) ∙ ap (λ (t : List ℕ). t ++ others) (sym shallow.is) in
    subst (λ (t : List ℕ). ArePairs (suc (length pairs)) t) same
    (items.one_pair (length pairs) shallow.key_bytes shallow.value_bytes others (text_item shallow.key_bytes pair.key shallow.is_key) (cbor_item shallow.value_bytes pair.value shallow.is_value)
    (row_pair_items d others pairs row))
