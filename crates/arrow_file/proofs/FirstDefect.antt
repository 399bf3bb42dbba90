-- Bytes have one defect as a file at most: the first one.
use Rattle.std.proofs.Common.{◌≡◌, ◌⊎◌, ℕ, ◌+◌, ◌*◌, ◌<◌, ◌≤◌, ltb, List, length, Result, Ok, Err, Option, Some, None, refl, sym, ap, ◌∙◌, subst, inl, inr, arith}
use Rattle.std.proofs.lemmas.Bool.{cases_Bool}
use Rattle.byteorder.specs.Endian.{little_number}
use Rattle.lists.specs.Results.{◌>>=◌}
use Rattle.flat_tables.specs.declared.fault.FlatFault.{FlatFault}
use Rattle.flat_tables.specs.declared.fault.FlatFault.TheVariants.{OutOfRange}
use Rattle.flat_tables.specs.Bytes.{part_at, number_at}
use Rattle.flat_tables.specs.Tables.{TableIn, root_at, referred, vector_at, each, place_of, reference_slot, vector_slot}
use Rattle.arrow_file.specs.declared.block.Block.{Block}
use Rattle.arrow_file.specs.declared.refusal.FileRefusal.{FileRefusal}
use Rattle.arrow_file.specs.declared.refusal.FileRefusal.TheVariants.{TooLong, BadMagic, BadFooter, BadSchema, BadBlock}
use Rattle.arrow_file.specs.Limits.{max_file}
use Rattle.arrow_file.specs.Blocks.{blocks_of, blocks_slot}
use Rattle.arrow_file.specs.Files.{IsFramedFile, IsMessageAt}
use Rattle.arrow_file.specs.Defects
use Rattle.arrow_file.specs.Defects.{HasMagics, HasNoMessageAt, HasFileDefect}
use Rattle.arrow_file.proofs.Frames.{Framing, framing, one_footer}

-- ---- a vector that can't be read is out of range

bind_fault : {A B : Type 0} (r : Result A FlatFault) (f : A → Result B FlatFault) (e : FlatFault) → (r >>= f) ≡ Err e
    → ((x : FlatFault) → r ≡ Err x → x ≡ OutOfRange) → ((a : A) (x : FlatFault) → f a ≡ Err x → x ≡ OutOfRange) → e ≡ OutOfRange
bind_fault (Ok a) f e h g k = k a e h
bind_fault (Err x) f e h g k = let is : x ≡ e = cc h in sym is ∙ g x refl

each_fault : {A B : Type 0} (read : A → Result B FlatFault) → ((a : A) (x : FlatFault) → read a ≡ Err x → x ≡ OutOfRange)
    → (o : Option A) (e : FlatFault) → each read o ≡ Err e → e ≡ OutOfRange
each_fault read k None e h = absurd (cc h)
each_fault read k (Some a) e h = bind_fault (read a) (λ y. Ok (Some y)) e h (k a) (λ b x bad. absurd (cc bad))

part_fault : (bytes : List ℕ) (place n : ℕ) (e : FlatFault) → part_at bytes place n ≡ Err e → e ≡ OutOfRange
unfolding part_at
part_fault bytes place n e h = elim (cases_Bool (ltb (length bytes) (place + n))) [
  | inl past ↦ cc (rw past at h)
  | inr fits ↦ absurd (cc (rw fits at h))
]

number_fault : (n : ℕ) (bytes : List ℕ) (place : ℕ) (e : FlatFault) → number_at n bytes place ≡ Err e → e ≡ OutOfRange
unfolding number_at
number_fault n bytes place e h = bind_fault (part_at bytes place n) (λ part. Ok (little_number n part)) e h (part_fault bytes place n) (λ a x bad. absurd (cc bad))

referred_fault : (bytes : List ℕ) (place : ℕ) (e : FlatFault) → referred bytes place ≡ Err e → e ≡ OutOfRange
unfolding referred
referred_fault bytes place e h = bind_fault (number_at 4 bytes place) (λ distance. Ok (place + distance)) e h (number_fault 4 bytes place) (λ a x bad. absurd (cc bad))

vector_fault : (width : ℕ) (bytes : List ℕ) (place : ℕ) (e : FlatFault) → vector_at width bytes place ≡ Err e → e ≡ OutOfRange
unfolding vector_at
vector_fault width bytes place e h =
    bind_fault (number_at 4 bytes place)
    (λ count. part_at bytes (place + 4) (count * width) >>= λ _. Ok (record { bytes = bytes; first = place + 4; count = count; width = width }))
    e h (number_fault 4 bytes place)
    (λ count x bad. bind_fault (part_at bytes (place + 4) (count * width)) (λ _. Ok (record { bytes = bytes; first = place + 4; count = count; width = width }))
    x bad (part_fault bytes (place + 4) (count * width)) (λ a y worse. absurd (cc worse)))

slot_fault : (table : TableIn) (slot : ℕ) (e : FlatFault) → vector_slot 24 table slot ≡ Err e → e ≡ OutOfRange
slot_fault table slot e h =
    bind_fault (reference_slot table slot) (each (vector_at 24 table.bytes)) e h
    (each_fault (referred table.bytes) (referred_fault table.bytes) (place_of table slot))
    (each_fault (vector_at 24 table.bytes) (vector_fault 24 table.bytes))

blocks_fault : (table : TableIn) (slot : ℕ) (e : FlatFault) → blocks_slot table slot ≡ Err e → e ≡ OutOfRange
blocks_fault table slot e h = bind_fault (vector_slot 24 table slot) (λ v. Ok (blocks_of v)) e h (slot_fault table slot) (λ v x bad. absurd (cc bad))

-- ---- the first defect, question by question

abbrev Messages : List ℕ → FileRefusal → Type 0
Messages bytes r = ((r ≡ BadSchema) × HasNoMessageAt bytes 1 8) ⊎ ((r ≡ BadBlock) × ((schema : List ℕ) × IsMessageAt bytes 1 8 schema))

abbrev Vectors : List ℕ → TableIn → FileRefusal → Type 0
Vectors bytes table r =
    ((r ≡ BadFooter OutOfRange) × ((ds bs : List Block) → blocks_slot table 2 ≡ Ok ds → blocks_slot table 3 ≡ Ok bs → ⊥))
    ⊎ ((ds : List Block) × (bs : List Block) × (blocks_slot table 2 ≡ Ok ds) × (blocks_slot table 3 ≡ Ok bs) × Messages bytes r)

abbrev Roots : List ℕ → List ℕ → FileRefusal → Type 0
Roots bytes footer r = ((e : FlatFault) × (r ≡ BadFooter e) × (root_at footer ≡ Err e)) ⊎ ((table : TableIn) × (root_at footer ≡ Ok table) × Vectors bytes table r)

abbrev Sizes : List ℕ → FileRefusal → Type 0
Sizes bytes r =
    ((r ≡ BadFooter OutOfRange) × ((footer : List ℕ) → IsFramedFile bytes footer → ⊥)) ⊎ ((footer : List ℕ) × IsFramedFile bytes footer × Roots bytes footer r)

abbrev Magics : List ℕ → FileRefusal → Type 0
Magics bytes r = ((r ≡ BadMagic) × (HasMagics bytes → ⊥)) ⊎ (HasMagics bytes × Sizes bytes r)

abbrev Lengths : List ℕ → FileRefusal → Type 0
Lengths bytes r = ((r ≡ TooLong) × (max_file < length bytes)) ⊎ ((length bytes ≤ max_file) × Magics bytes r)

-- past the size all have a footer
past_size : (bytes footer : List ℕ) (r : FileRefusal) → length bytes ≤ max_file → IsFramedFile bytes footer → Roots bytes footer r → Lengths bytes r
past_size bytes footer r short framed roots = inr (short, inr ((framing bytes footer framed).magics, inr (footer, framed, roots)))

asked : (bytes : List ℕ) (r : FileRefusal) → HasFileDefect bytes r → Lengths bytes r
asked bytes r (Defects.too_long long) = inl (refl, long)
asked bytes r (Defects.bad_magic short none) = inr (short, inl (refl, none))
asked bytes r (Defects.bad_size short magics large) =
    inr (
      short,
      inr (
        magics,
        inl (
          refl,
          λ footer framed. let f : Framing bytes footer = framing bytes footer framed in
              let past : length bytes < 18 + length footer = large (length footer) f.size in absurd (omega (arith, past, f.fits)),
        ),
      ),
    )
asked bytes r (Defects.bad_root footer e file err) = past_size bytes footer r file.short file.framed (inl (e, refl, err))
asked bytes r (Defects.bad_blocks footer table e file root (inl err)) =
    past_size bytes footer r file.short file.framed (inr (table, root, inl (ap BadFooter (blocks_fault table 2 e err), λ ds bs h k. absurd (cc (h, err)))))
asked bytes r (Defects.bad_blocks footer table e file root (inr err)) =
    past_size bytes footer r file.short file.framed (inr (table, root, inl (ap BadFooter (blocks_fault table 3 e err), λ ds bs h k. absurd (cc (k, err)))))
asked bytes r (Defects.bad_schema ds bs short f none) =
    past_size bytes f.footer r short f.framed (inr (f.table, f.root, inr (ds, bs, f.dictionary_blocks, f.batch_blocks, inl (refl, none))))
asked bytes r (Defects.bad_block schema ds bs short f at none) =
    past_size bytes f.footer r short f.framed (inr (f.table, f.root, inr (ds, bs, f.dictionary_blocks, f.batch_blocks, inr (refl, (schema, at)))))

one_message : (bytes : List ℕ) (a b : FileRefusal) → Messages bytes a → Messages bytes b → a ≡ b
one_message bytes a b (inl h) (inl k) = h.0 ∙ sym k.0
one_message bytes a b (inr h) (inr k) = h.0 ∙ sym k.0
one_message bytes a b (inl h) (inr (k, (schema, at))) = absurd (h.1 schema at)
one_message bytes a b (inr (h, (schema, at))) (inl k) = absurd (k.1 schema at)

one_vector : (bytes : List ℕ) (table : TableIn) (a b : FileRefusal) → Vectors bytes table a → Vectors bytes table b → a ≡ b
one_vector bytes table a b (inl h) (inl k) = h.0 ∙ sym k.0
one_vector bytes table a b (inl h) (inr (ds, bs, d, e, rest)) = absurd (h.1 ds bs d e)
one_vector bytes table a b (inr (ds, bs, d, e, rest)) (inl k) = absurd (k.1 ds bs d e)
one_vector bytes table a b (inr (ds, bs, d, e, rest)) (inr (es, cs, f, g, more)) = one_message bytes a b rest more

one_root : (bytes footer : List ℕ) (a b : FileRefusal) → Roots bytes footer a → Roots bytes footer b → a ≡ b
one_root bytes footer a b (inl (e, h, err)) (inl (f, k, bad)) = let same : e ≡ f = cc (err, bad) in h ∙ ap BadFooter same ∙ sym k
one_root bytes footer a b (inl (e, h, err)) (inr (table, root, rest)) = absurd (cc (err, root))
one_root bytes footer a b (inr (table, root, rest)) (inl (e, k, err)) = absurd (cc (err, root))
one_root bytes footer a b (inr (table, root, rest)) (inr (other, is, more)) =
    let same : other ≡ table = cc (root, is) in one_vector bytes table a b rest (subst (λ (t : TableIn). Vectors bytes t b) same more)

one_size : (bytes : List ℕ) (a b : FileRefusal) → Sizes bytes a → Sizes bytes b → a ≡ b
one_size bytes a b (inl h) (inl k) = h.0 ∙ sym k.0
one_size bytes a b (inl h) (inr (footer, framed, rest)) = absurd (h.1 footer framed)
one_size bytes a b (inr (footer, framed, rest)) (inl k) = absurd (k.1 footer framed)
one_size bytes a b (inr (footer, framed, rest)) (inr (other, is, more)) =
    one_root bytes footer a b rest (subst (λ (f : List ℕ). Roots bytes f b) (one_footer bytes other footer is framed) more)

one_magic : (bytes : List ℕ) (a b : FileRefusal) → Magics bytes a → Magics bytes b → a ≡ b
one_magic bytes a b (inl h) (inl k) = h.0 ∙ sym k.0
one_magic bytes a b (inl h) (inr k) = absurd (h.1 k.0)
one_magic bytes a b (inr h) (inl k) = absurd (k.1 h.0)
one_magic bytes a b (inr h) (inr k) = one_size bytes a b h.1 k.1

one_length : (bytes : List ℕ) (a b : FileRefusal) → Lengths bytes a → Lengths bytes b → a ≡ b
one_length bytes a b (inl h) (inl k) = h.0 ∙ sym k.0
one_length bytes a b (inl h) (inr k) = absurd (omega (arith, h.1, k.0))
one_length bytes a b (inr h) (inl k) = absurd (omega (arith, h.0, k.1))
one_length bytes a b (inr h) (inr k) = one_magic bytes a b h.1 k.1

pub one_defect : (bytes : List ℕ) (a b : FileRefusal) → HasFileDefect bytes a → HasFileDefect bytes b → a ≡ b
one_defect bytes a b h k = one_length bytes a b (asked bytes a h) (asked bytes b k)
