-- Bytes are one file at most, and have no defect where they are one; they are one, or have a defect.
use Rattle.std.proofs.Common.{◌≡◌, ◌⊎◌, ℕ, ◌+◌, ◌-◌, ◌<◌, ◌≤◌, List, [], ◌∷◌, length, take, drop, All, Result, Ok, Err, refl, sym, ap, ◌∙◌, subst, inl, inr, arith}
use Rattle.std.specs.Prelude.{ℤ, pos, negsuc}
use Rattle.std.proofs.lemmas.Bool.{cases_lt, cases_eq}
use Rattle.byteorder.specs.Endian.{little_number}
use Rattle.lists.proofs.AllBytes.{IsBytes, IsBytes-drop, IsBytes-from_all}
use Rattle.flat_tables.specs.declared.fault.FlatFault.{FlatFault}
use Rattle.flat_tables.specs.declared.fault.FlatFault.TheVariants.{OutOfRange}
use Rattle.flat_tables.specs.Tables.{TableIn, root_at}
use Rattle.arrow_ipc.specs.Messages.{IsMessage, kind_number}
use Rattle.arrow_ipc.proofs.Unique.{one_message, alone}
use Rattle.arrow_ipc.proofs.Fronting.{message_or_fault, no_message}
use Rattle.arrow_file.specs.declared.block.Block.{Block}
use Rattle.arrow_file.specs.declared.refusal.FileRefusal.{FileRefusal}
use Rattle.arrow_file.specs.declared.refusal.FileRefusal.TheVariants.{TooLong, BadMagic, BadFooter, BadSchema, BadBlock}
use Rattle.arrow_file.specs.Limits.{max_file}
use Rattle.arrow_file.specs.Blocks.{blocks_slot}
use Rattle.arrow_file.specs.Files.{magic, head, IsFramedFile, HasFooter, IsMessageAt, IsMessageFrom, AreMessagesOf, File}
use Rattle.arrow_file.specs.Defects
use Rattle.arrow_file.specs.Defects.{HasMagics, footer_size, HasNoMessageAt, HaveNoMessages, IsShortFile, HasFileDefect}
use Rattle.arrow_file.proofs.Finding.{one_at, one_from, one_list, none_from}
use Rattle.arrow_file.proofs.Frames.{Framing, framing, one_footer, framed_by, too_large}

-- ---- one file

one_table : (bytes a : List ℕ) (t : TableIn) (ds bs : List Block) (h : HasFooter bytes ds bs) → IsFramedFile bytes a → root_at a ≡ Ok t → h.table ≡ t
one_table bytes a t ds bs h framed root =
    let same : root_at h.footer ≡ root_at a = ap root_at (one_footer bytes h.footer a h.framed framed) in
    cc (same, h.root, root)

one_blocks : (bytes : List ℕ) (ds bs es cs : List Block) → HasFooter bytes ds bs → HasFooter bytes es cs → (ds ≡ es) × (bs ≡ cs)
one_blocks bytes ds bs es cs h k =
    let same : h.table ≡ k.table = one_table bytes k.footer k.table ds bs h k.framed k.root in
    let second : blocks_slot h.table 2 ≡ blocks_slot k.table 2 = ap (λ t. blocks_slot t 2) same in
    let third : blocks_slot h.table 3 ≡ blocks_slot k.table 3 = ap (λ t. blocks_slot t 3) same in
    (cc (second, h.dictionary_blocks, k.dictionary_blocks), cc (third, h.batch_blocks, k.batch_blocks))

pub one_file : (bytes s t : List ℕ) (ds es bs cs : List (List ℕ)) → File bytes s ds bs → File bytes t es cs → (s ≡ t) × (ds ≡ es) × (bs ≡ cs)
one_file bytes s t ds es bs cs f g =
    let blocks = one_blocks bytes f.dictionary_blocks f.batch_blocks g.dictionary_blocks g.batch_blocks f.footer g.footer in
    let schema : s ≡ t = one_at bytes 1 8 s t f.schema_at g.schema_at in (
      schema,
      one_list bytes 2 (8 + length s) f.dictionary_blocks ds es f.dictionaries_at
          (subst (λ (b : List Block). AreMessagesOf bytes 2 (8 + length s) b es) (sym blocks.0)
          (subst (λ (m : List ℕ). AreMessagesOf bytes 2 (8 + length m) g.dictionary_blocks es) (sym schema) g.dictionaries_at)),
      one_list bytes 3 (8 + length s) f.batch_blocks bs cs f.batches_at
          (subst (λ (b : List Block). AreMessagesOf bytes 3 (8 + length s) b cs) (sym blocks.1)
          (subst (λ (m : List ℕ). AreMessagesOf bytes 3 (8 + length m) g.batch_blocks cs) (sym schema) g.batches_at)),
    )

-- ---- a file has no defect

pub never_both : (bytes s : List ℕ) (ds bs : List (List ℕ)) (refusal : FileRefusal) → length bytes ≤ max_file → File bytes s ds bs → HasFileDefect bytes refusal → ⊥
never_both bytes s ds bs refusal short f (Defects.too_long long) = absurd (omega (arith, short, long))
never_both bytes s ds bs refusal short f (Defects.bad_magic le none) = none (framing bytes f.footer.footer f.footer.framed).magics
never_both bytes s ds bs refusal short f (Defects.bad_size le magics large) =
    let fr : Framing bytes f.footer.footer = framing bytes f.footer.footer f.footer.framed in
    let past : length bytes < 18 + length f.footer.footer = large (length f.footer.footer) fr.size in
    absurd (omega (arith, past, fr.fits))
never_both bytes s ds bs refusal short f (Defects.bad_root footer e file err) =
    let same : root_at f.footer.footer ≡ root_at footer = ap root_at (one_footer bytes f.footer.footer footer f.footer.framed file.framed) in
    absurd (cc (same, f.footer.root, err))
never_both bytes s ds bs refusal short f (Defects.bad_blocks footer table e file root (inl err)) =
    let same : blocks_slot f.footer.table 2 ≡ blocks_slot table 2 = ap (λ t. blocks_slot t 2) (one_table bytes footer table f.dictionary_blocks f.batch_blocks f.footer file.framed root) in
    absurd (cc (same, f.footer.dictionary_blocks, err))
never_both bytes s ds bs refusal short f (Defects.bad_blocks footer table e file root (inr err)) =
    let same : blocks_slot f.footer.table 3 ≡ blocks_slot table 3 = ap (λ t. blocks_slot t 3) (one_table bytes footer table f.dictionary_blocks f.batch_blocks f.footer file.framed root) in
    absurd (cc (same, f.footer.batch_blocks, err))
never_both bytes s ds bs refusal short f (Defects.bad_schema d b le footer none) = none s f.schema_at
never_both bytes s ds bs refusal short f (Defects.bad_block schema d b le footer at (inl none)) =
    none ds (subst (λ (x : List Block). AreMessagesOf bytes 2 (8 + length schema) x ds) (one_blocks bytes f.dictionary_blocks f.batch_blocks d b f.footer footer).0
    (subst (λ (m : List ℕ). AreMessagesOf bytes 2 (8 + length m) f.dictionary_blocks ds) (one_at bytes 1 8 s schema f.schema_at at) f.dictionaries_at))
never_both bytes s ds bs refusal short f (Defects.bad_block schema d b le footer at (inr none)) =
    none bs (subst (λ (x : List Block). AreMessagesOf bytes 3 (8 + length schema) x bs) (one_blocks bytes f.dictionary_blocks f.batch_blocks d b f.footer footer).1
    (subst (λ (m : List ℕ). AreMessagesOf bytes 3 (8 + length m) f.batch_blocks bs) (one_at bytes 1 8 s schema f.schema_at at) f.batches_at))

-- ---- bytes are a file, or have a defect

-- two lists are equal or not
same_or_not : (xs ys : List ℕ) → (xs ≡ ys) ⊎ (xs ≡ ys → ⊥)
same_or_not [] [] = inl refl
same_or_not [] (y ∷ ys) = inr (λ e. absurd (cc e))
same_or_not (x ∷ xs) [] = inr (λ e. absurd (cc e))
same_or_not (x ∷ xs) (y ∷ ys) = elim (cases_eq x y) [
  | inr other ↦ inr (λ e. other (cc e))
  | inl same ↦ elim (same_or_not xs ys) [
    | inl rest ↦ inl (λ i. same i ∷ rest i)
    | inr other ↦ inr (λ e. other (cc e))
  ]
]

-- a message of the kind is at an offset, or none is
at_or_not : (bytes : List ℕ) (kind offset : ℕ) → ((m : List ℕ) × IsMessageAt bytes kind offset m) ⊎ HasNoMessageAt bytes kind offset
at_or_not bytes kind offset = elim (same_or_not (drop offset bytes) []) [
  | inl empty ↦ inr (λ m h. no_message h.reads h.size (subst (λ (b : List ℕ). IsMessage b h.reads h.size) empty h.is))
  | inr some ↦ elim (message_or_fault (drop offset bytes) some) [
    | inr (fault, stands) ↦ inr (λ m h. alone (drop offset bytes) h.reads h.size fault h.is stands)
    | inl (message, size, is) ↦ elim (cases_eq (kind_number message) kind) [
      | inl same ↦ inl (take size (drop offset bytes), record { reads = message; size = size; is = is; kind_is = same; same = refl })
      | inr other ↦ inr (λ m h. other (ap kind_number (one_message (drop offset bytes) message h.reads size h.size is h.is).0 ∙ h.kind_is))
    ]
  ]
]

from_or_not : (bytes : List ℕ) (kind from : ℕ) (named : ℤ) → ((m : List ℕ) × IsMessageFrom bytes kind from named m) ⊎ ((m : List ℕ) → IsMessageFrom bytes kind from named m → ⊥)
from_or_not bytes kind from (negsuc n) = inr (λ m h. absurd (cc h.named_is))
from_or_not bytes kind from (pos offset) = elim (cases_lt offset from) [
  | inl before ↦ inr (λ m h. let same : offset ≡ h.offset = cc h.named_is in absurd (omega (arith, before, same, h.after)))
  | inr after ↦ elim (at_or_not bytes kind offset) [
    | inl (m, is) ↦ inl (m, record { offset = offset; named_is = refl; after = after; is = is })
    | inr none ↦ inr (none_from bytes kind from offset (pos offset) refl none)
  ]
]

-- blocks have their messages, or have none
list_or_not : (bytes : List ℕ) (kind from : ℕ) (blocks : List Block) → ((ms : List (List ℕ)) × AreMessagesOf bytes kind from blocks ms) ⊎ HaveNoMessages bytes kind from blocks
list_or_not bytes kind from [] = inl ([], tt)
list_or_not bytes kind from (block ∷ blocks) = elim (from_or_not bytes kind from block.offset) [
  | inr none ↦ inr (no_first none)
  | inl (m, first) ↦ elim (list_or_not bytes kind (first.offset + length m) blocks) [
    | inl (ms, rest) ↦ inl (m ∷ ms, (first, rest))
    | inr none ↦ inr (no_rest m first none)
  ]
]
  where
    no_first : ((m : List ℕ) → IsMessageFrom bytes kind from block.offset m → ⊥) → HaveNoMessages bytes kind from (block ∷ blocks)
    no_first none [] h = h
    no_first none (m ∷ ms) (first, h) = none m first

    no_rest : (m : List ℕ) (first : IsMessageFrom bytes kind from block.offset m) → HaveNoMessages bytes kind (first.offset + length m) blocks → HaveNoMessages bytes kind from (block ∷ blocks)
    no_rest m first none [] h = h
    no_rest m first none (n ∷ ns) (second, h) =
        let same : (first.offset ≡ second.offset) × (m ≡ n) = one_from bytes kind from block.offset m n first second in
        none ns (subst (λ (e : ℕ). AreMessagesOf bytes kind e blocks ns) (omega (arith, same.0, ap length same.1)) h)

magics_or_not : (bytes : List ℕ) → HasMagics bytes ⊎ (HasMagics bytes → ⊥)
magics_or_not bytes = elim (cases_lt (length bytes) 18) [
  | inl few ↦ inr (λ h. absurd (omega (arith, few, h.long)))
  | inr long ↦ elim (same_or_not (take 8 bytes) head) [
    | inr other ↦ inr (λ h. other h.first)
    | inl first ↦ elim (same_or_not (drop (length bytes - 6) bytes) magic) [
      | inr other ↦ inr (λ h. other h.last)
      | inl last ↦ inl (record { long = long; first = first; last = last })
    ]
  ]
]

abbrev Judged : List ℕ → Type 0
Judged bytes = ((s : List ℕ) × (ds : List (List ℕ)) × (bs : List (List ℕ)) × (length bytes ≤ max_file) × File bytes s ds bs) ⊎ ((refusal : FileRefusal) × HasFileDefect bytes refusal)

by_schema : (bytes : List ℕ) (ds bs : List Block) → length bytes ≤ max_file → HasFooter bytes ds bs → Judged bytes
by_schema bytes ds bs short footer = elim (at_or_not bytes 1 8) [
  | inr none ↦ inr (BadSchema, Defects.bad_schema ds bs short footer none)
  | inl (s, at) ↦ elim (list_or_not bytes 2 (8 + length s) ds) [
    | inr none ↦ inr (BadBlock, Defects.bad_block s ds bs short footer at (inl none))
    | inl (ms, first) ↦ elim (list_or_not bytes 3 (8 + length s) bs) [
      | inr none ↦ inr (BadBlock, Defects.bad_block s ds bs short footer at (inr none))
      | inl (ns, second) ↦ inl (s, ms, ns, short, record { dictionary_blocks = ds; batch_blocks = bs; footer = footer; schema_at = at; dictionaries_at = first; batches_at = second })
    ]
  ]
]

by_table : (bytes footer : List ℕ) (table : TableIn) (file : IsShortFile bytes footer) → root_at footer ≡ Ok table
    → (d : Result (List Block) FlatFault) → blocks_slot table 2 ≡ d → (b : Result (List Block) FlatFault) → blocks_slot table 3 ≡ b → Judged bytes
by_table bytes footer table file root (Err e) e2 b e3 = inr (BadFooter e, Defects.bad_blocks footer table e file root (inl e2))
by_table bytes footer table file root (Ok ds) e2 (Err e) e3 = inr (BadFooter e, Defects.bad_blocks footer table e file root (inr e3))
by_table bytes footer table file root (Ok ds) e2 (Ok bs) e3 =
    by_schema bytes ds bs file.short (record { footer = footer; framed = file.framed; table = table; root = root; dictionary_blocks = e2; batch_blocks = e3 })

by_footer : (bytes footer : List ℕ) (file : IsShortFile bytes footer) → (r : Result TableIn FlatFault) → root_at footer ≡ r → Judged bytes
by_footer bytes footer file (Err e) e1 = inr (BadFooter e, Defects.bad_root footer e file e1)
by_footer bytes footer file (Ok table) e1 = by_table bytes footer table file e1 (blocks_slot table 2) refl (blocks_slot table 3) refl

by_magics : (bytes : List ℕ) → IsBytes bytes → length bytes ≤ max_file → HasMagics bytes → Judged bytes
by_magics bytes fits short magics =
    let n : ℕ = little_number 4 (drop (length bytes - 10) bytes) in
    let bytes_fit : IsBytes (drop (length bytes - 10) bytes) = IsBytes-drop (length bytes - 10) bytes fits in
    elim (cases_lt (length bytes) (18 + n)) [
      | inl large ↦ inr (
        BadFooter OutOfRange,
        Defects.bad_size short magics
            (too_large bytes n refl (omega (arith, bytes_fit 0, bytes_fit 1, bytes_fit 2, bytes_fit 3)) large),
      )
      | inr room ↦
          let footer : List ℕ = take n (drop (length bytes - 10 - n) bytes) in
          by_footer bytes footer (record { short = short; framed = framed_by bytes n fits magics refl room (omega (arith, room, short)) }) (root_at footer) refl
    ]

pub file_or_defect : (bytes : List ℕ) → All (λ byte. byte < 256) bytes → Judged bytes
file_or_defect bytes fits = elim (cases_lt max_file (length bytes)) [
  | inl long ↦ inr (TooLong, Defects.too_long long)
  | inr short ↦ elim (magics_or_not bytes) [
    | inr none ↦ inr (BadMagic, Defects.bad_magic short none)
    | inl magics ↦ by_magics bytes (IsBytes-from_all bytes fits) short magics
  ]
]
