-- A footer's vectors as they are read, and what is missing.
use Rattle.std.proofs.Common.{◌≡◌, ℕ, ◌≤◌, List, length, Result, Ok, Err, Option, Some, None, IfNone, inl, inr, refl, ap, ◌∙◌}
use Rattle.flat_tables.specs.declared.fault.FlatFault.{FlatFault}
use Rattle.flat_tables.specs.Tables.{TableIn, VectorIn, root_at, vector_slot}
use Rattle.arrow_file.specs.declared.framing.Vectors.{Vectors}
use Rattle.arrow_file.specs.declared.refusal.FileRefusal.TheVariants.{BadFooter}
use Rattle.arrow_file.specs.Limits.{max_file}
use Rattle.arrow_file.specs.Blocks.{blocks_of}
use Rattle.arrow_file.specs.Files.{IsFramedFile, HasFooter}
use Rattle.arrow_file.specs.Defects
use Rattle.arrow_file.specs.Defects.{IsShortFile, HasFileDefect}
use Rattle.arrow_file.specs.Reading.{vectors_of}

-- what is absent is None
pub absent : {A : Type 0} (found : Option A) (P : Type 0) → ((x : A) → found ≡ Some x → ⊥) → IfNone found P → P
absent None P none h = h
absent (Some x) P none h = absurd (none x refl)

pub read_vectors : (bytes footer : List ℕ) (v : Vectors) → IsFramedFile bytes footer → vectors_of footer ≡ Ok v → HasFooter bytes (blocks_of v.dictionaries) (blocks_of v.batches)
unfolding vectors_of
read_vectors bytes footer v framed h = first (root_at footer) refl
  where
    third : (table : TableIn) → root_at footer ≡ Ok table → (d : Option VectorIn) → vector_slot 24 table 2 ≡ Ok d
        → (r : Result (Option VectorIn) FlatFault) → vector_slot 24 table 3 ≡ r → HasFooter bytes (blocks_of v.dictionaries) (blocks_of v.batches)
    third table e1 d e2 (Err e) e3 = absurd (cc (rw (e1, e2, e3) at h))
    third table e1 d e2 (Ok b) e3 =
        let is : record { dictionaries = d; batches = b } ≡ v = cc (rw (e1, e2, e3) at h) in
        record {
          footer = footer;
          framed = framed;
          table = table;
          root = e1;
          dictionary_blocks = rw e2 (ap (λ (x : Vectors). Ok (blocks_of x.dictionaries)) is);
          batch_blocks = rw e3 (ap (λ (x : Vectors). Ok (blocks_of x.batches)) is);
        }

    second : (table : TableIn) → root_at footer ≡ Ok table → (r : Result (Option VectorIn) FlatFault) → vector_slot 24 table 2 ≡ r → HasFooter bytes (blocks_of v.dictionaries) (blocks_of v.batches)
    second table e1 (Err e) e2 = absurd (cc (rw (e1, e2) at h))
    second table e1 (Ok d) e2 = third table e1 d e2 (vector_slot 24 table 3) refl

    first : (r : Result TableIn FlatFault) → root_at footer ≡ r → HasFooter bytes (blocks_of v.dictionaries) (blocks_of v.batches)
    first (Err e) e1 = absurd (cc (rw e1 at h))
    first (Ok table) e1 = second table e1 (vector_slot 24 table 2) refl

pub unread_vectors : (bytes footer : List ℕ) (e : FlatFault) → length bytes ≤ max_file → IsFramedFile bytes footer → vectors_of footer ≡ Err e → HasFileDefect bytes (BadFooter e)
unfolding vectors_of
unread_vectors bytes footer e short framed h = first (root_at footer) refl
  where
    file : IsShortFile bytes footer
    file = record { short = short; framed = framed }

    third : (table : TableIn) → root_at footer ≡ Ok table → (d : Option VectorIn) → vector_slot 24 table 2 ≡ Ok d
        → (r : Result (Option VectorIn) FlatFault) → vector_slot 24 table 3 ≡ r → HasFileDefect bytes (BadFooter e)
    third table e1 d e2 (Ok b) e3 = absurd (cc (rw (e1, e2, e3) at h))
    third table e1 d e2 (Err x) e3 =
        let is : x ≡ e = cc (rw (e1, e2, e3) at h) in
        Defects.bad_blocks footer table e file e1 (inr (rw e3 (ap Err is)))

    second : (table : TableIn) → root_at footer ≡ Ok table → (r : Result (Option VectorIn) FlatFault) → vector_slot 24 table 2 ≡ r → HasFileDefect bytes (BadFooter e)
    second table e1 (Ok d) e2 = third table e1 d e2 (vector_slot 24 table 3) refl
    second table e1 (Err x) e2 =
        let is : x ≡ e = cc (rw (e1, e2) at h) in
        Defects.bad_blocks footer table e file e1 (inl (rw e2 (ap Err is)))

    first : (r : Result TableIn FlatFault) → root_at footer ≡ r → HasFileDefect bytes (BadFooter e)
    first (Ok table) e1 = second table e1 (vector_slot 24 table 2) refl
    first (Err x) e1 =
        let is : x ≡ e = cc (rw e1 at h) in
        Defects.bad_root footer e file (e1 ∙ ap Err is)
