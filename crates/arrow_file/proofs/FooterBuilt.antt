-- The footer, as it is built.
use Rattle.std.proofs.Common.{◌≡◌, ℕ, ◌+◌, ◌-◌, ◌%◌, ◌≤◌, ◌<◌, ◌^◌, List, [], ◌∷◌, length, map, refl, ◌∙◌, sym, subst, arith}
use Rattle.std.proofs.Math.ListN.{get_or-map, get_or-eq_default}
use Rattle.std.proofs.lemmas.List.{length-map}
use Rattle.std.specs.Prelude.{pos}
use Rattle.flat_tables.specs.declared.place.Slot.{Slot}
use Rattle.flat_tables.specs.declared.place.Slot.TheVariants.{Absent, I16, At}
use Rattle.flat_tables.specs.Tables.{TableIn, root_at, table_at, distance_at}
use Rattle.flat_tables.specs.Slots.{Holds, alignment}
use Rattle.flat_tables.specs.Building.{Grows, StaysAt, IsParts, HasSlots, IsPadded, IsTableAligned, BeginsWithZeros, vector_from}
use Rattle.flat_tables.proofs.Standing.{stands_later, grows_on}
use Rattle.arrow_ipc.specs.Written.{IsTableOf}
use Rattle.arrow_file.specs.declared.block.Block.{Block}
use Rattle.arrow_file.specs.BlockBytes.{AllFit, blocks_bytes}
use Rattle.arrow_file.specs.Footers.{IsFooter}
use Rattle.arrow_file.proofs.BlocksBack.{blocks_back}

-- a table has the slots that it was built with, by their sizes
by_sizes : (slots : List Slot) (bytes : List ℕ) (place : ℕ) (s : HasSlots slots bytes place) → IsPadded bytes
    → IsTableOf (map alignment slots) (record { bytes = bytes; place = place; vtable = s.vtable; size = s.size })
by_sizes slots bytes place s padded =
    let t : TableIn = record { bytes = bytes; place = place; vtable = s.vtable; size = s.size } in
    let a : IsTableAligned slots t = s.aligned padded in
    record {
      table = a.table;
      vtable = a.vtable;
      each = λ k. subst (λ (size : ℕ). (t.place + distance_at t k) % size ≡ 0) (sym (get_or-map alignment slots k Absent)) (a.each k);
      no_further = λ k past. subst (Holds t k) (get_or-eq_default slots Absent (subst (λ (n : ℕ). n ≤ k) (length-map slots alignment) past)) (s.each k);
    }

abbrev pub footer_slots : ℕ → ℕ → ℕ → List Slot
footer_slots schema dictionaries batches = I16 (pos 4) ∷ At schema ∷ At dictionaries ∷ At batches ∷ []

pub footer_built : (built first second more footer : List ℕ) (blocks : List Block) (schema dictionaries batches root : ℕ)
    → Grows built first → Grows first second → Grows second more
    → StaysAt (IsParts 24 []) first dictionaries → StaysAt (IsParts 24 (blocks_bytes blocks)) second batches → AllFit blocks
    → StaysAt (HasSlots (footer_slots schema dictionaries batches)) more root
    → Grows more footer → root_at footer ≡ table_at footer (length footer - root) → IsPadded footer → root ≡ length more → BeginsWithZeros more footer
    → length footer < 2 ^ 31 → IsFooter built schema blocks footer
footer_built built first second more footer blocks schema dictionaries batches root g1 g2 g3 ds bs fits s g is padded at zeros small =
    let t : HasSlots (footer_slots schema dictionaries batches) footer (length footer - root) =
    stands_later (HasSlots (footer_slots schema dictionaries batches)) more footer root g s in
    let d : IsParts 24 [] footer (length footer - dictionaries) =
    stands_later (IsParts 24 []) first footer dictionaries (grows_on first second footer g2 (grows_on second more footer g3 g)) ds in
    let b : IsParts 24 (blocks_bytes blocks) footer (length footer - batches) =
    stands_later (IsParts 24 (blocks_bytes blocks)) second footer batches (grows_on second more footer g3 g) bs in
    record {
      grows = grows_on built first footer g1 (grows_on first second footer g2 (grows_on second more footer g3 g));
      table = record { bytes = footer; place = length footer - root; vtable = t.vtable; size = t.size };
      root = is ∙ t.read;
      version = rw (t.each 0) refl;
      has_schema = rw (t.each 1) refl;
      dictionaries = record {
        vector = vector_from 24 d.count footer (length footer - dictionaries);
        has = rw (t.each 2, d.read) refl;
        holds = blocks_back [] footer (length footer - dictionaries) d (λ k h. absurd (omega arith));
        aligned = d.aligned padded;
      };
      batches = record {
        vector = vector_from 24 b.count footer (length footer - batches);
        has = rw (t.each 3, b.read) refl;
        holds = blocks_back blocks footer (length footer - batches) b fits;
        aligned = b.aligned padded;
      };
      padded = padded;
      zeros = record { pad = zeros.pad; few = zeros.few; zeros = zeros.zeros; follows = omega (arith, zeros.long, at) };
      aligned = by_sizes (footer_slots schema dictionaries batches) footer (length footer - root) t padded;
      small = small;
    }
