-- A record batch message that was appended, and its block.
use Rattle.std.proofs.Common.{◌≡◌, ℕ, ◌+◌, ◌-◌, ◌<◌, ◌≤◌, ◌^◌, ltb, List, [], ◌∷◌, length, replicate, drop, Ok, inl, inr, refl, sym, ap, ◌∙◌, length-append, arith}
use Rattle.std.specs.Prelude.{pos, sum_by}
use Rattle.std.proofs.lemmas.Bool.{cases_Bool}
use Rattle.std.proofs.lemmas.List.{drop_at}
use Rattle.std.proofs.lemmas.List.Sums.{sum_by-cons}
use Rattle.byteorder.specs.Endian.{little_number}
use Rattle.byteorder.specs.Numbers.{little_from-take}
use Rattle.flat_tables.specs.Bytes.{part_at, number_at}
use Rattle.arrow_ipc.specs.declared.messages.IpcMessage.TheVariants.{Rows}
use Rattle.arrow_ipc.specs.Batches.{BatchIn}
use Rattle.arrow_ipc.specs.Written.{padded, padded_part, body_of, most_of_batch, Appends}
use Rattle.arrow_file.specs.declared.block.Block.{Block}
use Rattle.arrow_file.specs.BlockBytes.{IsBlock, AppendsRows}

-- a number that is read at an offset is the one in the bytes there
number_is : (n : ℕ) (bytes : List ℕ) (place x : ℕ) → number_at n bytes place ≡ Ok x → little_number n (drop place bytes) ≡ x
unfolding number_at part_at
number_is n bytes place x h =
    elim (cases_Bool (ltb (length bytes) (place + n))) [
      | inl past ↦ absurd (cc (rw past at h))
      | inr fits ↦ sym (little_from-take 0 n n (drop place bytes) (omega arith)) ∙ cc (rw fits at h)
    ]

-- a body is as long as its buffers together, or longer
body_least : (parts : List (List ℕ)) → sum_by (λ part. length part) parts ≤ length (body_of parts)
body_least [] = omega arith
body_least (part ∷ parts) =
    let first : length part ≤ length (padded_part part) = omega (arith, length-append part (replicate (padded (length part) - length part) 0)) in
    omega (arith, length-append (padded_part part) (body_of parts), first, sum_by-cons (λ (part : List ℕ). length part) part parts, body_least parts)

pub record Sizes (batch : BatchIn) (old new : List ℕ) (a : Appends (Rows batch) (most_of_batch batch) old new) : Type 0 where
  pub number : little_number 4 (drop 4 a.written) ≡ length a.laid.is.metadata
  pub whole : 8 + length a.laid.is.metadata ≤ length a.written
  pub fits : 8 + length a.laid.is.metadata < 2 ^ 31

pub sizes : (batch : BatchIn) (old new : List ℕ) (a : Appends (Rows batch) (most_of_batch batch) old new) → length batch.nodes ≤ 65536 → length batch.buffers ≤ 65536 → Sizes batch old new a
sizes batch old new a nodes buffers =
    let body : length a.laid.is.body ≡ length (body_of batch.buffers) = ap length a.laid.header.body_is in
    record {
      number = number_is 4 a.written 4 (length a.laid.is.metadata) a.laid.is.framed.size;
      whole = omega (arith, a.laid.is.ends);
      fits = omega (arith, a.laid.is.ends, a.few, body, body_least batch.buffers, nodes, buffers);
    }

-- what was appended is the rest of the bytes
pub rest_written : (batch : BatchIn) (old new : List ℕ) (a : Appends (Rows batch) (most_of_batch batch) old new) → drop (length old) new ≡ a.written
rest_written batch old new a = ap (drop (length old)) a.whole ∙ drop_at old a.written (length old) refl

pub written_at : (batch : BatchIn) (old new : List ℕ) (a : Appends (Rows batch) (most_of_batch batch) old new) → length batch.nodes ≤ 65536 → length batch.buffers ≤ 65536
    → (block : Block) → IsBlock (length old) a.written block → AppendsRows batch old new block
written_at batch old new a nodes buffers block b =
    let s : Sizes batch old new a = sizes batch old new a nodes buffers in
    record {
      message = a.written;
      whole = a.whole;
      even = a.even;
      is = λ even. record {
        laid = a.laid;
        offset_is = b.offset_is;
        metadata_is = b.metadata_is ∙ ap (λ n. pos (8 + n)) s.number;
        body_is = b.body_is ∙ ap pos (omega (arith, s.number, a.laid.is.ends));
        offset_even = even;
        metadata_even = omega (arith, a.laid.even);
        body_even = omega (arith, a.laid.is.ends, a.laid.even, a.even);
      };
    }
