-- A batch to which the payloads of tables were added is their message.
use Rattle.std.proofs.Common.{◌≡◌, ℕ, ℤ, ◌<◌, ◌≤◌, ◌^◌, List, [], ◌++◌, length, sym, ap, ◌∙◌, subst, arith}
use Rattle.std.specs.Prelude.{FitsSigned}
use Rattle.std.specs.Int.{w64}
use Rattle.std.specs.List.{AllByRecursion}
use Rattle.otap_capture.specs.Batch.{BatchContent, IsRealBatch, IsRealPayload, ReadsBatch, batch_content, canon_batch, payloads_in}
use Rattle.otap_capture.specs.Capture.{longest_frame}
use Rattle.otap_cells.specs.Tables.{Table}
use Rattle.otap_columns.specs.Limits.{tables_limit}
use Rattle.otap_produce.specs.Senders.{SendersIn, SendsMessage}
use Rattle.otap_produce.specs.SentMessages.{Adds, Sends}
use Rattle.otap_produce.specs.Sizes.{payloads_most, size_of, size_limit}
use Rattle.otap_produce.proofs.Lengths.{batch_most}

module _ (number : ℤ) (ts : List Table) (old new : SendersIn) (start batch : BatchContent) (bytes : List ℕ)
    (law : (b : BatchContent) → IsRealBatch b → length (canon_batch b) < 2 ^ 64 → ReadsBatch (canon_batch b) b)
    (begun : start ≡ record { id = number; payloads = [] }) (adds : Adds ts old new start batch) (spelled : bytes ≡ canon_batch batch)
    (fits : FitsSigned w64 number) (few : length ts ≤ tables_limit) (size : payloads_most ts ≤ size_limit) where
  payloads_are : batch.payloads ≡ adds.payloads
  payloads_are = adds.are ∙ ap (λ (b : BatchContent). b.payloads ++ adds.payloads) begun

  id_is : batch.id ≡ number
  id_is = adds.id ∙ ap (λ (b : BatchContent). b.id) begun

  real : IsRealBatch batch
  real = record {
    id = subst (FitsSigned w64) (sym id_is) fits;
    payloads = subst (AllByRecursion IsRealPayload) (sym payloads_are) adds.real;
  }

  size_is : size_of batch.payloads ≤ size_limit
  size_is = omega (arith, ap size_of payloads_are, adds.size, size)

  short : length (canon_batch batch) ≤ longest_frame
  short =
      let count : length batch.payloads ≤ tables_limit = omega (arith, ap length payloads_are, adds.count, few) in
      omega (arith, batch_most batch real (omega (arith, size_is)), count, size_is)

  read : batch_content bytes ≡ batch
  read = ap batch_content spelled ∙ sym (law batch real (omega (arith, short))).1

  canonical : bytes ≡ canon_batch (batch_content bytes)
  canonical = spelled ∙ ap canon_batch (sym read)

  numbered : (batch_content bytes).id ≡ number
  numbered = ap (λ (b : BatchContent). b.id) read ∙ id_is

  fits_frame : length bytes ≤ longest_frame
  fits_frame = omega (arith, ap length spelled, short)

  sends : Sends ts old new (payloads_in bytes)
  sends = subst (Sends ts old new) (sym (ap (λ (b : BatchContent). b.payloads) read ∙ payloads_are)) adds.sends

  pub message_sent : SendsMessage number ts old new bytes
  message_sent = record {
    canonical = canonical;
    id = numbered;
    short = fits_frame;
    message = λ before past have. record {
      canonical = canonical;
      id = numbered;
      payloads = sends.are before past have;
      short = fits_frame;
    };
    laid = sends.laid;
    sent = sends.after;
  }
