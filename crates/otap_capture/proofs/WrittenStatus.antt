-- What is written of a status is read back as the status.
use Rattle.std.proofs.Common.{◌≡◌, ℕ, ◌<◌, ◌^◌, [], length, ◌++◌, List, ℤ, pos, refl, sym, ap, ◌∙◌}
use Rattle.std.specs.Prelude.{fold}
use Rattle.lists.proofs.Numbers.{wider}
use Rattle.otlp_messages.specs.declared.messages.Message.TheVariants.{BatchStatus}
use Rattle.otlp_messages.specs.Rows.{said, int32_in, int64_in, bytes_in}
use Rattle.otlp_messages.specs.Canon.{signed_row, bytes_row, canon_row, canon}
use Rattle.otlp_messages.proofs.Canonical.{rows_read}
use Rattle.otlp_messages.proofs.RowKinds.{part_fits, signed_fits, bytes_back, int32_back, int64_back}
use Rattle.otap_capture.specs.Statuses.{StatusContent, status_in, ReadsStatus, status_rows, canon_status, IsRealStatus}

pub status_back : (s : StatusContent) → IsRealStatus s → length (canon_status s) < 2 ^ 64 → ReadsStatus (canon_status s) s
unfolding canon_status
status_back s real small =
    let read = rows_read BatchStatus 0 (status_rows s) refl (
      signed_fits BatchStatus 0 1 s.id refl real.id,
      (
        signed_fits BatchStatus 0 2 s.code refl (wider s.code real.code),
        (part_fits BatchStatus 0 3 s.message (λ _. real.message), tt),
      ),
    ) small in
    let e1 : said 1 int64_in (pos 0) (canon (status_rows s)) ≡ s.id = ap (fold int64_in (pos 0)) (read.only 1) ∙ int64_back s.id real.id in
    let e2 : said 2 int32_in (pos 0) (canon (status_rows s)) ≡ s.code = ap (fold int32_in (pos 0)) (read.only 2) ∙ int32_back s.code real.code in
    let e3 : said 3 bytes_in [] (canon (status_rows s)) ≡ s.message = ap (fold bytes_in []) (read.only 3) ∙ bytes_back s.message in
    let same : status_in (canon (status_rows s)) ≡ s = λ i. record { id = e1 i; code = e2 i; message = e3 i } in
    (read.fine, sym same)

-- the rows of a status, from the last to the first
pub status_written : (s : StatusContent) (id code : ℤ) (message w x y z : List ℕ) → id ≡ s.id → code ≡ s.code → message ≡ s.message → w ≡ []
    → x ≡ canon_row 3 (bytes_row message) ++ w → y ≡ canon_row 2 (signed_row code) ++ x → z ≡ canon_row 1 (signed_row id) ++ y → z ≡ canon_status s
unfolding canon_status
status_written s id code message w x y z same_id same_code same_message none third second first = rw (first, second, third, none, same_id, same_code, same_message) refl
