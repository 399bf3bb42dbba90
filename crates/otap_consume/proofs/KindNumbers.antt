-- The kinds of a signal by their numbers.
use Rattle.std.proofs.Common.{◌≡◌, ℕ, ◌<◌, suc, zero, true, length, get_or, Some, ℤ, refl, sym, arith}
use Rattle.std.specs.Ordering.{int_eq}
use Rattle.std.proofs.lemmas.Bool.Decides.{Decides-int_eq}
use Rattle.otlp_model.specs.declared.request.Signal.{Signal}
use Rattle.otlp_model.specs.declared.request.Signal.TheVariants.{Traces, Logs, Metrics}
use Rattle.otap_cells.specs.declared.payload.Kind.{Kind}
use Rattle.otap_cells.specs.Payload.{kinds_of, kind_numbered}
use Rattle.otap_consume.specs.Payloads.{payload_type_of}
use Rattle.otap_consume.proofs.Lists.{Finds, finds}

-- the kind at each index is found by its number
pub numbered : (signal : Signal) (k : ℕ) (d : Kind) → k < length (kinds_of signal) → kind_numbered signal (payload_type_of (get_or (kinds_of signal) k d)) ≡ Some (get_or (kinds_of signal) k d)
numbered Logs zero d h = refl
numbered Logs (suc zero) d h = refl
numbered Logs (suc (suc zero)) d h = refl
numbered Logs (suc (suc (suc zero))) d h = refl
numbered Logs (suc (suc (suc (suc k)))) d h = absurd (omega arith)
numbered Traces zero d h = refl
numbered Traces (suc zero) d h = refl
numbered Traces (suc (suc zero)) d h = refl
numbered Traces (suc (suc (suc zero))) d h = refl
numbered Traces (suc (suc (suc (suc zero)))) d h = refl
numbered Traces (suc (suc (suc (suc (suc zero))))) d h = refl
numbered Traces (suc (suc (suc (suc (suc (suc zero)))))) d h = refl
numbered Traces (suc (suc (suc (suc (suc (suc (suc zero))))))) d h = refl
numbered Traces (suc (suc (suc (suc (suc (suc (suc (suc k)))))))) d h = absurd (omega arith)
numbered Metrics zero d h = refl
numbered Metrics (suc zero) d h = refl
numbered Metrics (suc (suc zero)) d h = refl
numbered Metrics (suc (suc (suc zero))) d h = refl
numbered Metrics (suc (suc (suc (suc zero)))) d h = refl
numbered Metrics (suc (suc (suc (suc (suc zero))))) d h = refl
numbered Metrics (suc (suc (suc (suc (suc (suc zero)))))) d h = refl
numbered Metrics (suc (suc (suc (suc (suc (suc (suc zero))))))) d h = refl
numbered Metrics (suc (suc (suc (suc (suc (suc (suc (suc zero)))))))) d h = refl
numbered Metrics (suc (suc (suc (suc (suc (suc (suc (suc (suc zero))))))))) d h = refl
numbered Metrics (suc (suc (suc (suc (suc (suc (suc (suc (suc (suc zero)))))))))) d h = refl
numbered Metrics (suc (suc (suc (suc (suc (suc (suc (suc (suc (suc (suc zero))))))))))) d h = refl
numbered Metrics (suc (suc (suc (suc (suc (suc (suc (suc (suc (suc (suc (suc zero)))))))))))) d h = refl
numbered Metrics (suc (suc (suc (suc (suc (suc (suc (suc (suc (suc (suc (suc (suc k))))))))))))) d h = absurd (omega arith)

pub same_kind_number : (p type : ℤ) → int_eq p type ≡ true → p ≡ type
same_kind_number p type h = (Decides-int_eq p type).0 h

-- a kind that has a number is at an index, and has that number
pub record HasNumber (signal : Signal) (number : ℤ) (kind : Kind) : Type 0 where
  pub at : ℕ
  pub inside : at < length (kinds_of signal)
  pub is : (d : Kind) → get_or (kinds_of signal) at d ≡ kind
  pub same : int_eq number (payload_type_of kind) ≡ true

pub has_number : (signal : Signal) (number : ℤ) (kind : Kind) → kind_numbered signal number ≡ Some kind → HasNumber signal number kind
has_number signal number kind found =
    let there : Finds (λ k. int_eq (payload_type_of k) number) (kinds_of signal) kind = finds (λ k. int_eq (payload_type_of k) number) (kinds_of signal) kind found in
    record {
      at = there.at;
      inside = there.inside;
      is = there.is;
      same = (Decides-int_eq number (payload_type_of kind)).1 (sym ((Decides-int_eq (payload_type_of kind) number).0 there.passes));
    }
