-- The law of a message as a chain over its fields: that what is written has no defect, that it reads back, and how long it is, all three of one field at a time.
use Rattle.std.proofs.Common.{◌≡◌, ℕ, ◌+◌, ◌*◌, ◌^◌, ◌<◌, ◌≤◌, List, [], ◌∷◌, ◌++◌, length, true, refl, sym, ap, ◌∙◌, subst, arith, length-append}
use Rattle.std.specs.Prelude.{fold}
use Rattle.std.specs.List.{AllByRecursion}
use Rattle.otlp_wire.specs.Wire.{FieldValue, Entry}
use Rattle.otlp_wire.specs.Fields.{fields_of}
use Rattle.otlp_messages.specs.declared.messages.Message.{Message}
use Rattle.otlp_messages.specs.Defects.{IsFine}
use Rattle.otlp_messages.specs.Canon.{Filled, row, entries_of, entries, canon_row, canon, is_laid_out, RowFits}
use Rattle.otlp_messages.proofs.Canonical.{rows_read}
use Rattle.otlp_model.specs.Limits.{weight_limit}

-- one field: its row `vs` fits the table, is read over `none` as `x`, and takes eight bytes for each unit of `weight` and `extra` more; only the first two rest on P
pub record Held {A : Type 0} (P : Type 0) (m : Message) (l n : ℕ) (read : A → FieldValue → A) (none x : A) (vs : List FieldValue) (weight extra : ℕ) : Type 0 where
  pub back : P → length (canon_row n vs) < 2 ^ 64 → RowFits m l (row n vs) × (fold read none vs ≡ x)
  pub bound : weight ≤ weight_limit → length (canon_row n vs) ≤ 8 * weight + extra

-- the fields from one on to the last: read over `old` they give `new`
pub record Rows {R : Type 0} (P : Type 0) (m : Message) (l : ℕ) (step : R → Entry → R) (old new : R) (rows : List Filled) (weight extra : ℕ) : Type 0 where
  pub back : P → length (canon rows) < 2 ^ 64 → AllByRecursion (RowFits m l) rows × (fold step old (entries rows) ≡ new)
  pub bound : weight ≤ weight_limit → length (canon rows) ≤ 8 * weight + extra

-- the message
pub record Law {A : Type 0} (P : Type 0) (m : Message) (l : ℕ) (read : List ℕ → A) (write : A → List ℕ) (x : A) (weight extra : ℕ) : Type 0 where
  pub back : P → length (write x) < 2 ^ 64 → IsFine m l (write x) × (read (write x) ≡ x)
  pub bound : weight ≤ weight_limit → length (write x) ≤ 8 * weight + extra

pub under : {A P Q : Type 0} {m : Message} {l : ℕ} {read : List ℕ → A} {write : A → List ℕ} {x : A} {w e : ℕ} → (Q → P) → Law P m l read write x w e → Law Q m l read write x w e
under of law = record { back = λ q short. law.back (of q) short; bound = law.bound }

fold-append : {R : Type 0} (step : R → Entry → R) (r : R) (fs gs : List Entry) → fold step r (fs ++ gs) ≡ fold step (fold step r fs) gs
fold-append step r [] gs = refl
fold-append step r (f ∷ fs) gs = fold-append step (step r f) fs gs

-- one part of the record reads the values of one field
heard : {R A : Type 0} (step : R → Entry → R) (n : ℕ) (read : A → FieldValue → A) (set : A → R → R) (old : R)
    → ((a : A) (v : FieldValue) → step (set a old) (record { number = n; value = v }) ≡ set (read a v) old)
    → (a : A) (vs : List FieldValue) → fold step (set a old) (entries_of (row n vs)) ≡ set (fold read a vs) old
heard step n read set old each a [] = refl
heard step n read set old each a (v ∷ vs) = ap (λ r. fold step r (entries_of (row n vs))) (each a v) ∙ heard step n read set old each (read a v) vs

pub last : {R : Type 0} {P : Type 0} {m : Message} {l : ℕ} {step : R → Entry → R} {x : R} → Rows P m l step x x [] 0 0
last = record { back = λ p short. (tt, refl); bound = λ few. omega arith }

-- one field before the others
pub also : {R A : Type 0} {P : Type 0} {m : Message} {l n : ℕ} {read : A → FieldValue → A} {none x : A} {vs : List FieldValue} {w e ws es : ℕ} {step : R → Entry → R} {old new : R} {rows : List Filled}
    (set : A → R → R) → Held P m l n read none x vs w e → old ≡ set none old → ((a : A) (v : FieldValue) → step (set a old) (record { number = n; value = v }) ≡ set (read a v) old)
    → Rows P m l step (set x old) new rows ws es → Rows P m l step old new (row n vs ∷ rows) (w + ws) (e + es)
also {n = n} {read = read} {none = none} {x = x} {vs = vs} {step = step} {old = old} {new = new} {rows = rows} set held empty each rest = record {
  back = λ p short.
      let size : length (canon_row n vs ++ canon rows) ≡ length (canon_row n vs) + length (canon rows) = length-append (canon_row n vs) (canon rows) in
      let here = held.back p (omega (arith, short, size)) in
      let others = rest.back p (omega (arith, short, size)) in (
        (here.0, others.0),
        fold-append step old (entries_of (row n vs)) (entries rows)
            ∙ ap (λ r. fold step r (entries rows)) (ap (λ r. fold step r (entries_of (row n vs))) empty ∙ heard step n read set old each none vs ∙ ap (λ a. set a old) here.1)
            ∙ others.1,
      );
  bound = λ few.
      let size : length (canon_row n vs ++ canon rows) ≡ length (canon_row n vs) + length (canon rows) = length-append (canon_row n vs) (canon rows) in
      omega (arith, size, held.bound (omega (arith, few)), rest.bound (omega (arith, few)));
}

-- the whole message, from a chain that begins where no field is read
pub law_of : {R : Type 0} {P : Type 0} {m : Message} {l : ℕ} {step : R → Entry → R} {none x : R} {rows : List Filled} {w e weight extra : ℕ} (read : List ℕ → R) (write : R → List ℕ)
    → Rows P m l step none x rows w e → ((bytes : List ℕ) → fold step none (fields_of bytes) ≡ read bytes) → write x ≡ canon rows → is_laid_out m rows ≡ true → w ≤ weight → e ≤ extra
    → Law P m l read write x weight extra
law_of {P = P} {m = m} {l = l} {step = step} {none = none} {x = x} {rows = rows} read write all passes spelled laid lighter fewer = record {
  back = λ p short.
      let small : length (canon rows) < 2 ^ 64 = subst (λ (bytes : List ℕ). length bytes < 2 ^ 64) spelled short in
      let made = all.back p small in
      let read_back = rows_read m l rows laid made.0 small in (
        subst (λ (bytes : List ℕ). IsFine m l bytes) (sym spelled) read_back.fine,
        ap read spelled ∙ sym (passes (canon rows)) ∙ ap (fold step none) read_back.fields ∙ made.1,
      );
  bound = λ few. omega (arith, ap length spelled, all.bound (omega (arith, few, lighter)), lighter, fewer);
}
