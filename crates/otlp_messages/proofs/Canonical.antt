-- Rows that are written are the fields that are read.
use Rattle.std.proofs.Common.{◌≡◌, ℕ, ◌+◌, ◌*◌, ◌^◌, ◌<◌, ◌≤◌, List, [], ◌∷◌, ◌++◌, length, append-nil, Bool, true, false, Option, None, refl, sym, ap, ◌∙◌, subst, arith, inl, inr, ◌⊎◌}
use Rattle.std.specs.Prelude.{map, filter, ◌==◌, ◌&&◌, ◌||◌, not, nat_lt}
use Rattle.std.specs.List.{flat_map, list_all, AllByRecursion}
use Rattle.std.proofs.lemmas.Grind.{flat_map-append}
use Rattle.std.proofs.lemmas.Bool.{cases_eq, cases_Bool, false≢true, ne_eqb, eq-eqb, ltb-true, and_parts}
use Rattle.std.proofs.lemmas.List.{length-append}
use Rattle.std.proofs.lemmas.List.{map-append}
use Rattle.std.proofs.lemmas.List.Elements.{filter-append}
use Rattle.lists.proofs.Every.{every_append}
use Rattle.otlp_messages.specs.declared.messages.Message.{Message}
use Rattle.otlp_wire.specs.declared.parts.WireError.{WireError}
use Rattle.otlp_wire.specs.Limits.{number_limit}
use Rattle.otlp_wire.specs.Wire.{FieldValue, Varint, Fixed64, Bytes, Fixed32, Entry, IsNumber, Fits, spelling}
use Rattle.otlp_wire.specs.Varint.{varint}
use Rattle.otlp_wire.specs.Reading.{Reads, Spells}
use Rattle.otlp_wire.proofs.FieldsOf.{fields_of-only}
use Rattle.otlp_wire.proofs.Written.{is_field}
use Rattle.otlp_messages.specs.Table.{kind_of, mark_of}
use Rattle.otlp_messages.specs.Fine.{FineValue}
use Rattle.otlp_messages.specs.Rows.{only}
use Rattle.otlp_messages.specs.Canon.{Filled, entries_of, entries, canon_row, canon, no_values, one_mark_each, apart, is_laid_out, FitsLength, RowFits, values_at, IsReadBack}
use Rattle.otlp_messages.proofs.Steps.{marked, count-append, count-one, AllFine, fine_of}

record LaidOut (m : Message) (r : Filled) (rows : List Filled) : Type 0 where
  number : IsNumber r.number
  apart_from : list_all (apart m r) rows ≡ true
  others : is_laid_out m rows ≡ true

laid_first : (m : Message) (r : Filled) (rows : List Filled) → is_laid_out m (r ∷ rows) ≡ true → LaidOut m r rows
laid_first m r rows h =
    let n = r.number in
    let a = and_parts (nat_lt 0 n && nat_lt n number_limit && list_all (apart m r) rows) (is_laid_out m rows) h in
    let b = and_parts (nat_lt 0 n && nat_lt n number_limit) (list_all (apart m r) rows) a.0 in
    let c = and_parts (nat_lt 0 n) (nat_lt n number_limit) b.0 in
    record { number = (ltb-true 0 n c.0, ltb-true n number_limit c.1); apart_from = b.1; others = a.1 }

-- fields that fit are read back as they were written
AllWritten : List Entry → Type 0
AllWritten fs = AllByRecursion (λ f. IsNumber f.number × Fits f.value) fs

spells : (fs : List Entry) → AllWritten fs → Spells (flat_map spelling fs) fs
unfolding AllWritten
spells [] h = refl
spells (f ∷ fs) h = (flat_map spelling fs, (spelling f, refl, is_field f h.0.0 h.0.1), spells fs h.1)

canon_row-entries : (n : ℕ) (vs : List FieldValue) → canon_row n vs ≡ flat_map spelling (entries_of (record { number = n; values = vs }))
canon_row-entries n [] = refl
canon_row-entries n (v ∷ vs) = ap (λ s. spelling (record { number = n; value = v }) ++ s) (canon_row-entries n vs)

pub canon-entries : (rows : List Filled) → canon rows ≡ flat_map spelling (entries rows)
canon-entries [] = refl
canon-entries (r ∷ rows) =
    ap (λ s. s ++ canon rows) (canon_row-entries r.number r.values) ∙ ap (λ s. flat_map spelling (entries_of r) ++ s) (canon-entries rows)
    ∙ sym (flat_map-append spelling (entries_of r) (entries rows))

-- how often a mark occurs
marked_row : (m : Message) (k n : ℕ) (vs : List FieldValue) → (mark_of m n == k) ≡ false → marked m k (entries_of (record { number = n; values = vs })) ≡ 0
marked_row m k n [] other = refl
marked_row m k n (v ∷ vs) other =
    count-one (λ f. mark_of m f.number == k) (record { number = n; value = v }) (entries_of (record { number = n; values = vs }))
    ∙ rw other (omega (arith, marked_row m k n vs other))

marked_all : (m : Message) (k n : ℕ) (vs : List FieldValue) → (mark_of m n == k) ≡ true → marked m k (entries_of (record { number = n; values = vs })) ≡ length vs
marked_all m k n [] same = refl
marked_all m k n (v ∷ vs) same =
    count-one (λ f. mark_of m f.number == k) (record { number = n; value = v }) (entries_of (record { number = n; values = vs }))
    ∙ rw same (omega (arith, marked_all m k n vs same))

marked-entries : (m : Message) (k : ℕ) (r : Filled) (rows : List Filled) → marked m k (entries (r ∷ rows)) ≡ marked m k (entries_of r) + marked m k (entries rows)
marked-entries m k r rows = count-append (λ f. mark_of m f.number == k) (entries_of r) (entries rows)

-- a later row with values has another mark
other_mark : (m : Message) (r s : Filled) (k : ℕ) → mark_of m r.number ≡ k → 0 < k → no_values r.values ≡ false → one_mark_each m r s ≡ true
    → ((mark_of m s.number == k) ≡ false) ⊎ (no_values s.values ≡ true)
other_mark m r s k is above some h = go (mark_of m r.number) (mark_of m s.number) (no_values r.values) (no_values s.values) is some h
  where
    go : (a b : ℕ) (x y : Bool) → a ≡ k → x ≡ false → (a == 0 || not (a == b) || x || y) ≡ true → ((b == k) ≡ false) ⊎ (y ≡ true)
    go a b x y same filled test =
        elim (cases_eq b k) [
          | inl hit ↦ (let one : a ≡ b = same ∙ sym hit in
              let marked_one : (a == 0) ≡ false = ne_eqb a 0 (omega (arith, same)) in
              inr (rw (marked_one, eq-eqb a b one, filled) at test))
          | inr miss ↦ inl (ne_eqb b k miss)
        ]

marked_none : (m : Message) (k n : ℕ) (vs : List FieldValue) → no_values vs ≡ true → marked m k (entries_of (record { number = n; values = vs })) ≡ 0
marked_none m k n [] none = refl
marked_none m k n (v ∷ vs) none = absurd (false≢true none)

none_marked : (m : Message) (k : ℕ) (r : Filled) (rows : List Filled) → mark_of m r.number ≡ k → 0 < k → no_values r.values ≡ false → list_all (apart m r) rows ≡ true
    → marked m k (entries rows) ≡ 0
none_marked m k r [] is above some h = refl
none_marked m k r (s ∷ rows) is above some h =
    let b = and_parts (apart m r s) (list_all (apart m r) rows) h in
    let test = and_parts (nat_lt r.number s.number) (one_mark_each m r s) b.0 in
    omega (arith, marked-entries m k s rows, here (other_mark m r s k is above some test.1), none_marked m k r rows is above some b.1)
  where
    here : ((mark_of m s.number == k) ≡ false) ⊎ (no_values s.values ≡ true) → marked m k (entries_of s) ≡ 0
    here (inl other) = marked_row m k s.number s.values other
    here (inr none) = marked_none m k s.number s.values none

Fit : Message → ℕ → List Filled → Type 0
Fit m l rows = AllByRecursion (RowFits m l) rows

one_marked : (m : Message) (l k : ℕ) (rows : List Filled) → 0 < k → is_laid_out m rows ≡ true → Fit m l rows → marked m k (entries rows) ≤ 1
unfolding Fit
one_marked m l k [] above laid fit = omega arith
one_marked m l k (r ∷ rows) above laid fit =
    let h = laid_first m r rows laid in
    let sum = marked-entries m k r rows in
    let later = one_marked m l k rows above h.others fit.1 in
    elim (cases_eq (mark_of m r.number) k) [
      | inl same ↦ elim (cases_Bool (no_values r.values)) [
        | inl none ↦ omega (arith, sum, marked_none m k r.number r.values none, later)
        | inr some ↦ one (omega (arith, marked_all m k r.number r.values (eq-eqb (mark_of m r.number) k same))) (none_marked m k r rows same above some h.apart_from) same fit.0.few
      ]
      | inr other ↦ omega (arith, sum, marked_row m k r.number r.values (ne_eqb (mark_of m r.number) k other), later)
    ]
  where
    one : marked m k (entries_of r) ≡ length r.values → marked m k (entries rows) ≡ 0 → mark_of m r.number ≡ k → (mark_of m r.number ≡ 0) ⊎ (length r.values ≤ 1) → marked m k (entries (r ∷ rows)) ≤ 1
    one here rest same (inl none) = absurd (omega (arith, same, none))
    one here rest same (inr few) = omega (arith, marked-entries m k r rows)

-- the fields are written and fine where their parts are short
pub short_value : (n : ℕ) (v : FieldValue) → length (spelling (record { number = n; value = v })) < 2 ^ 64 → FitsLength v
short_value n (Varint x) h = tt
short_value n (Fixed64 x) h = tt
short_value n (Fixed32 x) h = tt
short_value n (Bytes part) h =
    omega (arith, length-append (varint (8 * n + 2)) (varint (length part) ++ part), length-append (varint (length part)) part)

entries_fit : (m : Message) (l n : ℕ) (vs : List FieldValue) → IsNumber n → length (canon_row n vs) < 2 ^ 64
    → AllByRecursion (λ v. FitsLength v → Fits v × FineValue (kind_of m n) l v) vs
    → AllWritten (entries_of (record { number = n; values = vs })) × AllFine m l (entries_of (record { number = n; values = vs }))
unfolding AllWritten
entries_fit m l n [] number small h = (tt, tt)
entries_fit m l n (v ∷ vs) number small h =
    let size = length-append (spelling (record { number = n; value = v })) (canon_row n vs) in
    let first = h.0 (short_value n v (omega (arith, size))) in
    let others = entries_fit m l n vs number (omega (arith, size)) h.1 in
    (((number, first.0), others.0), (first.1, others.1))

all_fit : (m : Message) (l : ℕ) (rows : List Filled) → is_laid_out m rows ≡ true → Fit m l rows → length (canon rows) < 2 ^ 64 → AllWritten (entries rows) × AllFine m l (entries rows)
unfolding Fit AllWritten
all_fit m l [] laid fit small = (tt, tt)
all_fit m l (r ∷ rows) laid fit small =
    let h = laid_first m r rows laid in
    let size = length-append (canon_row r.number r.values) (canon rows) in
    let here = entries_fit m l r.number r.values h.number (omega (arith, size)) fit.0.fine in
    let others = all_fit m l rows h.others fit.1 (omega (arith, size)) in (
      every_append (λ f. IsNumber f.number × Fits f.value) (entries_of r) (entries rows) here.0 others.0,
      every_append (λ f. FineValue (kind_of m f.number) l f.value) (entries_of r) (entries rows) here.1 others.1,
    )

-- the values of one number
only-append : (n : ℕ) (fs gs : List Entry) → only n (fs ++ gs) ≡ only n fs ++ only n gs
only-append n fs gs = ap (map (λ f. f.value)) (filter-append (λ f. f.number == n) fs gs) ∙ map-append (λ f. f.value) (filter (λ f. f.number == n) fs) (filter (λ f. f.number == n) gs)

only_row : (n k : ℕ) (vs : List FieldValue) → (k == n) ≡ true → only n (entries_of (record { number = k; values = vs })) ≡ vs
only_row n k [] same = refl
only_row n k (v ∷ vs) same = rw same (ap (λ ws. v ∷ ws) (only_row n k vs same))

not_only_row : (n k : ℕ) (vs : List FieldValue) → (k == n) ≡ false → only n (entries_of (record { number = k; values = vs })) ≡ []
not_only_row n k [] other = refl
not_only_row n k (v ∷ vs) other = rw other (not_only_row n k vs other)

none_later : (m : Message) (r : Filled) (rows : List Filled) (n : ℕ) → r.number ≡ n → list_all (apart m r) rows ≡ true → only n (entries rows) ≡ []
none_later m r [] n is h = refl
none_later m r (s ∷ rows) n is h =
    let b = and_parts (apart m r s) (list_all (apart m r) rows) h in
    let above = ltb-true r.number s.number (and_parts (nat_lt r.number s.number) (one_mark_each m r s) b.0).0 in
    only-append n (entries_of s) (entries rows)
    ∙ ap (λ vs. vs ++ only n (entries rows)) (not_only_row n s.number s.values (ne_eqb s.number n (omega arith)))
    ∙ none_later m r rows n is b.1

pub only-entries : (m : Message) (rows : List Filled) (n : ℕ) → is_laid_out m rows ≡ true → only n (entries rows) ≡ values_at n rows
only-entries m [] n laid = refl
only-entries m (r ∷ rows) n laid =
    let h = laid_first m r rows laid in
    only-append n (entries_of r) (entries rows)
    ∙ elim (cases_eq r.number n) [
      | inl same ↦ (let test = eq-eqb r.number n same in
          rw (test, none_later m r rows n same h.apart_from) (append-nil (only n (entries_of r)) ∙ only_row n r.number r.values test))
      | inr other ↦ (let test = ne_eqb r.number n other in
          rw test (ap (λ vs. vs ++ only n (entries rows)) (not_only_row n r.number r.values test) ∙ only-entries m rows n h.others))
    ]

-- the law
pub rows_read : (m : Message) (l : ℕ) (rows : List Filled) → is_laid_out m rows ≡ true → AllByRecursion (RowFits m l) rows → length (canon rows) < 2 ^ 64 → IsReadBack m l rows
unfolding Fit
rows_read m l rows laid fit small =
    let h = all_fit m l rows laid fit small in
    let none : Option WireError = None in
    let whole : Reads (canon rows) (entries rows) None = subst (λ (bytes : List ℕ). Reads bytes (entries rows) None) (sym (canon-entries rows)) (spells (entries rows) h.0) in
    let is = fields_of-only (canon rows) (entries rows) None whole in
    record {
      fine = fine_of m l (canon rows) (entries rows) is.0 is.1 h.1 (λ k above. one_marked m l k rows above laid fit);
      fields = is.0;
      only = λ n. ap (only n) is.0 ∙ only-entries m rows n laid;
    }
