-- What a loop over the fields of a message keeps.
use Rattle.std.proofs.Common.{◌≡◌, ◌≢◌, ℕ, zero, suc, ◌+◌, ◌-◌, sub-one, ◌<◌, ◌≤◌, List, [], ◌∷◌, ◌++◌, length, get_or, set, length-set, append_assoc, append-nil, add-zero}
use Rattle.std.proofs.Common.{Bool, true, false, cond, Option, Some, None, count_by, refl, sym, ap, ◌∙◌, subst, arith, inl, inr}
use Rattle.std.specs.Prelude.{slice_index_or, ◌==◌, not}
use Rattle.std.specs.List.{AllByRecursion}
use Rattle.std.proofs.lemmas.Bool.{cases_eq, false≢true, ne_eqb, eq-eqb}
use Rattle.std.proofs.lemmas.List.{get_or-set_same, get_or-set_other}
use Rattle.std.proofs.lemmas.List.Sums.{sum_by-append}
use Rattle.lists.proofs.Every.{every_append, every_at}
use Rattle.otlp_messages.specs.declared.messages.Message.{Message}
use Rattle.otlp_messages.specs.declared.messages.FieldKind.{FieldKind}
use Rattle.otlp_messages.specs.declared.messages.FieldKind.TheVariants.{Unknown, Varint, Fixed64, Fixed32, Packed64, Text, Octets, Id, Embedded, Member, Refused}
use Rattle.otlp_messages.specs.Limits.{mark_limit}
use Rattle.otlp_messages.specs.declared.messages.Defect.{Defect}
use Rattle.otlp_messages.specs.declared.messages.Defect.TheVariants.{Repeated}
use Rattle.otlp_wire.specs.declared.parts.WireError.{WireError}
use Rattle.otlp_wire.specs.Wire as wire
use Rattle.otlp_wire.specs.Wire.{FieldValue, Entry}
use Rattle.otlp_wire.specs.Fields.{fields_of, end_of}
use Rattle.otlp_wire.proofs.FieldsOf.{part_is_shorter}
use Rattle.otlp_wire.proofs.Readings.{part_len}
use Rattle.otlp_messages.specs.Table.{kind_of, mark_of}
use Rattle.otlp_messages.specs.Defects.{ValueFaults, inside, Occurs, Stands, wire_error, twice, in_value, within, IsFine}
use Rattle.otlp_messages.specs.Fine.{FinePart, FineValue}
use Rattle.otlp_messages.specs.Inside.{StandsIn, ValueStands}

-- a reader has looked at the fields `done` of the bytes, and `rest` is left. No defect is in the fields,
-- and `seen` says which marks they have.
pub record Checked (message : Message) (levels : ℕ) (bytes : List ℕ) (seen : List Bool) (rest : List ℕ) : Type 0 where
  pub done : List Entry
  pub whole : fields_of bytes ≡ done ++ fields_of rest
  pub end : end_of bytes ≡ end_of rest
  pub fine : AllByRecursion (λ f. FineValue (kind_of message f.number) levels f.value) done
  pub once : (k : ℕ) → 0 < k → count_by (λ f. mark_of message f.number == k) done ≡ cond (slice_index_or seen k false) 1 0
  pub none : slice_index_or seen 0 false ≡ false
  pub size : length seen ≡ mark_limit

-- how many of the fields have the mark
abbrev pub marked : Message → ℕ → List Entry → ℕ
marked message k fs = count_by (λ f. mark_of message f.number == k) fs

pub count-append : (p : Entry → Bool) (xs ys : List Entry) → count_by p (xs ++ ys) ≡ count_by p xs + count_by p ys
count-append p xs ys = sum_by-append (λ f. cond (p f) 1 0) xs ys

pub count-one : (p : Entry → Bool) (f : Entry) (fs : List Entry) → count_by p (f ∷ fs) ≡ cond (p f) 1 0 + count_by p fs
count-one p f fs = count-append p (f ∷ []) fs ∙ ap (λ n. n + count_by p fs) (one (cond (p f) 1 0))
  where
    one : (n : ℕ) → 0 + n ≡ n
    one n = omega arith

-- no mark is seen at first
pub checked_none : (m : Message) (l : ℕ) (bytes : List ℕ) (seen : List Bool) → length seen ≡ mark_limit → ((k : ℕ) → slice_index_or seen k false ≡ false) → Checked m l bytes seen bytes
checked_none m l bytes seen size none = record {
  done = [];
  whole = refl;
  end = refl;
  fine = tt;
  once = λ k above. rw (none k) refl;
  none = none 0;
  size = size;
}

-- the first of the fields that are left
pub first_occurs : (m : Message) (l : ℕ) (bytes rest new : List ℕ) (seen : List Bool) (f : Entry) → Checked m l bytes seen rest → fields_of rest ≡ f ∷ fields_of new → Occurs bytes f
first_occurs m l bytes rest new seen f h first = (h.done, fields_of new, h.whole ∙ ap (λ fs. h.done ++ fs) first)

-- a defect of a value that occurs
pub value_stands : (m : Message) (l : ℕ) (bytes : List ℕ) (n : ℕ) (v : FieldValue) (e : Defect) → Occurs bytes (record { number = n; value = v })
    → ValueStands (kind_of m n) l v e → Stands m l bytes e
value_stands m l bytes n (wire.Varint x) e occurs s = in_value m l bytes (record { number = n; value = wire.Varint x }) e occurs s
value_stands m l bytes n (wire.Fixed64 x) e occurs s = in_value m l bytes (record { number = n; value = wire.Fixed64 x }) e occurs s
value_stands m l bytes n (wire.Fixed32 x) e occurs s = in_value m l bytes (record { number = n; value = wire.Fixed32 x }) e occurs s
value_stands m l bytes n (wire.Bytes part) e occurs (inl s) = in_value m l bytes (record { number = n; value = wire.Bytes part }) e occurs s
value_stands m l bytes n (wire.Bytes part) e occurs (inr s) = go (inside (kind_of m n) l) refl s
  where
    go : (next : Option (Message × ℕ)) → inside (kind_of m n) l ≡ next → StandsIn next part e → Stands m l bytes e
    go None is s = absurd s
    go (Some x) is s = within m l bytes n part x.0 x.1 e occurs is s

-- a mark that is seen for the second time
pub twice_stands : (m : Message) (l : ℕ) (bytes rest new : List ℕ) (seen : List Bool) (f : Entry) → Checked m l bytes seen rest → fields_of rest ≡ f ∷ fields_of new
    → slice_index_or seen (mark_of m f.number) false ≡ true → Stands m l bytes Repeated
twice_stands m l bytes rest new seen f h first again =
    let k = mark_of m f.number in
    let p : Entry → Bool = λ g. mark_of m g.number == k in
    let above : 0 < k = elim (cases_eq k 0) [ inl zero_is ↦ absurd (false≢true (sym h.none ∙ sym (ap (λ i. slice_index_or seen i false) zero_is) ∙ again)) | inr other ↦ omega arith ] in
    let before : count_by p h.done ≡ 1 = h.once k above ∙ ap (λ b. cond b 1 0) again in
    let here : p f ≡ true = eq-eqb k k refl in
    let now : count_by p (f ∷ fields_of new) ≡ 1 + count_by p (fields_of new) = count-one p f (fields_of new) ∙ ap (λ b. cond b 1 0 + count_by p (fields_of new)) here in
    let all : count_by p (fields_of bytes) ≡ count_by p h.done + count_by p (f ∷ fields_of new) = ap (count_by p) (h.whole ∙ ap (λ fs. h.done ++ fs) first) ∙ count-append p h.done (f ∷ fields_of new) in
    twice m l bytes k above (omega (arith, before, now, all))

-- the flags of the marks, once the mark k is seen
set_once : (seen : List Bool) (k q n : ℕ) → k < length seen → 0 < q → get_or seen k false ≡ false → n ≡ cond (get_or seen q false) 1 0
    → n + cond (k == q) 1 0 ≡ cond (get_or (set seen k (not (k == 0))) q false) 1 0
set_once seen k q n small above fresh count =
    elim (cases_eq k q) [
      | inl same ↦
          (let set_here : get_or (set seen k (not (k == 0))) q false ≡ not (k == 0) = ap (λ i. get_or (set seen k (not (k == 0))) i false) (sym same) ∙ get_or-set_same seen k (not (k == 0)) false small in
          let new : not (k == 0) ≡ true = ap not (ne_eqb k 0 (omega arith)) in
          let old : n ≡ 0 = count ∙ ap (λ b. cond b 1 0) (ap (λ i. get_or seen i false) (sym same) ∙ fresh) in
          rw (set_here, new, old, eq-eqb k q same) refl)
      | inr other ↦
          (let set_there : get_or (set seen k (not (k == 0))) q false ≡ get_or seen q false = get_or-set_other seen k q (not (k == 0)) false (λ e. other (sym e)) in
          rw (set_there, ne_eqb k q other) (omega (arith, count)))
    ]

set_none : (seen : List Bool) (k : ℕ) → k < length seen → get_or seen 0 false ≡ false → get_or (set seen k (not (k == 0))) 0 false ≡ false
set_none seen k small none =
    elim (cases_eq k 0) [
      | inl same ↦ rw same (get_or-set_same seen 0 false false (omega arith))
      | inr other ↦ get_or-set_other seen k 0 (not (k == 0)) false (λ e. other (sym e)) ∙ none
    ]

pub count-last : (m : Message) (q : ℕ) (f : Entry) (n : ℕ) → n + marked m q (f ∷ []) ≡ n + cond (mark_of m f.number == q) 1 0
count-last m q f n = ap (λ k. n + k) (count-one (λ g. mark_of m g.number == q) f [] ∙ add-zero (cond (mark_of m f.number == q) 1 0))

-- one more field
pub checked_more : (m : Message) (l : ℕ) (bytes rest new : List ℕ) (seen : List Bool) (f : Entry) → Checked m l bytes seen rest
    → fields_of rest ≡ f ∷ fields_of new → end_of rest ≡ end_of new → mark_of m f.number < mark_limit
    → slice_index_or seen (mark_of m f.number) false ≡ false → FineValue (kind_of m f.number) l f.value
    → Checked m l bytes (set seen (mark_of m f.number) (not (mark_of m f.number == 0))) new
checked_more m l bytes rest new seen f h first end few fresh fine =
    let k = mark_of m f.number in
    let size = h.size in
    let small : k < length seen = omega arith in
    record {
      done = h.done ++ f ∷ [];
      whole = h.whole ∙ ap (λ fs. h.done ++ fs) first ∙ sym (append_assoc h.done (f ∷ []) (fields_of new));
      end = h.end ∙ end;
      fine = every_append (λ g. FineValue (kind_of m g.number) l g.value) h.done (f ∷ []) h.fine (fine, tt);
      once = λ q above. count-append (λ g. mark_of m g.number == q) h.done (f ∷ []) ∙ count-last m q f (marked m q h.done) ∙ set_once seen k q (marked m q h.done) small above fresh (h.once q above);
      none = set_none seen k small h.none;
      size = length-set seen k (not (k == 0)) ∙ size;
    }

-- a value without a defect has none
excluded_part : (k : FieldKind) (l : ℕ) (part : List ℕ) (e : Defect) → FinePart k l part → ValueStands k l (wire.Bytes part) e → ⊥
excluded_part Unknown l part e fine (inl (inl h)) = false≢true (sym h.1)
excluded_part Unknown l part e fine (inl (inr h)) = h
excluded_part Unknown l part e fine (inr h) = h
excluded_part Text l part e fine (inl (inl h)) = false≢true (sym h.1)
excluded_part Text l part e fine (inl (inr h)) = h.1 fine
excluded_part Text l part e fine (inr h) = h
excluded_part Packed64 l part e fine (inl (inl h)) = false≢true (sym h.1)
excluded_part Packed64 l part e fine (inl (inr h)) = h.1 fine
excluded_part Packed64 l part e fine (inr h) = h
excluded_part Octets l part e fine (inl (inl h)) = false≢true (sym h.1)
excluded_part Octets l part e fine (inl (inr h)) = h
excluded_part Octets l part e fine (inr h) = h
excluded_part (Id size) l part e fine (inl (inl h)) = false≢true (sym h.1)
excluded_part (Id size) l part e (inl none) (inl (inr h)) = h.1 none
excluded_part (Id size) l part e (inr whole) (inl (inr h)) = h.2 whole
excluded_part (Id size) l part e fine (inr h) = h
excluded_part (Embedded m) l part e fine (inl (inl h)) = false≢true (sym h.1)
excluded_part (Embedded m) l part e fine (inl (inr h)) = h
excluded_part (Embedded m) l part e fine (inr h) = fine.none e h
excluded_part (Member m) zero part e fine h = fine
excluded_part (Member m) (suc l) part e fine (inl (inl h)) = false≢true (sym h.1)
excluded_part (Member m) (suc l) part e fine (inl (inr h)) = omega (arith, h.1)
excluded_part (Member m) (suc l) part e fine (inr h) = fine.none e h
excluded_part Varint l part e fine h = fine
excluded_part Fixed64 l part e fine h = fine
excluded_part Fixed32 l part e fine h = fine
excluded_part Refused l part e fine h = fine

pub excluded : (k : FieldKind) (l : ℕ) (v : FieldValue) (e : Defect) → FineValue k l v → ValueStands k l v e → ⊥
excluded k l (wire.Varint n) e fine h = false≢true (sym h.1 ∙ fine)
excluded k l (wire.Fixed64 n) e fine h = false≢true (sym h.1 ∙ fine)
excluded k l (wire.Fixed32 n) e fine h = false≢true (sym h.1 ∙ fine)
excluded k l (wire.Bytes part) e fine h = excluded_part k l part e fine h

faults_stand : (k : FieldKind) (l : ℕ) (v : FieldValue) (e : Defect) → ValueFaults k l v e → ValueStands k l v e
faults_stand k l (wire.Varint n) e h = h
faults_stand k l (wire.Fixed64 n) e h = h
faults_stand k l (wire.Fixed32 n) e h = h
faults_stand k l (wire.Bytes part) e h = inl h

-- these fields have no defect
abbrev pub AllFine : Message → ℕ → List Entry → Type 0
AllFine m l fs = AllByRecursion (λ f. FineValue (kind_of m f.number) l f.value) fs

pub fine_at : (m : Message) (l : ℕ) (bytes : List ℕ) (fs : List Entry) (f : Entry) → fields_of bytes ≡ fs → AllFine m l fs → Occurs bytes f
    → FineValue (kind_of m f.number) l f.value
fine_at m l bytes fs f is all occurs =
    every_at (λ g. FineValue (kind_of m g.number) l g.value) occurs.0 occurs.1 f (subst (AllFine m l) (sym is ∙ occurs.2) all)

abbrev none_of : Option WireError
none_of = None

none_stands : (m : Message) (l : ℕ) (bytes : List ℕ) (fs : List Entry) → fields_of bytes ≡ fs → end_of bytes ≡ None → AllFine m l fs
    → ((k : ℕ) → 0 < k → marked m k fs ≤ 1) → (e : Defect) → Stands m l bytes e → ⊥
none_stands m l bytes fs is end all once e (wire_error _ _ _ w h) = let both : none_of ≡ Some w = sym end ∙ h in cc
none_stands m l bytes fs is end all once e (twice _ _ _ k above two) = omega (arith, once k above, ap (marked m k) is)
none_stands m l bytes fs is end all once e (in_value _ _ _ f _ occurs h) =
    excluded (kind_of m f.number) l f.value e (fine_at m l bytes fs f is all occurs) (faults_stand (kind_of m f.number) l f.value e h)
none_stands m l bytes fs is end all once e (within _ _ _ n part next deep _ occurs at h) =
    excluded_part (kind_of m n) l part e (fine_at m l bytes fs (record { number = n; value = wire.Bytes part }) is all occurs)
    (inr (subst (λ (o : Option (Message × ℕ)). StandsIn o part e) (sym at) h))

pub fine_of : (m : Message) (l : ℕ) (bytes : List ℕ) (fs : List Entry) → fields_of bytes ≡ fs → end_of bytes ≡ None → AllFine m l fs
    → ((k : ℕ) → 0 < k → marked m k fs ≤ 1) → IsFine m l bytes
fine_of m l bytes fs is end all once = record { none = none_stands m l bytes fs is end all once }

at_most_one : (b : Bool) (n : ℕ) → n ≡ cond b 1 0 → n ≤ 1
at_most_one true n is = omega arith
at_most_one false n is = omega arith

-- all fields are looked at
pub fine_from : (m : Message) (l : ℕ) (bytes rest : List ℕ) (seen : List Bool) → Checked m l bytes seen rest → fields_of rest ≡ [] → end_of rest ≡ None → IsFine m l bytes
fine_from m l bytes rest seen h none end =
    fine_of m l bytes h.done (h.whole ∙ ap (λ fs. h.done ++ fs) none ∙ append-nil h.done) (h.end ∙ end) h.fine
    (λ k above. at_most_one (slice_index_or seen k false) (marked m k h.done) (h.once k above))

-- a field that occurs holds fewer bytes than the whole has
pub value_is_shorter : (bytes : List ℕ) (f : Entry) → Occurs bytes f → part_len f.value < length bytes
value_is_shorter bytes f occurs = part_is_shorter bytes f occurs.0 occurs.1 occurs.2

pub member_stands : (m : Message) (l : ℕ) (part : List ℕ) (e : Defect) → l ≢ 0 → Stands m (l - 1) part e → ValueStands (Member m) l (wire.Bytes part) e
member_stands m zero part e some h = absurd (some refl)
member_stands m (suc l) part e some h = inr (rw sub-one at h)
