-- Lists that are made column by column.
use Rattle.std.proofs.Common.{◌≡◌, ◌≢◌, ℕ, ◌+◌, ◌<◌, ◌≤◌, false, Decides, List, [], ◌∷◌, ◌++◌, length, get_or, set, refl, sym, ap, ◌∙◌, arith, ◌⊎◌, inl, inr, subst, length-append, length-set}
use Rattle.std.proofs.Math.ListN.{get_or-append}
use Rattle.std.proofs.Math.Seq.{get_or-append_seam}
use Rattle.std.proofs.lemmas.List.{get_or-set_same, get_or-set_other}
use Rattle.std.proofs.lemmas.Bool.{cases_lt, true≢false}
use Rattle.otap_cells.specs.contracts.profile.CodingPartialEq.TheImpl as coding-contract
use Rattle.otap_cells.specs.declared.payload.Kind.{Kind}
use Rattle.otap_cells.specs.declared.profile.Coding.{Coding}
use Rattle.otap_cells.specs.declared.profile.Coding.TheVariants as coding
use Rattle.otap_cells.specs.Tables.{Table}
use Rattle.otap_columns.specs.contracts.forms.ColumnFormPartialEq.TheImpl.{eq-value}
use Rattle.otap_columns.specs.declared.forms.ColumnForm.{ColumnForm}
use Rattle.otap_columns.specs.declared.forms.ColumnForm.TheVariants as form
use Rattle.otap_columns.specs.Seen.{SeenIn}
use Rattle.otap_columns.specs.SeenInside.{SeesTable}
use Rattle.otap_columns.specs.WrittenRows.{unseen}
use Rattle.otap_columns.specs.Writers.{AreSeen, is_started}

-- what holds of each of the first columns, by its index
pub record Made {A : Type 0} (P : ℕ → A → Type 0) (d : A) (n : ℕ) (xs : List A) : Type 0 where
  pub count : length xs ≡ n
  pub each : (column : ℕ) → column < n → P column (get_or xs column d)

pub made_none : {A : Type 0} (P : ℕ → A → Type 0) (d : A) → Made P d 0 []
made_none P d = record { count = refl; each = λ column low. absurd (omega (arith, low)) }

pub made_more : {A : Type 0} (P : ℕ → A → Type 0) (d : A) (n : ℕ) (xs : List A) (x : A) → Made P d n xs → P n x → Made P d (n + 1) (xs ++ x ∷ [])
made_more P d n xs x made one = record {
  count = length-append xs (x ∷ []) ∙ ap (λ k. k + 1) made.count;
  each = λ column low. by column (cases_lt column n) low;
}
  where
    by : (column : ℕ) → (column < n) ⊎ (n ≤ column) → column < n + 1 → P column (get_or (xs ++ x ∷ []) column d)
    by column (inl lt) low =
        let inside : column < length xs = omega (arith, lt, made.count) in
        subst (P column) (sym (get_or-append xs (x ∷ []) d column inside)) (made.each column lt)
    by column (inr ge) low =
        let last : column ≡ n = omega arith in
        let at : get_or (xs ++ x ∷ []) column d ≡ x = ap (λ k. get_or (xs ++ x ∷ []) k d) (last ∙ sym made.count) ∙ get_or-append_seam xs x [] d in
        subst (P column) (sym at) (subst (λ k. P k x) (sym last) one)

-- ---- columns that are observed one after the other

pub record Observed (kind : Kind) (t : Table) (old new : List SeenIn) (n : ℕ) : Type 0 where
  pub count : length new ≡ length old
  pub done : (column : ℕ) → column < n → SeesTable kind column t (get_or old column unseen) (get_or new column unseen)
  pub rest : (column : ℕ) → n ≤ column → get_or new column unseen ≡ get_or old column unseen

pub observed_none : (kind : Kind) (t : Table) (old : List SeenIn) → Observed kind t old old 0
observed_none kind t old = record { count = refl; done = λ column low. absurd (omega (arith, low)); rest = λ column low. refl }

pub observed_more : (kind : Kind) (t : Table) (old new : List SeenIn) (n : ℕ) (x : SeenIn) → n < length new → Observed kind t old new n → SeesTable kind n t (get_or new n unseen) x
    → Observed kind t old (set new n x) (n + 1)
observed_more kind t old new n x low o one = record {
  count = length-set new n x ∙ o.count;
  done = λ column below. by column (cases_lt column n) below;
  rest = λ column past. get_or-set_other new n column x unseen (apart column past) ∙ o.rest column (omega (arith, past));
}
  where
    apart : (column : ℕ) → n + 1 ≤ column → column ≢ n
    apart column past same = omega (arith, past, same)

    before : (column : ℕ) → column < n → column ≢ n
    before column lt same = omega (arith, lt, same)

    by : (column : ℕ) → (column < n) ⊎ (n ≤ column) → column < n + 1 → SeesTable kind column t (get_or old column unseen) (get_or (set new n x) column unseen)
    by column (inl lt) below = subst (SeesTable kind column t (get_or old column unseen)) (sym (get_or-set_other new n column x unseen (before column lt))) (o.done column lt)
    by column (inr ge) below =
        let last : n ≡ column = omega arith in
        subst (λ k. SeesTable kind k t (get_or old k unseen) (get_or (set new n x) k unseen)) last
        (subst (SeesTable kind n t (get_or old n unseen)) (sym (get_or-set_same new n x unseen low))
        (subst (λ s. SeesTable kind n t s x) (o.rest n (omega arith)) one))

-- ---- the first table

-- where nothing was written there are no tables
pub none_first : (kind : Kind) (tables : List Table) (columns : List SeenIn) → is_started tables ≡ false → AreSeen kind [] columns → AreSeen kind tables columns
none_first kind [] columns none seen = seen
none_first kind (t ∷ tables) columns none seen = absurd (true≢false none)

-- ---- forms

coding_decides : (a b : Coding) → Decides (coding-contract.eq-value.it a b) (a ≡ b)
coding_decides coding.Plain coding.Plain = (λ is. refl, λ same. refl)
coding_decides coding.Plain coding.Delta = (λ is. cc, λ same. cc)
coding_decides coding.Plain coding.Run = (λ is. cc, λ same. cc)
coding_decides coding.Delta coding.Plain = (λ is. cc, λ same. cc)
coding_decides coding.Delta coding.Delta = (λ is. refl, λ same. refl)
coding_decides coding.Delta coding.Run = (λ is. cc, λ same. cc)
coding_decides coding.Run coding.Plain = (λ is. cc, λ same. cc)
coding_decides coding.Run coding.Delta = (λ is. cc, λ same. cc)
coding_decides coding.Run coding.Run = (λ is. refl, λ same. refl)

coded_decides : (a b : Coding) → Decides (eq-value.it (form.Coded a) (form.Coded b)) (form.Coded a ≡ form.Coded b)
coded_decides a b = (λ is. ap form.Coded ((coding_decides a b).0 is), λ same. let codings : a ≡ b = cc in (coding_decides a b).1 codings)

pub form_decides : (a b : ColumnForm) → Decides (eq-value.it a b) (a ≡ b)
form_decides form.Absent form.Absent = (λ is. refl, λ same. refl)
form_decides form.Absent form.Plain = (λ is. cc, λ same. cc)
form_decides form.Absent form.Dict8 = (λ is. cc, λ same. cc)
form_decides form.Absent form.Dict16 = (λ is. cc, λ same. cc)
form_decides form.Absent form.Wide = (λ is. cc, λ same. cc)
form_decides form.Absent (form.Coded b) = (λ is. cc, λ same. cc)
form_decides form.Plain form.Absent = (λ is. cc, λ same. cc)
form_decides form.Plain form.Plain = (λ is. refl, λ same. refl)
form_decides form.Plain form.Dict8 = (λ is. cc, λ same. cc)
form_decides form.Plain form.Dict16 = (λ is. cc, λ same. cc)
form_decides form.Plain form.Wide = (λ is. cc, λ same. cc)
form_decides form.Plain (form.Coded b) = (λ is. cc, λ same. cc)
form_decides form.Dict8 form.Absent = (λ is. cc, λ same. cc)
form_decides form.Dict8 form.Plain = (λ is. cc, λ same. cc)
form_decides form.Dict8 form.Dict8 = (λ is. refl, λ same. refl)
form_decides form.Dict8 form.Dict16 = (λ is. cc, λ same. cc)
form_decides form.Dict8 form.Wide = (λ is. cc, λ same. cc)
form_decides form.Dict8 (form.Coded b) = (λ is. cc, λ same. cc)
form_decides form.Dict16 form.Absent = (λ is. cc, λ same. cc)
form_decides form.Dict16 form.Plain = (λ is. cc, λ same. cc)
form_decides form.Dict16 form.Dict8 = (λ is. cc, λ same. cc)
form_decides form.Dict16 form.Dict16 = (λ is. refl, λ same. refl)
form_decides form.Dict16 form.Wide = (λ is. cc, λ same. cc)
form_decides form.Dict16 (form.Coded b) = (λ is. cc, λ same. cc)
form_decides form.Wide form.Absent = (λ is. cc, λ same. cc)
form_decides form.Wide form.Plain = (λ is. cc, λ same. cc)
form_decides form.Wide form.Dict8 = (λ is. cc, λ same. cc)
form_decides form.Wide form.Dict16 = (λ is. cc, λ same. cc)
form_decides form.Wide form.Wide = (λ is. refl, λ same. refl)
form_decides form.Wide (form.Coded b) = (λ is. cc, λ same. cc)
form_decides (form.Coded a) form.Absent = (λ is. cc, λ same. cc)
form_decides (form.Coded a) form.Plain = (λ is. cc, λ same. cc)
form_decides (form.Coded a) form.Dict8 = (λ is. cc, λ same. cc)
form_decides (form.Coded a) form.Dict16 = (λ is. cc, λ same. cc)
form_decides (form.Coded a) form.Wide = (λ is. cc, λ same. cc)
form_decides (form.Coded a) (form.Coded b) = coded_decides a b
