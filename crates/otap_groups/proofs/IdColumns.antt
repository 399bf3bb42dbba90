-- What holds of each id column of a kind, read from its list of columns.
use Rattle.std.proofs.Common.{◌≡◌, ℕ, zero, suc, ◌+◌, true, false, List, [], ◌∷◌, get_or, subst, arith, inl, inr}
use Rattle.std.specs.Prelude.{if◌then◌else◌, ◌⊎◌}
use Rattle.std.specs.List.{AllByRecursion}
use Rattle.std.proofs.lemmas.Bool.{cases_Bool, false≢true}
use Rattle.otap_cells.specs.declared.payload.Kind.{Kind}
use Rattle.otap_cells.specs.declared.profile.Base.TheVariants as base
use Rattle.otap_cells.specs.Bases.{is_id}
use Rattle.otap_cells.specs.Columns.{ColumnSpec, columns_of, is_id_at, plain}

-- the places of the id columns, the first column having this place
abbrev pub id_places : ℕ → List ColumnSpec → List ℕ
id_places n [] = []
id_places n (c ∷ columns) = if is_id c.base then n ∷ id_places (suc n) columns else id_places (suc n) columns

module _ (P : ℕ → Type 0) where
  each_from : (n : ℕ) (columns : List ColumnSpec) → AllByRecursion P (id_places n columns) → (k : ℕ) → is_id (get_or columns k (plain [] base.Binary)).base ≡ true → P (n + k)
  each_from n [] all k is = absurd (false≢true is)
  each_from n (c ∷ columns) all zero is = subst P (omega arith) (rw is at all).0
  each_from n (c ∷ columns) all (suc k) is = subst P (omega arith) (each_from (suc n) columns (rest (cases_Bool (is_id c.base)) all) k is) where
    rest : ((is_id c.base ≡ true) ⊎ (is_id c.base ≡ false)) → AllByRecursion P (id_places n (c ∷ columns)) → AllByRecursion P (id_places (suc n) columns)
    rest (inl hit) all = (rw hit at all).1
    rest (inr miss) all = rw miss at all

  pub each_id : (kind : Kind) → AllByRecursion P (id_places 0 (columns_of kind)) → (column : ℕ) → is_id_at kind column ≡ true → P column
  each_id kind all column is = subst P (omega arith) (each_from 0 (columns_of kind) all column is)
