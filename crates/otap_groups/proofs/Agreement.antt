-- Main rows that agree: those of one id have equal cells.
use Rattle.std.proofs.Common.{◌≡◌, ◌∙◌, ℕ, ◌<◌, ◌&&◌, Bool, true, false, List, [], Option, None, Some, length, inl, inr, refl, sym, ap}
use Rattle.std.specs.Prelude.{Contains}
use Rattle.std.proofs.lemmas.Bool.{cases_Bool, eqb-true, false≢true}
use Rattle.std.proofs.lemmas.List.{get_or_default}
use Rattle.otap_groups.specs.Rows.{MainRow, cell_is, cells_are, id_is, main_row, row_at, same_resource, same_scope}
use Rattle.otap_groups.specs.Disagree.{Disagree}

that_id : (n : ℕ) (other : Option ℕ) → id_is (Some n) other ≡ true → other ≡ Some n
that_id n None same = absurd (false≢true same)
that_id n (Some m) same = ap Some (sym (eqb-true n m same))

neither : (x y : Bool) → (x && (y && false)) ≡ false
neither true true = refl
neither true false = refl
neither false y = refl

there : (front : List MainRow) (a : ℕ) → a < length front → Contains front (row_at front a)
there front a within = (a, within, get_or_default front a (row_at front a) (main_row None None None []) within)

pub other_urls : (a b : MainRow) → cell_is a.schema_url b.schema_url ≡ false → same_scope a b ≡ false
other_urls a b differ = rw differ (neither (id_is a.scope_id b.scope_id) (cells_are a.scope b.scope))

module _ (front : List MainRow) (agree : Disagree front → ⊥) (a b n : ℕ) (in_a : a < length front) (in_b : b < length front) where
  pub resources_agree : (row_at front a).resource_id ≡ Some n → id_is (row_at front a).resource_id (row_at front b).resource_id ≡ true
      → same_resource (row_at front a) (row_at front b) ≡ true
  resources_agree is same =
      let other : (row_at front b).resource_id ≡ Some n = that_id n _ (ap (λ id. id_is id (row_at front b).resource_id) (sym is) ∙ same) in
      rw same (elim (cases_Bool (cells_are (row_at front a).resource (row_at front b).resource)) [
        | inl equal ↦ equal
        | inr not ↦ absurd (agree (inl (record {
          shared = n;
          a = row_at front a;
          b = row_at front b;
          first = there front a in_a;
          second = there front b in_b;
          of_first = is;
          of_second = other;
          differ = not;
        })))
      ])

  pub scopes_agree : (row_at front a).scope_id ≡ Some n → id_is (row_at front a).scope_id (row_at front b).scope_id ≡ true
      → cell_is (row_at front a).schema_url (row_at front b).schema_url ≡ true → same_scope (row_at front a) (row_at front b) ≡ true
  scopes_agree is same url =
      let other : (row_at front b).scope_id ≡ Some n = that_id n _ (ap (λ id. id_is id (row_at front b).scope_id) (sym is) ∙ same) in
      rw (same, url) (elim (cases_Bool (cells_are (row_at front a).scope (row_at front b).scope)) [
        | inl equal ↦ rw equal refl
        | inr not ↦ absurd (agree (inr (record {
          shared = n;
          a = row_at front a;
          b = row_at front b;
          first = there front a in_a;
          second = there front b in_b;
          of_first = is;
          of_second = other;
          differ = not;
        })))
      ])
