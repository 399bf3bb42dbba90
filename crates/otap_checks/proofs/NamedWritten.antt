-- The table of a kind among those that are written.
use Rattle.std.proofs.Common.{◌≡◌, ◌∙◌, ℕ, zero, suc, ◌<◌, true, false, List, [], ◌∷◌, get_or, length, map, refl, sym, ap, subst, arith}
use Rattle.std.specs.Prelude.{Contains, ◌==◌, not}
use Rattle.std.proofs.lemmas.Bool.{and_parts, not-true}
use Rattle.std.proofs.lemmas.Bool.Decides.{nat_tests}
use Rattle.otlp_model.specs.declared.groups.ResourceGroup.{ResourceGroup}
use Rattle.otap_cells.specs.declared.payload.Kind.{Kind}
use Rattle.otap_cells.specs.Cells.{Cell}
use Rattle.otap_cells.specs.Named.{table_named}
use Rattle.otap_cells.specs.Payload.{is_kind, number_of}
use Rattle.otap_cells.specs.Tables.{Table, profile_table}
use Rattle.otap_groups.specs.Stored.{main_table, part_table}
use Rattle.otap_attrs.specs.Tables.{apart, attribute_table, missing}
use Rattle.otap_attrs.proofs.FilledTables.{Formed, filled_named, numbers}
use Rattle.otap_checks.specs.Written.{AreApart, Content, Written, Parts, Pairs, table_by, table_of, tables_written}

missing_at : (n : ℕ) (ts : List Table) (k : ℕ) (t : Table) → missing n (numbers ts) ≡ true → k < length ts → get_or ts k t ≡ t → (n == number_of t.kind) ≡ false
missing_at n [] k t far within at = absurd (omega arith)
missing_at n (u ∷ us) zero t far within at =
    subst (λ (x : Table). (n == number_of x.kind) ≡ false) at (not-true _ (and_parts (not (n == number_of u.kind)) (missing n (numbers us)) far).0)
missing_at n (u ∷ us) (suc k) t far within at =
    missing_at n us k t (and_parts (not (n == number_of u.kind)) (missing n (numbers us)) far).1 (omega arith) at

self : (n : ℕ) → (n == n) ≡ true
self n = grind (arith, nat_tests)

pub named_at : (ts : List Table) (k : ℕ) (t : Table) → apart (numbers ts) ≡ true → k < length ts → get_or ts k t ≡ t → table_named t.kind ts ≡ t
named_at [] k t far within at = absurd (omega arith)
named_at (u ∷ us) zero t far within at = subst (λ (x : Table). table_named x.kind (u ∷ us) ≡ x) at (rw (self (number_of u.kind)) refl)
named_at (u ∷ us) (suc k) t far within at =
    let both = and_parts (missing (number_of u.kind) (numbers us)) (apart (numbers us)) far in
    let other : is_kind u.kind t.kind ≡ false = missing_at (number_of u.kind) us k t both.0 (omega arith) at in
    rw other (named_at us k t both.1 (omega arith) at)

formed_by : (kind : Kind) (content : Content) → table_by kind content ≡ profile_table (table_by kind content).kind (table_by kind content).rows
unfolding part_table attribute_table
formed_by kind (Parts lists) = refl
formed_by kind (Pairs lists) = refl

pub formed : (ws : List Written) → Formed (map table_of ws)
formed [] = tt
formed (w ∷ ws) = (formed_by w.kind w.content, formed ws)

kind_by : (kind : Kind) (content : Content) → (table_by kind content).kind ≡ kind
unfolding part_table attribute_table
kind_by kind (Parts lists) = refl
kind_by kind (Pairs lists) = refl

pub kind_of : (w : Written) → (table_of w).kind ≡ w.kind
kind_of w = kind_by w.kind w.content

-- a written table is at the place of what is written
table_at : (ws : List Written) (k : ℕ) (w : Written) → k < length ws → get_or ws k w ≡ w → (k < length (map table_of ws)) × (get_or (map table_of ws) k (table_of w) ≡ table_of w)
table_at [] k w within at = absurd (omega arith)
table_at (v ∷ vs) zero w within at = (omega arith, ap table_of at)
table_at (v ∷ vs) (suc k) w within at = let more = table_at vs k w (omega arith) at in (omega (arith, more.0), more.1)

numbers_of : (ws : List Written) → map (λ (w : Written). number_of w.kind) ws ≡ numbers (map table_of ws)
numbers_of [] = refl
numbers_of (w ∷ ws) = λ i. number_of (sym (kind_of w) i) ∷ numbers_of ws i

pub far_of : (main : Kind) (ws : List Written) → AreApart main ws → apart (number_of main ∷ numbers (map table_of ws)) ≡ true
far_of main ws far = ap (λ (ns : List ℕ). apart (number_of main ∷ ns)) (sym (numbers_of ws)) ∙ far

module _ {I : Type 0} (main : Kind) (cells_of : I → List Cell) (ws : List Written) (groups : List (ResourceGroup I))
    (are_far : AreApart main ws) where
  far : apart (number_of main ∷ numbers (map table_of ws)) ≡ true
  far = far_of main ws are_far

  pub written_named : (w : Written) → Contains ws w → table_named w.kind (tables_written main cells_of ws groups) ≡ table_of w
  unfolding tables_written main_table
  written_named w listed =
      let both = and_parts (missing (number_of main) (numbers (map table_of ws))) (apart (numbers (map table_of ws))) far in
      let at = table_at ws listed.0 w listed.1 listed.2 in
      let differ : (number_of main == number_of (table_of w).kind) ≡ false = missing_at (number_of main) (map table_of ws) listed.0 (table_of w) both.0 at.0 at.1 in
      let other : is_kind main w.kind ≡ false = subst (λ (kind : Kind). is_kind main kind ≡ false) (kind_of w) differ in
      rw other (filled_named w.kind (map table_of ws) both.1 (formed ws)
      ∙ ap (λ (kind : Kind). table_named kind (map table_of ws)) (sym (kind_of w)) ∙ named_at (map table_of ws) listed.0 (table_of w) both.1 at.0 at.1)

  pub main_named : table_named main (tables_written main cells_of ws groups) ≡ main_table main cells_of groups
  unfolding tables_written main_table
  main_named = rw (self (number_of main)) refl
