-- Folds over fields, a level at a time and as loops go.
use Rattle.std.specs.Prelude.{IsTrue, Bool, ◌&&◌}
use Rattle.std.specs.List.{list_all}
use Rattle.std.proofs.Common.{◌≡◌, ◌≤◌, ℕ, zero, suc, arith, ◌+◌, ◌<◌, List, [], ◌∷◌, ◌++◌, map, length, drop, get_or, append_assoc, refl, sym, ap, ◌∙◌, rules}
use Rattle.std.proofs.lemmas.List.{at_drop_more}
use Rattle.std.proofs.lemmas.Bool.{and_parts}
use Rattle.arrow_schema.specs.declared.spec.FieldSpec.{FieldSpec, the_lemmas}
use Rattle.arrow_schema.specs.declared.agreement.Use.{Use}
use Rattle.arrow_schema.specs.Trees.{sum_of, field_count, count_of, use_of, uses_in, uses_of, name_in, kind_in, dict_in, encoding_in, children_in}
use Rattle.arrow_schema.specs.Writing.{names_in, names_of, fits_width, widths_in, widths_fit, is_named, named_in, encodings_named}
use Rattle.arrow_schema.proofs.Folds.{count_in_is, uses_in_is}

pub push_step : (before between after all : List Use) (fs : List FieldSpec) (i : ℕ) (f : FieldSpec) (children : List FieldSpec) → i < length fs → f ≡ get_or fs i f → children ≡ children_in f
    → between ≡ before ++ use_of (kind_in f) (dict_in f) → after ≡ between ++ uses_of children → before ++ uses_of (drop i fs) ≡ all → after ++ uses_of (drop (i + 1) fs) ≡ all
push_step before between after all fs i f children lt is own one rest so_far =
    let step : uses_of (drop i fs) ≡ uses_in f ++ uses_of (drop (i + 1) fs) =
    at_drop_more uses_of fs i f lt ∙ ap (λ (g : FieldSpec). uses_in g ++ uses_of (drop (i + 1) fs)) (sym is) in
    let whole : after ≡ before ++ uses_in f =
    rest ∙ ap (λ (uses : List Use). uses ++ uses_of children) one ∙ append_assoc before (use_of (kind_in f) (dict_in f)) (uses_of children)
    ∙ ap (λ (uses : List Use). before ++ uses) (ap (λ (cs : List FieldSpec). use_of (kind_in f) (dict_in f) ++ uses_of cs) own ∙ sym (uses_in_is f)) in
    ap (λ (uses : List Use). uses ++ uses_of (drop (i + 1) fs)) whole ∙ append_assoc before (uses_in f) (uses_of (drop (i + 1) fs))
    ∙ ap (λ (uses : List Use). before ++ uses) (sym step) ∙ so_far

names_total : (fs : List FieldSpec) → sum_of (map names_in fs) ≡ names_of fs
names_total [] = refl
names_total (f ∷ fs) = ap (λ (n : ℕ). names_in f + n) (names_total fs)

pub names_in_is : (f : FieldSpec) → names_in f ≡ length (name_in f) + names_of (children_in f)
names_in_is f = search (rules, the_lemmas, names_total)

widths_all : (fs : List FieldSpec) → list_all (λ fits. fits) (map widths_in fs) ≡ widths_fit fs
widths_all [] = refl
widths_all (f ∷ fs) = ap (λ (fits : Bool). widths_in f && fits) (widths_all fs)

pub widths_in_is : (f : FieldSpec) → widths_in f ≡ (fits_width (kind_in f) && widths_fit (children_in f))
widths_in_is f = search (rules, the_lemmas, widths_all)

named_all : (fs : List FieldSpec) → list_all (λ named. named) (map named_in fs) ≡ encodings_named fs
named_all [] = refl
named_all (f ∷ fs) = ap (λ (named : Bool). named_in f && named) (named_all fs)

pub named_in_is : (f : FieldSpec) → named_in f ≡ (is_named (encoding_in f) && encodings_named (children_in f))
named_in_is f = search (rules, the_lemmas, named_all)

pub named_below : (f : FieldSpec) → IsTrue (named_in f) → IsTrue (is_named (encoding_in f)) × IsTrue (encodings_named (children_in f))
named_below f h = and_parts (is_named (encoding_in f)) (encodings_named (children_in f)) (sym (named_in_is f) ∙ h)

pub widths_below : (f : FieldSpec) → IsTrue (widths_in f) → IsTrue (widths_fit (children_in f))
widths_below f h = (and_parts (fits_width (kind_in f)) (widths_fit (children_in f)) (sym (widths_in_is f) ∙ h)).1

-- what a field costs, in bytes of names and in fields, and what the fields from an index on do
pub costs : (f : FieldSpec) → (names_in f ≡ length (name_in f) + names_of (children_in f)) × (field_count f ≡ 1 + count_of (children_in f))
costs f = (names_in_is f, count_in_is f)

pub costs_more : (fs : List FieldSpec) (i : ℕ) (f : FieldSpec) → i < length fs → f ≡ get_or fs i f
    → (names_of (drop i fs) ≡ names_in f + names_of (drop (i + 1) fs)) × (count_of (drop i fs) ≡ field_count f + count_of (drop (i + 1) fs))
costs_more fs i f lt is = (
  at_drop_more names_of fs i f lt ∙ ap (λ (g : FieldSpec). names_in g + names_of (drop (i + 1) fs)) (sym is),
  at_drop_more count_of fs i f lt ∙ ap (λ (g : FieldSpec). field_count g + count_of (drop (i + 1) fs)) (sym is),
)

pub counts_in : (fs : List FieldSpec) (i : ℕ) (f : FieldSpec) → i < length fs → f ≡ get_or fs i f → field_count f ≤ count_of fs
counts_in [] i f lt is = absurd (omega (arith, lt))
counts_in (g ∷ fs) zero f lt is = rw is (omega arith)
counts_in (g ∷ fs) (suc i) f lt is = omega (arith, counts_in fs i f (omega (arith, lt)) is)
