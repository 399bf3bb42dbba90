-- What can be read can be added.
use Rattle.std.specs.Prelude.{◌≡◌, ◌^◌, ℕ, zero, suc, nat_le, true, List, [], ◌∷◌}
use Rattle.std.specs.List.{list_all}
use Rattle.std.proofs.Common.{refl, arith}
use Rattle.std.proofs.lemmas.Bool.{leb-true, lt-ltb, and_parts}
use Rattle.arrow_schema.specs.Limits.{max_fixed}
use Rattle.arrow_schema.specs.declared.spec.ArrowType.{ArrowType}
use Rattle.arrow_schema.specs.declared.spec.ArrowType.TheVariants.{Fixed}
use Rattle.arrow_schema.specs.declared.spec.FieldSpec.{FieldSpec}
use Rattle.arrow_schema.specs.Trees.{names_differ, kind_in, children_in}
use Rattle.arrow_schema.specs.Readable.{is_supported, is_readable, are_readable}
use Rattle.arrow_schema.specs.Writing.{fits_width, widths_fit}
use Rattle.arrow_schema.proofs.Only.{tests_of}
use Rattle.arrow_schema.proofs.FieldTrees.{widths_in_is}

supported_fits : (kind : ArrowType) → is_supported kind ≡ true → fits_width kind ≡ true
supported_fits (Fixed width) h = lt-ltb width (2 ^ 31) (omega (arith, leb-true width max_fixed (and_parts (nat_le 1 width) (nat_le width max_fixed) h).1))
supported_fits kind h = refl

each_fits : (depth : ℕ) → ((fields : List FieldSpec) → are_readable depth fields ≡ true → widths_fit fields ≡ true) → (fields : List FieldSpec)
    → list_all (is_readable (are_readable depth)) fields ≡ true → widths_fit fields ≡ true
each_fits depth inner [] h = refl
each_fits depth inner (f ∷ fields) h =
    let both = and_parts (is_readable (are_readable depth) f) (list_all (is_readable (are_readable depth)) fields) h in
    let test = tests_of depth f both.0 in
    rw (widths_in_is f, supported_fits (kind_in f) test.supported, inner (children_in f) test.children, each_fits depth inner fields both.1) refl

pub readable_fits : (depth : ℕ) (fields : List FieldSpec) → are_readable depth fields ≡ true → widths_fit fields ≡ true
unfolding are_readable
readable_fits zero [] h = refl
readable_fits zero (f ∷ fields) h = cc (h)
readable_fits (suc depth) fields h = each_fits depth (readable_fits depth) fields (and_parts (names_differ fields) (list_all (is_readable (are_readable depth)) fields) h).1
