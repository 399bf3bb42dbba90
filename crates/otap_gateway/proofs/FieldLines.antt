-- The lines of fields, as loops go over them.
use Rattle.std.proofs.Common.{◌≡◌, ℕ, ◌+◌, ◌<◌, List, [], ◌∷◌, ◌++◌, map, length, drop, get_or, append_assoc, refl, sym, ap, ◌∙◌}
use Rattle.std.specs.List.{flat_map}
use Rattle.std.proofs.lemmas.List.{at_drop_more}
use Rattle.arrow_schema.specs.declared.spec.FieldSpec.{FieldSpec}
use Rattle.arrow_schema.specs.declared.spec.FieldSpec.TheFolds.{fold_out-FieldSpec}
use Rattle.arrow_schema.specs.Trees.{name_in, children_in}
use Rattle.otap_gateway.specs.Fields.{field_step, field_text, fields_text, inner_path}
use Rattle.otap_gateway.specs.FieldsInside.{field_line}

flat_fields : (path : List ℕ) (fields : List FieldSpec) → flat_map (λ child. child path) (map field_text fields) ≡ fields_text path fields
flat_fields path [] = refl
flat_fields path (f ∷ fields) = ap (λ (text : List ℕ). field_text f path ++ text) (flat_fields path fields)

field_text_is : (f : FieldSpec) (path : List ℕ) → field_text f path ≡ field_line path f ++ fields_text (inner_path path (name_in f)) (children_in f)
field_text_is f path =
    ap (λ (lines : List ℕ → List ℕ). lines path) (fold_out-FieldSpec (List ℕ → List ℕ) field_step f)
    ∙ ap (λ (text : List ℕ). field_line path f ++ text) (flat_fields (inner_path path (name_in f)) (children_in f))

-- the line of a field and the lines of its children come after the lines so far
pub lines_step : (before between after all path inner : List ℕ) (fs : List FieldSpec) (i : ℕ) (f : FieldSpec) (children : List FieldSpec) → i < length fs → f ≡ get_or fs i f
    → children ≡ children_in f → inner ≡ inner_path path (name_in f) → between ≡ before ++ field_line path f → after ≡ between ++ fields_text inner children
    → before ++ fields_text path (drop i fs) ≡ all → after ++ fields_text path (drop (i + 1) fs) ≡ all
lines_step before between after all path inner fs i f children lt is own below one rest so_far =
    let step : fields_text path (drop i fs) ≡ field_text f path ++ fields_text path (drop (i + 1) fs) =
    at_drop_more (fields_text path) fs i f lt ∙ ap (λ (g : FieldSpec). field_text g path ++ fields_text path (drop (i + 1) fs)) (sym is) in
    let inside : fields_text inner children ≡ fields_text (inner_path path (name_in f)) (children_in f) = λ j. fields_text (below j) (own j) in
    let whole : after ≡ before ++ field_text f path =
    rest ∙ ap (λ (text : List ℕ). text ++ fields_text inner children) one ∙ append_assoc before (field_line path f) (fields_text inner children)
    ∙ ap (λ (text : List ℕ). before ++ (field_line path f ++ text)) inside ∙ ap (λ (text : List ℕ). before ++ text) (sym (field_text_is f path)) in
    ap (λ (text : List ℕ). text ++ fields_text path (drop (i + 1) fs)) whole ∙ append_assoc before (field_text f path) (fields_text path (drop (i + 1) fs))
    ∙ ap (λ (text : List ℕ). before ++ text) (sym step) ∙ so_far
