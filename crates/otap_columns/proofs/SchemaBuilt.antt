-- A schema that is built column by column.
use Rattle.std.proofs.Common.{◌≡◌, ℕ, ◌+◌, ◌<◌, List, [], ◌∷◌, ◌++◌, length, take, get_or, map, sym, ap, ◌∙◌, append-nil}
use Rattle.std.specs.List.{flat_map}
use Rattle.std.proofs.lemmas.List.{map-append, take_more}
use Rattle.std.proofs.lemmas.List.Elements.{filter-append}
use Rattle.std.proofs.lemmas.Grind.{flat_map-append}
use Rattle.arrow_schema.specs.Branches.{Leaf, Branch, leaf_field, branch_field, branch_fields}
use Rattle.arrow_schema.specs.declared.spec.FieldSpec.{FieldSpec}
use Rattle.otap_cells.specs.declared.payload.Kind.{Kind}
use Rattle.otap_cells.specs.declared.grouping.ColumnGroup.{ColumnGroup}
use Rattle.otap_cells.specs.declared.grouping.GroupMember.{GroupMember}
use Rattle.otap_cells.specs.Groups as groups
use Rattle.otap_columns.specs.Schemas.{Forms, is_present, leaf_in, members_there, branches_in}
use Rattle.otap_cells.specs.StaticGroups.{member_in, group_in}

-- the fields of members, and of groups
abbrev pub leaves : Kind → Forms → List GroupMember → List FieldSpec
leaves kind forms ms = map leaf_field (map (leaf_in kind forms) (members_there forms (map member_in ms)))

abbrev pub built : Kind → Forms → List ColumnGroup → List FieldSpec
built kind forms gs = branch_fields (flat_map (branches_in kind forms) (map group_in gs))

leaves-append : (kind : Kind) (forms : Forms) (xs ys : List GroupMember) → leaves kind forms (xs ++ ys) ≡ leaves kind forms xs ++ leaves kind forms ys
leaves-append kind forms xs ys =
    ap (λ (ms : List groups.Member). map leaf_field (map (leaf_in kind forms) (members_there forms ms))) (map-append member_in xs ys)
    ∙ ap (λ (ms : List groups.Member). map leaf_field (map (leaf_in kind forms) ms)) (filter-append (λ (m : groups.Member). is_present (forms m.column)) (map member_in xs) (map member_in ys))
    ∙ ap (λ (ls : List Leaf). map leaf_field ls) (map-append (leaf_in kind forms) (members_there forms (map member_in xs)) (members_there forms (map member_in ys)))
    ∙ map-append leaf_field (map (leaf_in kind forms) (members_there forms (map member_in xs))) (map (leaf_in kind forms) (members_there forms (map member_in ys)))

pub leaves_more : (kind : Kind) (forms : Forms) (ms : List GroupMember) (k : ℕ) (m : GroupMember) → k < length ms → m ≡ get_or ms k m
    → leaves kind forms (take k ms) ++ leaves kind forms (m ∷ []) ≡ leaves kind forms (take (k + 1) ms)
leaves_more kind forms ms k m low is =
    sym (ap (leaves kind forms) (take_more ms k m low ∙ ap (λ x. take k ms ++ x ∷ []) (sym is)) ∙ leaves-append kind forms (take k ms) (m ∷ []))

built-append : (kind : Kind) (forms : Forms) (xs ys : List ColumnGroup) → built kind forms (xs ++ ys) ≡ built kind forms xs ++ built kind forms ys
built-append kind forms xs ys =
    ap (λ (gs : List groups.Group). branch_fields (flat_map (branches_in kind forms) gs)) (map-append group_in xs ys)
    ∙ ap (λ (bs : List Branch). branch_fields bs) (flat_map-append (branches_in kind forms) (map group_in xs) (map group_in ys))
    ∙ map-append branch_field (flat_map (branches_in kind forms) (map group_in xs)) (flat_map (branches_in kind forms) (map group_in ys))

pub built_more : (kind : Kind) (forms : Forms) (gs : List ColumnGroup) (k : ℕ) (g : ColumnGroup) → k < length gs → g ≡ get_or gs k g
    → built kind forms (take k gs) ++ branch_fields (branches_in kind forms (group_in g)) ≡ built kind forms (take (k + 1) gs)
built_more kind forms gs k g low is =
    ap (λ (bs : List Branch). built kind forms (take k gs) ++ branch_fields bs) (sym (append-nil (branches_in kind forms (group_in g))))
    ∙ sym (ap (built kind forms) (take_more gs k g low ∙ ap (λ x. take k gs ++ x ∷ []) (sym is)) ∙ built-append kind forms (take k gs) (g ∷ []))
