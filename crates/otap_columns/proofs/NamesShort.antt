-- The schema of a table can be written: the names of its fields are short, and its encodings are named.
use Rattle.std.proofs.Common.{◌≡◌, ℕ, ◌+◌, ◌≤◌, Bool, true, List, [], ◌∷◌, ◌++◌, length, map, Option, Some, None, refl, arith, inl, inr}
use Rattle.std.specs.Prelude.{nat_le}
use Rattle.std.specs.List.{flat_map, list_all}
use Rattle.std.proofs.lemmas.Bool.{cases_Bool, and_from, and_parts, leb-true}
use Rattle.arrow_schema.specs.declared.spec.ArrowType.{ArrowType}
use Rattle.arrow_schema.specs.Trees.{sum_of}
use Rattle.arrow_schema.specs.Writing.{names_of, encodings_named, is_named}
use Rattle.arrow_schema.specs.Branches.{Branch, Leaf, items_in, leaf_names, branch_names, is_branch_named}
use Rattle.arrow_schema.proofs.Branched.{branches_names, branches_named}
use Rattle.otap_cells.specs.declared.payload.Kind.{Kind}
use Rattle.otap_cells.specs.declared.payload.Kind.TheVariants as table
use Rattle.otap_cells.specs.declared.profile.Coding.TheVariants as coding
use Rattle.otap_cells.specs.Columns.{ColumnSpec, columns_of, column_at, logs, spans, metrics, attrs, deep_attrs, span_events, span_links, number_points, summary_points, hist_points, exemplars}
use Rattle.otap_columns.specs.declared.forms.ColumnForm.{ColumnForm}
use Rattle.otap_columns.specs.declared.forms.ColumnForm.TheVariants as form
use Rattle.otap_cells.specs.Groups.{Member, Group, grouped}
use Rattle.otap_cells.specs.Groups as group
use Rattle.otap_columns.specs.Schemas.{Forms, is_present, encoding_for, item_in, leaf_in, members_there, branches_under, branches_in, branches_for, schema_for}

-- ---- how long the names of a group are at most

member_names : Member → ℕ
member_names m = length m.name + 4

group_names : Group → ℕ
group_names (group.Alone m) = member_names m
group_names (group.Under struct members) = length struct + sum_of (map member_names members)

abbrev are_short : List ColumnSpec → Bool
are_short columns = nat_le (sum_of (map group_names (grouped columns))) 4096

logs_short : are_short logs ≡ true
unfolding grouped logs group_names member_names
logs_short = refl

spans_short : are_short spans ≡ true
unfolding grouped spans group_names member_names
spans_short = refl

metrics_short : are_short metrics ≡ true
unfolding grouped metrics group_names member_names
metrics_short = refl

attrs_short : are_short attrs ≡ true
unfolding grouped attrs group_names member_names
attrs_short = refl

deep_attrs_short : are_short deep_attrs ≡ true
unfolding grouped deep_attrs group_names member_names
deep_attrs_short = refl

span_events_short : are_short span_events ≡ true
unfolding grouped span_events group_names member_names
span_events_short = refl

span_links_short : are_short span_links ≡ true
unfolding grouped span_links group_names member_names
span_links_short = refl

number_points_short : are_short number_points ≡ true
unfolding grouped number_points group_names member_names
number_points_short = refl

summary_points_short : are_short summary_points ≡ true
unfolding grouped summary_points group_names member_names
summary_points_short = refl

hist_points_short : are_short hist_points ≡ true
unfolding grouped hist_points group_names member_names
hist_points_short = refl

exemplars_short : are_short exemplars ≡ true
unfolding grouped exemplars group_names member_names
exemplars_short = refl

kinds_short : (kind : Kind) → are_short (columns_of kind) ≡ true
kinds_short table.ResourceAttrs = attrs_short
kinds_short table.ScopeAttrs = attrs_short
kinds_short table.Metrics = metrics_short
kinds_short table.NumberPoints = number_points_short
kinds_short table.SummaryPoints = summary_points_short
kinds_short table.HistPoints = hist_points_short
kinds_short table.NumberPointAttrs = deep_attrs_short
kinds_short table.SummaryPointAttrs = deep_attrs_short
kinds_short table.HistPointAttrs = deep_attrs_short
kinds_short table.NumberExemplars = exemplars_short
kinds_short table.HistExemplars = exemplars_short
kinds_short table.NumberExemplarAttrs = deep_attrs_short
kinds_short table.HistExemplarAttrs = deep_attrs_short
kinds_short table.Logs = logs_short
kinds_short table.LogAttrs = attrs_short
kinds_short table.Spans = spans_short
kinds_short table.SpanAttrs = attrs_short
kinds_short table.SpanEvents = span_events_short
kinds_short table.SpanLinks = span_links_short
kinds_short table.EventAttrs = deep_attrs_short
kinds_short table.LinkAttrs = deep_attrs_short

-- ---- in any forms

one_item : (item : Option ArrowType) → items_in item ≤ 1
one_item None = omega arith
one_item (Some kind) = omega arith

module _ (kind : Kind) (forms : Forms) where
  leaves_short : (members : List Member) → sum_of (map leaf_names (map (leaf_in kind forms) (members_there forms members))) ≤ sum_of (map member_names members)
  unfolding member_names
  leaves_short [] = omega arith
  leaves_short (m ∷ members) =
      let rest : sum_of (map leaf_names (map (leaf_in kind forms) (members_there forms members))) ≤ sum_of (map member_names members) = leaves_short members in
      elim (cases_Bool (is_present (forms m.column))) [
        | inl there ↦ rw there (omega (arith, rest, one_item (item_in (column_at kind m.column).base)))
        | inr gone ↦ rw gone (omega (arith, rest))
      ]

  under_short : (struct : List ℕ) (members there : List Member) → sum_of (map leaf_names (map (leaf_in kind forms) there)) ≤ sum_of (map member_names members)
      → sum_of (map branch_names (branches_under kind forms struct there)) ≤ length struct + sum_of (map member_names members)
  under_short struct members [] few = omega arith
  under_short struct members (m ∷ there) few = omega (arith, few)

  group_short : (g : Group) → sum_of (map branch_names (branches_in kind forms g)) ≤ group_names g
  unfolding member_names group_names
  group_short (group.Alone m) =
      elim (cases_Bool (is_present (forms m.column))) [
        | inl there ↦ rw there (omega (arith, one_item (item_in (column_at kind m.column).base)))
        | inr gone ↦ rw gone (omega arith)
      ]
  group_short (group.Under struct members) = under_short struct members (members_there forms members) (leaves_short members)

  names-append : (bs cs : List Branch) → sum_of (map branch_names (bs ++ cs)) ≡ sum_of (map branch_names bs) + sum_of (map branch_names cs)
  names-append [] cs = omega arith
  names-append (b ∷ bs) cs = omega (arith, names-append bs cs)

  groups_short : (gs : List Group) → sum_of (map branch_names (flat_map (branches_in kind forms) gs)) ≤ sum_of (map group_names gs)
  groups_short [] = omega arith
  groups_short (g ∷ gs) = omega (arith, names-append (branches_in kind forms g) (flat_map (branches_in kind forms) gs), group_short g, groups_short gs)

  pub names_short : names_of (schema_for kind forms) ≤ 4096
  unfolding schema_for branches_for
  names_short =
      omega (
        arith,
        branches_names (flat_map (branches_in kind forms) (grouped (columns_of kind))),
        groups_short (grouped (columns_of kind)),
        leb-true (sum_of (map group_names (grouped (columns_of kind)))) 4096 (kinds_short kind),
      )

  -- ---- encodings

  form_named : (f : ColumnForm) → is_named (encoding_for f) ≡ true
  form_named form.Absent = refl
  form_named form.Plain = refl
  form_named form.Dict8 = refl
  form_named form.Dict16 = refl
  form_named form.Wide = refl
  form_named (form.Coded coding.Plain) = refl
  form_named (form.Coded coding.Delta) = refl
  form_named (form.Coded coding.Run) = refl

  leaves_named : (ms : List Member) → list_all (λ (l : Leaf). is_named l.encoding) (map (leaf_in kind forms) ms) ≡ true
  leaves_named [] = refl
  leaves_named (m ∷ ms) = and_from (is_named (encoding_for (forms m.column))) (list_all (λ (l : Leaf). is_named l.encoding) (map (leaf_in kind forms) ms)) (form_named (forms m.column)) (leaves_named ms)

  under_named : (struct : List ℕ) (there : List Member) → list_all is_branch_named (branches_under kind forms struct there) ≡ true
  under_named struct [] = refl
  under_named struct (m ∷ there) = and_from (list_all (λ (l : Leaf). is_named l.encoding) (map (leaf_in kind forms) (m ∷ there))) true (leaves_named (m ∷ there)) refl

  pub group_named : (g : Group) → list_all is_branch_named (branches_in kind forms g) ≡ true
  group_named (group.Alone m) =
      elim (cases_Bool (is_present (forms m.column))) [
        | inl there ↦ rw there (and_from (is_named (encoding_for (forms m.column))) true (form_named (forms m.column)) refl)
        | inr gone ↦ rw gone refl
      ]
  group_named (group.Under struct members) = under_named struct (members_there forms members)

  named-append : (bs cs : List Branch) → list_all is_branch_named bs ≡ true → list_all is_branch_named cs ≡ true → list_all is_branch_named (bs ++ cs) ≡ true
  named-append [] cs h k = k
  named-append (b ∷ bs) cs h k =
      let parts = and_parts (is_branch_named b) (list_all is_branch_named bs) h in
      and_from (is_branch_named b) (list_all is_branch_named (bs ++ cs)) parts.0 (named-append bs cs parts.1 k)

  groups_named : (gs : List Group) → list_all is_branch_named (flat_map (branches_in kind forms) gs) ≡ true
  groups_named [] = refl
  groups_named (g ∷ gs) = named-append (branches_in kind forms g) (flat_map (branches_in kind forms) gs) (group_named g) (groups_named gs)

  pub all_named : encodings_named (schema_for kind forms) ≡ true
  unfolding schema_for branches_for
  all_named = branches_named (flat_map (branches_in kind forms) (grouped (columns_of kind))) (groups_named (grouped (columns_of kind)))
