-- No two columns of a table have the same name.
use Rattle.std.proofs.Common.{◌≡◌, ℕ, zero, suc, ◌<◌, ◌^◌, Bool, true, false, not, ◌&&◌, List, [], ◌∷◌, length, get_or, map, refl, sym, ◌∙◌, ap, arith, lit<}
use Rattle.std.proofs.lemmas.List.{length-map, get_or-map}
use Rattle.std.proofs.lemmas.Slice.Eq.{bytes_eq-Decides}
use Rattle.std.proofs.lemmas.Bool.{or_parts}
use Rattle.otap_cells.specs.declared.profile.Base.TheVariants as base
use Rattle.std.specs.List.{list_any}
use Rattle.std.specs.Str.{bytes_eq}
use Rattle.otap_cells.specs.declared.payload.Kind.{Kind}
use Rattle.otap_cells.specs.declared.payload.Kind.TheVariants as table
use Rattle.otap_cells.specs.Columns.{plain, columns_of, width_of, name_at, logs, spans, metrics, attrs, deep_attrs, span_events, span_links, number_points, summary_points, hist_points, exemplars}

-- no name occurs twice
abbrev all_apart : List (List ℕ) → Bool
all_apart [] = true
all_apart (name ∷ names) = not (list_any (bytes_eq name) names) && all_apart names

names_apart : (kind : Kind) → all_apart (map (λ column. column.name) (columns_of kind)) ≡ true
unfolding logs spans metrics attrs deep_attrs span_events span_links number_points summary_points hist_points exemplars
names_apart table.ResourceAttrs = refl
names_apart table.ScopeAttrs = refl
names_apart table.Metrics = refl
names_apart table.NumberPoints = refl
names_apart table.SummaryPoints = refl
names_apart table.HistPoints = refl
names_apart table.NumberPointAttrs = refl
names_apart table.SummaryPointAttrs = refl
names_apart table.HistPointAttrs = refl
names_apart table.NumberExemplars = refl
names_apart table.HistExemplars = refl
names_apart table.NumberExemplarAttrs = refl
names_apart table.HistExemplarAttrs = refl
names_apart table.Logs = refl
names_apart table.LogAttrs = refl
names_apart table.Spans = refl
names_apart table.SpanAttrs = refl
names_apart table.SpanEvents = refl
names_apart table.SpanLinks = refl
names_apart table.EventAttrs = refl
names_apart table.LinkAttrs = refl

and_parts : (a b : Bool) → (not a && b) ≡ true → (a ≡ false) × (b ≡ true)
and_parts true b h = cc
and_parts false b h = (refl, h)

-- no later name is the first one
not_later : (name : List ℕ) (names : List (List ℕ)) (place : ℕ) → place < length names → list_any (bytes_eq name) names ≡ false → name ≡ get_or names place [] → ⊥
not_later name [] place within none same = absurd (omega arith)
not_later name (other ∷ names) zero within none same =
    let differs = (or_parts (bytes_eq name other) (list_any (bytes_eq name) names) none).0 in
    let equal = (bytes_eq-Decides name other).1 same in cc
not_later name (other ∷ names) (suc place) within none same =
    not_later name names place (omega arith) (or_parts (bytes_eq name other) (list_any (bytes_eq name) names) none).1 same

apart_at : (names : List (List ℕ)) (a b : ℕ) → all_apart names ≡ true → a < length names → b < length names → get_or names a [] ≡ get_or names b [] → a ≡ b
apart_at [] a b apart in_a in_b same = absurd (omega arith)
apart_at (name ∷ names) zero zero apart in_a in_b same = refl
apart_at (name ∷ names) zero (suc b) apart in_a in_b same = absurd (not_later name names b (omega arith) (and_parts (list_any (bytes_eq name) names) (all_apart names) apart).0 same)
apart_at (name ∷ names) (suc a) zero apart in_a in_b same = absurd (not_later name names a (omega arith) (and_parts (list_any (bytes_eq name) names) (all_apart names) apart).0 (sym same))
apart_at (name ∷ names) (suc a) (suc b) apart in_a in_b same = ap suc (apart_at names a b (and_parts (list_any (bytes_eq name) names) (all_apart names) apart).1 (omega arith) (omega arith) same)

pub same_names : (kind : Kind) (a b : ℕ) → a < width_of kind → b < width_of kind → name_at kind a ≡ name_at kind b → a ≡ b
same_names kind a b in_a in_b same =
    let long = length-map (columns_of kind) (λ column. column.name) in
    let name = get_or-map (λ column. column.name) (columns_of kind) in
    apart_at (map (λ column. column.name) (columns_of kind)) a b (names_apart kind) (omega arith) (omega arith)
    (name a (plain [] base.Binary) [] in_a ∙ same ∙ sym (name b (plain [] base.Binary) [] in_b))

-- the number of columns fits 32 bits
pub narrow : (kind : Kind) → width_of kind < 2 ^ 32
unfolding logs spans metrics attrs deep_attrs span_events span_links number_points summary_points hist_points exemplars
narrow table.ResourceAttrs = lit< tt
narrow table.ScopeAttrs = lit< tt
narrow table.Metrics = lit< tt
narrow table.NumberPoints = lit< tt
narrow table.SummaryPoints = lit< tt
narrow table.HistPoints = lit< tt
narrow table.NumberPointAttrs = lit< tt
narrow table.SummaryPointAttrs = lit< tt
narrow table.HistPointAttrs = lit< tt
narrow table.NumberExemplars = lit< tt
narrow table.HistExemplars = lit< tt
narrow table.NumberExemplarAttrs = lit< tt
narrow table.HistExemplarAttrs = lit< tt
narrow table.Logs = lit< tt
narrow table.LogAttrs = lit< tt
narrow table.Spans = lit< tt
narrow table.SpanAttrs = lit< tt
narrow table.SpanEvents = lit< tt
narrow table.SpanLinks = lit< tt
narrow table.EventAttrs = lit< tt
narrow table.LinkAttrs = lit< tt
