-- A request of the load is one of its signal and has 8,192 items.
use Rattle.std.proofs.Common.{◌≡◌, ◌<◌, ℕ, zero, suc, ◌+◌, ◌%◌, List, [], ◌∷◌, length, refl, sym, ap, ◌∙◌, arith, rules, add-one, length-append}
use Rattle.std.specs.Prelude.{◌==◌, map, if◌then◌else◌}
use Rattle.std.proofs.lemmas.List.{length-map}
use Rattle.std.proofs.lemmas.List.Concat.{length-flat_map}
use Rattle.otlp_model.specs.Telemetry.{Item, span, log_record, metric, telemetry, signal_of, item_entries, entries_of_group, told_as}
use Rattle.otlp_model.specs.declared.groups.ResourceGroup.{ResourceGroup}
use Rattle.otlp_model.specs.declared.request.Signal.{Signal}
use Rattle.otlp_model.specs.declared.request.Signal.TheVariants as signals
use Rattle.otlp_load.specs.Items.{load_span, load_log_record, load_metric}
use Rattle.otlp_load.specs.Load.{generated, group_of, groups_of, places_below, items_each}
use Rattle.otlp_load.proofs.GroupPlaces.{no_places, one_place_more}

pub is_of_signal : (s : Signal) (r : ℕ) → signal_of (generated s r) ≡ s
is_of_signal signals.Traces r = refl
is_of_signal signals.Logs r = refl
is_of_signal signals.Metrics r = refl

-- an index is in one of the three groups
one_group : (m k : ℕ) → m < 3
    → length (if m == 0 then k ∷ [] else []) + length (if m == 1 then k ∷ [] else []) + length (if m == 2 then k ∷ [] else []) ≡ 1
one_group zero k below = refl
one_group (suc zero) k below = refl
one_group (suc (suc zero)) k below = refl
one_group (suc (suc (suc m))) k below = grind arith

added : (a b c x y z n : ℕ) → a + b + c ≡ n → x + y + z ≡ 1 → (a + x) + (b + y) + (c + z) ≡ n + 1
added a b c x y z n e one = omega arith

pub places_counted : (n : ℕ) → length (places_below n 0) + length (places_below n 1) + length (places_below n 2) ≡ n
places_counted zero = rw (no_places 0, no_places 1, no_places 2) refl
places_counted (suc n) =
    let below : n % 3 < 3 = grind arith in
    let in_group : ℕ → List ℕ = λ g. if n % 3 == g then n ∷ [] else [] in
    let more : (g : ℕ) → length (places_below (suc n) g) ≡ length (places_below n g) + length (in_group g) =
    λ g. ap (λ k. length (places_below k g)) (sym (add-one n)) ∙ ap length (one_place_more g n) ∙ length-append (places_below n g) (in_group g) in
    rw (more 0, more 1, more 2) (added _ _ _ _ _ _ n (places_counted n) (one_group (n % 3) n below) ∙ add-one n)

group_counted : {I : Type 0} (item_of : ℕ → ℕ → I) (r g : ℕ) → length (entries_of_group (group_of item_of r g)) ≡ length (places_below items_each g)
group_counted item_of r g = search (rules, length-map, length-append)

-- the entries of three groups
entries_counted : {I : Type 0} (item_of : ℕ → ℕ → I) (r : ℕ) → length (item_entries (groups_of item_of r)) ≡ items_each
entries_counted item_of r =
    let e0 = group_counted item_of r 0 in
    let e1 = group_counted item_of r 1 in
    let e2 = group_counted item_of r 2 in
    let all = places_counted items_each in
    length-flat_map entries_of_group (groups_of item_of r) ∙ omega arith

told_counted : {I : Type 0} (kind : I → Item) (groups : List (ResourceGroup I)) → length (map (told_as kind) (item_entries groups)) ≡ length (item_entries groups)
told_counted kind groups = length-map (item_entries groups) (told_as kind)

pub is_counted : (s : Signal) (r : ℕ) → length (telemetry (generated s r)) ≡ items_each
is_counted signals.Traces r = told_counted span (groups_of load_span r) ∙ entries_counted load_span r
is_counted signals.Logs r = told_counted log_record (groups_of load_log_record r) ∙ entries_counted load_log_record r
is_counted signals.Metrics r = told_counted metric (groups_of load_metric r) ∙ entries_counted load_metric r
