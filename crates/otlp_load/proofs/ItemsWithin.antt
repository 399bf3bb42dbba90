-- The items of the load are within the profile.
use Rattle.std.proofs.Common.{◌≡◌, ℕ, ◌%◌, Bool, true, false, List, [], ◌∷◌, get_or, refl, arith, rules}
use Rattle.std.specs.Prelude.{◌==◌, codes, pos}
use Rattle.std.specs.List.{range_with_len}
use Rattle.std.proofs.lemmas.List.Elements.{All-map, All-nil, All-cons}
use Rattle.otlp_model.specs.Each.{Each}
use Rattle.otlp_model.specs.Profile.{IsProfileValue, IsProfilePair, IsProfileEvent, IsProfileLink, IsProfileSpan, IsProfileLogRecord, IsProfilePoint, IsProfileExemplar}
use Rattle.otlp_model.specs.Profile.{IsProfileShape, IsProfileMetric, IsProfileResource, IsProfileScopeGroup, IsProfileResourceGroup, IsProfile}
use Rattle.otlp_model.specs.declared.value.Value.{the_lemmas}
use Rattle.otlp_model.specs.declared.value.Value as values
use Rattle.otlp_model.specs.declared.metrics.Number.{Number}
use Rattle.otlp_model.specs.declared.groups.ResourceGroup.{ResourceGroup}
use Rattle.otlp_model.specs.declared.request.Signal.{Signal}
use Rattle.otlp_model.specs.declared.request.Signal.TheVariants as signals
use Rattle.otlp_load.specs.Pairs.{load_value, load_pair, pairs_of}
use Rattle.otlp_load.specs.Items.{event_at, time_of, load_span, load_log_record, load_point, load_shape, load_metric}
use Rattle.otlp_load.specs.Load.{generated, service_of, host_of, load_resource, group_of, groups_of, item_number, places_below, items_each}

str_within : (text : List ℕ) → IsProfileValue (values.Str text)
str_within text = search (rules, the_lemmas)

int_within : (n : ℕ) → IsProfileValue (values.Int (pos n))
int_within n = search (rules, the_lemmas)

value_within : (r n place : ℕ) → IsProfileValue (load_value r n place)
value_within r n place = grind (arith, the_lemmas)

pairs_within : (r n : ℕ) → Each IsProfilePair (pairs_of r n)
unfolding pairs_of
pairs_within r n = record { at = All-map IsProfilePair (load_pair r n) (range_with_len 0 12) (λ k d below. value_within r n (get_or (range_with_len 0 12) k d)) }

none_within : {A : Type 0} (P : A → Type 0) → Each P []
none_within P = record { at = All-nil P }

one_within : {A : Type 0} (P : A → Type 0) (x : A) → P x → Each P (x ∷ [])
one_within P x h = record { at = All-cons P x [] h (All-nil P) }

event_within : (name : List ℕ) (time : ℕ) → IsProfileEvent (event_at name time)
event_within name time = record { pairs = none_within IsProfilePair }

pub span_within : (r n : ℕ) → IsProfileSpan (load_span r n)
span_within r n = record {
  trace_id = refl;
  span_id = refl;
  parent_span_id = refl;
  pairs = pairs_within r n;
  events = record {
    at = All-cons IsProfileEvent (event_at (codes "e0") (time_of n)) (event_at (codes "e1") (time_of n) ∷ [])
        (event_within (codes "e0") (time_of n)) (Each.at (one_within IsProfileEvent (event_at (codes "e1") (time_of n)) (event_within (codes "e1") (time_of n))));
  };
  links = none_within IsProfileLink;
}

pub log_record_within : (r n : ℕ) → IsProfileLogRecord (load_log_record r n)
log_record_within r n = record { trace_id = refl; span_id = refl; body = str_within _; pairs = pairs_within r n }

point_within : (r n : ℕ) (value : Number) → IsProfilePoint (load_point r n value)
point_within r n value = record { pairs = pairs_within r n; exemplars = none_within IsProfileExemplar }

shape_within : (r n : ℕ) → (b : Bool) → n % 2 == 1 ≡ b → IsProfileShape (load_shape r n)
shape_within r n true odd = rw odd (one_within IsProfilePoint _ (point_within r n _))
shape_within r n false even = rw even (one_within IsProfilePoint _ (point_within r n _))

pub metric_within : (r n : ℕ) → IsProfileMetric (load_metric r n)
metric_within r n = record { shape = shape_within r n (n % 2 == 1) refl }

scopes_within : {I : Type 0} (P : I → Type 0) (item_of : ℕ → ℕ → I) → ((r n : ℕ) → P (item_of r n)) → (r g : ℕ)
    → Each (IsProfileScopeGroup P) (ResourceGroup.scopes (group_of item_of r g))
scopes_within P item_of each r g = one_within (IsProfileScopeGroup P) _ (record {
  scope = record { pairs = none_within IsProfilePair };
  items = record { at = All-map P (λ k. item_of r (item_number r k)) (places_below items_each g) (λ k d below. each r (item_number r (get_or (places_below items_each g) k d))) };
})

resource_within : (g : ℕ) → IsProfileResource (load_resource g)
resource_within g = record {
  pairs = record {
    at = All-cons IsProfilePair (service_of g) (host_of g ∷ []) (str_within _)
        (Each.at (one_within IsProfilePair (host_of g) (int_within g)));
  };
}

groups_within : {I : Type 0} (P : I → Type 0) (item_of : ℕ → ℕ → I) → ((r n : ℕ) → P (item_of r n)) → (r : ℕ) → Each (IsProfileResourceGroup P) (groups_of item_of r)
groups_within P item_of each r = record {
  at = All-map (IsProfileResourceGroup P) (group_of item_of r) (range_with_len 0 3) (λ k d below.
      let g = get_or (range_with_len 0 3) k d in record { resource = resource_within g; scopes = scopes_within P item_of each r g });
}

pub is_within : (s : Signal) (r : ℕ) → IsProfile (generated s r)
is_within signals.Traces r = groups_within IsProfileSpan load_span span_within r
is_within signals.Logs r = groups_within IsProfileLogRecord load_log_record log_record_within r
is_within signals.Metrics r = groups_within IsProfileMetric load_metric metric_within r
