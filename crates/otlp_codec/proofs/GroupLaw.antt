-- Resources, scopes, the groups that hold them, and the requests: the law of each, whatever the items are.
use Rattle.std.proofs.Common.{◌≡◌, ℕ, List, [], ◌∷◌, refl, ◌∙◌, arith}
use Rattle.std.specs.Prelude.{fold}
use Rattle.std.specs.List.{All, AllByRecursion}
use Rattle.std.proofs.lemmas.List.Elements.{recursion_from_All}
use Rattle.lists.proofs.Every.{every_weaker}
use Rattle.otlp_wire.specs.Wire as wire
use Rattle.otlp_wire.specs.Wire.{FieldValue}
use Rattle.otlp_messages.specs.declared.messages.ItemKind.{ItemKind}
use Rattle.otlp_messages.specs.declared.messages.Message.{Message}
use Rattle.otlp_messages.specs.declared.messages.Message.TheVariants as messages
use Rattle.otlp_codec.specs.Limits.{level_limit}
use Rattle.otlp_messages.specs.Table.{item_of}
use Rattle.otlp_messages.specs.Rows.{bytes_in, embedded_in}
use Rattle.otlp_messages.specs.Canon.{canon, bytes_row}
use Rattle.otlp_model.specs.declared.groups.Resource.{Resource}
use Rattle.otlp_model.specs.declared.groups.Scope.{Scope}
use Rattle.otlp_model.specs.declared.groups.ScopeGroup.{ScopeGroup}
use Rattle.otlp_model.specs.declared.groups.ResourceGroup.{ResourceGroup}
use Rattle.otlp_model.specs.Weight.{total, weight_of_resource, weight_of_scope, weight_of_scope_group, weight_of_resource_group}
use Rattle.otlp_model.specs.Real.{IsRealResource, IsRealScope, IsRealScopeGroup, IsRealResourceGroup}
use Rattle.otlp_model.specs.Profile.{IsProfileResource, IsProfileScope, IsProfileScopeGroup, IsProfileResourceGroup}
use Rattle.otlp_codec.specs.Groups.{resource_in, scope_in, scope_group_in, resource_group_in, groups_in}
use Rattle.otlp_codec.specs.Steps.{no_resource, no_scope, resource_part_in, scope_part_in, scope_group_step, resource_group_step}
use Rattle.otlp_codec.specs.Canonical.{resource_rows, scope_rows, canon_scope_group, canon_resource_group, canon_groups}
use Rattle.otlp_codec.specs.lemmas.Passed.{resource_passes, scope_passes, scope_group_passes, resource_group_passes, request_passes, no_resource_is, no_scope_is}
use Rattle.otlp_codec.proofs.Chain.{Held, Law, under, last, also, law_of}
use Rattle.otlp_codec.proofs.FieldLaw.{uint32_held, text_held, embedded_held, many_held}
use Rattle.otlp_codec.proofs.Attributes.{pairs_held}

-- the schema url is a field of the group, so the resource is taken without it
resource_law : (x : Resource) → IsRealResource x
    → Law (IsProfileResource x) messages.Resource level_limit (resource_in []) (λ r. canon (resource_rows r)) (record x { schema_url = [] }) (weight_of_resource (record x { schema_url = [] })) 12
resource_law x real =
    let m = messages.Resource in
    law_of (resource_in []) (λ r. canon (resource_rows r))
    (also (λ a r. record r { pairs = a }) (pairs_held m 1 x.pairs refl refl refl real.pairs (λ p. p.pairs.at)) refl (λ a v. refl)
    (also (λ a r. record r { dropped = a }) (uint32_held m 2 x.dropped refl refl real.dropped) refl (λ a v. refl) last))
    resource_passes refl refl (omega arith) (omega arith)

scope_law : (x : Scope) → IsRealScope x
    → Law (IsProfileScope x) messages.InstrumentationScope level_limit (scope_in []) (λ s. canon (scope_rows s)) (record x { schema_url = [] }) (weight_of_scope (record x { schema_url = [] })) 36
scope_law x real =
    let m = messages.InstrumentationScope in
    law_of (scope_in []) (λ s. canon (scope_rows s))
    (also (λ a r. record r { name = a }) (text_held m 1 x.name refl refl real.name) refl (λ a v. refl)
    (also (λ a r. record r { version = a }) (text_held m 2 x.version refl refl real.version) refl (λ a v. refl)
    (also (λ a r. record r { pairs = a }) (pairs_held m 3 x.pairs refl refl refl real.pairs (λ p. p.pairs.at)) refl (λ a v. refl)
    (also (λ a r. record r { dropped = a }) (uint32_held m 4 x.dropped refl refl real.dropped) refl (λ a v. refl) last))))
    scope_passes refl refl (omega arith) (omega arith)

-- a message that is read beside a schema url that came before it
part_held : {A P : Type 0} {m : Message} (read : A → FieldValue → A) (first : List ℕ → A) {none x : A} (part : List ℕ) {w e : ℕ}
    → ((bytes : List ℕ) → fold read none (bytes_row bytes) ≡ fold (embedded_in first) none (bytes_row bytes))
    → Held P m level_limit 1 (embedded_in first) none x (bytes_row part) w e → Held P m level_limit 1 read none x (bytes_row part) w e
part_held read first part same held = record { back = λ p short. (let h = held.back p short in (h.0, same part ∙ h.1)); bound = held.bound }

scope_same : (bytes : List ℕ) → fold scope_part_in no_scope (bytes_row bytes) ≡ fold (embedded_in (scope_in [])) no_scope (bytes_row bytes)
scope_same [] = refl
scope_same (byte ∷ bytes) = refl

resource_same : (bytes : List ℕ) → fold resource_part_in no_resource (bytes_row bytes) ≡ fold (embedded_in (resource_in [])) no_resource (bytes_row bytes)
resource_same [] = refl
resource_same (byte ∷ bytes) = refl

-- the schema url of a group, whatever part of the group came before it
scope_url : {I : Type 0} (read : List ℕ → I) (x : ScopeGroup I) (a : List ℕ) (v : FieldValue)
    → scope_group_step read (record x { scope = record x.scope { schema_url = a } }) (record { number = 3; value = v }) ≡ record x { scope = record x.scope { schema_url = bytes_in a v } }
scope_url read x a (wire.Bytes part) = refl
scope_url read x a (wire.Varint n) = refl
scope_url read x a (wire.Fixed64 n) = refl
scope_url read x a (wire.Fixed32 n) = refl

resource_url : {I : Type 0} (read : List ℕ → I) (x : ResourceGroup I) (a : List ℕ) (v : FieldValue)
    → resource_group_step read (record x { resource = record x.resource { schema_url = a } }) (record { number = 3; value = v }) ≡ record x { resource = record x.resource { schema_url = bytes_in a v } }
resource_url read x a (wire.Bytes part) = refl
resource_url read x a (wire.Varint n) = refl
resource_url read x a (wire.Fixed64 n) = refl
resource_url read x a (wire.Fixed32 n) = refl

scope_group_law : {I : Type 0} (Q : I → Type 0) (of : ItemKind) (read : List ℕ → I) (write : I → List ℕ) (weigh : I → ℕ) (x : ScopeGroup I) → IsRealScope x.scope
    → AllByRecursion (λ i. Law (Q i) (item_of of) level_limit read write i (weigh i) 236) x.items
    → Law (IsProfileScopeGroup Q x) (messages.ScopeGroup of) level_limit (scope_group_in read) (canon_scope_group write) x (weight_of_scope_group weigh x) 236
scope_group_law Q of read write weigh x real items =
    let m = messages.ScopeGroup of in
    law_of (scope_group_in read) (canon_scope_group write)
    (also (λ a r. record r { scope = a })
    (part_held scope_part_in (scope_in []) (canon (scope_rows x.scope)) scope_same
    (embedded_held m 1 messages.InstrumentationScope (scope_in []) (λ s. canon (scope_rows s)) refl refl (under (λ p. p.scope) (scope_law x.scope real)) no_scope_is refl)) refl (λ a v. refl)
    (also (λ a r. record r { items = a }) (many_held Q m 2 (item_of of) read write 32 weigh 236 x.items refl refl refl refl refl items (λ p. recursion_from_All Q x.items p.items.at)) refl (λ a v. refl)
    (also (λ a r. record r { scope = record r.scope { schema_url = a } }) (text_held m 3 x.scope.schema_url refl refl real.schema_url) refl (scope_url read x) last)))
    (scope_group_passes read) refl refl (omega arith) (omega arith)

resource_group_law : {I : Type 0} (Q : I → Type 0) (of : ItemKind) (read : List ℕ → I) (write : I → List ℕ) (weigh : I → ℕ) (x : ResourceGroup I) → IsRealResource x.resource
    → AllByRecursion (λ s. Law (IsProfileScopeGroup Q s) (messages.ScopeGroup of) level_limit (scope_group_in read) (canon_scope_group write) s (weight_of_scope_group weigh s) 236) x.scopes
    → Law (IsProfileResourceGroup Q x) (messages.ResourceGroup of) level_limit (resource_group_in read) (canon_resource_group write) x (weight_of_resource_group weigh x) 236
resource_group_law Q of read write weigh x real scopes =
    let m = messages.ResourceGroup of in
    law_of (resource_group_in read) (canon_resource_group write)
    (also (λ a r. record r { resource = a })
    (part_held resource_part_in (resource_in []) (canon (resource_rows x.resource)) resource_same
    (embedded_held m 1 messages.Resource (resource_in []) (λ r. canon (resource_rows r)) refl refl (under (λ p. p.resource) (resource_law x.resource real)) no_resource_is refl)) refl (λ a v. refl)
    (also (λ a r. record r { scopes = a })
    (many_held (IsProfileScopeGroup Q) m 2 (messages.ScopeGroup of) (scope_group_in read) (canon_scope_group write) 32 (weight_of_scope_group weigh) 236 x.scopes refl refl refl refl refl scopes
    (λ p. recursion_from_All (IsProfileScopeGroup Q) x.scopes p.scopes.at)) refl (λ a v. refl)
    (also (λ a r. record r { resource = record r.resource { schema_url = a } }) (text_held m 3 x.resource.schema_url refl refl real.schema_url) refl (resource_url read x) last)))
    (resource_group_passes read) refl refl (omega arith) (omega arith)

-- a request, by the law of its items
pub request_law : {I : Type 0} (Real Q : I → Type 0) (of : ItemKind) (read : List ℕ → I) (write : I → List ℕ) (weigh : I → ℕ)
    → ((i : I) → Real i → Law (Q i) (item_of of) level_limit read write i (weigh i) 236) → (x : List (ResourceGroup I)) → All (IsRealResourceGroup Real) x
    → Law (All (IsProfileResourceGroup Q) x) (messages.Request of) level_limit (groups_in read) (canon_groups write) x (total 32 (weight_of_resource_group weigh) x) 0
request_law {I = I} Real Q of read write weigh item x real =
    let m = messages.Request of in
    law_of (groups_in read) (canon_groups write)
    (also (λ a r. a)
    (many_held (IsProfileResourceGroup Q) m 1 (messages.ResourceGroup of) (resource_group_in read) (canon_resource_group write) 32 (weight_of_resource_group weigh) 236 x refl refl refl refl refl
    (every_weaker (IsRealResourceGroup Real)
    (λ g. Law (IsProfileResourceGroup Q g) (messages.ResourceGroup of) level_limit (resource_group_in read) (canon_resource_group write) g (weight_of_resource_group weigh g) 236)
    group x (recursion_from_All (IsRealResourceGroup Real) x real)) (λ p. recursion_from_All (IsProfileResourceGroup Q) x p)) refl (λ a v. refl) last)
    (request_passes read) refl refl (omega arith) (omega arith)
  where
    scope_group : (s : ScopeGroup I) → IsRealScopeGroup Real s
        → Law (IsProfileScopeGroup Q s) (messages.ScopeGroup of) level_limit (scope_group_in read) (canon_scope_group write) s (weight_of_scope_group weigh s) 236
    scope_group s h = scope_group_law Q of read write weigh s h.scope (every_weaker Real (λ i. Law (Q i) (item_of of) level_limit read write i (weigh i) 236) item s.items (recursion_from_All Real s.items h.items.at))

    group : (g : ResourceGroup I) → IsRealResourceGroup Real g
        → Law (IsProfileResourceGroup Q g) (messages.ResourceGroup of) level_limit (resource_group_in read) (canon_resource_group write) g (weight_of_resource_group weigh g) 236
    group g h = resource_group_law Q of read write weigh g h.resource
        (every_weaker (IsRealScopeGroup Real) (λ s. Law (IsProfileScopeGroup Q s) (messages.ScopeGroup of) level_limit (scope_group_in read) (canon_scope_group write) s (weight_of_scope_group weigh s) 236)
        scope_group g.scopes (recursion_from_All (IsRealScopeGroup Real) g.scopes h.scopes.at))
