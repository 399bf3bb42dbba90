-- What one pass over the fields gives is what the message says. Here, since an impl cites it, which can cite specs alone.
use Rattle.std.proofs.Common.{◌≡◌, ℕ, List, [], ◌∷◌, Bool, true, false, refl, sym, ap, ◌∙◌}
use Rattle.std.specs.Prelude.{fold, ◌==◌, if◌then◌else◌}
use Rattle.otlp_wire.specs.Wire as wire
use Rattle.otlp_wire.specs.Wire.{FieldValue, Entry}
use Rattle.otlp_wire.specs.Fields.{fields_of}
use Rattle.otlp_wire.proofs.FieldsOf.{fields_of_nothing}
use Rattle.otlp_messages.specs.Rows.{only, said, at, fixed64_in, fixed32_in, uint32_in, int32_in, bytes_in, embedded_in, many_in}
use Rattle.otlp_messages.proofs.Parts.{part_of}
use Rattle.otlp_model.specs.Empty.{no_log_record}
use Rattle.otlp_codec.specs.Groups.{value_in, pair_in, resource_in, scope_in, scope_group_in, resource_group_in, groups_in}
use Rattle.otlp_codec.specs.Logs.{log_record_in}
use Rattle.otlp_codec.specs.Steps.{no_resource, resource_step, no_scope, scope_step, scope_part_in, scope_url_in, no_scope_group, scope_group_step}
use Rattle.otlp_codec.specs.Steps.{resource_part_in, resource_url_in, no_resource_group, resource_group_step, log_record_step, request_step}

-- a part that changes by itself, whatever else changes
pub goes_by : {R A : Type 0} (step : R → Entry → R) (get : R → A) (by : A → Entry → A) → ((r : R) (f : Entry) → get (step r f) ≡ by (get r) f)
    → (r : R) (fs : List Entry) → get (fold step r fs) ≡ fold by (get r) fs
goes_by step get by each r [] = refl
goes_by step get by each r (f ∷ fs) = goes_by step get by each (step r f) fs ∙ ap (λ a. fold by a fs) (each r f)

-- a part that no field changes
stays : {R A : Type 0} (step : R → Entry → R) (get : R → A) → ((r : R) (f : Entry) → get (step r f) ≡ get r) → (r : R) (fs : List Entry) → get (fold step r fs) ≡ get r
stays step get each r [] = refl
stays step get each r (f ∷ fs) = stays step get each (step r f) fs ∙ each r f

pub scope_passes : (bytes : List ℕ) → fold scope_step no_scope (fields_of bytes) ≡ scope_in [] bytes
scope_passes bytes =
    let url = stays scope_step (λ s. s.schema_url) (λ r f. refl) no_scope (fields_of bytes) in
    let name = part_of scope_step (λ s. s.name) 1 bytes_in (λ r f. refl) no_scope (fields_of bytes) in
    let version = part_of scope_step (λ s. s.version) 2 bytes_in (λ r f. refl) no_scope (fields_of bytes) in
    let dropped = part_of scope_step (λ s. s.dropped) 4 uint32_in (λ r f. refl) no_scope (fields_of bytes) in
    let pairs = part_of scope_step (λ s. s.pairs) 3 (many_in pair_in) (λ r f. refl) no_scope (fields_of bytes) in
    λ i. record { schema_url = url i; name = name i; version = version i; dropped = dropped i; pairs = pairs i }

pub resource_passes : (bytes : List ℕ) → fold resource_step no_resource (fields_of bytes) ≡ resource_in [] bytes
resource_passes bytes =
    let url = stays resource_step (λ s. s.schema_url) (λ r f. refl) no_resource (fields_of bytes) in
    let dropped = part_of resource_step (λ s. s.dropped) 2 uint32_in (λ r f. refl) no_resource (fields_of bytes) in
    let pairs = part_of resource_step (λ s. s.pairs) 1 (many_in pair_in) (λ r f. refl) no_resource (fields_of bytes) in
    λ i. record { schema_url = url i; dropped = dropped i; pairs = pairs i }

-- what is made of two fields of bytes, 3 and 1, in whatever order they come
record Makes {A : Type 0} (make : List ℕ → List ℕ → A) (url part : A → FieldValue → A) : Type 0 where
  by_url : (u b : List ℕ) (v : FieldValue) → url (make u b) v ≡ make (bytes_in u v) b
  by_part : (u b : List ℕ) (v : FieldValue) → part (make u b) v ≡ make u (bytes_in b v)

abbrev both : {A : Type 0} → (A → FieldValue → A) → (A → FieldValue → A) → A → Entry → A
both url part old f = at 3 url (at 1 part old f) f

one : {A : Type 0} (make : List ℕ → List ℕ → A) (url part : A → FieldValue → A) → Makes make url part → (three first : Bool) (u b : List ℕ) (v : FieldValue)
    → (if three then url (if first then part (make u b) v else make u b) v else (if first then part (make u b) v else make u b))
    ≡ make (if three then bytes_in u v else u) (if first then bytes_in b v else b)
one make url part h true true u b v = ap (λ a. url a v) (h.by_part u b v) ∙ h.by_url u (bytes_in b v) v
one make url part h true false u b v = h.by_url u b v
one make url part h false true u b v = h.by_part u b v
one make url part h false false u b v = refl

made : {A : Type 0} (make : List ℕ → List ℕ → A) (url part : A → FieldValue → A) → Makes make url part → (u b : List ℕ) (fs : List Entry)
    → fold (both url part) (make u b) fs ≡ make (fold (at 3 bytes_in) u fs) (fold (at 1 bytes_in) b fs)
made make url part h u b [] = refl
made make url part h u b (f ∷ fs) =
    ap (λ a. fold (both url part) a fs) (one make url part h (f.number == 3) (f.number == 1) u b f.value)
    ∙ made make url part h (at 3 bytes_in u f) (at 1 bytes_in b f) fs

bytes_at : (n : ℕ) (old : List ℕ) (fs : List Entry) → fold (at n bytes_in) old fs ≡ fold bytes_in old (only n fs)
bytes_at n old fs = part_of (at n bytes_in) (λ x. x) n bytes_in (λ r f. refl) old fs

made_said : {A : Type 0} (make : List ℕ → List ℕ → A) (url part : A → FieldValue → A) → Makes make url part → (none : A) → none ≡ make [] [] → (bytes : List ℕ)
    → fold (both url part) none (fields_of bytes) ≡ make (said 3 bytes_in [] bytes) (said 1 bytes_in [] bytes)
made_said make url part h none empty bytes =
    ap (λ a. fold (both url part) a (fields_of bytes)) empty
    ∙ made make url part h [] [] (fields_of bytes)
    ∙ (λ i. make (bytes_at 3 [] (fields_of bytes) i) (bytes_at 1 [] (fields_of bytes) i))

makes_scope : Makes scope_in scope_url_in scope_part_in
makes_scope = record { by_url = url; by_part = part }
  where
    url : (u b : List ℕ) (v : FieldValue) → scope_url_in (scope_in u b) v ≡ scope_in (bytes_in u v) b
    url u b (wire.Bytes p) = refl
    url u b (wire.Varint n) = refl
    url u b (wire.Fixed64 n) = refl
    url u b (wire.Fixed32 n) = refl

    part : (u b : List ℕ) (v : FieldValue) → scope_part_in (scope_in u b) v ≡ scope_in u (bytes_in b v)
    part u b (wire.Bytes p) = refl
    part u b (wire.Varint n) = refl
    part u b (wire.Fixed64 n) = refl
    part u b (wire.Fixed32 n) = refl

makes_resource : Makes resource_in resource_url_in resource_part_in
makes_resource = record { by_url = url; by_part = part }
  where
    url : (u b : List ℕ) (v : FieldValue) → resource_url_in (resource_in u b) v ≡ resource_in (bytes_in u v) b
    url u b (wire.Bytes p) = refl
    url u b (wire.Varint n) = refl
    url u b (wire.Fixed64 n) = refl
    url u b (wire.Fixed32 n) = refl

    part : (u b : List ℕ) (v : FieldValue) → resource_part_in (resource_in u b) v ≡ resource_in u (bytes_in b v)
    part u b (wire.Bytes p) = refl
    part u b (wire.Varint n) = refl
    part u b (wire.Fixed64 n) = refl
    part u b (wire.Fixed32 n) = refl

pub no_scope_is : no_scope ≡ scope_in [] []
no_scope_is = sym (ap (λ (fs : List Entry). record {
  schema_url = [];
  name = fold bytes_in [] (only 1 fs);
  version = fold bytes_in [] (only 2 fs);
  dropped = fold uint32_in 0 (only 4 fs);
  pairs = fold (many_in pair_in) [] (only 3 fs);
}) fields_of_nothing)

pub no_resource_is : no_resource ≡ resource_in [] []
no_resource_is = sym (ap (λ (fs : List Entry). record {
  schema_url = [];
  dropped = fold uint32_in 0 (only 2 fs);
  pairs = fold (many_in pair_in) [] (only 1 fs);
}) fields_of_nothing)

pub scope_group_passes : {I : Type 0} (item : List ℕ → I) (bytes : List ℕ) → fold (scope_group_step item) no_scope_group (fields_of bytes) ≡ scope_group_in item bytes
scope_group_passes item bytes =
    let scope = goes_by (scope_group_step item) (λ g. g.scope) (both scope_url_in scope_part_in) (λ r f. refl) no_scope_group (fields_of bytes)
    ∙ made_said scope_in scope_url_in scope_part_in makes_scope no_scope no_scope_is bytes in
    let items = part_of (scope_group_step item) (λ g. g.items) 2 (many_in item) (λ r f. refl) no_scope_group (fields_of bytes) in
    λ i. record { scope = scope i; items = items i }

pub resource_group_passes : {I : Type 0} (item : List ℕ → I) (bytes : List ℕ) → fold (resource_group_step item) no_resource_group (fields_of bytes) ≡ resource_group_in item bytes
resource_group_passes item bytes =
    let resource = goes_by (resource_group_step item) (λ g. g.resource) (both resource_url_in resource_part_in) (λ r f. refl) no_resource_group (fields_of bytes)
    ∙ made_said resource_in resource_url_in resource_part_in makes_resource no_resource no_resource_is bytes in
    let scopes = part_of (resource_group_step item) (λ g. g.scopes) 2 (many_in (scope_group_in item)) (λ r f. refl) no_resource_group (fields_of bytes) in
    λ i. record { resource = resource i; scopes = scopes i }

pub request_passes : {I : Type 0} (item : List ℕ → I) (bytes : List ℕ) → fold (request_step item) [] (fields_of bytes) ≡ groups_in item bytes
request_passes item bytes = part_of (request_step item) (λ groups. groups) 1 (many_in (resource_group_in item)) (λ r f. refl) [] (fields_of bytes)

pub log_record_passes : (bytes : List ℕ) → fold log_record_step no_log_record (fields_of bytes) ≡ log_record_in bytes
unfolding log_record_in
log_record_passes bytes =
    let fs = fields_of bytes in
    let time = part_of log_record_step (λ r. r.time) 1 fixed64_in (λ r f. refl) no_log_record fs in
    let observed = part_of log_record_step (λ r. r.observed) 11 fixed64_in (λ r f. refl) no_log_record fs in
    let severity = part_of log_record_step (λ r. r.severity) 2 int32_in (λ r f. refl) no_log_record fs in
    let severity_text = part_of log_record_step (λ r. r.severity_text) 3 bytes_in (λ r f. refl) no_log_record fs in
    let body = part_of log_record_step (λ r. r.body) 5 (embedded_in value_in) (λ r f. refl) no_log_record fs in
    let pairs = part_of log_record_step (λ r. r.pairs) 6 (many_in pair_in) (λ r f. refl) no_log_record fs in
    let dropped = part_of log_record_step (λ r. r.dropped) 7 uint32_in (λ r f. refl) no_log_record fs in
    let flags = part_of log_record_step (λ r. r.flags) 8 fixed32_in (λ r f. refl) no_log_record fs in
    let trace_id = part_of log_record_step (λ r. r.trace_id) 9 bytes_in (λ r f. refl) no_log_record fs in
    let span_id = part_of log_record_step (λ r. r.span_id) 10 bytes_in (λ r f. refl) no_log_record fs in
    let event_name = part_of log_record_step (λ r. r.event_name) 12 bytes_in (λ r f. refl) no_log_record fs in
    λ i. record {
      time = time i;
      observed = observed i;
      severity = severity i;
      severity_text = severity_text i;
      body = body i;
      pairs = pairs i;
      dropped = dropped i;
      flags = flags i;
      trace_id = trace_id i;
      span_id = span_id i;
      event_name = event_name i;
    }
