-- A payload whose type is fine.
use Rattle.std.proofs.Common.{◌≡◌, ◌≤◌, not, Bool, false, true, List, Option, None, Some, sym, ap, ◌∙◌, subst, nat_lt, rules}
use Rattle.std.specs.Option.{IsSome, is_some}
use Rattle.std.proofs.lemmas.Bool.{ltb-false}
use Rattle.lists.specs.Payloads.{PayloadIn}
use Rattle.otlp_model.specs.declared.request.Signal.{Signal}
use Rattle.otap_cells.specs.declared.payload.Kind.{Kind}
use Rattle.otap_cells.specs.Payload.{kind_numbered}
use Rattle.otap_consume.specs.PayloadTypes.{IsFineType, times}

found : (kind : Option Kind) → is_some kind ≡ true → IsSome kind
found None h = absurd (cc h)
found (Some kind) h = search rules

pub fine_type : (signal : Signal) (all payloads : List PayloadIn) (p : PayloadIn) (kind : Option Kind) (none twice : Bool) → all ≡ payloads
    → kind ≡ kind_numbered signal p.kind → is_some kind ≡ not none → none ≡ false → twice ≡ nat_lt 1 (times p.kind payloads) → twice ≡ false → IsFineType signal all p
fine_type signal all payloads p kind none twice same named reported some counted once = record {
  known = subst (λ (k : Option Kind). IsSome k) named (found kind (reported ∙ ap not some));
  once = subst (λ (ps : List PayloadIn). times p.kind ps ≤ 1) (sym same) (ltb-false 1 (times p.kind payloads) (sym counted ∙ once));
}
