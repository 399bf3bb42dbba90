-- Nothing is wrong with the rows of the tables of a request.
use Rattle.std.proofs.Common.{◌≡◌, ◌≤◌, List, ◌∷◌, map, refl, inl, inr}
use Rattle.std.proofs.lemmas.List.{length-map}
use Rattle.otlp_model.specs.Limits.{weight_limit}
use Rattle.otlp_model.specs.Profile.{IsProfile}
use Rattle.otlp_model.specs.Real.{IsReal}
use Rattle.otlp_model.specs.Weight.{weight_of}
use Rattle.otlp_model.specs.declared.groups.Resource.{Resource}
use Rattle.otlp_model.specs.declared.groups.Scope.{Scope}
use Rattle.otlp_model.specs.declared.groups.ResourceGroup.{ResourceGroup}
use Rattle.otlp_model.specs.declared.logs.LogRecord.{LogRecord}
use Rattle.otlp_model.specs.declared.request.Request.TheVariants.{Logs}
use Rattle.otlp_model.specs.declared.request.Signal.TheVariants as signal
use Rattle.otap_cells.specs.declared.payload.Kind.{Kind}
use Rattle.otap_cells.specs.declared.payload.Kind.TheVariants as table
use Rattle.otap_cells.specs.Named.{table_named}
use Rattle.otap_groups.specs.Flat.{items_of, resources_of, scopes_of}
use Rattle.otap_attrs.specs.declared.refusal.RowRefusal.{RowRefusal}
use Rattle.otap_checks.specs.IdDefects.{IdDefect}
use Rattle.otap_checks.specs.Links.{items, links_of}
use Rattle.otap_checks.specs.Reading.{Disagrees}
use Rattle.otap_checks.specs.Rules.{rules_of}
use Rattle.otap_checks.specs.Written.{AreSound, HaveParentsIn, link_of}
use Rattle.otap_checks.proofs.FineWritten.{fine_ids, rows_alike}
use Rattle.otap_checks.proofs.KeptRules.{keeps_agree, none_wrong}
use Rattle.otap_checks.proofs.MainKinds.{logs_kind}
use Rattle.otap_logs.specs.Records.{record_cells}
use Rattle.otap_logs.specs.Requests.{WrongLogs}
use Rattle.otap_logs.specs.Tables.{below_logs, tables_of_logs}
use Rattle.otap_logs.proofs.BackAgain.{few_l, few_main, few_r, few_s}
use Rattle.otap_logs.proofs.FineValues.{fine_bodies, fine_records, fine_resources, fine_scopes}

module _ (groups : List (ResourceGroup LogRecord)) (light : weight_of (Logs groups) ≤ weight_limit) where
  sound : AreSound (below_logs groups)
  sound = ((refl, few_r groups light), ((refl, few_s groups light), ((refl, few_l groups light), tt)))

  linked : HaveParentsIn table.Logs groups (below_logs groups) (below_logs groups)
  linked = (
    inl (record { kind = refl; at = inr (inl refl); count = length-map (resources_of groups) (λ (resource : Resource). resource.pairs) }),
    (
      inl (record { kind = refl; at = inr (inr refl); count = length-map (scopes_of groups) (λ (scope : Scope). scope.pairs) }),
      (
        inl (record { kind = refl; at = inl refl; count = length-map (items_of groups) (λ (log : LogRecord). log.pairs) }),
        tt,
      ),
    ),
  )

  same_links : links_of signal.Logs ≡ items table.Logs ∷ map link_of (below_logs groups)
  unfolding links_of
  same_links = refl

  ids_fine : (kind : Kind) (wrong : RowRefusal) → IdDefect signal.Logs (tables_of_logs groups) kind wrong → ⊥
  unfolding tables_of_logs
  ids_fine = fine_ids table.Logs record_cells (below_logs groups) groups refl logs_kind (few_main groups light) sound linked signal.Logs same_links

  alike : Disagrees (table_named table.Logs (tables_of_logs groups)) → ⊥
  unfolding tables_of_logs
  alike = rows_alike table.Logs record_cells (below_logs groups) groups refl logs_kind (few_main groups light) sound linked

pub no_defects : (groups : List (ResourceGroup LogRecord)) → IsReal (Logs groups) → IsProfile (Logs groups) → weight_of (Logs groups) ≤ weight_limit
    → (kind : Kind) (wrong : RowRefusal) → WrongLogs (tables_of_logs groups) kind wrong → ⊥
unfolding rules_of
no_defects groups real is light = none_wrong signal.Logs (tables_of_logs groups) (ids_fine groups light) (
  fine_bodies groups real is,
  (
    fine_resources groups real is,
    (
      fine_scopes groups real is,
      (
        fine_records groups real is,
        (
          keeps_agree (tables_of_logs groups) table.Logs (alike groups light),
          tt,
        ),
      ),
    ),
  ),
)
