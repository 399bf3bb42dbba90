-- Nothing is wrong with the values in the tables of a request.
use Rattle.std.proofs.Common.{◌≡◌, ℕ, List, [], ◌∷◌, ◌++◌, length, sym, subst, arith}
use Rattle.std.specs.Prelude.{All}
use Rattle.std.proofs.lemmas.List.Elements.{All-nil, All-cons, All-head, All-tail, All-map, All-weaker}
use Rattle.lists.proofs.Every.{all_unmapped}
use Rattle.otlp_model.specs.Profile.{IsProfile, IsProfileLogRecord}
use Rattle.otlp_model.specs.Real.{IsReal, IsRealLogRecord}
use Rattle.otlp_model.specs.declared.groups.Resource.{Resource}
use Rattle.otlp_model.specs.declared.groups.Scope.{Scope}
use Rattle.otlp_model.specs.declared.groups.ResourceGroup.{ResourceGroup}
use Rattle.otlp_model.specs.declared.logs.LogRecord.{LogRecord}
use Rattle.otlp_model.specs.declared.request.Request.TheVariants.{Logs}
use Rattle.otap_cells.specs.declared.payload.Kind.TheVariants as table
use Rattle.otap_cells.specs.Cells.{Cell}
use Rattle.otap_cells.specs.Named.{table_named}
use Rattle.otap_cells.specs.Tables.{Table}
use Rattle.otap_groups.specs.Flat.{FlatIn, flat_items, items_of, resources_of, scopes_of, resource_pairs, scope_pairs}
use Rattle.otap_groups.specs.Stored.{main_table, stored_rows}
use Rattle.otap_groups.specs.Weighing.{CanWriteGroup}
use Rattle.otap_groups.proofs.FlatItems.{items_of_flat}
use Rattle.otap_groups.proofs.RealGroups.{real_groups}
use Rattle.otap_groups.proofs.WritableGroups.{all_items_can, all_resources_can, all_scopes_can}
use Rattle.otap_attrs.specs.declared.refusal.RowRefusal.{RowRefusal}
use Rattle.otap_attrs.specs.Values.{value_cells}
use Rattle.otap_attrs.proofs.ValueLaws.{value_fine}
use Rattle.otap_attrs.specs.Defects.{WrongValue}
use Rattle.otap_checks.proofs.FinePairs.{IsFine, IsFineFrom, IsFineList, IsFinePair, attributes_fine, fine_rows, pairs_fine, IsFineResource, IsFineScope}
use Rattle.otap_logs.specs.Records.{last_cells, record_cells}
use Rattle.otap_logs.specs.Tables.{record_pairs, tables_of_logs}
use Rattle.otap_logs.proofs.NamedTables.{named_main, named_records, named_resources, named_scopes}
use Rattle.otap_logs.proofs.ReadAgain.{seven_cells}

-- ---- bodies

fine_front : (cells more : List Cell) → length cells ≡ 7 → IsFine cells → IsFine (cells ++ more)
fine_front [] more long fine = absurd (omega (arith, long))
fine_front (c0 ∷ []) more long fine = absurd (omega (arith, long))
fine_front (c0 ∷ c1 ∷ []) more long fine = absurd (omega (arith, long))
fine_front (c0 ∷ c1 ∷ c2 ∷ []) more long fine = absurd (omega (arith, long))
fine_front (c0 ∷ c1 ∷ c2 ∷ c3 ∷ []) more long fine = absurd (omega (arith, long))
fine_front (c0 ∷ c1 ∷ c2 ∷ c3 ∷ c4 ∷ []) more long fine = absurd (omega (arith, long))
fine_front (c0 ∷ c1 ∷ c2 ∷ c3 ∷ c4 ∷ c5 ∷ []) more long fine = absurd (omega (arith, long))
fine_front (c0 ∷ c1 ∷ c2 ∷ c3 ∷ c4 ∷ c5 ∷ c6 ∷ []) more long fine = fine
fine_front (c0 ∷ c1 ∷ c2 ∷ c3 ∷ c4 ∷ c5 ∷ c6 ∷ c7 ∷ cells) more long fine = absurd (omega (arith, long))

pub record IsFineRecord (log : LogRecord) : Type 0 where
  pub body : IsFine (value_cells log.body)
  pub pairs : All IsFinePair log.pairs

abbrev IsFineItem : FlatIn LogRecord → Type 0
IsFineItem f = IsFineRecord f.item

bodies_fine : (step r s : ℕ) (fs : List (FlatIn LogRecord)) → All IsFineItem fs → All (IsFineFrom 15) (stored_rows record_cells step r s fs)
bodies_fine step r s [] all = All-nil (IsFineFrom 15)
bodies_fine step r s (f ∷ fs) all =
    let head : IsFineRecord f.item = All-head IsFineItem f fs all in
    All-cons (IsFineFrom 15) _ (stored_rows record_cells 1 f.resource_id f.scope_id fs)
    (fine_front (value_cells f.item.body) (last_cells f.item) (seven_cells f.item.body) head.body) (bodies_fine 1 f.resource_id f.scope_id fs (All-tail IsFineItem f fs all))

-- ---- all of a request

record_fine : (log : LogRecord) → IsRealLogRecord log → IsProfileLogRecord log → IsFineRecord log
record_fine log real is = record { body = value_fine log.body real.body is.body; pairs = pairs_fine log.pairs real.pairs is.pairs.at }

module _ (groups : List (ResourceGroup LogRecord)) (real : IsReal (Logs groups)) (is : IsProfile (Logs groups)) (wrong : RowRefusal) where
  all : All (CanWriteGroup IsFineResource IsFineScope IsFineRecord) groups
  all = real_groups IsRealLogRecord IsProfileLogRecord IsFineRecord record_fine IsFineList pairs_fine groups real.at is.at

  fine_items : All IsFineRecord (items_of groups)
  fine_items = all_items_can IsFineResource IsFineScope IsFineRecord groups all

  pub fine_bodies : WrongValue (table_named table.Logs (tables_of_logs groups)) 15 wrong → ⊥
  unfolding main_table
  fine_bodies w =
      fine_rows 15 (main_table table.Logs record_cells groups) wrong
      (bodies_fine 0 0 0 (flat_items groups) (all_unmapped IsFineRecord (λ (f : FlatIn LogRecord). f.item) (flat_items groups)
      (subst (All IsFineRecord) (sym (items_of_flat groups)) fine_items)))
      (subst (λ (t : Table). WrongValue t 15 wrong) (named_main groups) w)

  pub fine_resources : WrongValue (table_named table.ResourceAttrs (tables_of_logs groups)) 2 wrong → ⊥
  fine_resources w =
      attributes_fine table.ResourceAttrs (resource_pairs groups) wrong
      (All-map IsFineList (λ (resource : Resource). resource.pairs) (resources_of groups) (all_resources_can IsFineResource IsFineScope IsFineRecord groups all))
      (subst (λ (t : Table). WrongValue t 2 wrong) (named_resources groups) w)

  pub fine_scopes : WrongValue (table_named table.ScopeAttrs (tables_of_logs groups)) 2 wrong → ⊥
  fine_scopes w =
      attributes_fine table.ScopeAttrs (scope_pairs groups) wrong
      (All-map IsFineList (λ (scope : Scope). scope.pairs) (scopes_of groups) (all_scopes_can IsFineResource IsFineScope IsFineRecord groups all))
      (subst (λ (t : Table). WrongValue t 2 wrong) (named_scopes groups) w)

  pub fine_records : WrongValue (table_named table.LogAttrs (tables_of_logs groups)) 2 wrong → ⊥
  fine_records w =
      attributes_fine table.LogAttrs (record_pairs groups) wrong
      (All-map IsFineList (λ (log : LogRecord). log.pairs) (items_of groups)
      (All-weaker IsFineRecord (λ (log : LogRecord). IsFineList log.pairs) (λ log fine. fine.pairs) (items_of groups) fine_items))
      (subst (λ (t : Table). WrongValue t 2 wrong) (named_records groups) w)
