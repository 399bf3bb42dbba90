-- What is kept of a batch can be sent.
use Rattle.std.proofs.Common.{◌≡◌, ◌≤◌, true, List, Option, Some, None, sym, subst, arith}
use Rattle.std.specs.Prelude.{All, IfSome}
use Rattle.otlp_model.specs.declared.request.Signal.{Signal}
use Rattle.otlp_model.specs.declared.value.Pair.{Pair}
use Rattle.otap_cells.specs.Tables.{IsTable, Table}
use Rattle.otap_cells.specs.Weights.{row_weight_limit, weight_of_tables}
use Rattle.otap_groups.specs.ProfileTables.{IsProfileTable}
use Rattle.otap_kept.specs.declared.whose.Whose.{Whose}
use Rattle.otap_kept.specs.Clean.{AreCleanAndLight}
use Rattle.otap_kept.specs.Kept.{is_ordered, kept}
use Rattle.otap_produce.specs.TableOrder.{AreInOrder, HaveWritable}
use Rattle.otap_filter.specs.Filters.{FilterIn}
use Rattle.otap_filter.specs.Inside.{CanBeSent}
use Rattle.otap_filter.proofs.FitSets.{IsKeptOrder, in_kept_order}

module _ (profile : (of : Signal) (whose : Whose) (pair : Pair) (tables : List Table) → AreCleanAndLight of tables → All IsTable tables → is_ordered of whose pair tables ≡ true
    → All IsProfileTable (kept of whose pair tables))
    (order : (of : Signal) (whose : Whose) (pair : Pair) (tables : List Table) → IsKeptOrder of (kept of whose pair tables))
    (lighter : (of : Signal) (whose : Whose) (pair : Pair) (tables : List Table) → weight_of_tables (kept of whose pair tables) ≤ weight_of_tables tables)
    (writable : (of : Signal) (tables : List Table) → AreInOrder of tables → All IsProfileTable tables → HaveWritable of tables) where
  -- the tables that were found, where they are ordered
  pub can_be_sent : (of : Signal) (whose : Whose) (pair : Pair) (tables : List Table) (found : Option (List Table)) → AreCleanAndLight of tables
      → All IsTable tables
      → IfSome found (λ set. set ≡ kept of whose pair tables) → IfSome found (λ set. is_ordered of whose pair tables ≡ true)
      → (f : FilterIn) → of ≡ f.segment.signal → IfSome found (CanBeSent f)
  can_be_sent of whose pair tables None accepted sound is ordered f same = tt
  can_be_sent of whose pair tables (Some set) accepted sound is ordered f same =
      let now : List Table = kept of whose pair tables in
      let fine : HaveWritable of now = writable of now (in_kept_order of now (order of whose pair tables)) (profile of whose pair tables accepted sound ordered) in
      let light : weight_of_tables now ≤ row_weight_limit = omega (arith, lighter of whose pair tables, accepted.light) in
      record {
        writable = subst (λ (s : Signal). HaveWritable s set) same (subst (HaveWritable of) (sym is) fine);
        light = subst (λ (ts : List Table). weight_of_tables ts ≤ row_weight_limit) (sym is) light;
      }
