-- The tables of requests of a signal are faithful to what its tables mean.
use Rattle.std.proofs.Common.{◌≡◌, inl, inr, List, [], ◌∷◌, length, refl, sym, ap, subst, arith, ◌≤◌}
use Rattle.std.specs.Prelude.{All}
use Rattle.std.proofs.lemmas.Bool.{cases_Bool}
use Rattle.std.proofs.lemmas.List.Elements.{All-weaker}
use Rattle.otlp_model.specs.Limits.{weight_limit}
use Rattle.otlp_model.specs.Same.{Same}
use Rattle.otlp_model.specs.Telemetry.{telemetry}
use Rattle.otlp_model.specs.Weight.{weight_of}
use Rattle.otlp_model.specs.declared.request.Request.{Request}
use Rattle.otlp_model.specs.declared.request.Signal.{Signal}
use Rattle.otap_attrs.specs.declared.refusal.RowRefusal.{RowRefusal}
use Rattle.otap_cells.specs.declared.payload.Kind.{Kind}
use Rattle.otap_cells.specs.GivenIds.{ReadAs}
use Rattle.otap_cells.specs.Named.{table_named}
use Rattle.otap_cells.specs.Payload.{is_kind, main_of}
use Rattle.otap_cells.specs.Sets.{rows_named}
use Rattle.otap_cells.specs.Tables.{Table}
use Rattle.otap_groups.specs.ProfileTables.{IsProfileTable}
use Rattle.otap_checks.specs.Reading.{HasAllIds}
use Rattle.otap_checks.specs.RowDefects.{RowDefect}
use Rattle.otap_signals.specs.BySignal.{RequestComesBack, meaning_by, request_in, rows_by, tables_of_request}
use Rattle.otap_signals.specs.Signals.{ComesBack, IsWritten}
use Rattle.otap_produce.specs.Policy.{IsExported}
use Rattle.otap_produce.proofs.WritableTables.{exported_writable}
use Rattle.otap_transit.specs.Faithful.{AreFaithful, MeanTheSame}
use Rattle.otap_transit.proofs.FitTables.{all_ids}

-- the rows of a kind are those of its table
pub named_rows : (kind : Kind) (ts : List Table) → rows_named kind ts ≡ (table_named kind ts).rows
named_rows kind [] = refl
named_rows kind (t ∷ ts) =
    elim (cases_Bool (is_kind t.kind kind)) [
      | inl own ↦ rw own refl
      | inr other ↦ rw other (named_rows kind ts)
    ]

-- a table of each item has no more rows than there are items
few_rows : (kind : Kind) (ts : List Table) (q : Request) → length (table_named kind ts).rows ≡ length (telemetry q) → length (rows_named kind ts) ≤ length (telemetry q)
few_rows kind ts q each = omega (arith, ap length (named_rows kind ts), each)

module _ (back : (request : Request) → IsWritten request → RequestComesBack request)
    (request : (signal : Signal) (tables others : List Table) → ReadAs tables others → All HasAllIds others → request_in signal tables ≡ request_in signal others)
    (wrong : (signal : Signal) (tables others : List Table) → ReadAs tables others → All HasAllIds others
    → (kind : Kind) (why : RowRefusal) → RowDefect signal tables kind why → RowDefect signal others kind why)
  where
    mean_alike : (signal : Signal) (q : Request) (tables others : List Table) → ReadAs tables others → All HasAllIds others → MeanTheSame (meaning_by signal) q others
        → MeanTheSame (meaning_by signal) q tables
    mean_alike signal q tables others read given mean =
        let one : request_in signal tables ≡ request_in signal others = request signal tables others read given in
        record {
          clean = λ kind why stands. mean.clean kind why (wrong signal tables others read given kind why stands);
          light = subst (λ (now : Request). weight_of now ≤ weight_limit) (sym one) mean.light;
          same = subst (λ (now : Request). Same q now) (sym one) mean.same;
        }

    comes_back : (signal : Signal) (q : Request) → IsExported (rows_by signal) q → ComesBack signal q (tables_of_request q) (request_in signal (tables_of_request q))
    comes_back signal q exported =
        subst (λ (s : Signal). ComesBack s q (tables_of_request q) (request_in s (tables_of_request q))) exported.signal
        (back q (record { real = exported.real; profile = exported.profile; light = exported.tree }))

    means : (signal : Signal) (q : Request) (tables : List Table) → IsExported (rows_by signal) q → ReadAs tables (tables_of_request q) → MeanTheSame (meaning_by signal) q tables
    means signal q tables exported read =
        let here : ComesBack signal q (tables_of_request q) (request_in signal (tables_of_request q)) = comes_back signal q exported in
        mean_alike signal q tables (tables_of_request q) read (All-weaker IsProfileTable HasAllIds all_ids (tables_of_request q) here.profile)
        (record { clean = here.clean; light = omega (arith, here.light, exported.tree); same = here.same })

    -- where cells and ids decide what tables mean, it is enough that the tables of each request mean it
    pub faithful : (signal : Signal) → AreFaithful (meaning_by signal) (rows_by signal)
    faithful signal = record {
      signal = refl;
      writable = exported_writable back signal;
      items = λ q exported. few_rows (main_of signal) (tables_of_request q) q (comes_back signal q exported).items;
      means = means signal;
    }
