-- The records of a request are read again, by their ids.
use Rattle.std.proofs.Common.{◌≡◌, ℕ, List, [], ◌∷◌, ◌++◌, Option, length, map, refl, ◌∙◌, arith}
use Rattle.std.specs.Prelude.{All}
use Rattle.std.proofs.lemmas.List.Elements.{recursion_from_All}
use Rattle.otlp_model.specs.Profile.{IsProfileLogRecord, IsProfileResourceGroup}
use Rattle.otlp_model.specs.Real.{IsRealLogRecord, IsRealResourceGroup}
use Rattle.otlp_model.specs.declared.groups.ResourceGroup.{ResourceGroup}
use Rattle.otlp_model.specs.declared.logs.LogRecord.{LogRecord}
use Rattle.otlp_model.specs.declared.value.Value.{Value, out-Value}
use Rattle.otlp_model.specs.declared.value.Value.TheOpen.{Value-F}
use Rattle.otlp_model.specs.declared.value.Pair.{Pair}
use Rattle.otap_cells.specs.Cells.{Cell}
use Rattle.otap_groups.specs.Children.{Agree, ReadsEach, numbered}
use Rattle.otap_groups.specs.Weighing.{CanWriteGroup}
use Rattle.otap_groups.proofs.ReadLaws.{reads_with}
use Rattle.otap_groups.proofs.RealGroups.{real_groups}
use Rattle.otap_attrs.specs.Values.{cells_step, value_cells, value_in}
use Rattle.otap_attrs.proofs.ValueLaws.{value_again}
use Rattle.otap_checks.proofs.PairsAgain.{AreBack, IsBackResource, IsBackScope, pairs_back}
use Rattle.otap_logs.specs.Records.{last_cells, record_cells, record_of}
use Rattle.otap_logs.proofs.RecordBack.{record_back}

seven_steps : (f : Value-F Value Pair) → length (cells_step f) ≡ 7
seven_steps Value-F.Empty = refl
seven_steps (Value-F.Str text) = refl
seven_steps (Value-F.Int n) = refl
seven_steps (Value-F.Double bits) = refl
seven_steps (Value-F.Bool b) = refl
seven_steps (Value-F.Map pairs) = refl
seven_steps (Value-F.Array members) = refl
seven_steps (Value-F.Bytes octets) = refl

pub seven_cells : (value : Value) → length (value_cells value) ≡ 7
unfolding value_cells
seven_cells value = seven_steps (out-Value value)

front_value : (cells more : List Cell) → length cells ≡ 7 → value_in (cells ++ more) ≡ value_in cells
unfolding value_in
front_value [] more long = absurd (omega (arith, long))
front_value (c0 ∷ []) more long = absurd (omega (arith, long))
front_value (c0 ∷ c1 ∷ []) more long = absurd (omega (arith, long))
front_value (c0 ∷ c1 ∷ c2 ∷ []) more long = absurd (omega (arith, long))
front_value (c0 ∷ c1 ∷ c2 ∷ c3 ∷ []) more long = absurd (omega (arith, long))
front_value (c0 ∷ c1 ∷ c2 ∷ c3 ∷ c4 ∷ []) more long = absurd (omega (arith, long))
front_value (c0 ∷ c1 ∷ c2 ∷ c3 ∷ c4 ∷ c5 ∷ []) more long = absurd (omega (arith, long))
front_value (c0 ∷ c1 ∷ c2 ∷ c3 ∷ c4 ∷ c5 ∷ c6 ∷ []) more long = refl
front_value (c0 ∷ c1 ∷ c2 ∷ c3 ∷ c4 ∷ c5 ∷ c6 ∷ c7 ∷ cells) more long = absurd (omega (arith, long))

pub record IsBackRecord (log : LogRecord) : Type 0 where
  pub again : record_of (record_cells log) log.pairs ≡ log
  pub pairs : AreBack log.pairs

record_again : (log : LogRecord) → IsRealLogRecord log → IsProfileLogRecord log → IsBackRecord log
record_again log real is = record {
  again = record_back log (seven_cells log.body)
      (front_value (value_cells log.body) (last_cells log) (seven_cells log.body) ∙ value_again log.body real.body is.body);
  pairs = pairs_back log.pairs real.pairs is.pairs.at;
}

-- ---- all of a request

abbrev pub IsBack : ResourceGroup LogRecord → Type 0
IsBack = CanWriteGroup IsBackResource IsBackScope IsBackRecord

pub groups_again : (groups : List (ResourceGroup LogRecord)) → All (IsRealResourceGroup IsRealLogRecord) groups → All (IsProfileResourceGroup IsProfileLogRecord) groups → All IsBack groups
groups_again groups real is = real_groups IsRealLogRecord IsProfileLogRecord IsBackRecord record_again AreBack pairs_back groups real is

pub records_read : (logs : List LogRecord) (lookup : Option ℕ → List Pair) → All IsBackRecord logs → Agree lookup 0 (map (λ (log : LogRecord). log.pairs) logs)
    → ReadsEach numbered record_cells (λ id cells. record_of cells (lookup id)) 0 logs
records_read logs lookup all agree =
    reads_with record_cells record_of (λ (log : LogRecord). log.pairs) lookup IsBackRecord (λ log back. back.again) 0 logs (recursion_from_All IsBackRecord logs all) agree
