-- What a reader's indexes of arrays lead to.
use Rattle.std.proofs.Common.{◌≡◌, ℕ, ◌<◌, List, length, get_or, Option, sym, ap, ◌∙◌, arith}
use Rattle.std.specs.Prelude.{map}
use Rattle.std.specs.List.{range_with_len}
use Rattle.std.proofs.lemmas.List.FromFn.{length-map-range_with_len, get_or-map-range_with_len}
use Rattle.arrow_ipc.specs.Batches.{BatchIn}
use Rattle.arrow_arrays.specs.declared.spec.ArraySpec.{ArraySpec}
use Rattle.otap_cells.specs.declared.payload.Kind.{Kind}
use Rattle.otap_cells.specs.Columns.{width_of}
use Rattle.otap_columns.specs.Known.{place_at}
use Rattle.otap_columns.specs.Substreams.{SubstreamIn, value_if, column_value}

pub places_len : (kind : Kind) (arrays : List ArraySpec) (places : List (Option ℕ)) → places ≡ map (place_at kind arrays) (range_with_len 0 (width_of kind)) → length places ≡ width_of kind
places_len kind arrays places is = ap length is ∙ length-map-range_with_len (place_at kind arrays) 0 (width_of kind)

pub place_found : (kind : Kind) (arrays : List ArraySpec) (places : List (Option ℕ)) (column : ℕ) (found : Option ℕ) → places ≡ map (place_at kind arrays) (range_with_len 0 (width_of kind))
    → column < width_of kind → found ≡ get_or places column found → place_at kind arrays column ≡ found
place_found kind arrays places column found is below there =
    sym (there ∙ ap (λ (ps : List (Option ℕ)). get_or ps column found) is ∙ get_or-map-range_with_len (place_at kind arrays) 0 (width_of kind) column column found below (omega arith))

-- what is in a column, by the index of its array
pub column_value_is : (kind : Kind) (s : SubstreamIn) (batch : BatchIn) (column row : ℕ) (place : Option ℕ) → place_at kind s.arrays column ≡ place → value_if s batch row place ≡ column_value kind s batch column row
unfolding column_value
column_value_is kind s batch column row place at = λ i. value_if s batch row (sym at i)
