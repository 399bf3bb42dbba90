use Rattle.std.proofs.Common.{◌≡◌, true, List, ap, ◌∙◌, sym, subst, arith}
use Rattle.std.specs.Prelude.{map, All}
use Rattle.std.specs.List.{range_with_len}
use Rattle.otap_cells.specs.Columns.{width_of}
use Rattle.otap_columns.specs.Dictionaries.{DictionaryIn}
use Rattle.otap_columns.specs.Known.{place_in, columns_fit}
use Rattle.otap_columns.specs.Steps.{FitsIn}
use Rattle.otap_columns.proofs.Growing.{empties_fit}
use Rattle.otap_columns.proofs.reader.Reader.open.Goals as goal

pub invariant_of-result : goal.invariant_of-result
invariant_of-result c =
    let types : columns_fit c.args.kind c.in_ok-arrays.arrays ≡ true = cc in
    record {
      places = c.in_ok-places.ensures ∙ ap (λ known. map (place_in known) (range_with_len 0 (width_of c.args.kind))) (c.deref-2.ensures.value ∙ c.in_ok-known.ensures.value);
      types = types;
      values = subst (λ (ds : List DictionaryIn). All FitsIn ds) (sym c.in_ok-dictionaries.ensures.value) (empties_fit c.in_ok-arrays.arrays);
      few = omega (arith, c.in_ok-dictionaries.ensures.few, c.in_ok-known.ensures.few, c.in_ok-dictionaries.dictionaries.ok.0);
    }
