-- Ids are stored in a way that their column allows.
use Rattle.std.proofs.Common.{◌≡◌, Bool, true, ap, sym, ◌∙◌}
use Rattle.std.specs.Prelude.{not, ◌||◌}
use Rattle.std.proofs.lemmas.Bool.{false≢true}
use Rattle.arrow_schema.specs.declared.spec.Encoding.{Encoding}
use Rattle.arrow_schema.specs.declared.spec.Encoding.TheVariants as encoding
use Rattle.otap_cells.specs.Bases.{is_id}
use Rattle.otap_cells.specs.Columns.{ColumnSpec, allows}
use Rattle.otap_columns.specs.Known.{is_allowed, fits_encoding, coding_named}
use Rattle.otap_cells.proofs.Columnwise.{allows_own}

-- its own way, or the one that a field names
pub named_allowed : (c : ColumnSpec) (e : Encoding) → is_id c.base ≡ true → is_allowed c e ≡ true → allows c (coding_named e c.coding) ≡ true
named_allowed c encoding.None id is = allows_own c id
named_allowed c encoding.Plain id is = is
named_allowed c encoding.Delta id is = is
named_allowed c encoding.Run id is = is
named_allowed c encoding.Other id is = absurd (false≢true is)

pub fits_allowed : (c : ColumnSpec) (e : Encoding) → is_id c.base ≡ true → fits_encoding c e ≡ true → is_allowed c e ≡ true
fits_allowed c e id fits = sym (ap (λ (b : Bool). not b || is_allowed c e) id) ∙ fits
