-- Tables that read as others break the rules that those break.
use Rattle.std.proofs.Common.{◌≡◌, ℕ, ◌+◌, ◌<◌, ◌==◌, Bool, true, false, List, length, subst, sym, inl, inr}
use Rattle.std.specs.Prelude.{All}
use Rattle.otlp_model.specs.declared.request.Signal.{Signal}
use Rattle.otap_cells.specs.declared.payload.Kind.{Kind}
use Rattle.otap_cells.specs.declared.payload.Kind.TheVariants as table
use Rattle.otap_cells.specs.Cells.{Cell, nat_in}
use Rattle.otap_cells.specs.Columns.{is_id_at}
use Rattle.otap_cells.specs.GivenIds.{ReadAs}
use Rattle.otap_cells.specs.Named.{table_named}
use Rattle.otap_cells.specs.Tables.{Table, cell_in}
use Rattle.otap_cells.proofs.KindNamed.{id_named}
use Rattle.otap_attrs.specs.declared.refusal.RowRefusal.{RowRefusal}
use Rattle.otap_attrs.specs.declared.refusal.RowRefusal.TheVariants as why
use Rattle.otap_checks.specs.Measured.{HasTwoValues, HasUnevenLists, IsThere, element_count}
use Rattle.otap_checks.specs.Reading.{HasAllIds}
use Rattle.otap_checks.specs.RowDefects.{Breaks, RowDefect}
use Rattle.otap_checks.specs.Ruled.{Fits}
use Rattle.otap_checks.specs.Shapes.{WrongParent, WrongType, fits_of, is_type}
use Rattle.otap_checks.specs.declared.signals.Asks.{Asks}
use Rattle.otap_checks.specs.declared.signals.Asks.TheVariants as asks
use Rattle.otap_checks.proofs.MainKinds.{metrics_are_main}
use Rattle.otap_checks.proofs.ReadAlike.{all_ids_named, disagrees_told, id_defect_told, ids_told, reads_named, value_told}
use Rattle.otap_checks.proofs.RulesFit.{rule_fits}

pub two_told : (a b : Table) → a.rows ≡ b.rows → (column : ℕ) → HasTwoValues a column → HasTwoValues b column
two_told a b same column w = record {
  row = w.row;
  there = subst (λ (rows : List (List Cell)). w.row < length rows) same w.there;
  int = subst (λ (rows : List (List Cell)). IsThere (cell_in rows column w.row)) same w.int;
  double = subst (λ (rows : List (List Cell)). IsThere (cell_in rows (column + 1) w.row)) same w.double;
}

pub type_told : (a b : Table) → a.rows ≡ b.rows → WrongType a → WrongType b
type_told a b same w = record {
  row = w.row;
  there = subst (λ (rows : List (List Cell)). w.row < length rows) same w.there;
  is = subst (λ (rows : List (List Cell)). is_type (nat_in (cell_in rows 9 w.row)) ≡ false) same w.is;
}

pub uneven_told : (a b : Table) → a.rows ≡ b.rows → (first second : ℕ) → HasUnevenLists a first second → HasUnevenLists b first second
uneven_told a b same first second w = record {
  row = w.row;
  there = subst (λ (rows : List (List Cell)). w.row < length rows) same w.there;
  other = subst (λ (rows : List (List Cell)). (element_count (cell_in rows first w.row) == element_count (cell_in rows second w.row)) ≡ false) same w.other;
}

module _ (tables others : List Table) (reads : ReadAs tables others) (given : All HasAllIds others) where
  -- a point of a metric of another type
  pub parent_alike : (fits : ℕ → Bool) (kind : Kind) → is_id_at kind 1 ≡ true → WrongParent fits (table_named kind tables) (table_named table.Metrics tables)
      → WrongParent fits (table_named kind others) (table_named table.Metrics others)
  parent_alike fits kind id w =
      let same = (reads_named tables others table.Metrics reads).same.rows in
      record {
        parents = w.parents;
        ids = w.ids;
        are = ids_told (table_named kind tables) (table_named kind others) (reads_named tables others kind reads) (all_ids_named others kind given) 1 w.parents (id_named kind 1 id others) w.are;
        known = ids_told (table_named table.Metrics tables) (table_named table.Metrics others) (reads_named tables others table.Metrics reads) (all_ids_named others table.Metrics given)
            0 w.ids (id_named table.Metrics 0 metrics_are_main.id others) w.known;
        is = record {
          row = w.is.row;
          there = subst (λ (rows : List (List Cell)). w.is.row < length rows) same w.is.there;
          other = subst (λ (rows : List (List Cell)). fits (nat_in (cell_in rows 9 w.is.row)) ≡ false) same w.is.other;
          id = w.is.id;
          own = w.is.own;
          named = w.is.named;
        };
      }

  -- the tables of a kind
  alike_rows : (kind : Kind) → (table_named kind tables).rows ≡ (table_named kind others).rows
  alike_rows kind = (reads_named tables others kind reads).same.rows

  breaks_told : (kind : Kind) (asked : Asks) → Fits kind asked → (wrong : RowRefusal) → Breaks tables asked (table_named kind tables) wrong
      → Breaks others asked (table_named kind others) wrong
  breaks_told kind (asks.Values column) is wrong broken =
      value_told (table_named kind tables) (table_named kind others) (reads_named tables others kind reads) column wrong broken
  breaks_told kind asks.Agree is why.Disagree broken =
      disagrees_told (table_named kind tables) (table_named kind others) (reads_named tables others kind reads) (all_ids_named others kind given)
      (id_named kind 1 is.resource_id others) (id_named kind 4 is.scope_id others) broken
  breaks_told kind (asks.OneNumber column) is why.TwoValues broken =
      two_told (table_named kind tables) (table_named kind others) (alike_rows kind) column broken
  breaks_told kind (asks.EvenLists first second) is why.BadKind broken =
      uneven_told (table_named kind tables) (table_named kind others) (alike_rows kind) first second broken
  breaks_told kind asks.KnownShape is why.BadKind broken = type_told (table_named kind tables) (table_named kind others) (alike_rows kind) broken
  breaks_told kind (asks.OfShape sort) is why.BadKind broken = parent_alike (fits_of sort) kind is broken
  breaks_told kind asks.Agree is (why.Ids fault) broken = absurd broken
  breaks_told kind asks.Agree is why.Orphan broken = absurd broken
  breaks_told kind asks.Agree is why.BadValueType broken = absurd broken
  breaks_told kind asks.Agree is (why.BadCbor refusal) broken = absurd broken
  breaks_told kind asks.Agree is why.TwoValues broken = absurd broken
  breaks_told kind asks.Agree is why.BadKind broken = absurd broken
  breaks_told kind asks.Agree is (why.Memory error) broken = absurd broken
  breaks_told kind (asks.OneNumber column) is why.Disagree broken = absurd broken
  breaks_told kind (asks.OneNumber column) is (why.Ids fault) broken = absurd broken
  breaks_told kind (asks.OneNumber column) is why.Orphan broken = absurd broken
  breaks_told kind (asks.OneNumber column) is why.BadValueType broken = absurd broken
  breaks_told kind (asks.OneNumber column) is (why.BadCbor refusal) broken = absurd broken
  breaks_told kind (asks.OneNumber column) is why.BadKind broken = absurd broken
  breaks_told kind (asks.OneNumber column) is (why.Memory error) broken = absurd broken
  breaks_told kind (asks.EvenLists first second) is why.Disagree broken = absurd broken
  breaks_told kind (asks.EvenLists first second) is (why.Ids fault) broken = absurd broken
  breaks_told kind (asks.EvenLists first second) is why.Orphan broken = absurd broken
  breaks_told kind (asks.EvenLists first second) is why.BadValueType broken = absurd broken
  breaks_told kind (asks.EvenLists first second) is (why.BadCbor refusal) broken = absurd broken
  breaks_told kind (asks.EvenLists first second) is why.TwoValues broken = absurd broken
  breaks_told kind (asks.EvenLists first second) is (why.Memory error) broken = absurd broken
  breaks_told kind asks.KnownShape is why.Disagree broken = absurd broken
  breaks_told kind asks.KnownShape is (why.Ids fault) broken = absurd broken
  breaks_told kind asks.KnownShape is why.Orphan broken = absurd broken
  breaks_told kind asks.KnownShape is why.BadValueType broken = absurd broken
  breaks_told kind asks.KnownShape is (why.BadCbor refusal) broken = absurd broken
  breaks_told kind asks.KnownShape is why.TwoValues broken = absurd broken
  breaks_told kind asks.KnownShape is (why.Memory error) broken = absurd broken
  breaks_told kind (asks.OfShape sort) is why.Disagree broken = absurd broken
  breaks_told kind (asks.OfShape sort) is (why.Ids fault) broken = absurd broken
  breaks_told kind (asks.OfShape sort) is why.Orphan broken = absurd broken
  breaks_told kind (asks.OfShape sort) is why.BadValueType broken = absurd broken
  breaks_told kind (asks.OfShape sort) is (why.BadCbor refusal) broken = absurd broken
  breaks_told kind (asks.OfShape sort) is why.TwoValues broken = absurd broken
  breaks_told kind (asks.OfShape sort) is (why.Memory error) broken = absurd broken

  rows_alike : (of : Signal) (kind : Kind) (wrong : RowRefusal) → RowDefect of tables kind wrong → RowDefect of others kind wrong
  rows_alike of kind wrong (inl ids) = inl (id_defect_told of tables others reads given kind wrong ids)
  rows_alike of kind wrong (inr d) = inr (record {
    rule = d.rule;
    listed = d.listed;
    names = d.names;
    is = subst (λ kind. Breaks others d.rule.asks (table_named kind others) wrong) d.names
        (breaks_told d.rule.kind d.rule.asks (rule_fits of d.rule d.listed) wrong (subst (λ kind. Breaks tables d.rule.asks (table_named kind tables) wrong) (sym d.names) d.is));
  })

-- WHAT IS WRONG with tables that read as others is wrong with the others
pub defects_alike : (of : Signal) (tables others : List Table) → ReadAs tables others → All HasAllIds others → (kind : Kind) (wrong : RowRefusal)
    → RowDefect of tables kind wrong → RowDefect of others kind wrong
defects_alike of tables others reads given = rows_alike tables others reads given of
