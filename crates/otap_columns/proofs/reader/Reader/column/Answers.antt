use Rattle.std.proofs.Common.{◌≡◌, true, sym, ap, ◌∙◌, subst}
use Rattle.std.specs.Prelude.{All}
use Rattle.otap_cells.specs.Columns.{base_at}
use Rattle.otap_columns.specs.Known.{columns_fit}
use Rattle.otap_columns.specs.Steps.{FitsIn}
use Rattle.otap_columns.specs.Views.{ReaderIn}
use Rattle.otap_columns.proofs.Resolving.{column_missing, column_there}
use Rattle.otap_columns.proofs.reader.Reader.column.Goals as goal

pub returns-in-None : goal.returns-in-None
returns-in-None c =
    let types : columns_fit c.args.self.now.kind c.args.self.now.substream.arrays ≡ true = subst (λ (r : ReaderIn). columns_fit r.kind r.substream.arrays ≡ true) c.self.view_is c.self.invariant.types in
    let values : All FitsIn c.args.self.now.substream.dictionaries = subst (λ (r : ReaderIn). All FitsIn r.substream.dictionaries) c.self.view_is c.self.invariant.values in
    let kind : base_at c.self.inside.kind c.args.column ≡ base_at c.args.self.now.kind c.args.column = ap (λ (r : ReaderIn). base_at r.kind c.args.column) c.self.view_is in
    column_missing c.args.self.now.kind c.args.self.now.substream c.args.batch.now types values c.requires.fine c.args.column c.missing.result
    (sym c.place_of.ensures ∙ c.in-None.is) c.missing.ensures.values c.missing.ensures.resolved
    (c.missing.ensures.base ∙ c.base_of-base.ensures ∙ kind)

pub returns-in-Some : goal.returns-in-Some
returns-in-Some c =
    let types : columns_fit c.args.self.now.kind c.args.self.now.substream.arrays ≡ true = subst (λ (r : ReaderIn). columns_fit r.kind r.substream.arrays ≡ true) c.self.view_is c.self.invariant.types in
    let values : All FitsIn c.args.self.now.substream.dictionaries = subst (λ (r : ReaderIn). All FitsIn r.substream.dictionaries) c.self.view_is c.self.invariant.values in
    let kind : base_at c.self.inside.kind c.args.column ≡ base_at c.args.self.now.kind c.args.column = ap (λ (r : ReaderIn). base_at r.kind c.args.column) c.self.view_is in
    column_there c.args.self.now.kind c.args.self.now.substream c.args.batch.now types values c.requires.fine c.args.column c.in-Some.place c.field.result
    (sym c.place_of.ensures ∙ c.in-Some.is) c.field.ensures.field
    (c.field.ensures.base ∙ c.base_of-base.ensures ∙ kind)
