use Rattle.std.proofs.Common.{◌≡◌, IsOk, Ok, Some, sym, ap, ◌∙◌, subst}
use Rattle.arrow_arrays.specs.Arrays.{arrays_check}
use Rattle.otap_cells.specs.Tables.{Table, IsTable}
use Rattle.otap_columns.specs.Substreams.{table_of_batch}
use Rattle.otap_columns.specs.Views.{ReaderIn}
use Rattle.otap_columns.proofs.Showing.{table_is}
use Rattle.otap_columns.proofs.Tabled.{table_kind, logical_is}
use Rattle.otap_columns.proofs.reader.Reader.view.Goals as goal

pub new-requires-clause-sound : goal.new-requires-clause-sound
new-requires-clause-sound c =
    let place : c.self.inside.place ≡ c.args.self.now.place = ap (λ (r : ReaderIn). r.place) c.self.view_is in
    let same : c.requires.batch ≡ c.in-Some.batch = cc in
    let arrays : c.self.inside.arrays ≡ c.args.self.now.substream.arrays = ap (λ (r : ReaderIn). r.substream.arrays) c.self.view_is in
    let fine : arrays_check c.in-Some.batch c.self.inside.arrays ≡ Ok tt = (λ i. arrays_check (sym same i) (arrays i)) ∙ c.requires.fine in
    let ok : IsOk (arrays_check c.in-Some.batch c.self.inside.arrays) = cc in
    subst (λ (r : ReaderIn). IsTable (table_of_batch r.kind r.substream c.in-Some.batch)) c.self.view_is
    (table_is c.self.inside.kind (record { arrays = c.self.inside.arrays; dictionaries = c.self.inside.dictionaries.items }) c.in-Some.batch c.self.invariant.types c.self.invariant.values ok)

pub returns-clause-table : goal.returns-clause-table
returns-clause-table c =
    let place : c.self.inside.place ≡ c.args.self.now.place = ap (λ (r : ReaderIn). r.place) c.self.view_is in
    let same : c.requires.batch ≡ c.in-Some.batch = cc in
    λ messages at.
    logical_is c.args.self.now.kind messages c.args.self.now.substream c.in-Some.batch at.stands (at.finds ∙ c.requires.found ∙ ap Some same)
    ∙ ap Some (sym c.new.ensures)

pub returns-clause-kind : goal.returns-clause-kind
returns-clause-kind c = ap (λ (t : Table). t.kind) c.new.ensures ∙ table_kind c.args.self.now.kind c.args.self.now.substream c.in-Some.batch
