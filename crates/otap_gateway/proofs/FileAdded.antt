-- The file of tables, one more table, and what is added for it at the end.
use Rattle.std.proofs.Common.{◌≡◌, ℕ, ◌+◌, ◌<◌, ◌≤◌, List, [], ◌∷◌, ◌++◌, length, refl, sym, ap, ◌∙◌, subst, length-append, arith}
use Rattle.std.specs.List.{AllZip}
use Rattle.arrow_schema.specs.Readable.{IsReadable}
use Rattle.arrow_ipc.specs.Batches.{BatchIn}
use Rattle.arrow_file.specs.Limits.{max_batches}
use Rattle.arrow_file.specs.Writers as writers
use Rattle.arrow_file.specs.Writers.{WriterIn, Finishes}
use Rattle.std.specs.Prelude.{All}
use Rattle.std.proofs.lemmas.List.Elements.{All-nil, All-push}
use Rattle.otap_cells.specs.Tables.{Table, IsTable}
use Rattle.otap_columns.specs.Plain.{HoldsPlain, plain_schema}
use Rattle.otap_consume.proofs.Lists.{zip-push}
use Rattle.otap_gateway.specs.declared.jobs.file.TableFile.{TableFile}
use Rattle.otap_gateway.specs.declared.jobs.file.TableFile.TheVariants as table_file
use Rattle.otap_gateway.specs.Filing.{Files, many_line, none_line}
use Rattle.otap_gateway.specs.FilingSteps.{AddsBatch, AddsTable, AreAlike, ClosesFile, HoldsSome, HoldsTables}
use Rattle.otap_gateway.specs.Reply.{Closing, adds_on_out, refuses_before}

-- a record batch is added for a table
pub adds_batch : (t : Table) (writer new : WriterIn) (count : ℕ) (batch : BatchIn) → length writer.blocks ≡ count → count < max_batches
    → IsTable t → HoldsPlain t batch → writers.AddsRows batch writer new → AddsBatch t writer count (table_file.Written new (count + 1))
adds_batch t writer new count batch counted few sound holds adds = record {
  starts = λ stands readable none.
      let more = adds.count in
      record {
        first = t;
        others = [];
        whole = refl;
        batches = batch ∷ [];
        sound = All-push IsTable [] t (All-nil IsTable) sound;
        rows = (holds, tt);
        stands = adds.stands (plain_schema t) [] stands;
        readable = readable;
        counted = omega (arith, none);
        blocks = omega (arith, more, counted, none);
        few = omega arith;
      };
  goes_on = λ tables h.
      let more = adds.count in
      let long = length-append tables (t ∷ []) in
      let same = h.counted in
      record {
        first = h.first;
        others = h.others ++ t ∷ [];
        whole = ap (λ l. l ++ t ∷ []) h.whole;
        batches = h.batches ++ batch ∷ [];
        sound = All-push IsTable tables t h.sound sound;
        rows = zip-push HoldsPlain tables h.batches t batch h.rows holds;
        stands = adds.stands (plain_schema h.first) h.batches h.stands;
        readable = h.readable;
        counted = omega (arith, same, long);
        blocks = omega (arith, more, counted, same, long);
        few = omega (arith, same, long, few);
      };
}

-- of a file that has none yet
pub begins_file : (t : Table) (writer : WriterIn) (new : TableFile) → writers.StandsFor (plain_schema t) [] writer → IsReadable (plain_schema t) → AddsBatch t writer 0 new
    → AddsTable t table_file.Empty new
begins_file t writer new stands readable adds = record {
  at = λ tables none. subst (λ (l : List Table). HoldsTables (l ++ t ∷ []) new) (sym none) (adds.starts stands readable refl);
}

pub continues_file : (t : Table) (writer : WriterIn) (count : ℕ) (new : TableFile) → AddsBatch t writer count new → AddsTable t (table_file.Written writer count) new
continues_file t writer count new adds = record { at = adds.goes_on }

-- there are as many as a file may have
pub fills_file : (t : Table) (writer : WriterIn) (count : ℕ) → max_batches ≤ count → AddsTable t (table_file.Written writer count) table_file.TooMany
fills_file t writer count full = record {
  at = λ tables h. let long = length-append tables (t ∷ []) in let same = h.counted in omega (arith, full, same, long);
}

pub passes_file : (t : Table) → AddsTable t table_file.TooMany table_file.TooMany
passes_file t = record { at = λ tables many. let long = length-append tables (t ∷ []) in omega (arith, many, long) }

-- a writer has as many blocks as it has record batches
pub has_blocks : (writer : WriterIn) (count : ℕ) → HoldsSome (table_file.Written writer count) → length writer.blocks ≡ count
has_blocks writer count h = h.holds.blocks ∙ sym h.holds.counted

-- ---- the end

pub closes_none : (closing : Closing) → closing ≡ refuses_before none_line → ClosesFile table_file.Empty closing
closes_none closing is = record { at = λ tables none alike. rw is (subst (λ (l : List Table). Files l (refuses_before none_line)) (sym none) Files.none) }

pub closes_many : (closing : Closing) → closing ≡ refuses_before many_line → ClosesFile table_file.TooMany closing
closes_many closing is = record { at = λ tables many alike. rw is (Files.many tables many) }

pub closes_some : (writer : WriterIn) (count : ℕ) (bytes : List ℕ) → Finishes writer bytes → ClosesFile (table_file.Written writer count) (adds_on_out bytes)
closes_some writer count bytes finishes = record {
  at = λ tables h alike.
      subst (λ (l : List Table). Files l (adds_on_out bytes)) (sym h.whole)
      (Files.some h.first h.others bytes (subst (λ (l : List Table). length l ≤ max_batches) h.whole h.few)
      (record {
        alike = subst AreAlike h.whole alike;
        sound = subst (All IsTable) h.whole h.sound;
        batches = h.batches;
        rows = subst (λ (l : List Table). AllZip HoldsPlain l h.batches) h.whole h.rows;
        readable = h.readable;
        file = finishes (plain_schema h.first) h.batches h.stands;
      }));
}
