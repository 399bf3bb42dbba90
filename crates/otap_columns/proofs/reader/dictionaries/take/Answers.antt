use Rattle.std.proofs.Common.{◌≡◌, ◌+◌, true, ℤ, set, get_or, ◌∙◌, w64, to_z, of_z, sym, subst, arith}
use Rattle.std.proofs.lemmas.Int.{to_z-of_z}
use Rattle.std.specs.Prelude.{All}
use Rattle.std.proofs.lemmas.Result.{err_from_is_err_and}
use Rattle.std.proofs.lemmas.List.Elements.{All-set, All-get_or}
use Rattle.otap_columns.specs.Dictionaries.{DictionaryIn, grown_if}
use Rattle.otap_columns.specs.Records.{is_fine_for}
use Rattle.otap_columns.specs.Steps.{FitsIn}
use Rattle.otap_columns.specs.Reading.{RefusesIf}
use Rattle.otap_columns.proofs.Giving.{Given, Next, none_given, next_of, one_given, all_given, refused_by, not_too_large}
use Rattle.otap_columns.proofs.reader.dictionaries.take.Goals as goal

pub dictionaries-init : goal.dictionaries-init
dictionaries-init c =
    let same : to_z w64 (of_z w64 c.args.id) ≡ c.args.id = to_z-of_z w64 c.args.id c.ranges.id in
    record {
      given = subst (λ (z : ℤ). Given z c.args.delta c.args.batch.now c.args.dictionaries.now c.args.dictionaries.now 0) (sym same) (none_given c.args.id c.args.delta c.args.batch.now c.args.dictionaries.now);
      fits = λ all. all;
    }

pub returns-in_err-take_if-clause-err : goal.returns-in_err-take_if-clause-err
returns-in_err-take_if-clause-err c =
    let same : to_z w64 (of_z w64 c.args.id) ≡ c.args.id = to_z-of_z w64 c.args.id c.ranges.id in
    let given : Given c.args.id c.args.delta c.args.batch.now c.args.dictionaries.now c.dictionaries.dictionaries c.dictionaries.dictionary-index =
    subst (λ (z : ℤ). Given z c.args.delta c.args.batch.now c.args.dictionaries.now c.dictionaries.dictionaries c.dictionaries.dictionary-index) same c.dictionaries.invariant.given in
    let there : get_or c.dictionaries.dictionaries c.dictionaries.dictionary-index c.dictionary-item.result ≡ c.dictionary-item.result = sym c.dictionary-item.is in
    let n : Next c.args.id c.args.delta c.args.batch.now c.args.dictionaries.now c.dictionaries.dictionaries c.dictionaries.dictionary-index c.dictionary-item.result =
    next_of c.args.id c.args.delta c.args.batch.now _ _ _ _ given (omega arith) c.dictionary-item.is in
    let p = err_from_is_err_and c.from_residual.result c.from_residual.ensures.1 in
    let refuses : RefusesIf c.args.id c.args.delta c.args.batch.now c.dictionary-item.result c.in_err-take_if.field-0.0 =
    subst (λ (d : DictionaryIn). RefusesIf c.args.id c.args.delta c.args.batch.now d c.in_err-take_if.field-0.0) there
    (subst (λ (z : ℤ). RefusesIf z c.args.delta c.args.batch.now (get_or c.dictionaries.dictionaries c.dictionaries.dictionary-index c.dictionary-item.result) c.in_err-take_if.field-0.0)
    same c.in_err-take_if.ensures.err) in
    rw (p.1, p.2) (refused_by c.args.id c.args.delta c.args.batch.now c.args.dictionaries.now c.dictionaries.dictionaries c.dictionaries.dictionary-index c.dictionary-item.result c.in_err-take_if.field-0.0 n refuses)

pub dictionaries-preserved : goal.dictionaries-preserved
dictionaries-preserved c =
    let same : to_z w64 (of_z w64 c.args.id) ≡ c.args.id = to_z-of_z w64 c.args.id c.ranges.id in
    let given : Given c.args.id c.args.delta c.args.batch.now c.args.dictionaries.now c.dictionaries.dictionaries c.dictionaries.dictionary-index =
    subst (λ (z : ℤ). Given z c.args.delta c.args.batch.now c.args.dictionaries.now c.dictionaries.dictionaries c.dictionaries.dictionary-index) same c.dictionaries.invariant.given in
    let there : get_or c.dictionaries.dictionaries c.dictionaries.dictionary-index c.dictionary-item.result ≡ c.dictionary-item.result = sym c.dictionary-item.is in
    let n : Next c.args.id c.args.delta c.args.batch.now c.args.dictionaries.now c.dictionaries.dictionaries c.dictionaries.dictionary-index c.dictionary-item.result =
    next_of c.args.id c.args.delta c.args.batch.now _ _ _ _ given (omega arith) c.dictionary-item.is in
    let grows : c.take_if.new.self ≡ grown_if c.args.id c.args.delta c.args.batch.now c.dictionary-item.result =
    c.in_ok-take_if.ensures.ok ∙ (λ i. grown_if (same i) c.args.delta c.args.batch.now (there i)) in
    let fine : is_fine_for c.args.id c.args.batch.now c.dictionary-item.result ≡ true =
    sym (λ i. is_fine_for (same i) c.args.batch.now (there i)) ∙ c.in_ok-take_if.ensures.fine in
    record {
      given = subst (λ (z : ℤ). Given z c.args.delta c.args.batch.now c.args.dictionaries.now
          (set c.dictionaries.dictionaries c.dictionaries.dictionary-index c.take_if.new.self) (c.dictionaries.dictionary-index + 1)) (sym same)
          (one_given c.args.id c.args.delta c.args.batch.now c.args.dictionaries.now c.dictionaries.dictionaries c.dictionaries.dictionary-index c.dictionary-item.result c.take_if.new.self n grows fine
          (not_too_large c.args.id c.args.delta c.args.batch.now c.take_if.new.self c.in_ok-take_if.ensures.few));
      fits = λ all.
          let before : All FitsIn c.dictionaries.dictionaries = c.dictionaries.invariant.fits all in
          All-set FitsIn c.dictionaries.dictionaries c.dictionaries.dictionary-index c.take_if.new.self
          (c.take_if.ensures.fits (All-get_or FitsIn c.dictionaries.dictionaries c.dictionaries.dictionary-index c.dictionary-item.result (omega arith) before)) before;
    }

pub returns-clause-ok : goal.returns-clause-ok
returns-clause-ok c =
    let same : to_z w64 (of_z w64 c.args.id) ≡ c.args.id = to_z-of_z w64 c.args.id c.ranges.id in
    let given : Given c.args.id c.args.delta c.args.batch.now c.args.dictionaries.now c.dictionaries.dictionaries c.dictionaries.dictionary-index =
    subst (λ (z : ℤ). Given z c.args.delta c.args.batch.now c.args.dictionaries.now c.dictionaries.dictionaries c.dictionaries.dictionary-index) same c.dictionaries.invariant.given in
    (all_given c.args.id c.args.delta c.args.batch.now _ _ _ given (omega arith)).0

pub returns-clause-fine : goal.returns-clause-fine
returns-clause-fine c =
    let same : to_z w64 (of_z w64 c.args.id) ≡ c.args.id = to_z-of_z w64 c.args.id c.ranges.id in
    let given : Given c.args.id c.args.delta c.args.batch.now c.args.dictionaries.now c.dictionaries.dictionaries c.dictionaries.dictionary-index =
    subst (λ (z : ℤ). Given z c.args.delta c.args.batch.now c.args.dictionaries.now c.dictionaries.dictionaries c.dictionaries.dictionary-index) same c.dictionaries.invariant.given in
    let all = all_given c.args.id c.args.delta c.args.batch.now _ _ _ given (omega arith) in
    record { known = cc; fine = all.1; few = all.2 }
