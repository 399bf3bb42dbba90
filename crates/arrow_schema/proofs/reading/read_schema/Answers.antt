use Rattle.std.proofs.Common.{Ok, sym, ap, ◌∙◌}
use Rattle.std.proofs.lemmas.Result.{err_from_is_err_and}
use Rattle.arrow_schema.proofs.Found.{schema_found}
use Rattle.arrow_schema.proofs.Only.{schema_again}
use Rattle.arrow_schema.proofs.Exclusion.{read_has_none}
use Rattle.arrow_schema.proofs.Returned.{refusal_stands, memory_only}
use Rattle.arrow_schema.proofs.reading.read_schema.Goals as goal

pub returns-in_err-fields-clause-refused : goal.returns-in_err-fields-clause-refused
returns-in_err-fields-clause-refused c =
    let p = err_from_is_err_and c.from_residual.result c.from_residual.ensures.1 in
    rw (p.1, p.2) (refusal_stands c.args.view c.in_err-fields.field-0.0 c.in_err-fields.ensures)

pub returns-in_err-fields-clause-reads : goal.returns-in_err-fields-clause-reads
returns-in_err-fields-clause-reads c schema s r =
    let p = err_from_is_err_and c.from_residual.result c.from_residual.ensures.1 in
    rw (p.1, p.2) (memory_only c.args.view schema c.in_err-fields.field-0.0 s r c.in_err-fields.ensures)

pub returns-clause-found : goal.returns-clause-found
returns-clause-found c = schema_found c.args.view c.from_fields.result (c.in_ok-fields.ensures ∙ ap Ok (sym c.from_fields.ensures))

pub returns-clause-reads : goal.returns-clause-reads
returns-clause-reads c schema s r = sym (schema_again c.args.view schema s r) ∙ c.in_ok-fields.ensures ∙ ap Ok (sym c.from_fields.ensures)

pub returns-clause-refuses : goal.returns-clause-refuses
returns-clause-refuses c refusal d = read_has_none c.args.view c.in_ok-fields.fields refusal c.in_ok-fields.ensures d
