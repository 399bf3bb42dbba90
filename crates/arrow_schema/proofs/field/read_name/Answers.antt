use Rattle.std.proofs.Common.{Ok, ap, sym, ◌∙◌}
use Rattle.arrow_schema.proofs.Naming.{name_is_text, name_is_none}
use Rattle.arrow_schema.proofs.field.read_name.Goals as goal

pub returns-in_ok-from_str-in-Ok : goal.returns-in_ok-from_str-in-Ok
returns-in_ok-from_str-in-Ok c =
    name_is_text c.args.field.now c.in_ok-name_bytes.field-0.now c.in_ok-name_bytes.ensures c.in-Ok.ensures.cases.1
    ∙ ap Ok (sym c.in-Ok.ensures.cases.0 ∙ sym c.in_ok-from_str-in-Ok.ensures)

pub returns-in-Err : goal.returns-in-Err
returns-in-Err c = name_is_none c.args.field.now c.in_ok-name_bytes.field-0.now c.in_ok-name_bytes.ensures c.in-Err.ensures.cases.0
