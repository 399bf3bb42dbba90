use Rattle.std.proofs.Common.{◌∙◌, rules, w32, w64}
use Rattle.std.proofs.lemmas.Int.{to_z-of_z}
use Rattle.otap_gateway.proofs.UnfiledBatches.{closed, on_ok}
use Rattle.otap_gateway.proofs.jobs.unfile.close_message.Goals as goal

pub returns : goal.returns
returns c =
    let kind = to_z-of_z w64 c.from.result (search rules) ∙ c.from.ensures ∙ to_z-of_z w32 c.number.result (search rules) ∙ c.number.ensures in
    let id = to_z-of_z w64 c.from-2.result (search rules) ∙ c.from-2.ensures in
    on_ok c.put_signed_row-2.result
    (closed c.args.kind c.args.id _ _ c.args.message.now _ _ _ _ _ _ _ c.len-size.ensures c.in_ok-close_row.ensures.ok kind c.in_ok-put_signed_row.ensures.ok c.in_ok-put_bytes_row.ensures.ok
    c.len-size-2.ensures c.in_ok-close_field.ensures.ok id) c.put_signed_row-2.ensures.ok
