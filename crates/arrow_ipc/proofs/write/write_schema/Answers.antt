use Rattle.std.proofs.Common.{◌≡◌, length, ap, arith}
use Rattle.arrow_ipc.proofs.Appending.{schema_appended}
use Rattle.arrow_ipc.proofs.write.write_schema.Goals as goal

pub returns-clause-ok : goal.returns-clause-ok
returns-clause-ok c =
    let empty : length c.new-builder.result ≡ 0 = ap length c.new-builder.ensures in
    schema_appended c.args.spec.now c.add_schema.new.builder c.in_ok-header.header c.args.to.now.items c.write_message.new.to.items
    c.in_ok-write_message.ensures.ok c.in_ok-header.ensures.schema (omega (arith, c.in_ok-header.ensures.size, empty)) (omega arith) (omega arith)
