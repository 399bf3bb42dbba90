use Rattle.std.proofs.Common.{arith}
use Rattle.otap_columns.proofs.Whole.{other_size}
use Rattle.otap_columns.proofs.writer.whole.index_bytes.Goals as goal

pub wide_bytes-requires-clause-size : goal.wide_bytes-requires-clause-size
wide_bytes-requires-clause-size c = other_size c.args.form (λ one. omega (arith, one, c.index_width.ensures))
