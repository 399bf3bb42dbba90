use Rattle.std.proofs.Common.{arith, rules}
use Rattle.std.proofs.lemmas.Slice.{drop-put_mid}
use Rattle.otlp_messages.proofs.backward.move_piece.Goals as goal

pub returns-clause-rest : goal.returns-clause-rest
returns-clause-rest c = drop-put_mid c.args.to _ c.args.bytes.now _ _ (omega arith) (omega (arith, c.requires.from, c.requires.to)) (search rules)
