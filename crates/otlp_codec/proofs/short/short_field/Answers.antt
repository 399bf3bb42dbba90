use Rattle.std.proofs.Common.{◌≡◌, ◌-◌, ◌++◌, length, drop, sym, ◌∙◌, arith}
use Rattle.std.proofs.lemmas.List.{take_all, length-drop}
use Rattle.otlp_codec.proofs.ShortFields.{short_at}
use Rattle.otlp_codec.proofs.short.short_field.Goals as goal

parts : (c : goal.After-split_at) → drop 2 c.args.bytes.now ≡ c.split_at.result.0.now ++ c.split_at.result.1.now
parts c = sym (take_all (length c.args.bytes.now - 2) (drop 2 c.args.bytes.now) (omega (arith, length-drop 2 c.args.bytes.now))) ∙ c.split_at.ensures.by_index.0

pub returns-clause-first : goal.returns-clause-first
returns-clause-first c = (short_at c.args.number c.args.bytes.now _ _ c.requires.above c.requires.below c.in-len2-up.len_at_least c.if-tag-number.false (omega (arith, c.from-len.ensures, c.if-len-ge128.false)) (c.split_at.ensures.front_len ∙ c.from-len.ensures) (parts c)).0

pub returns-clause-end : goal.returns-clause-end
returns-clause-end c = (short_at c.args.number c.args.bytes.now _ _ c.requires.above c.requires.below c.in-len2-up.len_at_least c.if-tag-number.false (omega (arith, c.from-len.ensures, c.if-len-ge128.false)) (c.split_at.ensures.front_len ∙ c.from-len.ensures) (parts c)).1
