use Rattle.otap_gateway.specs.Commands.{ReplyOf}
use Rattle.otap_gateway.proofs.Extending.{extends_ok}
use Rattle.otap_gateway.proofs.FilteredFrames.{few_batches, filter_replies, short_message}
use Rattle.otap_gateway.proofs.jobs.filter.FilterJobJob.step.Goals as goal

pub returns-clause-next : goal.returns-clause-next
unfolding ReplyOf
returns-clause-next c =
    extends_ok _ _ _ _ _ _ _ c.reply_of.ensures
    (filter_replies c.args.self.now.owner _ _ _ _ _ c.in_ok-filtered.ensures.next c.in_ok-filtered.ensures.rule.pair)

pub take-requires : goal.take-requires
take-requires c = few_batches c.args.self.now.owner _ _ c.requires.history c.requires.few

pub reply_of-requires : goal.reply_of-requires
reply_of-requires c = short_message c.args.self.now.owner _ _ _ _ _ c.requires.history c.in_ok-filtered.ensures.next
