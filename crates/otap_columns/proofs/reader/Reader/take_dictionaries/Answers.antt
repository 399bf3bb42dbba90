use Rattle.std.proofs.Common.{ap, ◌∙◌, subst}
use Rattle.otap_columns.specs.Reading.{TakesBatch}
use Rattle.otap_columns.specs.Views.{ReaderIn}
use Rattle.otap_columns.proofs.Judging.{gone_on}
use Rattle.otap_columns.proofs.reader.Reader.take_dictionaries.Goals as goal

pub messages-preserved : goal.messages-preserved
messages-preserved c =
    let taken = rw c.in_default.is at c.in_ok-batch.ensures.dictionary in
    gone_on c.args.self.now c.args.messages.now c.messages.self c.messages.messages c.take_message.new.self c.take_message.new.messages c.messages.invariant
    (subst (λ (r : ReaderIn). TakesBatch r.substream c.messages.messages c.take_message.new.messages c.take_message.new.self.substream) c.self.view_is taken)
    (c.take_message.ensures.kept.kind ∙ ap (λ (r : ReaderIn). r.kind) c.self.view_is)
    (c.take_message.ensures.kept.broken ∙ ap (λ (r : ReaderIn). r.broken) c.self.view_is)
