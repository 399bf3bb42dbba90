use Rattle.otap_gateway.specs.Runs.{sinks}
use Rattle.otap_gateway.proofs.Progress.{leaves_line}
use Rattle.otap_gateway.proofs.runs.running.refuse_words.Goals as goal

pub returns-clause-line : goal.returns-clause-line
returns-clause-line g c =
    let before = sinks g.O.Sink c.args.out.now g.E.Sink c.args.err.now in
    let after = sinks g.O.Sink c.flush_both.new.out g.E.Sink c.flush_both.new.err in
    leaves_line before after _ _ c.in_ok-write_whole.ensures.whole c.flush_both.ensures.err c.flush_both.ensures.flushed
