use Rattle.std.proofs.Common.{◌-◌, sym, ap, ◌∙◌, arith}
use Rattle.std.specs.Option.{option_copied}
use Rattle.otap_gateway.proofs.UnfiledRuns.{dictionary_more}
use Rattle.otap_gateway.proofs.jobs.unfile.put_dictionaries.Goals as goal

pub dictionaries-preserved : goal.dictionaries-preserved
dictionaries-preserved c =
    dictionary_more c.args.file.now.dictionaries c.dictionaries.place (c.dictionaries.place - 1) _ c.args.message.now _ _ (omega arith) (sym c.dictionary.ensures ∙ ap option_copied c.in-Some.is)
    c.dictionaries.invariant c.in_ok-push_slice.ensures.ok
