use Rattle.otap_gateway.proofs.EndingWords.{ending_named, unfile_named}
use Rattle.otap_gateway.proofs.LoadWords.{load_named}
use Rattle.otap_gateway.proofs.runs.running.run_other.Goals as goal

pub returns-in-Some-clause-ending : goal.returns-in-Some-clause-ending
returns-in-Some-clause-ending g c =
    ending_named c.args.words.now c.in-Some.job _ _ c.status.result c.run_ending.result c.in-Some.ensures.0 c.in-Some.ensures.1 c.status.ensures
    c.run_ending.ensures.leaves c.run_ending.ensures.stops c.run_ending.ensures.faults

pub returns-in-Some-unfile-clause-unfile : goal.returns-in-Some-unfile-clause-unfile
returns-in-Some-unfile-clause-unfile g c =
    unfile_named c.args.words.now c.in-Some-unfile.job _ _ c.status-in-Some-unfile.result c.unfile-in-Some-unfile.result c.in-Some-unfile.ensures.1 c.status-in-Some-unfile.ensures
    c.unfile-in-Some-unfile.ensures.leaves c.unfile-in-Some-unfile.ensures.faults

pub returns-in-Some-load-clause-load : goal.returns-in-Some-load-clause-load
returns-in-Some-load-clause-load g c =
    load_named c.args.words.now c.in-Some-load.load c.args.source.now _ _ c.load_status.result c.run_load.result c.in-Some-load.ensures.0 c.in-Some-load.ensures.1 c.load_status.ensures
    c.run_load.ensures.leaves c.run_load.ensures.faults
