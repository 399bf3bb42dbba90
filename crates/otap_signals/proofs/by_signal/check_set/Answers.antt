use Rattle.otap_signals.proofs.by_signal.check_set.Goals as goal

pub returns-in-Traces-clause-clean : goal.returns-in-Traces-clause-clean
returns-in-Traces-clause-clean g c = rw c.in-Traces.is c.check_rows.ensures.clean

pub returns-in-Logs-clause-clean : goal.returns-in-Logs-clause-clean
returns-in-Logs-clause-clean g c = rw c.in-Logs.is c.check_rows-in-Logs.ensures.clean

pub returns-in-Metrics-clause-clean : goal.returns-in-Metrics-clause-clean
returns-in-Metrics-clause-clean g c = rw c.in-Metrics.is c.check_rows-in-Metrics.ensures.clean
