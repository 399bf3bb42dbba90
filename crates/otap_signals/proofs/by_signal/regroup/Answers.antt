use Rattle.otap_signals.proofs.by_signal.regroup.Goals as goal

pub returns-in-Traces-clause-regrouped : goal.returns-in-Traces-clause-regrouped
returns-in-Traces-clause-regrouped g c = rw c.in-Traces.is c.regroup_request.ensures.regrouped

pub returns-in-Logs-clause-regrouped : goal.returns-in-Logs-clause-regrouped
returns-in-Logs-clause-regrouped g c = rw c.in-Logs.is c.regroup_request-in-Logs.ensures.regrouped

pub returns-in-Metrics-clause-regrouped : goal.returns-in-Metrics-clause-regrouped
returns-in-Metrics-clause-regrouped g c = rw c.in-Metrics.is c.regroup_request-in-Metrics.ensures.regrouped
