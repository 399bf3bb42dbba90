use Rattle.std.proofs.Common.{arith}
use Rattle.std.specs.Prelude.{◌≢◌}
use Rattle.otlp_model.specs.Telemetry.{signal_of}
use Rattle.std.proofs.lemmas.Bool.{eqb-true, eq-eqb}
use Rattle.otlp_model.proofs.Signals.{same_traces, same_logs, same_metrics, same_unlike, same_counted, unlike_traces, unlike_logs, unlike_metrics}
use Rattle.otlp_model.proofs.request.same.Goals as goal
use Rattle.otlp_model.proofs.request.same.Goals.{in_default-via-in-Traces+in_default, in_default-via-in-Logs+in_default, in_default-via-in-Metrics+in_default}

pub returns-in-Traces-Traces : goal.returns-in-Traces-Traces
returns-in-Traces-Traces c =
    same_traces _ _ _ _ _ _ _ c.in-Traces-Traces.is-0 c.in-Traces-Traces.is-1
    c.as_slice.ensures c.as_slice-in-Traces-Traces.ensures c.same_groups.ensures

pub returns-in-Logs-Logs : goal.returns-in-Logs-Logs
returns-in-Logs-Logs c =
    same_logs _ _ _ _ _ _ _ c.in-Logs-Logs.is-0 c.in-Logs-Logs.is-1
    c.as_slice-in-Logs-Logs.ensures c.as_slice-in-Logs-Logs-2.ensures c.same_groups-in-Logs-Logs.ensures

pub returns-in-Metrics-Metrics : goal.returns-in-Metrics-Metrics
returns-in-Metrics-Metrics c =
    same_metrics _ _ _ _ _ _ _ c.in-Metrics-Metrics.is-0 c.in-Metrics-Metrics.is-1
    c.as_slice-in-Metrics-Metrics.ensures c.as_slice-in-Metrics-Metrics-2.ensures c.same_groups-in-Metrics-Metrics.ensures

pub returns-else-items-eq0 : goal.returns-else-items-eq0
returns-else-items-eq0 c =
    let a = c.args.a.now in
    let b = c.args.b.now in
    let differ : signal_of a ≢ signal_of b = elim c.in_default.branch [
      | in_default-via-in-Traces+in_default w ↦ unlike_traces a b _ w.in_default.is-0 w.in_default.not-Traces-1
      | in_default-via-in-Logs+in_default w ↦ unlike_logs a b _ w.in_default.is-0 w.in_default.not-Logs-1
      | in_default-via-in-Metrics+in_default w ↦ unlike_metrics a b _ w.in_default.is-0 w.in_default.not-Metrics-1
    ] in
    let some = c.if-items-eq0.false in (
      λ h. absurd (some (eqb-true _ _ h)),
      λ s. absurd (some (omega (arith, c.items.ensures, (same_unlike a b differ s).0))),
    )

pub returns-then-items-eq0 : goal.returns-then-items-eq0
returns-then-items-eq0 c =
    let a = c.args.a.now in
    let b = c.args.b.now in
    let differ : signal_of a ≢ signal_of b = elim c.in_default.branch [
      | in_default-via-in-Traces+in_default w ↦ unlike_traces a b _ w.in_default.is-0 w.in_default.not-Traces-1
      | in_default-via-in-Logs+in_default w ↦ unlike_logs a b _ w.in_default.is-0 w.in_default.not-Logs-1
      | in_default-via-in-Metrics+in_default w ↦ unlike_metrics a b _ w.in_default.is-0 w.in_default.not-Metrics-1
    ] in
    let counted = same_counted a b _ _ c.items.ensures c.items-then-items-eq0.ensures differ in
    (λ h. counted.0 (c.if-items-eq0.true, eqb-true _ _ h), λ s. eq-eqb _ _ (counted.1 s).1)
