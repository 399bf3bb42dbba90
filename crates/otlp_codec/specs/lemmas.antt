pub mod Passed
pub mod SpansPassed
pub mod MetricsPassed
