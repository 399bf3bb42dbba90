use Rattle.otap_spans.proofs.TableKinds.{rows_for_spans}
use Rattle.otap_spans.proofs.laws.each_span_has_a_row.Goals as goal

pub returns : goal.returns
returns c = rows_for_spans
