-- What is read is real: of the messages of each signal, and of requests.
use Rattle.std.proofs.Common.{ℕ, List, [], refl, arith}
use Rattle.std.specs.Int.{w32}
use Rattle.std.specs.Prelude.{FitsSigned, IsTrue}
use Rattle.otlp_messages.specs.declared.messages.ItemKind.{ItemKind}
use Rattle.otlp_messages.specs.declared.messages.Message.TheVariants as messages
use Rattle.otlp_messages.specs.Table.{item_of}
use Rattle.otlp_messages.specs.Rows.{said, bytes_in}
use Rattle.otlp_model.specs.declared.value.Value.TheVariants as values
use Rattle.otlp_model.specs.Real.{IsRealResource, IsRealScope, IsRealScopeGroup, IsRealResourceGroup, IsRealLogRecord, IsRealEvent, IsRealLink, IsRealSpan}
use Rattle.lists.specs.Bytes.{is_real_text}
use Rattle.otlp_model.specs.Each.{Each}
use Rattle.otlp_codec.specs.declared.spans.SpanStatus.{SpanStatus}
use Rattle.otlp_codec.specs.Limits.{level_limit}
use Rattle.otlp_codec.specs.Groups.{value_in, resource_in, scope_in, scope_group_in, resource_group_in, groups_in}
use Rattle.otlp_codec.specs.Logs.{log_record_in}
use Rattle.otlp_codec.specs.Spans.{event_in, link_in, no_status, span_status_in, span_in}
use Rattle.otlp_codec.proofs.RealLaw.{Sound, RealValue, no_text, fixed64_real, fixed32_real, uint32_real, int32_real, text_real, octets_real, part_sound, embedded_real, each_real, real_empty, value_real, pairs_real}

resource_real : (url bytes : List ℕ) → IsTrue (is_real_text url) → Sound messages.Resource level_limit bytes → IsRealResource (resource_in url bytes)
resource_real url bytes text h = record {
  schema_url = text;
  dropped = uint32_real messages.Resource level_limit 2 bytes h;
  pairs = pairs_real messages.Resource 1 bytes refl h;
}

scope_real : (url bytes : List ℕ) → IsTrue (is_real_text url) → Sound messages.InstrumentationScope level_limit bytes → IsRealScope (scope_in url bytes)
scope_real url bytes text h = record {
  schema_url = text;
  name = text_real messages.InstrumentationScope level_limit 1 bytes refl h;
  version = text_real messages.InstrumentationScope level_limit 2 bytes refl h;
  dropped = uint32_real messages.InstrumentationScope level_limit 4 bytes h;
  pairs = pairs_real messages.InstrumentationScope 3 bytes refl h;
}

pub log_record_real : (bytes : List ℕ) → Sound messages.LogRecord level_limit bytes → IsRealLogRecord (log_record_in bytes)
unfolding log_record_in
log_record_real bytes h = record {
  time = fixed64_real messages.LogRecord level_limit 1 bytes h;
  observed = fixed64_real messages.LogRecord level_limit 11 bytes h;
  severity = int32_real messages.LogRecord level_limit 2 bytes h;
  severity_text = text_real messages.LogRecord level_limit 3 bytes refl h;
  body = embedded_real RealValue messages.LogRecord level_limit 5 messages.AnyValue value_in values.Empty refl real_empty (value_real level_limit) bytes h;
  pairs = pairs_real messages.LogRecord 6 bytes refl h;
  dropped = uint32_real messages.LogRecord level_limit 7 bytes h;
  flags = fixed32_real messages.LogRecord level_limit 8 bytes h;
  trace_id = octets_real messages.LogRecord level_limit 9 bytes h;
  span_id = octets_real messages.LogRecord level_limit 10 bytes h;
  event_name = text_real messages.LogRecord level_limit 12 bytes refl h;
}

event_real : (bytes : List ℕ) → Sound messages.Event level_limit bytes → IsRealEvent (event_in bytes)
unfolding event_in
event_real bytes h = record {
  time = fixed64_real messages.Event level_limit 1 bytes h;
  name = text_real messages.Event level_limit 2 bytes refl h;
  pairs = pairs_real messages.Event 3 bytes refl h;
  dropped = uint32_real messages.Event level_limit 4 bytes h;
}

link_real : (bytes : List ℕ) → Sound messages.Link level_limit bytes → IsRealLink (link_in bytes)
unfolding link_in
link_real bytes h = record {
  trace_id = octets_real messages.Link level_limit 1 bytes h;
  span_id = octets_real messages.Link level_limit 2 bytes h;
  trace_state = text_real messages.Link level_limit 3 bytes refl h;
  flags = fixed32_real messages.Link level_limit 6 bytes h;
  pairs = pairs_real messages.Link 4 bytes refl h;
  dropped = uint32_real messages.Link level_limit 5 bytes h;
}

record RealStatus (status : SpanStatus) : Type 0 where
  message : IsTrue (is_real_text status.message)
  code : FitsSigned w32 status.code

status_real : (bytes : List ℕ) → Sound messages.Status level_limit bytes → RealStatus (span_status_in bytes)
unfolding span_status_in
status_real bytes h = record {
  message = text_real messages.Status level_limit 2 bytes refl h;
  code = int32_real messages.Status level_limit 3 bytes h;
}

pub span_real : (bytes : List ℕ) → Sound messages.Span level_limit bytes → IsRealSpan (span_in bytes)
unfolding span_in
span_real bytes h =
    let m = messages.Span in
    let status = embedded_real RealStatus m level_limit 15 messages.Status span_status_in no_status refl (record { message = no_text; code = record { sfits = omega arith } }) status_real bytes h in
    record {
      trace_id = octets_real m level_limit 1 bytes h;
      span_id = octets_real m level_limit 2 bytes h;
      parent_span_id = octets_real m level_limit 4 bytes h;
      trace_state = text_real m level_limit 3 bytes refl h;
      name = text_real m level_limit 5 bytes refl h;
      kind = int32_real m level_limit 6 bytes h;
      start = fixed64_real m level_limit 7 bytes h;
      end = fixed64_real m level_limit 8 bytes h;
      flags = fixed32_real m level_limit 16 bytes h;
      pairs = pairs_real m 9 bytes refl h;
      dropped_pairs = uint32_real m level_limit 10 bytes h;
      events = each_real IsRealEvent m 11 messages.Event event_in refl event_real bytes h;
      dropped_events = uint32_real m level_limit 12 bytes h;
      links = each_real IsRealLink m 13 messages.Link link_in refl link_real bytes h;
      dropped_links = uint32_real m level_limit 14 bytes h;
      status_code = status.code;
      status_message = status.message;
    }

-- groups, whatever their items are
module _ {I : Type 0} (Real : I → Type 0) (of : ItemKind) (read : List ℕ → I) (each : (part : List ℕ) → Sound (item_of of) level_limit part → Real (read part)) where
  scope_group_real : (bytes : List ℕ) → Sound (messages.ScopeGroup of) level_limit bytes → IsRealScopeGroup Real (scope_group_in read bytes)
  scope_group_real bytes h = record {
    scope = scope_real (said 3 bytes_in [] bytes) (said 1 bytes_in [] bytes) (text_real (messages.ScopeGroup of) level_limit 3 bytes refl h)
        (part_sound (messages.ScopeGroup of) level_limit 1 messages.InstrumentationScope bytes refl h);
    items = each_real Real (messages.ScopeGroup of) 2 (item_of of) read refl each bytes h;
  }

  resource_group_real : (bytes : List ℕ) → Sound (messages.ResourceGroup of) level_limit bytes → IsRealResourceGroup Real (resource_group_in read bytes)
  resource_group_real bytes h = record {
    resource = resource_real (said 3 bytes_in [] bytes) (said 1 bytes_in [] bytes) (text_real (messages.ResourceGroup of) level_limit 3 bytes refl h)
        (part_sound (messages.ResourceGroup of) level_limit 1 messages.Resource bytes refl h);
    scopes = each_real (IsRealScopeGroup Real) (messages.ResourceGroup of) 2 (messages.ScopeGroup of) (scope_group_in read) refl scope_group_real bytes h;
  }

  pub groups_real : (bytes : List ℕ) → Sound (messages.Request of) level_limit bytes → Each (IsRealResourceGroup Real) (groups_in read bytes)
  groups_real bytes h = each_real (IsRealResourceGroup Real) (messages.Request of) 1 (messages.ResourceGroup of) (resource_group_in read) refl resource_group_real bytes h
