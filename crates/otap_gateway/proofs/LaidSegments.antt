-- What `encode` sent since the latest reset: the policy allows it, and each message is laid out.
use Rattle.std.proofs.Common.{List, [], ◌∷◌, ◌++◌}
use Rattle.lists.proofs.Growing.{each_after-push, each_after-keeps}
use Rattle.otap_capture.specs.Capture.{Frame}
use Rattle.otap_signals.specs.Meanings.{Meaning, SignalRows}
use Rattle.otap_produce.specs.Exporters.{AreLaidMessages, IsLaidMessage}
use Rattle.otap_produce.specs.Policy.{IsMessageOf, Policy}
use Rattle.otap_transit.specs.Sendings.{Sent, Reset, requests_since, messages_since}
use Rattle.otap_transit.proofs.SendingsGrown.{requests_sent, messages_sent, requests_reset, messages_reset}
use Rattle.otap_gateway.specs.Encoding.{Encoded, EncodedAfter, Encodes, IsLaidOutcome, sent}
use Rattle.otap_gateway.specs.Replies.{Gave}
use Rattle.otap_gateway.proofs.SentSoFar.{sent_on, sent_still, requests_first, messages_first}

module _ (rows : SignalRows) (m : Meaning) where
  abbrev pub IsLaidSegment : List Encoded → Type 0
  IsLaidSegment os = Policy rows (requests_since (sent os)) (messages_since (sent os)) × AreLaidMessages rows (requests_since (sent os)) (messages_since (sent os))

  segment_more : (os : List Encoded) (frame : Frame) (o : Encoded) → IsLaidSegment os → EncodedAfter rows os frame o → IsLaidOutcome rows os o → IsLaidSegment (os ++ o ∷ [])
  segment_more os frame o so_far EncodedAfter.compressed laid = rw (sent_still os _) so_far
  segment_more os frame o so_far (EncodedAfter.unreadable bytes defect stands) laid = rw (sent_still os _) so_far
  segment_more os frame o so_far (EncodedAfter.too_many bytes request reads many) laid = rw (sent_still os _) so_far
  segment_more os frame o so_far (EncodedAfter.too_heavy bytes request reads heavy) laid = rw (sent_still os _) so_far
  segment_more os frame o so_far (EncodedAfter.sends bytes request message reads may) laid =
      rw (sent_on os (Sent request message), requests_sent (sent os) request message, messages_sent (sent os) request message) (
        each_after-push (IsMessageOf rows) [] [] (requests_since (sent os)) (messages_since (sent os)) request message so_far.0 may.message_of,
        each_after-push (IsLaidMessage rows) [] [] (requests_since (sent os)) (messages_since (sent os)) request message so_far.1 laid,
      )
  segment_more os frame o so_far EncodedAfter.resets laid = rw (sent_on os Reset, requests_reset (sent os), messages_reset (sent os)) (tt, tt)

  pub segment_laid : (frames : List Frame) (os : List Encoded) → Gave (Encodes rows m) frames os → IsLaidSegment os
  segment_laid frames os gave =
      each_after-keeps (λ past before frame o. Encodes rows m before frame o) (λ past before. IsLaidSegment before)
      (λ past before frame o so_far e. segment_more before frame o so_far e.gives e.laid) [] [] frames os (rw (requests_first, messages_first) (tt, tt)) gave
