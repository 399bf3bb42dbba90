-- What was sent since the latest reset, with one more frame.
use Rattle.std.proofs.Common.{◌≡◌, ℕ, List, [], ◌∷◌, ◌++◌, ap, ◌∙◌}
use Rattle.std.specs.List.{flat_map}
use Rattle.std.proofs.lemmas.Grind.{flat_map-append}
use Rattle.lists.specs.Since.{since}
use Rattle.lists.proofs.Latest.{since-append}
use Rattle.otlp_model.specs.declared.request.Request.{Request}
use Rattle.otap_transit.specs.Sendings.{Sending, Sent, Reset, is_reset, request_if, message_if, requests_since, messages_since}

since_sent : (before : List Sending) (request : Request) (message : List ℕ) → since is_reset (before ++ Sent request message ∷ []) ≡ since is_reset before ++ Sent request message ∷ []
since_sent before request message = since-append is_reset before (Sent request message ∷ [])

pub requests_sent : (before : List Sending) (request : Request) (message : List ℕ) → requests_since (before ++ Sent request message ∷ []) ≡ requests_since before ++ request ∷ []
unfolding requests_since
requests_sent before request message =
    ap (flat_map request_if) (since_sent before request message) ∙ flat_map-append request_if (since is_reset before) (Sent request message ∷ [])

pub messages_sent : (before : List Sending) (request : Request) (message : List ℕ) → messages_since (before ++ Sent request message ∷ []) ≡ messages_since before ++ message ∷ []
unfolding messages_since
messages_sent before request message =
    ap (flat_map message_if) (since_sent before request message) ∙ flat_map-append message_if (since is_reset before) (Sent request message ∷ [])

pub requests_reset : (before : List Sending) → requests_since (before ++ Reset ∷ []) ≡ []
unfolding requests_since
requests_reset before = ap (flat_map request_if) (since-append is_reset before (Reset ∷ []))

pub messages_reset : (before : List Sending) → messages_since (before ++ Reset ∷ []) ≡ []
unfolding messages_since
messages_reset before = ap (flat_map message_if) (since-append is_reset before (Reset ∷ []))
