-- What a job puts on its sinks for a frame.
use Rattle.std.specs.Prelude.{ℕ, Bool, true, false, List, []}
use Rattle.std.specs.List.{flat_map, list_any}

-- the bytes for out and for err, and whether the frame is refused
pub record ReplyText : Type 0 where
  pub out : List ℕ
  pub err : List ℕ
  pub refused : Bool

abbrev pub out_text : List ReplyText → List ℕ
out_text replies = flat_map (λ reply. reply.out) replies

abbrev pub err_text : List ReplyText → List ℕ
err_text replies = flat_map (λ reply. reply.err) replies

abbrev pub any_refused : List ReplyText → Bool
any_refused replies = list_any (λ reply. reply.refused) replies

-- what a job adds at the end of the capture: on out, on err before the line of a damage and after it, and whether it refuses
pub record Closing : Type 0 where
  pub out : List ℕ
  pub before : List ℕ
  pub after : List ℕ
  pub refused : Bool

-- a text on err after the line of a damage, and nothing else
abbrev pub adds_after : List ℕ → Closing
adds_after text = record { out = []; before = []; after = text; refused = false }

-- bytes on out, and nothing else
abbrev pub adds_on_out : List ℕ → Closing
adds_on_out bytes = record { out = bytes; before = []; after = []; refused = false }

-- a refusal, by its line before that of a damage
abbrev pub refuses_before : List ℕ → Closing
refuses_before line = record { out = []; before = line; after = []; refused = true }
