-- The texts of `show`: the cells of each batch as they are stored.
use Rattle.std.specs.Prelude.{ℕ, List, [], ◌∷◌, ◌++◌, length, codes}
use Rattle.std.specs.Fmt.{decimal}
use Rattle.lists.specs.Payloads.{PayloadIn}
use Rattle.otap_capture.specs.Batch.{BatchContent}
use Rattle.otap_cells.specs.Tables.{Table}
use Rattle.otap_consume.specs.Outcomes.{Outcome, Accepted, Refused, Reset}
use Rattle.otap_gateway.specs.Lines.{reset_line, head_line, payload_head, line_feed, printed, refuses}
use Rattle.otap_gateway.specs.Receptions.{refusal_line}
use Rattle.otap_gateway.specs.Reply.{ReplyText}
use Rattle.otap_gateway.specs.Rows.{table_text}

-- the line of a payload: how many rows its table has
abbrev pub rows_line : PayloadIn → ℕ → List ℕ
rows_line payload rows = payload_head payload ++ codes " rows " ++ decimal rows ++ line_feed

abbrev pub payload_rows_text : PayloadIn → Table → List ℕ
payload_rows_text payload table = rows_line payload (length table.rows) ++ table_text table

-- payloads and their tables, in order
abbrev pub payloads_text : List PayloadIn → List Table → List ℕ
payloads_text (payload ∷ payloads) (table ∷ tables) = payload_rows_text payload table ++ payloads_text payloads tables
payloads_text _ _ = []

abbrev pub batch_text : ℕ → BatchContent → List Table → List ℕ
batch_text number batch tables = head_line number batch.id ++ payloads_text batch.payloads tables

-- `show`: the tables of a batch
abbrev pub shown : ℕ → Outcome → ReplyText
shown number (Accepted batch tables) = printed (batch_text number batch tables)
shown number (Refused refusal) = refuses (refusal_line number refusal)
shown number Reset = printed (reset_line number)
