-- The texts of `file`: the Arrow file of one sub-stream.
use Rattle.std.specs.Prelude.{◌≡◌, ◌≤◌, ◌<◌, ◌+◌, ◌==◌, ◌&&◌, ℕ, suc, if◌then◌else◌, List, [], ◌∷◌, ◌++◌, length, codes, count_by, All}
use Rattle.std.specs.List.{AllZip}
use Rattle.arrow_schema.specs.Readable.{IsReadable}
use Rattle.arrow_ipc.specs.Batches.{BatchIn}
use Rattle.arrow_file.specs.Limits.{max_batches}
use Rattle.arrow_file.specs.Written.{IsWrittenFile}
use Rattle.otlp_model.specs.declared.request.Signal.{Signal}
use Rattle.otap_capture.specs.Capture.{Frame}
use Rattle.otap_cells.specs.declared.payload.Kind.{Kind}
use Rattle.otap_cells.specs.Tables.{Table, IsTable}
use Rattle.otap_columns.specs.Plain.{HoldsPlain, plain_schema}
use Rattle.otap_columns.specs.Streams.{is_of, opens}
use Rattle.otap_columns.specs.TableSets.{of_kind}
use Rattle.otap_consume.specs.Outcomes.{Outcome, Accepted, Refused, Reset, OutcomeAfter, payloads_after, payloads_if}
use Rattle.otap_consume.specs.Payloads.{payload_type_of}
use Rattle.otap_gateway.specs.Lines.{line_feed, printed, refuses}
use Rattle.otap_gateway.specs.Receptions.{refusal_line}
use Rattle.otap_gateway.specs.Replies.{Gave, IsReplyAfter, replies_from}
use Rattle.otap_gateway.specs.Reply.{ReplyText, Closing, adds_on_out, refuses_before}

-- ---- what it replies to a frame

-- a frame that is refused has the line of `show`, any other nothing
abbrev pub filed : ℕ → Outcome → ReplyText
filed number (Accepted batch tables) = printed []
filed number (Refused refusal) = refuses (refusal_line number refusal)
filed number Reset = printed []

abbrev pub FilesFrame : Signal → List Frame → List ReplyText → Frame → ReplyText → Type 0
FilesFrame signal = IsReplyAfter (OutcomeAfter signal) filed

-- ---- the sub-stream: those of a payload type are counted over the whole capture, in the batches that are accepted

-- how many open in a frame, after frames with these outcomes; a batch has one payload of a type at most
abbrev pub opened_in : Kind → List Outcome → Outcome → ℕ
opened_in kind past outcome = count_by (λ p. is_of (payload_type_of kind) p && opens (payloads_after past) p) (payloads_if outcome)

abbrev pub opened_after : Kind → List Outcome → List Outcome → ℕ
opened_after kind past [] = 0
opened_after kind past (outcome ∷ outcomes) = opened_in kind past outcome + opened_after kind (past ++ outcome ∷ []) outcomes

-- how many opened
unfoldable pub opened : Kind → List Outcome → ℕ
opened kind outcomes = opened_after kind [] outcomes

abbrev pub tables_if : Outcome → List Table
tables_if (Accepted batch tables) = tables
tables_if (Refused refusal) = []
tables_if Reset = []

-- the table of a frame that belongs to the sub-stream which opened after this number of others: it is the last one that opened
abbrev pub chosen_in : Kind → ℕ → List Outcome → Outcome → List Table
chosen_in kind number past outcome = if opened kind (past ++ outcome ∷ []) == suc number then of_kind kind (tables_if outcome) else []

abbrev pub chosen_after : Kind → ℕ → List Outcome → List Outcome → List Table
chosen_after kind number past [] = []
chosen_after kind number past (outcome ∷ outcomes) = chosen_in kind number past outcome ++ chosen_after kind number (past ++ outcome ∷ []) outcomes

-- THE TABLES OF THE SUB-STREAM, one for each of its payloads
unfoldable pub chosen : Kind → ℕ → List Outcome → List Table
chosen kind number outcomes = chosen_after kind number [] outcomes

-- ---- its file

-- THE FILE OF TABLES: an Arrow file with the schema of all their columns, and for each a record batch with its cells
pub record IsFileOf (t : Table) (tables : List Table) (bytes : List ℕ) : Type 0 where
  pub alike : All (λ u. plain_schema u ≡ plain_schema t) tables
  pub sound : All IsTable (t ∷ tables)
  pub batches : List BatchIn
  pub rows : AllZip HoldsPlain (t ∷ tables) batches
  pub readable : IsReadable (plain_schema t)
  pub file : IsWrittenFile (plain_schema t) batches bytes

abbrev pub none_line : List ℕ
none_line = codes "file: no such sub-stream" ++ line_feed

abbrev pub many_line : List ℕ
many_line = codes "file: too many batches" ++ line_feed

-- WHAT IS ADDED for the tables of the sub-stream: their file, or why there is none
pub data Files : List Table → Closing → Type 0 where
  none : Files [] (refuses_before none_line)
  many : (tables : List Table) → max_batches < length tables → Files tables (refuses_before many_line)
  some : (t : Table) (tables : List Table) (bytes : List ℕ) → length (t ∷ tables) ≤ max_batches → IsFileOf t tables bytes → Files (t ∷ tables) (adds_on_out bytes)

-- what it adds after all frames
pub record FileCloses (signal : Signal) (kind : Kind) (number : ℕ) (frames : List Frame) (replies : List ReplyText) (closing : Closing) : Type 0 where
  pub outcomes : List Outcome
  pub before : Gave (OutcomeAfter signal) frames outcomes
  pub so_far : replies ≡ replies_from filed 0 outcomes
  pub files : Files (chosen kind number outcomes) closing
