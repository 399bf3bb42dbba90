-- The lines that several jobs print. Each ends with a line feed; numbers are decimal.
use Rattle.std.specs.Prelude.{ℕ, ℤ, true, false, List, [], ◌∷◌, ◌++◌, codes, Some, None}
use Rattle.std.specs.Fmt.{decimal, signed_decimal}
use Rattle.std.specs.declared.option.Option.{Option}
use Rattle.lists.specs.Payloads.{PayloadIn}
use Rattle.otap_capture.specs.declared.frame.Damage.{Damage}
use Rattle.otap_capture.specs.declared.frame.Why.{Why}
use Rattle.otap_capture.specs.declared.frame.Why.TheVariants as why
use Rattle.otap_gateway.specs.Quoting.{quoted}
use Rattle.otap_gateway.specs.Reply.{ReplyText}

abbrev pub line_feed : List ℕ
line_feed = 10 ∷ []

abbrev pub reset_line : ℕ → List ℕ
reset_line number = codes "frame " ++ decimal number ++ codes ": reset" ++ line_feed

-- a number, or a dash where there is none
abbrev pub or_dash : Option ℤ → List ℕ
or_dash None = codes "-"
or_dash (Some n) = signed_decimal n

-- the head of a line for a batch, by the text of its id
abbrev pub batch_head : ℕ → List ℕ → List ℕ
batch_head number id = codes "frame " ++ decimal number ++ codes ": batch " ++ id

-- the line that the lines for a batch begin with
abbrev pub head_line : ℕ → ℤ → List ℕ
head_line number id = batch_head number (signed_decimal id) ++ line_feed

-- the head of a line for a payload: its type and its schema id
abbrev pub payload_head : PayloadIn → List ℕ
payload_head payload = codes "payload " ++ signed_decimal payload.kind ++ codes " schema \"" ++ quoted payload.schema_id ++ codes "\""

-- what a refusal says: its stage and its cause, and the type of the payload that it is in
abbrev pub refusal_text : ℕ → List ℕ → Option ℤ → List ℕ
refusal_text stage cause payload = codes "stage " ++ decimal stage ++ codes " " ++ cause ++ codes " payload " ++ or_dash payload

-- a refused batch: its id where it could be read, and what the refusal says
abbrev pub refused_line : ℕ → Option ℤ → ℕ → List ℕ → Option ℤ → List ℕ
refused_line number id stage cause payload = batch_head number (or_dash id) ++ (codes " refused: " ++ (refusal_text stage cause payload ++ line_feed))

-- a refused request, by the name of the cause
abbrev pub request_line : ℕ → List ℕ → List ℕ
request_line number cause = codes "frame " ++ decimal number ++ codes ": request refused: " ++ cause ++ line_feed

abbrev pub why_name : Why → List ℕ
why_name why.Truncated = codes "Truncated"
why_name why.BadFrame = codes "BadFrame"
why_name why.TooLong = codes "TooLong"
why_name why.Endless = codes "Endless"

abbrev pub damage_line : Damage → List ℕ
damage_line damage = codes "damage at " ++ decimal damage.at ++ codes ": " ++ why_name damage.why ++ line_feed

-- what follows the replies to all frames on err
abbrev pub end_text : Option Damage → List ℕ
end_text None = []
end_text (Some damage) = damage_line damage

-- the line for words that aren't understood
abbrev pub words_line : List ℕ
words_line = codes "otap: words not understood" ++ line_feed

-- a text on out for a frame that is handled, and a line on err for one that is refused
abbrev pub printed : List ℕ → ReplyText
printed text = record { out = text; err = []; refused = false }

abbrev pub refuses : List ℕ → ReplyText
refuses line = record { out = []; err = line; refused = true }
