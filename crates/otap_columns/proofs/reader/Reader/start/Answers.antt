use Rattle.std.proofs.Common.{◌≡◌, ℕ, List, [], ◌∷◌, refl, sym, ap, ◌∙◌, subst}
use Rattle.std.proofs.lemmas.Result.{err_from_is_err_and}
use Rattle.arrow_ipc.specs.declared.messages.IpcMessage.TheVariants.{Schema}
use Rattle.arrow_ipc.specs.Fronts.{MessagesIn, front_of, left_of, rest_of}
use Rattle.otap_columns.specs.Reading.{RefusesFirst, RefusesRecord, opened}
use Rattle.otap_columns.specs.Views.{ReaderIn}
use Rattle.otap_columns.specs.Substreams.{SubstreamIn}
use Rattle.otap_columns.proofs.Judging.{Read, read_schema, first_refused, open_refused, record_refused, record_read}
use Rattle.otap_columns.proofs.reader.Reader.start.Goals as goal

pub returns-in_err-schema-clause-refused : goal.returns-in_err-schema-clause-refused
returns-in_err-schema-clause-refused c =
    let all : rest_of c.new-messages.result ≡ c.args.bytes.now = ap rest_of c.new-messages.ensures in
    let p = err_from_is_err_and c.from_residual.result c.from_residual.ensures.1 in
    rw (p.1, p.2) (first_refused c.args.kind c.args.bytes.now c.in_err-schema.field-0.0
    (subst (λ (bs : List ℕ). RefusesFirst (front_of bs) (left_of bs) c.in_err-schema.field-0.0) all c.in_err-schema.ensures.err))

pub returns-in_err-reader-clause-refused : goal.returns-in_err-reader-clause-refused
returns-in_err-reader-clause-refused c =
    let all : rest_of c.new-messages.result ≡ c.args.bytes.now = ap rest_of c.new-messages.ensures in
    let p = err_from_is_err_and c.from_residual-in_err-reader.result c.from_residual-in_err-reader.ensures.1 in
    rw (p.1, p.2) (open_refused c.args.kind c.args.bytes.now c.in_ok-schema.schema (front_of (rest_of c.first_schema.new.messages)) c.in_err-reader.field-0.0
    (ap front_of (sym all) ∙ c.in_ok-schema.ensures.schema.front) c.in_err-reader.ensures.err)

pub returns-in_err-take_messages-clause-refused : goal.returns-in_err-take_messages-clause-refused
returns-in_err-take_messages-clause-refused c =
    let all : rest_of c.new-messages.result ≡ c.args.bytes.now = ap rest_of c.new-messages.ensures in
    let left : left_of (rest_of c.first_schema.new.messages) ≡ left_of c.args.bytes.now = sym c.in_ok-schema.ensures.schema.left ∙ ap left_of all in
    let p = err_from_is_err_and c.from_residual-in_err-take_messages.result c.from_residual-in_err-take_messages.ensures.1 in
    rw (p.1, p.2) (record_refused c.args.kind [] c.args.bytes.now (Schema c.in_ok-schema.schema ∷ []) (front_of (rest_of c.first_schema.new.messages)) (opened c.in_ok-schema.schema) c.in_err-take_messages.field-0.0
    (read_schema c.args.kind c.args.bytes.now c.in_ok-schema.schema (front_of (rest_of c.first_schema.new.messages)) (ap front_of (sym all) ∙ c.in_ok-schema.ensures.schema.front) c.in_ok-reader.ensures.types)
    (subst (λ (s : SubstreamIn). RefusesRecord s (front_of (rest_of c.first_schema.new.messages)) (left_of c.args.bytes.now) c.in_err-take_messages.field-0.0)
    (ap (λ (r : ReaderIn). r.substream) c.in_ok-reader.ensures.ok)
    (subst (λ (bs : List ℕ). RefusesRecord c.in_ok-reader.reader.substream (front_of (rest_of c.first_schema.new.messages)) bs c.in_err-take_messages.field-0.0) left c.in_err-take_messages.ensures.err)))

pub returns-clause-read : goal.returns-clause-read
returns-clause-read c =
    let all : rest_of c.new-messages.result ≡ c.args.bytes.now = ap rest_of c.new-messages.ensures in
    let left : left_of (rest_of c.first_schema.new.messages) ≡ left_of c.args.bytes.now = sym c.in_ok-schema.ensures.schema.left ∙ ap left_of all in
    let bytes : c.first_schema.new.messages.bytes ≡ c.args.bytes.now = c.in_ok-schema.ensures.schema.bytes ∙ ap (λ (m : MessagesIn). m.bytes) c.new-messages.ensures in
    let begun : Read c.args.kind [] c.args.bytes.now (Schema c.in_ok-schema.schema ∷ []) (front_of (rest_of c.first_schema.new.messages)) c.in_ok-reader.reader.substream =
    subst (λ (s : SubstreamIn). Read c.args.kind [] c.args.bytes.now (Schema c.in_ok-schema.schema ∷ []) (front_of (rest_of c.first_schema.new.messages)) s)
    (ap (λ (r : ReaderIn). r.substream) (sym c.in_ok-reader.ensures.ok))
    (read_schema c.args.kind c.args.bytes.now c.in_ok-schema.schema (front_of (rest_of c.first_schema.new.messages)) (ap front_of (sym all) ∙ c.in_ok-schema.ensures.schema.front) c.in_ok-reader.ensures.types) in
    (record_read c.args.kind [] c.args.bytes.now (Schema c.in_ok-schema.schema ∷ []) (front_of (rest_of c.first_schema.new.messages)) c.in_ok-reader.reader
    c.first_schema.new.messages c.take_messages.new.self c.take_messages.new.self begun refl left bytes c.in_ok-take_messages.ensures.ok refl refl).0

pub returns-clause-stands : goal.returns-clause-stands
returns-clause-stands c =
    let all : rest_of c.new-messages.result ≡ c.args.bytes.now = ap rest_of c.new-messages.ensures in
    let left : left_of (rest_of c.first_schema.new.messages) ≡ left_of c.args.bytes.now = sym c.in_ok-schema.ensures.schema.left ∙ ap left_of all in
    let bytes : c.first_schema.new.messages.bytes ≡ c.args.bytes.now = c.in_ok-schema.ensures.schema.bytes ∙ ap (λ (m : MessagesIn). m.bytes) c.new-messages.ensures in
    let begun : Read c.args.kind [] c.args.bytes.now (Schema c.in_ok-schema.schema ∷ []) (front_of (rest_of c.first_schema.new.messages)) c.in_ok-reader.reader.substream =
    subst (λ (s : SubstreamIn). Read c.args.kind [] c.args.bytes.now (Schema c.in_ok-schema.schema ∷ []) (front_of (rest_of c.first_schema.new.messages)) s)
    (ap (λ (r : ReaderIn). r.substream) (sym c.in_ok-reader.ensures.ok))
    (read_schema c.args.kind c.args.bytes.now c.in_ok-schema.schema (front_of (rest_of c.first_schema.new.messages)) (ap front_of (sym all) ∙ c.in_ok-schema.ensures.schema.front) c.in_ok-reader.ensures.types) in
    (record_read c.args.kind [] c.args.bytes.now (Schema c.in_ok-schema.schema ∷ []) (front_of (rest_of c.first_schema.new.messages)) c.in_ok-reader.reader
    c.first_schema.new.messages c.take_messages.new.self c.take_messages.new.self begun refl left bytes c.in_ok-take_messages.ensures.ok refl refl).1
