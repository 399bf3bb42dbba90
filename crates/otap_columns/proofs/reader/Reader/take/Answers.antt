use Rattle.std.proofs.Common.{◌≡◌, ℕ, List, [], Some, true, false, sym, ap, ◌∙◌, subst}
use Rattle.std.proofs.lemmas.Result.{err_from_is_err_and}
use Rattle.arrow_ipc.specs.Fronts.{MessagesIn, front_of, left_of, rest_of}
use Rattle.otap_columns.specs.Reading.{RefusesRecord}
use Rattle.otap_columns.specs.Substreams.{SubstreamIn}
use Rattle.otap_columns.specs.Views.{ReaderIn}
use Rattle.otap_columns.proofs.Judging.{read_on, record_refused, record_read}
use Rattle.otap_columns.proofs.reader.Reader.take.Goals as goal

pub returns-in_err-take_messages-clause-refused : goal.returns-in_err-take_messages-clause-refused
returns-in_err-take_messages-clause-refused c =
    let all : rest_of c.new-messages.result ≡ c.args.bytes.now = ap rest_of c.new-messages.ensures in
    let s : SubstreamIn = record { arrays = c.self.inside.arrays; dictionaries = c.self.inside.dictionaries.items } in
    let same : s ≡ c.args.self.now.substream = ap (λ (r : ReaderIn). r.substream) c.self.view_is in
    let p = err_from_is_err_and c.from_residual.result c.from_residual.ensures.1 in
    rw (p.1, p.2) (λ past stands.
    record_refused c.args.self.now.kind past c.args.bytes.now [] (front_of c.args.bytes.now) c.args.self.now.substream c.in_err-take_messages.field-0.0
    (read_on c.args.self.now.kind past c.args.bytes.now c.args.self.now.substream stands)
    (subst (λ (bs : List ℕ). RefusesRecord c.args.self.now.substream (front_of bs) (left_of bs) c.in_err-take_messages.field-0.0) all
    (subst (λ (t : SubstreamIn). RefusesRecord t (front_of (rest_of c.new-messages.result)) (left_of (rest_of c.new-messages.result)) c.in_err-take_messages.field-0.0) same c.in_err-take_messages.ensures.err)))

pub returns-clause-takes : goal.returns-clause-takes
returns-clause-takes c =
    let all : rest_of c.new-messages.result ≡ c.args.bytes.now = ap rest_of c.new-messages.ensures in
    let bytes : c.new-messages.result.bytes ≡ c.args.bytes.now = ap (λ (m : MessagesIn). m.bytes) c.new-messages.ensures in
    let old : ReaderIn = record {
      kind = c.self.inside.kind;
      substream = record { arrays = c.self.inside.arrays; dictionaries = c.self.inside.dictionaries.items };
      place = c.self.inside.place;
      broken = true;
    } in
    let final : ReaderIn = record {
      kind = c.self-2.inside.kind;
      substream = record { arrays = c.self-2.inside.arrays; dictionaries = c.self-2.inside.dictionaries.items };
      place = c.self-2.inside.place;
      broken = false;
    } in
    λ past stands.
    record_read c.args.self.now.kind past c.args.bytes.now [] (front_of c.args.bytes.now) old c.new-messages.result c.take_messages.new.self final
    (read_on c.args.self.now.kind past c.args.bytes.now old.substream (stands ∙ ap Some (sym (ap (λ (r : ReaderIn). r.substream) c.self.view_is))))
    (ap front_of all) (ap left_of all) bytes c.in_ok-take_messages.ensures.ok (ap (λ (r : ReaderIn). r.substream) c.self-2.view_is) (ap (λ (r : ReaderIn). r.place) c.self-2.view_is)
