-- The view of a payload, from the stream of its type.
use Rattle.std.proofs.Common.{◌≡◌, ◌<◌, List, Option, Some, None, length, get_or, sym, ap, ◌∙◌, subst, arith}
use Rattle.std.specs.Prelude.{find}
use Rattle.std.proofs.lemmas.Bool.Decides.{Decides-int_eq}
use Rattle.lists.specs.Payloads.{PayloadIn}
use Rattle.arrow_ipc.specs.declared.messages.IpcMessage.{IpcMessage}
use Rattle.otap_cells.specs.declared.payload.Kind.{Kind}
use Rattle.otap_cells.specs.Payload.{kinds_of, kind_numbered}
use Rattle.otap_cells.specs.Tables.{Table}
use Rattle.otap_columns.specs.Substreams.{logical}
use Rattle.otap_columns.specs.Views.{ReaderIn, StandsForRecord}
use Rattle.otap_columns.specs.Streams.{last_of, stream_of}
use Rattle.otap_consume.specs.Payloads.{payload_type_of}
use Rattle.otap_consume.specs.Streams.{OpenIn, StreamIn, IsOpenAfter, IsAfter}
use Rattle.otap_consume.specs.StreamSteps.{reader_if, reader_of}
use Rattle.otap_consume.specs.Views.{IsViewOf, is_stream_of}
use Rattle.otap_consume.proofs.IdSteps.{kind_at, count_of}
use Rattle.otap_consume.proofs.KindNumbers.{numbered}
use Rattle.otap_consume.proofs.Lists.{Finds, finds}

-- the reader of a sub-stream has read up to the last payload of its type
read_by : (payloads : List PayloadIn) (kind : Kind) (last : PayloadIn) (current : Option OpenIn) (reader : ReaderIn) → reader_if current ≡ Some reader
    → IsOpenAfter payloads kind (Some last) current → StandsForRecord (stream_of (payload_type_of kind) payloads) last.bytes reader
read_by payloads kind last None reader is h = absurd h
read_by payloads kind last (Some current) reader is h = subst (λ (r : ReaderIn). StandsForRecord (stream_of (payload_type_of kind) payloads) last.bytes r) (cc is) h.stands

pub is_view : (streams : List StreamIn) (p : PayloadIn) (s : StreamIn) (reader : ReaderIn) (table : Table) → find (is_stream_of p.kind) streams ≡ Some s → reader_of s ≡ Some reader
    → reader.kind ≡ s.kind → ((messages : List IpcMessage) → StandsForRecord messages p.bytes reader → logical reader.kind messages ≡ Some table) → table.kind ≡ reader.kind
    → IsViewOf streams p table
is_view streams p s reader table found read of shown named =
    let there : Finds (is_stream_of p.kind) streams s = finds (is_stream_of p.kind) streams s found in
    let same : p.kind ≡ payload_type_of s.kind = (Decides-int_eq p.kind (payload_type_of s.kind)).0 there.passes in
    record {
      type = ap payload_type_of (named ∙ of) ∙ sym same;
      known = λ signal kinds.
          let inside : there.at < length (kinds_of signal) = omega (arith, count_of signal streams kinds, there.inside) in
          let is : get_or (kinds_of signal) there.at s.kind ≡ s.kind
          = kind_at signal streams there.at s s.kind kinds there.inside ∙ ap (λ (x : StreamIn). x.kind) (there.is s) in
          ap (kind_numbered signal) same ∙ subst (λ (k : Kind). kind_numbered signal (payload_type_of k) ≡ Some k) is (numbered signal there.at s.kind inside)
          ∙ ap (λ (k : Kind). Some k) (sym (named ∙ of));
      shows = λ payloads are last.
          let here : IsAfter payloads s = subst (IsAfter payloads) (there.is s) (are there.at s there.inside) in
          let current : IsOpenAfter payloads s.kind (Some p) s.current
          = subst (λ (l : Option PayloadIn). IsOpenAfter payloads s.kind l s.current) (ap (λ type. last_of type payloads) (sym same) ∙ last) here.current in
          subst (λ (k : Kind). logical k (stream_of p.kind payloads) ≡ Some table) (sym named)
          (shown (stream_of p.kind payloads)
          (subst (λ type. StandsForRecord (stream_of type payloads) p.bytes reader) (sym same) (read_by payloads s.kind p s.current reader read current)));
    }
