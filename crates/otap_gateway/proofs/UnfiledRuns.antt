-- What `unfile` reads and writes.
use Rattle.std.proofs.Common.{◌≡◌, inl, inr, ℕ, ◌+◌, ◌<◌, ◌≤◌, ◌^◌, zero, suc, Bool, true, false, List, [], ◌∷◌, ◌++◌, length, take, drop, Option, Some, None, Result, Ok, Err, refl, sym, ap, ◌∙◌, subst, append_assoc, append-nil, length-append, arith}
use Rattle.std.specs.Prelude.{slice_get, slice_index_or}
use Rattle.std.specs.List.{flat_map}
use Rattle.std.specs.Io.KnownBytes.{Appends, Consumes, IsAtEnd, Keeps}
use Rattle.std.proofs.lemmas.List.{length-take-le}
use Rattle.std.proofs.lemmas.Option.{slice_get_within}
use Rattle.lists.proofs.Known.{Appends-kept, Appends-nil, Appends-trans, Keeps-refl}
use Rattle.arrow_file.specs.declared.refusal.FileRefusal.{FileRefusal}
use Rattle.arrow_file.specs.declared.refusal.FileRefusal.TheVariants.{TooLong, BadMagic, BadFooter, BadSchema, BadBlock, Memory}
use Rattle.arrow_file.specs.Defects.{HasFileDefect, Refuses}
use Rattle.arrow_file.specs.Files.{File}
use Rattle.arrow_file.specs.Limits.{max_file}
use Rattle.arrow_file.specs.Views.{FileIn}
use Rattle.otap_capture.specs.Capture.{message_frame}
use Rattle.otap_capture.specs.Batch.{canon_batch}
use Rattle.otap_capture.specs.Limits.{longest_frame}
use Rattle.otap_capture.specs.Outside.{AppendsFront}
use Rattle.otap_capture.specs.declared.outside.SinkRefusal.{SinkRefusal}
use Rattle.otap_capture.specs.declared.outside.SinkRefusal.TheVariants as sink
use Rattle.otap_capture.proofs.Known.{front_of_all, front_of_first, front_of_none, front_more}
use Rattle.otap_cells.specs.declared.payload.Kind.{Kind}
use Rattle.otap_gateway.specs.declared.runs.stop.Stop.{Stop}
use Rattle.otap_gateway.specs.declared.runs.stop.Stop.TheVariants as stop
use Rattle.otap_gateway.specs.Lines.{printed, refuses}
use Rattle.otap_gateway.specs.Runs.{Sinks, World, IsFlushed, SinkFaults}
use Rattle.otap_gateway.specs.Turns.{stop_of_sink}
use Rattle.otap_gateway.specs.Unfiling.{LeavesUnfile, TakesFile, Unfiles, UnfilesAll, UnfilesNothing, UnfilesPart, batch_of, frames_from, records_of, refused_file}
use Rattle.otap_gateway.specs.UnfilingSteps.{CountsSink, CountsSource, FitsFrames, IsOfFile, ReadsPiece, Replies, RepliesPart, RepliesWhole, WritesIn, file_text, first_record, later_text}
use Rattle.otap_gateway.proofs.UnfiledBatches.{message_most}

-- ---- reading

pub Consumes-nil : (a : Option (List ℕ)) → Consumes a a []
Consumes-nil None = tt
Consumes-nil (Some xs) = refl

pub Consumes-trans : (a b c : Option (List ℕ)) (xs ys : List ℕ) → Consumes a b xs → Consumes b c ys → Consumes a c (xs ++ ys)
Consumes-trans None b c xs ys p q = tt
Consumes-trans (Some as') None c xs ys p q = absurd p
Consumes-trans (Some as') (Some bs) None xs ys p q = absurd q
Consumes-trans (Some as') (Some bs) (Some cs) xs ys p q = p ∙ ap (λ l. xs ++ l) q ∙ sym (append_assoc xs ys cs)

pub reads_piece : (old mid new : List ℕ) (left left' : Option (List ℕ)) (most count : ℕ) (room : List ℕ) → mid ≡ old → new ≡ mid ++ take count room → length room ≡ most → 0 < most → count ≤ length room
    → Consumes left left' (take count room) × (count ≡ 0 → 0 < length room → IsAtEnd left') → ReadsPiece old new left left' most count
reads_piece old mid new left left' most count room same grown long some inside reads =
    let size : length (take count room) ≡ count = length-take-le count room inside in
    record {
      piece = take count room;
      grown = grown ∙ ap (λ l. l ++ take count room) same;
      taken = reads.0;
      counted = sym size;
      few = omega (arith, size, inside, long);
      last = λ none. reads.1 none (omega (arith, long, some));
    }

-- one more piece
pub more_taken : (left mid now : Option (List ℕ)) (old new : List ℕ) (most count : ℕ) → Consumes left mid old → ReadsPiece old new mid now most count → Consumes left now new
more_taken left mid now old new most count before piece = subst (Consumes left now) (sym piece.grown) (Consumes-trans left mid now old piece.piece before piece.taken)

pub more_long : (old new : List ℕ) (mid now : Option (List ℕ)) (most count : ℕ) → ReadsPiece old new mid now most count → (length new ≡ length old + count) × (count ≤ most)
more_long old new mid now most count piece =
    let long = ap length piece.grown ∙ length-append old piece.piece in
    let counted = piece.counted in
    let few = piece.few in
    (omega (arith, long, counted), omega (arith, counted, few))

pub all_taken : (left mid now : Option (List ℕ)) (old new : List ℕ) (most count : ℕ) → Consumes left mid old → ReadsPiece old new mid now most count → count ≡ 0 → length old ≤ max_file + 1 → TakesFile left now new
all_taken left mid now old new most count before piece none few =
    let long = (more_long old new mid now most count piece).0 in
    record { taken = more_taken left mid now old new most count before piece; few = omega (arith, long, none, few); enough = inl (piece.last none) }

-- ---- writing

frames_more : (kind : Kind) (id : ℕ) (front : List (List ℕ)) (rows : List ℕ) (rest : List (List ℕ))
    → frames_from kind id (front ++ rows ∷ rest) ≡ frames_from kind id front ++ (message_frame (canon_batch (batch_of kind (id + length front) rows)) ++ frames_from kind (suc (id + length front)) rest)
frames_more kind id [] rows rest =
    let same : id + 0 ≡ id = omega arith in
    λ j. message_frame (canon_batch (batch_of kind (sym same j) rows)) ++ frames_from kind (suc (sym same j)) rest
frames_more kind id (x ∷ front) rows rest =
    let same : suc id + length front ≡ id + suc (length front) = omega arith in
    let first = message_frame (canon_batch (batch_of kind id x)) in
    ap (λ l. first ++ l) (frames_more kind (suc id) front rows rest
    ∙ ap (λ n. frames_from kind (suc id) front ++ (message_frame (canon_batch (batch_of kind n rows)) ++ frames_from kind (suc n) rest)) same)
    ∙ sym (append_assoc first (frames_from kind (suc id) front) (message_frame (canon_batch (batch_of kind (id + suc (length front)) rows)) ++ frames_from kind (suc (id + suc (length front))) rest))

-- the frames from a record batch on, written so far
pub record HasWritten (kind : Kind) (batches : List (List ℕ)) (place : ℕ) (written now : Option (List ℕ)) : Type 0 where
  pub front : List ℕ
  pub whole : frames_from kind 1 (drop 1 batches) ≡ front ++ frames_from kind place (drop place batches)
  pub grown : Appends written now front

pub written_none : (kind : Kind) (batches : List (List ℕ)) (written : Option (List ℕ)) → HasWritten kind batches 1 written written
written_none kind batches written = record { front = []; whole = refl; grown = Appends-nil written written (Keeps-refl written) }

pub written_more : (kind : Kind) (batches : List (List ℕ)) (place : ℕ) (rows : List ℕ) (written mid now : Option (List ℕ)) → HasWritten kind batches place written mid
    → drop place batches ≡ rows ∷ drop (place + 1) batches → Appends mid now (message_frame (canon_batch (batch_of kind place rows))) → HasWritten kind batches (place + 1) written now
written_more kind batches place rows written mid now h here adds =
    let frame = message_frame (canon_batch (batch_of kind place rows)) in
    let next : suc place ≡ place + 1 = omega arith in
    record {
      front = h.front ++ frame;
      whole = h.whole ∙ ap (λ l. h.front ++ frames_from kind place l) here ∙ sym (append_assoc h.front frame (frames_from kind (suc place) (drop (place + 1) batches)))
          ∙ ap (λ n. (h.front ++ frame) ++ frames_from kind n (drop (place + 1) batches)) next;
      grown = Appends-trans written mid now h.front frame h.grown adds;
    }

pub written_all : (kind : Kind) (file : FileIn) (place : ℕ) (written now : Option (List ℕ)) → HasWritten kind file.batches place written now → drop place file.batches ≡ []
    → Appends written now (later_text kind 1 file)
written_all kind file place written now h none =
    subst (Appends written now) (sym (h.whole ∙ ap (λ l. h.front ++ frames_from kind place l) none ∙ append-nil h.front)) h.grown

-- a front of them, before the next or in it
pub written_front : (kind : Kind) (file : FileIn) (place : ℕ) (written now : Option (List ℕ)) → HasWritten kind file.batches place written now → AppendsFront written now (later_text kind 1 file)
written_front kind file place written now h =
    subst (AppendsFront written now) (sym h.whole) (front_of_first written now h.front (frames_from kind place (drop place file.batches)) (front_of_all written now h.front h.grown))

pub written_part : (kind : Kind) (file : FileIn) (place : ℕ) (rows : List ℕ) (written mid now : Option (List ℕ)) → HasWritten kind file.batches place written mid
    → drop place file.batches ≡ rows ∷ drop (place + 1) file.batches → AppendsFront mid now (message_frame (canon_batch (batch_of kind place rows))) → AppendsFront written now (later_text kind 1 file)
written_part kind file place rows written mid now h here part =
    let frame = message_frame (canon_batch (batch_of kind place rows)) in
    subst (AppendsFront written now) (sym (h.whole ∙ ap (λ l. h.front ++ frames_from kind place l) here))
    (front_more written mid now h.front (frame ++ frames_from kind (suc place) (drop (place + 1) file.batches)) h.grown
    (front_of_first mid now frame (frames_from kind (suc place) (drop (place + 1) file.batches)) part))

-- the first frame, and those after it
module _ (kind : Kind) (file : FileIn) (rows : List ℕ) (rest : List (List ℕ)) (is : file.batches ≡ rows ∷ rest) where
  abbrev pub first_frame : List ℕ
  first_frame = message_frame (canon_batch (batch_of kind 0 (first_record file rows)))

  text_is : file_text kind file ≡ first_frame ++ later_text kind 1 file
  text_is = ap (λ l. frames_from kind 0 (records_of file.schema file.dictionaries l)) is ∙ ap (λ l. first_frame ++ frames_from kind 1 l) (sym (ap (drop 1) is))

  pub first_part : (written now : Option (List ℕ)) → AppendsFront written now first_frame → AppendsFront written now (file_text kind file)
  first_part written now part = subst (AppendsFront written now) (sym text_is) (front_of_first written now first_frame (later_text kind 1 file) part)

  pub first_none : (written now : Option (List ℕ)) → Keeps written now → AppendsFront written now (file_text kind file)
  first_none written now keeps = front_of_none written now (file_text kind file) keeps

  pub then_later : (written mid now : Option (List ℕ)) (r : Result (Unit {0}) Stop) → Appends written mid first_frame → WritesIn mid now (later_text kind 1 file) r → WritesIn written now (file_text kind file) r
  then_later written mid now (Ok x) adds later = subst (Appends written now) (sym text_is) (Appends-trans written mid now first_frame (later_text kind 1 file) adds later)
  then_later written mid now (Err stop) adds later = subst (AppendsFront written now) (sym text_is) (front_more written mid now first_frame (later_text kind 1 file) adds later)

pub no_text : (kind : Kind) (file : FileIn) (written : Option (List ℕ)) → file.batches ≡ [] → Appends written written (file_text kind file)
no_text kind file written none =
    subst (Appends written written) (sym (ap (λ l. frames_from kind 0 (records_of file.schema file.dictionaries l)) none)) (Appends-nil written written (Keeps-refl written))

-- ---- the reply to the bytes of a file

is_refused : (bytes : List ℕ) (refusal : FileRefusal) → Refuses bytes refusal → IsOfFile refusal → HasFileDefect bytes refusal
is_refused bytes TooLong refuses known = refuses
is_refused bytes BadMagic refuses known = refuses
is_refused bytes (BadFooter e) refuses known = refuses
is_refused bytes BadSchema refuses known = refuses
is_refused bytes BadBlock refuses known = refuses
is_refused bytes (Memory e) refuses known = absurd known

module _ (kind : Kind) (bytes : List ℕ) (old new : Sinks) where
  pub opens_whole : (file : FileIn) → length bytes ≤ max_file → File bytes file.schema file.dictionaries file.batches → Appends old.out.written new.out.written (file_text kind file)
      → new.err ≡ old.err → RepliesWhole kind bytes old new false
  opens_whole file short is out same = record {
    reply = printed (file_text kind file);
    gives = Unfiles.opens file.schema file.dictionaries file.batches short is;
    out = out;
    err = Appends-nil old.err.written new.err.written (rw same (Keeps-refl old.err.written));
    same = refl;
  }

  -- stopped in the frames
  pub opens_part : (file : FileIn) (stopped : Stop) → length bytes ≤ max_file → File bytes file.schema file.dictionaries file.batches
      → AppendsFront old.out.written new.out.written (file_text kind file) → new.err ≡ old.err → CountsSink {T = Unit {0}} old.out.faults new.out.faults (Err stopped) → Replies kind bytes old new (Err stopped)
  opens_part file stopped short is out same counts = by_stop stopped counts
    where
      part : RepliesPart kind bytes old new
      part = record {
        reply = printed (file_text kind file);
        gives = Unfiles.opens file.schema file.dictionaries file.batches short is;
        out = out;
        err = front_of_none old.err.written new.err.written [] (rw same (Keeps-refl old.err.written));
      }

      by_stop : (s : Stop) → CountsSink {T = Unit {0}} old.out.faults new.out.faults (Err s) → Replies kind bytes old new (Err s)
      by_stop stop.Source counts = counts
      by_stop stop.Sink counts = part
      by_stop stop.Memory counts = inr part

  pub refused_whole : (refusal : FileRefusal) (line : List ℕ) → Refuses bytes refusal → IsOfFile refusal → line ≡ refused_file refusal → Appends old.err.written new.err.written line → new.out ≡ old.out
      → RepliesWhole kind bytes old new true
  refused_whole refusal line refuses_it known text err same = record {
    reply = refuses (refused_file refusal);
    gives = Unfiles.refused refusal (is_refused bytes refusal refuses_it known);
    out = Appends-nil old.out.written new.out.written (rw same (Keeps-refl old.out.written));
    err = rw (← text) err;
    same = refl;
  }

  pub refused_part : (refusal : FileRefusal) (line : List ℕ) → Refuses bytes refusal → IsOfFile refusal → line ≡ refused_file refusal → AppendsFront old.err.written new.err.written line
      → new.out ≡ old.out → RepliesPart kind bytes old new
  refused_part refusal line refuses_it known text err same = record {
    reply = refuses (refused_file refusal);
    gives = Unfiles.refused refusal (is_refused bytes refusal refuses_it known);
    out = front_of_none old.out.written new.out.written [] (rw same (Keeps-refl old.out.written));
    err = rw (← text) err;
  }

pub refused_stop : (kind : Kind) (bytes : List ℕ) (old new : Sinks) (refusal : SinkRefusal) → RepliesPart kind bytes old new → Replies kind bytes old new (Err (stop_of_sink refusal))
refused_stop kind bytes old new sink.Failed part = part
refused_stop kind bytes old new (sink.Memory e) part = inr part

pub nothing_written : (s : Sinks) → UnfilesNothing s s
nothing_written s = record { out = Keeps-refl s.out.written; err = Keeps-refl s.err.written }

-- ---- the run

module _ (kind : Kind) (old new : World) (bytes : List ℕ) where
  -- stopped in the reply
  pub leaves_part : (stopped : Stop) → TakesFile old.left new.left bytes → Replies kind bytes old.sinks new.sinks (Err stopped) → LeavesUnfile kind old new (Err stopped)
  leaves_part stop.Source takes replies = absurd replies
  leaves_part stop.Sink takes p = record { bytes = bytes; takes = takes; reply = p.reply; gives = p.gives; out = p.out; err = p.err }
  leaves_part stop.Memory takes (inl nothing) = inl nothing
  leaves_part stop.Memory takes (inr p) = inr (record { bytes = bytes; takes = takes; reply = p.reply; gives = p.gives; out = p.out; err = p.err })

  module _ (mid : Sinks) (refused : Bool) (w : RepliesWhole kind bytes old.sinks mid refused) (out : Keeps mid.out.written new.sinks.out.written) (err : Keeps mid.err.written new.sinks.err.written) where
    out_grown : Appends old.sinks.out.written new.sinks.out.written w.reply.out
    out_grown = Appends-kept old.sinks.out.written mid.out.written new.sinks.out.written w.reply.out w.out out

    err_grown : Appends old.sinks.err.written new.sinks.err.written w.reply.err
    err_grown = Appends-kept old.sinks.err.written mid.err.written new.sinks.err.written w.reply.err w.err err

    part : TakesFile old.left new.left bytes → UnfilesPart kind old new
    part takes = record {
      bytes = bytes;
      takes = takes;
      reply = w.reply;
      gives = w.gives;
      out = front_of_all old.sinks.out.written new.sinks.out.written w.reply.out out_grown;
      err = front_of_all old.sinks.err.written new.sinks.err.written w.reply.err err_grown;
    }

    -- stopped in passing it on
    pub leaves_unflushed : (stopped : Stop) → TakesFile old.left new.left bytes → SinkFaults {T = Unit {0}} mid new.sinks (Err stopped) → LeavesUnfile kind old new (Err stopped)
    leaves_unflushed stop.Source takes faults = absurd faults
    leaves_unflushed stop.Sink takes faults = part takes
    leaves_unflushed stop.Memory takes faults = inr (part takes)

    pub leaves_all : TakesFile old.left new.left bytes → IsFlushed new.sinks → UnfilesAll kind old new (record { refused = refused; damaged = false })
    leaves_all takes flushed = record {
      bytes = bytes;
      takes = takes;
      reply = w.reply;
      gives = w.gives;
      out = out_grown;
      err = err_grown;
      flushed = flushed;
      refused = w.same;
      damaged = refl;
    }

-- stopped in reading
pub leaves_unread : (kind : Kind) (old new : World) (stopped : Stop) → new.sinks ≡ old.sinks → CountsSource {T = Unit {0}} old.faults new.faults (Err stopped) → LeavesUnfile kind old new (Err stopped)
leaves_unread kind old new stop.Source same counts = rw same (nothing_written old.sinks)
leaves_unread kind old new stop.Sink same counts = absurd counts
leaves_unread kind old new stop.Memory same counts = inl (rw same (nothing_written old.sinks))

-- ---- lists

pub drop_get : {X : Type 0} (xs : List X) (k : ℕ) (x : X) → slice_get xs k ≡ Some x → drop k xs ≡ x ∷ drop (suc k) xs
drop_get [] k x is = absurd (cc is)
drop_get (y ∷ xs) zero x is = let same : y ≡ x = cc is in ap (λ z. z ∷ xs) same
drop_get (y ∷ xs) (suc k) x is = drop_get xs k x is

-- a dictionary more
pub dictionary_more : (dictionaries : List (List ℕ)) (place before : ℕ) (d initial mid new : List ℕ) → suc before ≡ place → slice_get dictionaries before ≡ Some d
    → mid ≡ flat_map (λ x. x) (drop place dictionaries) ++ initial → new ≡ d ++ mid → new ≡ flat_map (λ x. x) (drop before dictionaries) ++ initial
dictionary_more dictionaries place before d initial mid new next is so_far adds =
    let rest = flat_map (λ (x : List ℕ). x) (drop place dictionaries) in
    let here : drop before dictionaries ≡ d ∷ drop place dictionaries = drop_get dictionaries before d is ∙ ap (λ n. d ∷ drop n dictionaries) next in
    adds ∙ ap (λ l. d ++ l) so_far ∙ sym (append_assoc d rest initial) ∙ ap (λ l. flat_map (λ (x : List ℕ). x) l ++ initial) (sym here)

-- the message of a batch fits a frame
fits_at : (file : FileIn) (place : ℕ) (rows : List ℕ) → FitsFrames file → slice_get file.batches place ≡ Some rows → length (first_record file rows) + 24 ≤ longest_frame
fits_at file place rows fits is =
    let within = slice_get_within file.batches place rows is in
    subst (λ (l : List ℕ). length (first_record file l) + 24 ≤ longest_frame) (here file.batches place is) (fits place rows within)
  where
    here : (xs : List (List ℕ)) (k : ℕ) → slice_get xs k ≡ Some rows → slice_index_or xs k rows ≡ rows
    here [] k found = absurd (cc found)
    here (x ∷ xs) zero found = cc found
    here (x ∷ xs) (suc k) found = here xs k found

pub fits_first : (kind : Kind) (file : FileIn) (rows : List ℕ) (message : List ℕ) → FitsFrames file → slice_get file.batches 0 ≡ Some rows
    → message ≡ canon_batch (batch_of kind 0 (first_record file rows)) → length message ≤ longest_frame
fits_first kind file rows message fits is says =
    let fit = fits_at file 0 rows fits is in
    let most = message_most kind 0 (first_record file rows) (omega arith) (omega (arith, fit)) in
    omega (arith, ap length says, most, fit)

pub fits_later : (kind : Kind) (file : FileIn) (place : ℕ) (rows : List ℕ) (message : List ℕ) → FitsFrames file → place < 2 ^ 32 → slice_get file.batches place ≡ Some rows
    → message ≡ canon_batch (batch_of kind place rows) → length message ≤ longest_frame
fits_later kind file place rows message fits few is says =
    let fit = fits_at file place rows fits is in
    let parts = length-append file.schema (flat_map (λ (x : List ℕ). x) file.dictionaries ++ rows) in
    let rest = length-append (flat_map (λ (x : List ℕ). x) file.dictionaries) rows in
    let most = message_most kind place rows few (omega (arith, fit, parts, rest)) in
    omega (arith, ap length says, most, fit, parts, rest)

pub next_rows : (batches : List (List ℕ)) (place : ℕ) (rows : List ℕ) → slice_get batches place ≡ Some rows → drop place batches ≡ rows ∷ drop (place + 1) batches
next_rows batches place rows is = let next : suc place ≡ place + 1 = omega arith in drop_get batches place rows is ∙ ap (λ n. rows ∷ drop n batches) next

pub first_rest : (batches : List (List ℕ)) (rows : List ℕ) → slice_get batches 0 ≡ Some rows → (rest : List (List ℕ)) × (batches ≡ rows ∷ rest)
first_rest [] rows is = absurd (cc is)
first_rest (x ∷ batches) rows is = let same : x ≡ rows = cc is in (batches, ap (λ l. l ∷ batches) same)
