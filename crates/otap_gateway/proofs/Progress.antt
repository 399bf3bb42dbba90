-- A run so far, and what the next turn makes of it.
use Rattle.std.proofs.Common.{◌≡◌, ◌⊎◌, inl, inr, ℕ, ◌+◌, Bool, true, false, List, [], ◌∷◌, ◌++◌, length, Some, None, IfSome, OnOk, Result, Ok, Err, refl, sym, ap, ◌∙◌, subst, append_assoc, length-append, append-nil, arith}
use Rattle.std.specs.Prelude.{◌||◌}
use Rattle.std.specs.declared.option.Option.{Option}
use Rattle.std.specs.Io.KnownBytes.{Appends, Consumes, Keeps, prepend_known}
use Rattle.std.proofs.lemmas.Bool.{false≢true}
use Rattle.std.proofs.lemmas.List.{flat_map_more}
use Rattle.std.proofs.lemmas.List.Folds.{list_any-append}
use Rattle.lists.proofs.Growing.{each_after-push}
use Rattle.lists.specs.EachAfter.{EachAfter}
use Rattle.lists.proofs.Truths.{or_false}
use Rattle.lists.proofs.Known.{Appends-trans, Appends-kept}
use Rattle.otap_capture.specs.declared.frame.Damage.{Damage}
use Rattle.otap_capture.specs.Capture.{Frame, IsFrame, AreFrames, EndsAt, IsCapture}
use Rattle.otap_capture.specs.Deciding.{IsOpen}
use Rattle.otap_capture.specs.Reading.{Reading, IsWaiting, TakesFrame, ahead}
use Rattle.otap_capture.proofs.Framing.{are_frames-push}
use Rattle.otap_capture.proofs.Known.{front_more, front_of_first, front_of_all}
use Rattle.otap_gateway.specs.Jobs.{Rule, History}
use Rattle.otap_gateway.specs.Lines.{words_line}
use Rattle.otap_gateway.specs.Reply.{ReplyText, out_text, err_text, any_refused}
use Rattle.otap_gateway.specs.declared.runs.stop.Stop.{Stop}
use Rattle.otap_gateway.specs.declared.runs.stop.Stop.TheVariants as stop
use Rattle.otap_gateway.specs.declared.runs.drive.Ended.{Ended}
use Rattle.otap_gateway.specs.declared.runs.handler.Handled.{Handled}
use Rattle.otap_gateway.specs.Begun.{WritesBegun}
use Rattle.otap_gateway.specs.Runs.{Sinks, World, BeginsWith, WritesTaken, StopsBy, LeavesLine, NoneFailed, IsFlushed, IsQuiet}
use Rattle.otap_gateway.specs.Turns.{KeepsBoth, Settled, TakesAll, TurnAsks, TurnsFailing, TurnsFrame, TurnsFramePart, TurnsEnd}

-- A run so far: what is ahead comes after the frames that were taken, and the sinks grew by the replies to them.
pub record Progress (R : Rule) (stands : History) (old new : World) (place number : ℕ) (any unflushed : Bool) : Type 0 where
  pub frames : List Frame
  pub replies : List ReplyText
  pub front : List ℕ
  pub taken : Consumes old.left new.left front
  pub each : AreFrames 0 front frames
  pub at : place ≡ length front
  pub count : number ≡ length frames
  pub history : stands frames replies
  pub texts : EachAfter R [] [] frames replies
  pub out : Appends old.sinks.out.written new.sinks.out.written (out_text replies)
  pub err : Appends old.sinks.err.written new.sinks.err.written (err_text replies)
  pub refused : any ≡ any_refused replies
  pub passed : unflushed ≡ false → IsQuiet replies ⊎ IsFlushed new.sinks

Consumes-trans : (a b c : Option (List ℕ)) (xs ys : List ℕ) → Consumes a b xs → Consumes b c ys → Consumes a c (xs ++ ys)
Consumes-trans None b c xs ys p q = tt
Consumes-trans (Some as') None c xs ys p q = absurd p
Consumes-trans (Some as') (Some bs) None xs ys p q = absurd q
Consumes-trans (Some as') (Some bs) (Some cs) xs ys p q = p ∙ ap (λ l. xs ++ l) q ∙ sym (append_assoc xs ys cs)

-- what was consumed is a front of known bytes
consumed_front : (left ahead : Option (List ℕ)) (front : List ℕ) (frames : List Frame) → Consumes left ahead front → AreFrames 0 front frames → IfSome left (λ bytes. BeginsWith bytes frames)
consumed_front None ahead front frames taken each = tt
consumed_front (Some xs) None front frames taken each = absurd taken
consumed_front (Some xs) (Some ys) front frames taken each = (front, ys, taken, each)

-- and with the end of what is ahead it is a capture
consumed_all : (left ahead : Option (List ℕ)) (front : List ℕ) (frames : List Frame) (place : ℕ) (end : Option Damage) → place ≡ length front
    → Consumes left ahead front → AreFrames 0 front frames → IfSome ahead (λ rest. EndsAt place rest end) → IfSome left (λ bytes. IsCapture bytes frames end)
consumed_all None ahead front frames place end at taken each ends = tt
consumed_all (Some xs) None front frames place end at taken each ends = absurd taken
consumed_all (Some xs) (Some ys) front frames place end at taken each ends = record {
  front = front;
  rest = ys;
  whole = taken;
  each = each;
  ends = subst (λ n. EndsAt n ys end) at ends;
}

pub out_push : (replies : List ReplyText) (reply : ReplyText) → out_text replies ++ reply.out ≡ out_text (replies ++ reply ∷ [])
out_push replies reply = flat_map_more (λ (r : ReplyText). r.out) [] replies reply

pub err_push : (replies : List ReplyText) (reply : ReplyText) → err_text replies ++ reply.err ≡ err_text (replies ++ reply ∷ [])
err_push replies reply = flat_map_more (λ (r : ReplyText). r.err) [] replies reply

refused_push : (replies : List ReplyText) (reply : ReplyText) (any refused : Bool) → any ≡ any_refused replies → refused ≡ reply.refused → (any || refused) ≡ any_refused (replies ++ reply ∷ [])
refused_push replies reply any refused so_far same =
    ap (λ b. b || refused) so_far ∙ ap (λ b. any_refused replies || b) (same ∙ sym (or_false reply.refused)) ∙ sym (list_any-append (λ (r : ReplyText). r.refused) replies (reply ∷ []))

-- what was passed on, after one more reply
passed_more : (replies : List ReplyText) (reply : ReplyText) (mid new : Sinks) (unflushed wrote : Bool)
    → (unflushed ≡ false → IsQuiet replies ⊎ IsFlushed mid) → (wrote ≡ false → (reply.out ≡ []) × (reply.err ≡ []) × (new ≡ mid))
    → (unflushed || wrote) ≡ false → IsQuiet (replies ++ reply ∷ []) ⊎ IsFlushed new
passed_more replies reply mid new true wrote before quiet none = absurd (false≢true (sym none))
passed_more replies reply mid new false true before quiet none = absurd (false≢true (sym none))
passed_more replies reply mid new false false before quiet none = by_before (before refl)
  where
    still : (reply.out ≡ []) × (reply.err ≡ []) × (new ≡ mid)
    still = quiet refl

    by_before : IsQuiet replies ⊎ IsFlushed mid → IsQuiet (replies ++ reply ∷ []) ⊎ IsFlushed new
    by_before (inl q) = inl (sym (out_push replies reply) ∙ ap (λ l. l ++ reply.out) q.0 ∙ still.0, sym (err_push replies reply) ∙ ap (λ l. l ++ reply.err) q.1 ∙ still.1)
    by_before (inr flushed) = inr (subst IsFlushed (sym still.2) flushed)

module _ (R : Rule) (old mid : World) where
  -- what is written is passed on, or is to be
  pub progress_settled : {stands : History} {place number : ℕ} {any unflushed still : Bool} {read : Reading} (new : Sinks)
      → Progress R stands old mid place number any unflushed → Settled read unflushed mid.sinks new still
      → Progress R stands old (record mid { sinks = new }) place number any still
  progress_settled {unflushed = unflushed} new p settled = record {
    frames = p.frames;
    replies = p.replies;
    front = p.front;
    taken = p.taken;
    each = p.each;
    at = p.at;
    count = p.count;
    history = p.history;
    texts = p.texts;
    out = Appends-kept _ _ _ _ p.out settled.keeps.out;
    err = Appends-kept _ _ _ _ p.err settled.keeps.err;
    refused = p.refused;
    passed = λ none. by_passed (settled.passed none);
  }
    where
      by_passed : ((unflushed ≡ false) × (new ≡ mid.sinks)) ⊎ IsFlushed new → IsQuiet p.replies ⊎ IsFlushed new
      by_passed (inl same) = by_before (p.passed same.0)
        where
          by_before : IsQuiet p.replies ⊎ IsFlushed mid.sinks → IsQuiet p.replies ⊎ IsFlushed new
          by_before (inl quiet) = inl quiet
          by_before (inr flushed) = inr (subst IsFlushed (sym same.1) flushed)
      by_passed (inr flushed) = inr flushed

  -- the frame that was taken is the frame that was replied to
  same_frame : (read read' : Reading) (left left' : Option (List ℕ)) (takes : TakesFrame read read' left left') (frame : Frame) → Some frame ≡ read'.frame → frame ≡ takes.frame
  same_frame read read' left left' takes frame shown = let both : Some frame ≡ Some takes.frame = shown ∙ takes.shown in cc

  pub progress_more : {stands stands' : History} {read read' : Reading} {world : World} {number : ℕ} {any unflushed : Bool} {handled : Handled}
      → Progress R stands old mid read.handed number any unflushed → TurnsFrame R stands stands' number read read' mid world handled
      → Progress R stands' old world read'.handed (number + 1) (any || handled.refused) (unflushed || handled.wrote)
  progress_more {read = read} {read' = read'} {world = world} {number = number} {any = any} {unflushed = unflushed} {handled = handled} p turn =
      let w = turn.writes in
      let next = w.follows.at p.frames p.replies (sym p.count) p.history in
      let is_frame = subst (λ f. IsFrame turn.takes.front f) (sym (same_frame read read' mid.left world.left turn.takes turn.frame turn.shown)) turn.takes.is_frame in
      record {
        frames = p.frames ++ turn.frame ∷ [];
        replies = p.replies ++ w.reply ∷ [];
        front = p.front ++ turn.takes.front;
        taken = Consumes-trans old.left mid.left world.left p.front turn.takes.front p.taken turn.takes.taken;
        each = are_frames-push 0 p.front turn.takes.front p.frames turn.frame p.each is_frame (let begins = turn.takes.begins in let at = p.at in omega arith);
        at = let handed = turn.takes.handed in let at = p.at in omega (arith, length-append p.front turn.takes.front);
        count = let count = p.count in omega (arith, length-append p.frames (turn.frame ∷ []));
        history = next.1;
        texts = each_after-push R [] [] p.frames p.replies turn.frame w.reply p.texts next.0;
        out = subst (λ l. Appends old.sinks.out.written world.sinks.out.written l) (out_push p.replies w.reply) (Appends-trans _ _ _ _ _ p.out w.out);
        err = subst (λ l. Appends old.sinks.err.written world.sinks.err.written l) (err_push p.replies w.reply) (Appends-trans _ _ _ _ _ p.err w.err);
        refused = refused_push p.replies w.reply any handled.refused p.refused w.same;
        passed = λ none. passed_more p.replies w.reply mid.sinks world.sinks unflushed handled.wrote p.passed w.quiet none;
      }

module _ (R B : Rule) (old mid : World) where
  -- the frames and replies so far, in a run that goes no further
  pub so_far : {stands : History} {place number : ℕ} {any unflushed : Bool} (new : Sinks) → Progress R stands old mid place number any unflushed
      → KeepsBoth mid.sinks new → WritesBegun R B old.left old.sinks new
  so_far new p keeps = record {
    frames = p.frames;
    replies = p.replies;
    begun = None;
    begins = subst (λ l. IfSome old.left (λ bytes. BeginsWith bytes l)) (sym (append-nil p.frames)) (consumed_front old.left mid.left p.front p.frames p.taken p.each);
    texts = p.texts;
    allowed = tt;
    out = front_of_first _ _ _ [] (front_of_all _ _ _ (Appends-kept _ _ _ _ p.out keeps.out));
    err = front_of_first _ _ _ [] (front_of_all _ _ _ (Appends-kept _ _ _ _ p.err keeps.err));
  }

  -- with a frame whose reply is written in part
  one_more : {stands : History} {read read' : Reading} {world : World} {number : ℕ} {any unflushed : Bool}
      → Progress R stands old mid read.handed number any unflushed → TurnsFramePart B stands number read read' mid world
      → WritesBegun R B old.left old.sinks world.sinks
  one_more {read = read} {read' = read'} {world = world} {number = number} p turn =
      let w = turn.writes in
      let is_frame = subst (λ f. IsFrame turn.takes.front f) (sym (same_frame R old mid read read' mid.left world.left turn.takes turn.frame turn.shown)) turn.takes.is_frame in
      record {
        frames = p.frames;
        replies = p.replies;
        begun = Some (record { frame = turn.frame; reply = w.reply });
        begins = consumed_front old.left world.left (p.front ++ turn.takes.front) _ (Consumes-trans old.left mid.left world.left p.front turn.takes.front p.taken turn.takes.taken)
            (are_frames-push 0 p.front turn.takes.front p.frames turn.frame p.each is_frame (let begins = turn.takes.begins in let at = p.at in omega arith));
        texts = p.texts;
        allowed = w.begins.at p.frames p.replies (sym p.count) p.history;
        out = front_more _ _ _ _ _ p.out w.out;
        err = front_more _ _ _ _ _ p.err w.err;
      }

  pub progress_part : {stands : History} {read read' : Reading} {world : World} {number : ℕ} {any unflushed : Bool}
      → Progress R stands old mid read.handed number any unflushed
      → KeepsBoth mid.sinks world.sinks ⊎ TurnsFramePart B stands number read read' mid world
      → WritesBegun R B old.left old.sinks world.sinks
  progress_part {world = world} p (inl keeps) = so_far world.sinks p keeps
  progress_part p (inr turn) = one_more p turn

module _ (R : Rule) (old mid : World) where
  -- all frames of the capture were replied to
  pub progress_all : {stands : History} {read read' : Reading} {world : World} {number : ℕ} {any unflushed : Bool} {end : Option Damage}
      → Progress R stands old mid read.handed number any unflushed → TurnsEnd read read' mid world end
      → TakesAll R stands old.left old.sinks world.sinks (record { refused = any; end = end })
  progress_all {read = read} {end = end} p turn = record {
    frames = p.frames;
    replies = p.replies;
    capture = consumed_all old.left mid.left p.front p.frames read.handed end p.at p.taken p.each turn.comes.ends;
    history = p.history;
    texts = p.texts;
    out = subst (λ s. Appends old.sinks.out.written s.out.written (out_text p.replies)) (sym turn.unwritten) p.out;
    err = subst (λ s. Appends old.sinks.err.written s.err.written (err_text p.replies)) (sym turn.unwritten) p.err;
    refused = p.refused;
  }

-- what is taken in front of bytes that are kept is taken together with them
taken_kept : (left left' : Option (List ℕ)) (ahead : Option (List ℕ)) (front kept : List ℕ) → Consumes left ahead front → Keeps ahead (prepend_known kept left')
    → Consumes left left' (front ++ kept)
taken_kept None left' ahead front kept taken same = tt
taken_kept (Some xs) left' None front kept taken same = absurd taken
taken_kept (Some xs) None (Some ys) front kept taken same = absurd same
taken_kept (Some xs) (Some zs) (Some ys) front kept taken same = taken ∙ ap (λ l. front ++ l) (sym same) ∙ sym (append_assoc front kept zs)

-- the source failed: all frames that are whole in what was taken were handled
progress_stopped : (R : Rule) (old mid : World) {stands : History} {number : ℕ} {any : Bool} {read read' : Reading} (left' : Option (List ℕ)) (faults : ℕ) (new : World)
    → Progress R stands old mid read.handed number any false → TurnsFailing read read' mid new → new.left ≡ ahead read' left'
    → WritesTaken R old (record { left = left'; faults = faults; sinks = new.sinks })
progress_stopped R old mid {read = read} {read' = read'} left' faults new p turn is = record {
  frames = p.frames;
  replies = p.replies;
  front = p.front;
  rest = read'.kept;
  taken = taken_kept old.left left' mid.left p.front read'.kept p.taken (subst (Keeps mid.left) (is ∙ unread) turn.same);
  each = p.each;
  no_more = subst (λ n. IsOpen n read'.kept) (turn.handed ∙ p.at) turn.after.is_open;
  texts = p.texts;
  out = subst (λ s. Appends old.sinks.out.written s.out.written (out_text p.replies)) (sym turn.unwritten) p.out;
  err = subst (λ s. Appends old.sinks.err.written s.err.written (err_text p.replies)) (sym turn.unwritten) p.err;
  passed = by_passed (p.passed refl);
}
  where
    unread : ahead read' left' ≡ prepend_known read'.kept left'
    unread = rw turn.after.unread refl

    by_passed : IsQuiet p.replies ⊎ IsFlushed mid.sinks → IsQuiet p.replies ⊎ IsFlushed new.sinks
    by_passed (inl quiet) = inl quiet
    by_passed (inr flushed) = inr (subst IsFlushed (sym turn.unwritten) flushed)

pub progress_stops : (R : Rule) (old mid : World) {stands : History} {number : ℕ} {any still : Bool} (read read' : Reading) (left' : Option (List ℕ)) (faults : ℕ) (new : World) (why : Stop)
    → Progress R stands old mid read.handed number any still → (IsWaiting read → still ≡ false) → TurnAsks read read' mid new (Err why) → new.left ≡ ahead read' left'
    → StopsBy {T = Ended} R old (record { left = left'; faults = faults; sinks = new.sinks }) (Err why)
progress_stops R old mid {stands = stands} {number = number} {any = any} read read' left' faults new stop.Source p asks turn is =
    progress_stopped R old mid left' faults new (subst (λ b. Progress R stands old mid read.handed number any b) (asks turn.before) p) turn is
progress_stops R old mid read read' left' faults new stop.Sink p asks turn is = tt
progress_stops R old mid read read' left' faults new stop.Memory p asks turn is = tt

-- no count of the sinks changed, and then again none
pub none_failed-trans : (a b c : Sinks) → NoneFailed a b → NoneFailed b c → NoneFailed a c
none_failed-trans a b c p q = record { out = q.out ∙ p.out; err = q.err ∙ p.err }

-- the line of words that aren't understood is written, and then all is passed on
pub leaves_line : (old new : Sinks) (mid : Option (List ℕ)) (returned : Result (Unit {0}) Stop) → Appends old.err.written mid words_line → Keeps mid new.err.written
    → OnOk returned (IsFlushed new) → LeavesLine old new returned
leaves_line old new mid (Ok x) line keeps flushed = (Appends-kept _ _ _ _ line keeps, flushed)
leaves_line old new mid (Err why) line keeps flushed = front_of_all _ _ _ (Appends-kept _ _ _ _ line keeps)
