-- Senders that sent nothing.
use Rattle.std.proofs.Common.{◌≡◌, ◌⊎◌, inl, inr, ℕ, ◌+◌, ◌<◌, false, List, [], length, get_or, set, sym, ap, ◌∙◌, subst, arith}
use Rattle.std.specs.Prelude.{All}
use Rattle.std.proofs.lemmas.Bool.{cases_eq, false≢true}
use Rattle.std.proofs.lemmas.List.{get_or-set_same, get_or-set_other}
use Rattle.otap_cells.specs.declared.payload.Kind.{Kind}
use Rattle.otap_columns.specs.Writers.{HasWritten}
use Rattle.otap_produce.specs.Senders.{HasSentTables, HaveSent, SenderIn, SendersIn}
use Rattle.otap_produce.proofs.Counting.{openings-none}
use Rattle.otap_produce.proofs.Stepping.{last_none}
use Rattle.otap_columns.proofs.Openings.{open_id-none}

pub has_sent_none : (s : SenderIn) → HasWritten [] s.writer → HasSentTables [] [] s
has_sent_none s wrote = record {
  written = wrote;
  last = open_id-none _ ∙ sym (last_none s wrote.begun);
  before = λ started. absurd (false≢true (sym wrote.begun ∙ started));
}

pub have_sent_none : (s : SendersIn) → All (HasSentTables [] []) s.senders → s.openings ≡ 0 → HaveSent [] [] s
have_sent_none s each count = record { each = each; openings = count ∙ sym openings-none }

-- senders that begin anew one after the other
pub anew_at : (senders : List SenderIn) (place : ℕ) (s : SenderIn) → place < length senders → ((k : ℕ) (d : SenderIn) → k < place → HasSentTables [] [] (get_or senders k d)) → HasSentTables [] [] s
    → (k : ℕ) (d : SenderIn) → k < place + 1 → HasSentTables [] [] (get_or (set senders place s) k d)
anew_at senders place s inside before here k d low = go (cases_eq k place)
  where
    go : (k ≡ place) ⊎ (k ≡ place → ⊥) → HasSentTables [] [] (get_or (set senders place s) k d)
    go (inl is) = subst (HasSentTables [] []) (sym (ap (λ n. get_or (set senders place s) n d) is ∙ get_or-set_same senders place s d inside)) here
    go (inr other) = subst (HasSentTables [] []) (sym (get_or-set_other senders place k s d other)) (before k d (omega (arith, low, other)))

-- a sender of a kind
pub some_sender : Kind → SenderIn
some_sender kind = record { writer = record { kind = kind; started = false; columns = []; broken = false }; last = 0 }
