use Rattle.std.proofs.Common.{List, ◌∷◌, ◌++◌, [], ap, ◌∙◌, sym, refl, subst, take}
use Rattle.std.specs.Prelude.{All}
use Rattle.std.proofs.lemmas.List.{map-append, take_more}
use Rattle.std.proofs.lemmas.List.Elements.{All-push}
use Rattle.otap_cells.specs.declared.payload.Kind.{Kind}
use Rattle.otap_cells.specs.declared.payload.Kind.TheVariants.{ResourceAttrs}
use Rattle.otap_produce.specs.Senders.{HasSentTables, SenderIn, kinds_in}
use Rattle.otap_produce.proofs.Fresh.{has_sent_none, have_sent_none}
use Rattle.otap_produce.proofs.senders.Senders.new.Goals as goal

pub kinds-preserved : goal.kinds-preserved
kinds-preserved c =
    let senders = c.kinds.senders.items in
    let kinds = c.kinds-kind-items.result.now in
    let pushed = c.in_ok-push.ensures.items in
    record {
      kinds =
          ap kinds_in pushed ∙ map-append (λ (s : SenderIn). s.writer.kind) senders (c.new.result ∷ [])
          ∙ ap (λ (ks : List Kind). ks ++ c.new.result.writer.kind ∷ []) c.kinds.invariant.kinds
          ∙ ap (λ (k : Kind). take c.kinds.kind-index kinds ++ k ∷ []) c.new.ensures.kind ∙ sym (take_more kinds c.kinds.kind-index ResourceAttrs c.kinds-test.true);
      sent = subst (All (HasSentTables [] [])) (sym pushed) (All-push (HasSentTables [] []) senders c.new.result c.kinds.invariant.sent (has_sent_none c.new.result c.new.ensures.wrote));
    }

pub returns-clause-sent : goal.returns-clause-sent
returns-clause-sent c = have_sent_none _ c.kinds.invariant.sent refl
