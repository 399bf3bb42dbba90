use Rattle.std.proofs.Common.{◌<◌, ◌^◌, ℕ, List, length, min, map, ap, sym, ◌∙◌, arith}
use Rattle.otlp_messages.specs.Canon.{canon_row, many_row}
use Rattle.otlp_model.specs.declared.value.Value.{Value}
use Rattle.otlp_model.specs.declared.value.Pair.{Pair}
use Rattle.otlp_codec.specs.Canonical.{canon_value, canon_pair}
use Rattle.otlp_codec.proofs.ValueLaw.{canon_map}
use Rattle.otlp_codec.proofs.ValueBounds.{one_row}
use Rattle.otlp_codec.proofs.Lens.{more_len, closed_len}
use Rattle.otlp_codec.proofs.lengths.+lengths.Goals as goal

pub len_members-loop-member-preserved : goal.len_members-loop-member-preserved
len_members-loop-member-preserved t c =
    let small : c.loop-member.member-index < length c.args.members.now = omega arith in
    record {
      sum = more_len 1 canon_value c.args.members.now c.loop-member.member-index c.member-item.result c.loop-member.total c.len_value.result c.len_part.result c.add_capped-total.result _
          small c.member-item.is c.loop-member.invariant.capped c.loop-member.invariant.sum c.len_value.ensures c.len_part.ensures c.add_capped-total.ensures;
      capped = omega (arith, c.add_capped-total.ensures);
    }

pub len_pairs-loop-pair-preserved : goal.len_pairs-loop-pair-preserved
len_pairs-loop-pair-preserved t c =
    let small : c.loop-pair.pair-index < length c.args.pairs.now = omega arith in
    record {
      sum = more_len c.args.number canon_pair c.args.pairs.now c.loop-pair.pair-index c.pair-item.result c.loop-pair.total c.len_pair.result c.len_part.result c.add_capped-total.result _
          small c.pair-item.is c.loop-pair.invariant.capped c.loop-pair.invariant.sum c.len_pair.ensures c.len_part.ensures c.add_capped-total.ensures;
      capped = omega (arith, c.add_capped-total.ensures);
    }

pub len_array-returns : goal.len_array-returns
len_array-returns t c =
    closed_len 5 _ c.len_members.result _
    (c.len_members.ensures ∙ ap (λ (xs : List Value). min (length (canon_row 1 (many_row (map canon_value xs)))) (2 ^ 63)) c.as_slice.ensures) c.len_part.ensures

pub len_map-returns : goal.len_map-returns
len_map-returns t c =
    closed_len 6 _ c.len_pairs.result _
    (c.len_pairs.ensures ∙ ap (λ (xs : List Pair). min (length (canon_row 1 (many_row (map canon_pair xs)))) (2 ^ 63)) c.as_slice.ensures) c.len_part.ensures

pub len_value-returns-in-Map : goal.len_value-returns-in-Map
len_value-returns-in-Map t c =
    rw c.in-Map.is (c.len_map.ensures ∙ ap (λ (k : ℕ). min k (2 ^ 63)) (sym (ap length (canon_map c.in-Map.pairs) ∙ one_row _)))
