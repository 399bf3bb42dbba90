use Rattle.std.proofs.Common.{◌≡◌, ◌+◌, ◌≤◌, ◌++◌, length, drop, vec_len}
use Rattle.std.specs.Prelude.{vec_capacity}
use Rattle.otlp_model.specs.declared.value.Value as values
use Rattle.cbor_values.specs.Written.{cbor_of, all_of}
use Rattle.cbor_values.specs.Lengths.{cbor_of_pair, lengths}
use Rattle.cbor_values.proofs.writing.+put.Given as goal

abbrev pub invariant-put_members-loop-member : goal.invariant-put_members-loop-member
invariant-put_members-loop-member l = record {
  items : l.to.items ++ all_of cbor_of (drop l.member-index l.members) ≡ l.fn.to.items ++ cbor_of (values.Array l.members);
  len : vec_len l.to + lengths cbor_of (drop l.member-index l.members) ≡ vec_len l.fn.to + length (cbor_of (values.Array l.members));
  capacity : vec_capacity l.fn.to ≤ vec_capacity l.to;
}

abbrev pub invariant-put_pairs-loop-pair : goal.invariant-put_pairs-loop-pair
invariant-put_pairs-loop-pair l = record {
  items : l.to.items ++ all_of cbor_of_pair (drop l.pair-index l.pairs) ≡ l.fn.to.items ++ cbor_of (values.Map l.pairs);
  len : vec_len l.to + lengths cbor_of_pair (drop l.pair-index l.pairs) ≡ vec_len l.fn.to + length (cbor_of (values.Map l.pairs));
  capacity : vec_capacity l.fn.to ≤ vec_capacity l.to;
}
