use Rattle.std.proofs.Common.{arith}
use Rattle.cbor_values.proofs.WrittenForm.{array_begun, map_begun, length_array, length_map}
use Rattle.cbor_values.proofs.writing.+put.Goals as goal

pub put_members-loop-member-init : goal.put_members-loop-member-init
put_members-loop-member-init t c = record {
  items = array_begun c.args.to.now.items c.put_head.new.to.items c.args.members.now c.put_head.ensures.items;
  len = omega (arith, c.put_head.ensures.len, length_array c.args.members.now);
  capacity = c.put_head.ensures.capacity;
}

pub put_pairs-loop-pair-init : goal.put_pairs-loop-pair-init
put_pairs-loop-pair-init t c = record {
  items = map_begun c.args.to.now.items c.put_head.new.to.items c.args.pairs.now c.put_head.ensures.items;
  len = omega (arith, c.put_head.ensures.len, length_map c.args.pairs.now);
  capacity = c.put_head.ensures.capacity;
}
