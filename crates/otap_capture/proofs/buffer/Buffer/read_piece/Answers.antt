use Rattle.std.proofs.Common.{rules}
use Rattle.std.proofs.lemmas.List.{with_items_is, places}
use Rattle.otap_capture.proofs.Buffers.{gives_piece}
use Rattle.otap_capture.proofs.buffer.Buffer.read_piece.Goals as goal

pub returns-clause-piece : goal.returns-clause-piece
returns-clause-piece g c =
    gives_piece c.args.self.now c.make_room.new.self _ c.read_behind.new.bytes c.in-Ok.count _ _ c.requires c.in_ok-make_room.ensures.places
    (with_items_is c.make_room.new.self.bytes c.read_behind.new.bytes (search (rules, places))) (search rules) c.in-Ok.ensures.reads
