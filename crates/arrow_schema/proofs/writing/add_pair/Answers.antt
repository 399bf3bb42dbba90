use Rattle.flat_tables.proofs.Standing.{grows_on}
use Rattle.arrow_schema.proofs.Written.{pair_stands, grows_over}
use Rattle.arrow_schema.proofs.writing.add_pair.Goals as goal

pub returns-clause-pair : goal.returns-clause-pair
returns-clause-pair c =
    pair_stands c.add_text.new.self c.add_text-2.new.self c.add_table.new.self c.add_places.new.self c.args.value.now c.in_ok-key.key c.in_ok-value.value c.in_ok-pair.pair c.in_ok-place.place
    c.in_ok-key.ensures.text c.in_ok-value.ensures.grows c.in_ok-value.ensures.text c.in_ok-pair.ensures.grows c.in_ok-pair.ensures.slots c.in_ok-place.ensures.grows c.in_ok-place.ensures.places

pub returns-clause-grows : goal.returns-clause-grows
returns-clause-grows c =
    grows_on c.args.builder.now c.add_text.new.self c.add_places.new.self c.in_ok-key.ensures.grows
    (grows_over c.add_text.new.self c.add_text-2.new.self c.add_table.new.self c.add_places.new.self c.in_ok-value.ensures.grows c.in_ok-pair.ensures.grows c.in_ok-place.ensures.grows)
