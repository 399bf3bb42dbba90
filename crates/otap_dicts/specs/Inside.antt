-- What a ladder keeps.
use Rattle.std.specs.Prelude.{◌≡◌, ◌≤◌, false, [], length, map}
use Rattle.otap_dicts.specs.declared.ladder.Ladder.TheInside as ladder
use Rattle.otap_dicts.specs.Forms.{byte_count}
use Rattle.otap_dicts.specs.Ladders.{LadderIn, is_dictionary}
use Rattle.otap_dicts.specs.Limits.{value_limit, byte_limit}

abbrev pub ladder_in : ladder.Inside → LadderIn
ladder_in l = record { dictionary = l.dictionary; form = l.form; values = map (λ key. key.bytes.items) l.values.keys }

pub record IsLadderInside (l : ladder.Inside) : Type 0 where
  pub counted : l.bytes ≡ byte_count (ladder_in l).values
  pub small : l.bytes ≤ byte_limit
  pub few : length (ladder_in l).values ≤ value_limit
  pub marked : l.dictionary ≡ false → is_dictionary l.form ≡ false
  pub none : is_dictionary l.form ≡ false → l.values.keys ≡ []
