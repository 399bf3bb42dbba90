-- Words of private contracts: how far the numbers of items go.
use Rattle.std.specs.Prelude.{ℕ, ◌*◌}
use Rattle.otlp_load.specs.Load.{items_each, requests_at_most}

-- the number of each item is below this
abbrev pub numbers_end : ℕ
numbers_end = items_each * requests_at_most
