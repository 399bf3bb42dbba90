-- The sizes of the load.
use Rattle.std.specs.Prelude.{ℕ}

-- how many items a request has
abbrev pub items_each : ℕ
items_each = 8192

-- how many groups the items of a request are in
abbrev pub groups_each : ℕ
groups_each = 3

-- how many pairs an item has
abbrev pub pairs_each : ℕ
pairs_each = 12

-- how many requests there are
abbrev pub requests_at_most : ℕ
requests_at_most = 1000
