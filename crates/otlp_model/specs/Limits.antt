-- How large the requests may be that are taken, and what their parts weigh beside their texts and byte strings.
use Rattle.std.specs.Prelude.{ℕ, ◌^◌}

-- how many main items: spans, log records or metrics
abbrev pub item_limit : ℕ
item_limit = 1048576

abbrev pub weight_limit : ℕ
weight_limit = 2 ^ 26

-- counts, weights and depths are returned up to this number
abbrev pub count_cap : ℕ
count_cap = 2 ^ 63

-- how deep a value
abbrev pub depth_limit : ℕ
depth_limit = 32

-- a part: a group, an item, an event, a link, a point, an exemplar, a pair, or a member of an array or a key-value list
abbrev pub part_weight : ℕ
part_weight = 32

-- a bucket count or a bound
abbrev pub number_weight : ℕ
number_weight = 8

abbrev pub quantile_weight : ℕ
quantile_weight = 16
