-- How deep the values of a request may be, how long the written requests, and how heavy those that are read.
use Rattle.std.specs.Prelude.{ℕ, ◌-◌, ◌*◌}
use Rattle.otlp_model.specs.Limits.{depth_limit, weight_limit}

-- how many levels of members may be below a value that is in no array and no key-value list
abbrev pub level_limit : ℕ
level_limit = depth_limit - 1

-- the most bytes that a unit of weight is written in
abbrev pub bytes_for_unit : ℕ
bytes_for_unit = 8

-- the most that a byte of what is read adds to its weight
abbrev pub weight_for_byte : ℕ
weight_for_byte = 16

-- a request that weighs at most weight_limit is written in at most this number of bytes
abbrev pub longest_request : ℕ
longest_request = bytes_for_unit * weight_limit
