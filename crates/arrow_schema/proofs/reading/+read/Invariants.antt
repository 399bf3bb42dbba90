use Rattle.std.proofs.Common.{◌≡◌, ◌+◌, ◌-◌, ◌*◌}
use Rattle.arrow_schema.specs.Reading.{field_of, vector_of, fields_from}
use Rattle.arrow_schema.proofs.Loop.{with_front}
use Rattle.arrow_schema.proofs.reading.+read.Given as goal

abbrev pub decreases-read_vector : goal.decreases-read_vector
decreases-read_vector l = 4 * l.depth

abbrev pub decreases-read_slot : goal.decreases-read_slot
decreases-read_slot l = 4 * l.depth + 1

abbrev pub decreases-read_field : goal.decreases-read_field
decreases-read_field l = 4 * l.depth + 2

abbrev pub decreases-read_elements : goal.decreases-read_elements
decreases-read_elements l = 4 * l.depth + 3

-- the fields so far and those that are left to read are all fields
abbrev pub invariant-read_elements-loop-place : goal.invariant-read_elements-loop-place
invariant-read_elements-loop-place l =
    with_front l.fields (fields_from (field_of (vector_of l.depth)) l.vector l.place (l.vector.count - l.place) l.left)
    ≡ fields_from (field_of (vector_of l.depth)) l.vector 0 l.vector.count l.fn.left
