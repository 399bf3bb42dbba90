-- The places of the columns that definitions name by numbers. A law says that they are those of the columns of these names
-- (`named_columns`), so that no two columns can change places without a refusal.
use Rattle.std.specs.Prelude.{◌≡◌, ℕ, List, codes}
use Rattle.otap_cells.specs.Columns.{ColumnSpec, place_in}

-- main tables: their ids, and the first column of the item itself
abbrev pub main_id : ℕ
main_id = 0

abbrev pub resource_id : ℕ
resource_id = 1

abbrev pub scope_id : ℕ
scope_id = 4

abbrev pub first_of_item : ℕ
first_of_item = 9

-- tables of parts: their ids, and the first column of the part itself
abbrev pub part_id : ℕ
part_id = 0

abbrev pub part_parent : ℕ
part_parent = 1

abbrev pub first_of_part : ℕ
first_of_part = 2

-- tables of attributes: the parent, and the first columns of the pair and of its value
abbrev pub attribute_parent : ℕ
attribute_parent = 0

abbrev pub first_of_pair : ℕ
first_of_pair = 1

abbrev pub first_of_value : ℕ
first_of_value = 2

-- the first column of a record's body
abbrev pub first_of_body : ℕ
first_of_body = 15

-- metrics
abbrev pub metric_type : ℕ
metric_type = 9

abbrev pub metric_temporality : ℕ
metric_temporality = 13

abbrev pub metric_monotonic : ℕ
metric_monotonic = 14

-- the integer of a number point and of an exemplar, right before its double
abbrev pub point_int : ℕ
point_int = 4

abbrev pub exemplar_int : ℕ
exemplar_int = 3

-- the two lists of a point of a summary
abbrev pub summary_quantiles : ℕ
summary_quantiles = 6

abbrev pub summary_values : ℕ
summary_values = 7

-- the columns of that name are at these places
abbrev pub IsAt : List ColumnSpec → List ℕ → ℕ → Type 0
IsAt columns name place = place_in columns name ≡ place

-- those of a main table, of a table of parts and of one of attributes
abbrev pub HasMainPlaces : List ColumnSpec → Type 0
HasMainPlaces columns = IsAt columns (codes "id") main_id × IsAt columns (codes "resource.id") resource_id × IsAt columns (codes "scope.id") scope_id

abbrev pub HasPartPlaces : List ColumnSpec → Type 0
HasPartPlaces columns = IsAt columns (codes "id") part_id × IsAt columns (codes "parent_id") part_parent

abbrev pub HasPairPlaces : List ColumnSpec → Type 0
HasPairPlaces columns = IsAt columns (codes "parent_id") attribute_parent × IsAt columns (codes "key") first_of_pair × IsAt columns (codes "type") first_of_value
