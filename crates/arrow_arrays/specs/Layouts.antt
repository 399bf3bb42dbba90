-- How the values of a field are stored (Arrow columnar format, "Physical memory layout").
use Rattle.std.specs.Prelude.{◌≡◌, ℕ, ◌/◌, ◌%◌, ⊤, if◌then◌else◌, List, [], length, Option, None, Some, IsUtf8}
use Rattle.arrow_schema.specs.declared.spec.ArrowType.{ArrowType}
use Rattle.arrow_schema.specs.declared.spec.ArrowType.TheVariants as kind
use Rattle.arrow_schema.specs.declared.spec.DictSpec.{DictSpec}
use Rattle.arrow_buffers.specs.declared.width.Width.TheVariants.{Bit}
use Rattle.arrow_buffers.specs.Columns.{HasWidth}
use Rattle.arrow_arrays.specs.declared.layout.Layout.{Layout}
use Rattle.arrow_arrays.specs.declared.layout.Layout.TheVariants.{Struct, Bits, Fixed, Binary, Text}
use Rattle.arrow_arrays.specs.declared.layout.Layout.TheVariants as layout

-- the bytes of an element: lists hold numbers of 64 bits
abbrev pub element_len : ℕ
element_len = 8

-- values of a type
abbrev pub layout_of_values : ArrowType → Layout
layout_of_values kind.Bool = Bits
layout_of_values (kind.Int bits signed) = Fixed (bits / 8)
layout_of_values kind.Double = Fixed 8
layout_of_values kind.Utf8 = Text
layout_of_values kind.Binary = Binary
layout_of_values (kind.Fixed width) = Fixed width
layout_of_values kind.Timestamp = Fixed 8
layout_of_values kind.Duration = Fixed 8
layout_of_values kind.Struct = Struct
layout_of_values kind.List = layout.List

-- a field: with a dictionary it holds indexes of one byte or two
abbrev pub layout_of : ArrowType → Option DictSpec → Layout
layout_of kind None = layout_of_values kind
layout_of kind (Some dict) = Fixed (if dict.wide then 2 else 1)

-- the buffers of an array without those of its children: validity, then values, or offsets and values, or offsets alone
abbrev pub own_buffers : Layout → ℕ
own_buffers Struct = 1
own_buffers Bits = 2
own_buffers (Fixed width) = 2
own_buffers Binary = 3
own_buffers Text = 3
own_buffers layout.List = 2

-- the bytes of a cell that isn't null: a bit is one byte, 0 or 1, a struct has none, and a list has its elements
abbrev pub FitsLayout : Layout → List ℕ → Type 0
FitsLayout Struct value = value ≡ []
FitsLayout Bits value = HasWidth Bit value
FitsLayout (Fixed width) value = length value ≡ width
FitsLayout Binary value = ⊤
FitsLayout Text value = IsUtf8 value
FitsLayout layout.List value = length value % element_len ≡ 0
