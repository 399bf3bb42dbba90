use Rattle.std.proofs.Common.{refl, sym}
use Rattle.arrow_buffers.specs.Columns.{ended_offsets}
use Rattle.arrow_buffers.proofs.Ending.{bitmap-ends, bitmap-len, no-fault, offsets_len-ended}
use Rattle.arrow_buffers.proofs.Growing.{length-cells_of}
use Rattle.arrow_buffers.proofs.builder.ColumnBuilder.finish.Goals as goal

pub returns-clause-rows : goal.returns-clause-rows
returns-clause-rows c =
    let b = c.self.inside in
    rw (← c.self.view_is) (sym (length-cells_of b.width b.validity.items (ended_offsets b.width b.offsets.items b.values.items) b.values.items b.rows))

pub returns-clause-reads : goal.returns-clause-reads
returns-clause-reads c =
    rw (← c.self.view_is, c.in_ok-offsets.ensures, c.as_slice.ensures.value) refl

pub returns-clause-bitmap : goal.returns-clause-bitmap
returns-clause-bitmap c =
    let b = c.self.inside in
    bitmap-ends b.width b.rows b.nulls b.validity.items b.offsets.items b.values.items c.self.invariant

pub returns-clause-validity_len : goal.returns-clause-validity_len
returns-clause-validity_len c =
    let b = c.self.inside in
    bitmap-len b.nulls b.rows b.validity.items c.self.invariant.flags

pub returns-clause-no_fault : goal.returns-clause-no_fault
returns-clause-no_fault c =
    let b = c.self.inside in
    let none = no-fault b.width b.rows b.offsets.items b.values.items c.self.invariant.stored in
    rw (← c.self.view_is, c.in_ok-offsets.ensures, c.as_slice.ensures.value) none

pub returns-clause-offsets_len : goal.returns-clause-offsets_len
returns-clause-offsets_len c =
    let b = c.self.inside in
    let len = offsets_len-ended b.width b.rows b.offsets.items b.values.items c.self.invariant.stored in
    rw (← c.self.view_is, c.in_ok-offsets.ensures, c.as_slice.ensures.value) len
