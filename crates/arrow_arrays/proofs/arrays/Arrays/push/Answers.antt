use Rattle.std.proofs.Common.{◌≡◌, ◌∙◌, ap, arith}
use Rattle.arrow_schema.specs.Trees.{kind_in, dict_in}
use Rattle.arrow_arrays.specs.Layouts.{layout_of, own_buffers}
use Rattle.arrow_arrays.proofs.Walking.{few_more}
use Rattle.arrow_arrays.proofs.arrays.Arrays.push.Goals as goal

pub overflow_add-self : goal.overflow_add-self
overflow_add-self c =
    let f = c.args.field.now in
    let own : c.own_buffers.result ≡ own_buffers (layout_of (kind_in f) (dict_in f)) = c.own_buffers.ensures ∙ ap own_buffers c.of.ensures in
    omega (arith, own, few_more c.self.inside.arrays.items (kind_in f) (dict_in f))
