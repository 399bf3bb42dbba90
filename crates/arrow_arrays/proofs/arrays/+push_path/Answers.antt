use Rattle.std.proofs.Common.{◌≡◌, ◌++◌, ◌-◌, [], List, ℕ, map, sym, ap, ◌∙◌, Bor, arith}
use Rattle.std.proofs.lemmas.List.{append-nil}
use Rattle.arrow_arrays.specs.declared.spec.Above.{Above}
use Rattle.arrow_arrays.specs.Arrays.{path_below, path_within}
use Rattle.arrow_arrays.proofs.Walking.{path_step, path_pushed}
use Rattle.arrow_arrays.proofs.arrays.+push_path.Goals as goal
use Rattle.arrow_arrays.proofs.arrays.+push_path.Goals.{in-Top, in-Struct+in_ok-push_path-in-Struct}

pub returns : goal.returns
returns t c =
    let a = c.in-Some.array.now in
    let arrays = c.args.arrays.now in
    let view : Bor (List ℕ) → List ℕ = λ name. name.now in
    let before = map view c.args.path.now.items in
    let up : ℕ → List (List ℕ) = path_within (c.args.depth - 1) arrays in
    let whole = path_within c.args.depth arrays c.args.place in
    let middle = c.match-array.path.items in
    let step : path_below up a.above a.name ≡ whole = path_step c.args.depth arrays c.args.place a (omega arith) c.in-Some.ensures in
    elim c.match-array.branch [
      | in-Top w ↦
          let mid : map view middle ≡ before ++ [] = rw w.path-is (sym (append-nil before)) in
          path_pushed view middle c.push.new.self.items c.as_slice.result before [] whole a.name c.in_ok-push.ensures.items c.as_slice.ensures.value mid
          (ap (λ (b : Above). path_below up b a.name) (sym w.in-Top.is) ∙ step)
      | in-Struct+in_ok-push_path-in-Struct w ↦
          let p = w.in-Struct.above in
          let mid : map view middle ≡ before ++ up p = rw w.path-is w.in_ok-push_path-in-Struct.ensures in
          path_pushed view middle c.push.new.self.items c.as_slice.result before (up p) whole a.name c.in_ok-push.ensures.items c.as_slice.ensures.value mid
          (ap (λ (b : Above). path_below up b a.name) (sym w.in-Struct.is) ∙ step)
    ]
