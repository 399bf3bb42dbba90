use Rattle.std.proofs.Common.{◌≡◌, ℕ, ◌+◌, ◌-◌, ◌/◌, ◌≤◌, ◌++◌, List, length, vec_len, take, replicate, if◌then◌else◌, Result, Ok, Err, is_ok, OnOk, refl, ◌∙◌, arith}
use Rattle.std.proofs.lemmas.List.{take_all}
use Rattle.std.proofs.lemmas.Result.{on_ok_weaker}
use Rattle.arrow_buffers.proofs.Flagging.{zeros-after}
use Rattle.arrow_buffers.proofs.packing.push_zeros.Goals as goal

-- what only makes a list longer
longer : {E : Type 0} (r : Result (Unit {0}) E) (n len want : ℕ) (old new : List ℕ) → n ≡ want → len ≡ length old → length old ≤ want
    → new ≡ (if is_ok r then take n old ++ replicate (n - len) 0 else old) → OnOk r (new ≡ old ++ replicate (want - length old) 0)
longer (Ok x) n len want old new same count more made =
    let all : take n old ≡ old = take_all n old (omega arith) in
    let rest : n - len ≡ want - length old = omega arith in
    made ∙ rw (all, rest) refl
longer (Err e) n len want old new same count more made = tt

pub returns-clause-ok : goal.returns-clause-ok
returns-clause-ok c =
    let old = c.args.bytes.now.items in
    let was = c.requires.packed.len in
    let zeros = zeros-after c.args.count c.args.all old c.requires.packed c.requires.more in
    let len : c.div_ceil.result ≡ (c.args.all + 7) / 8 = grind (arith, c.div_ceil.ensures) in
    let made = longer c.resize.result c.div_ceil.result (vec_len c.args.bytes.now) ((c.args.all + 7) / 8) old c.resize.new.self.items len (omega arith) (omega arith) c.resize.ensures.items in
    on_ok_weaker c.resize.result (λ (is : c.resize.new.self.items ≡ old ++ replicate ((c.args.all + 7) / 8 - length old) 0). rw is zeros) made
