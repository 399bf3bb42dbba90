use Rattle.std.proofs.Common.{◌≡◌, ℕ, ◌-◌, ◌/◌, ◌++◌, Bool, true, is_ok, length, vec_len, List, [], take, replicate, if◌then◌else◌, refl, sym, ap, ◌∙◌, arith}
use Rattle.std.proofs.lemmas.List.{take_all}
use Rattle.arrow_buffers.proofs.Flagging.{AreOnes, ones-whole, ones-part, rest-byte}
use Rattle.arrow_buffers.proofs.packing.fill_ones.Goals as goal

-- what fills a list without items
filled : (ok : Bool) (n len : ℕ) (old new : List ℕ) → ok ≡ true → len ≡ 0 → old ≡ [] → new ≡ (if ok then take n old ++ replicate (n - len) 255 else old) → new ≡ replicate n 255
filled ok n len old new is none empty made =
    let all : n - len ≡ n = omega arith in
    let cut : take n old ≡ [] = rw empty (take_all {A = ℕ} n [] (omega arith)) in
    made ∙ rw (is, cut, all) refl

whole : (c : goal.Else-rest-ne0) → AreOnes c.args.count c.resize-filled.new.self.items
whole c =
    let is = filled (is_ok c.resize-filled.result) (c.args.count / 8) (vec_len c.args.bytes.now) c.args.bytes.now.items c.resize-filled.new.self.items
    (sym c.is_ok.ensures.value ∙ c.if-prove.false) (omega (arith, ap length c.requires.none)) c.requires.none c.resize-filled.ensures.items in
    rw is (ones-whole c.args.count c.if-rest-ne0.false)

part : (c : goal.After-push_reserved) → AreOnes c.args.count c.push_reserved.new.self.items
part c =
    let is = filled (is_ok c.resize-filled.result) (c.args.count / 8) (vec_len c.args.bytes.now) c.args.bytes.now.items c.resize-filled.new.self.items
    (sym c.is_ok.ensures.value ∙ c.if-prove.false) (omega (arith, ap length c.requires.none)) c.requires.none c.resize-filled.ensures.items in
    rw (c.push_reserved.ensures.items, is, rest-byte c.args.count) (ones-part c.args.count c.if-rest-ne0.true)

pub returns-then-rest-ne0-clause-packed : goal.returns-then-rest-ne0-clause-packed
returns-then-rest-ne0-clause-packed c = (part c).packed

pub returns-then-rest-ne0-clause-ones : goal.returns-then-rest-ne0-clause-ones
returns-then-rest-ne0-clause-ones c = (part c).ones

pub returns-else-rest-ne0-clause-packed : goal.returns-else-rest-ne0-clause-packed
returns-else-rest-ne0-clause-packed c = (whole c).packed

pub returns-else-rest-ne0-clause-ones : goal.returns-else-rest-ne0-clause-ones
returns-else-rest-ne0-clause-ones c = (whole c).ones
