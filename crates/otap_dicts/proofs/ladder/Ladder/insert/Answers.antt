use Rattle.std.proofs.Common.{◌≡◌, ℕ, false, Some, position, ◌++◌, ◌∷◌, [], length, map, true≢false, bytes_eq, sym, ap, ◌∙◌, length-append, arith}
use Rattle.std.specs.List.{list_any}
use Rattle.std.proofs.lemmas.List.Sums.{sum_by_push}
use Rattle.otap_dicts.specs.Forms.{byte_count}
use Rattle.otap_dicts.specs.Ladders.{LadderIn}
use Rattle.otap_dicts.specs.Inside.{ladder_in}
use Rattle.otap_dicts.proofs.Found.{last_place}
use Rattle.otap_dicts.proofs.Keyed.{inserted, in-form}
use Rattle.otap_dicts.proofs.ladder.Ladder.insert.Goals as goal

keys : (c : goal.After-self-1) → map (λ key. key.bytes.items) c.insert.new.self.keys ≡ (ladder_in c.self.inside).values ++ c.args.value.now ∷ []
keys c =
    inserted (λ key. key.bytes.items) c.self.inside.values.keys c.insert.new.self.keys (record { bytes = c.in_ok-bytes.bytes }) c.args.value.now c.in_ok-bytes.ensures.items
    (ap (λ (l : LadderIn). list_any (bytes_eq c.args.value.now) l.values) c.self.view_is ∙ c.requires.new) c.in_ok-insert.ensures.keys

pub returns-clause-ok : goal.returns-clause-ok
returns-clause-ok c =
    rw (← c.self.view_is) (in-form (ladder_in c.self.inside) c.args.form c.args.value.now (map (λ key. key.bytes.items) c.insert.new.self.keys) c.requires.dictionary (keys c))

pub invariant_of-self-2 : goal.invariant_of-self-2
invariant_of-self-2 c =
    let old = (ladder_in c.self.inside).values in
    let more = ap byte_count (keys c) ∙ sum_by_push length old c.args.value.now in
    let one_more = ap length (keys c) ∙ length-append old (c.args.value.now ∷ []) in
    record {
      counted = omega (arith, c.self.invariant.counted, more);
      small = omega (arith, c.self.invariant.counted, ap (λ (l : LadderIn). byte_count l.values) c.self.view_is, c.requires.small);
      few = omega (arith, one_more, ap (λ (l : LadderIn). length l.values) c.self.view_is, c.requires.few);
      marked = λ not_marked. absurd (true≢false (sym (ap (λ (l : LadderIn). l.dictionary) c.self.view_is ∙ c.requires.marked) ∙ not_marked));
      none = λ not_dictionary. absurd (true≢false (sym c.requires.dictionary ∙ not_dictionary));
    }

pub returns-clause-place : goal.returns-clause-place
returns-clause-place c =
    let old = (ladder_in c.self.inside).values in
    let none : list_any (bytes_eq c.args.value.now) old ≡ false = ap (λ (l : LadderIn). list_any (bytes_eq c.args.value.now) l.values) c.self.view_is ∙ c.requires.new in
    ap (λ (n : ℕ). Some n) (c.count-place.ensures ∙ sym (ap (λ (l : LadderIn). length l.values) c.self.view_is))
    ∙ sym (ap (position (bytes_eq c.args.value.now)) (keys c) ∙ last_place old c.args.value.now none)
