use Rattle.std.proofs.Common.{◌≡◌, ◌<◌, ◌≤◌, length, map, List, Option, ℕ, sym, ◌∙◌, ap, subst, rules, arith}
use Rattle.std.proofs.lemmas.List.{length-map}
use Rattle.otap_groups.specs.declared.entry.ChildEntry.{ChildEntry}
use Rattle.otap_groups.specs.Rows.{MainRow, row_at}
use Rattle.otap_groups.specs.Inside.{ArePlacesBelow, DifferAt, cells_by, clash_at, id_by}
use Rattle.otap_groups.proofs.Differing.{agreeing_first, agreeing_more, no_, yes_}
use Rattle.otap_groups.proofs.FrontRows.{whole}
use Rattle.otap_groups.proofs.front.FrontColumns.differ.Goals as goal

pub entries-init : goal.entries-init
entries-init g c = record {
  some = omega arith;
  agree = agreeing_first (id_by c.args.level) (cells_by c.args.level) (row_at c.args.self.now) c.in_ok-entries.entries.items;
}

pub clash-requires-clause-below : goal.clash-requires-clause-below
clash-requires-clause-below g c =
    let front = c.args.self.now in
    let long : length c.deref.result.now ≡ length front =
    ap (λ (xs : List (Option ℕ)). length xs) (c.deref.ensures.value ∙ c.in_ok-ids.ensures) ∙ length-map front (id_by c.args.level) in
    subst (λ (es : List ChildEntry). ArePlacesBelow (length front) es) (sym c.deref-in-entries.ensures.value)
    (subst (λ n. ArePlacesBelow n c.in_ok-entries.entries.items) long c.in_ok-entries.ensures.below)

pub entries-preserved : goal.entries-preserved
entries-preserved g c =
    let front = c.args.self.now in
    let within : c.entries.place < length c.in_ok-entries.entries.items = search rules in
    let free = ap (λ (es : List ChildEntry). clash_at c.args.level front es c.entries.place) (sym c.deref-in-entries.ensures.value)
    ∙ sym c.clash.ensures ∙ c.if-clash.false in
    record {
      some = omega arith;
      agree = agreeing_more (id_by c.args.level) (cells_by c.args.level) (row_at front) c.in_ok-entries.entries.items c.entries.place
          c.in_ok-entries.ensures.rising c.entries.invariant.some within free c.entries.invariant.agree;
    }

pub returns-then-clash-clause-yes : goal.returns-then-clash-clause-yes
returns-then-clash-clause-yes g c _ =
    let front = c.args.self.now in
    let within : c.entries.place < length c.in_ok-entries.entries.items = search rules in
    let ids : c.deref.result.now ≡ map (id_by c.args.level) front = c.deref.ensures.value ∙ c.in_ok-ids.ensures in
    let long : length c.deref.result.now ≡ length front = ap (λ (xs : List (Option ℕ)). length xs) ids ∙ length-map front (id_by c.args.level) in
    subst (λ (rows : List MainRow). DifferAt c.args.level rows) (whole front)
    (yes_ (id_by c.args.level) (cells_by c.args.level) (row_at front) (length front) c.entries.place c.deref.result.now
    c.in_ok-entries.entries.items (ids ∙ ap (λ (rows : List MainRow). map (id_by c.args.level) rows) (sym (whole front)))
    c.entries.invariant.some within (subst (λ n. ArePlacesBelow n c.in_ok-entries.entries.items) long c.in_ok-entries.ensures.below)
    c.in_ok-entries.ensures.named
    (ap (λ (es : List ChildEntry). clash_at c.args.level front es c.entries.place) (sym c.deref-in-entries.ensures.value)
    ∙ sym c.clash.ensures ∙ c.if-clash.true))

pub returns-clause-no : goal.returns-clause-no
returns-clause-no g c _ h =
    let front = c.args.self.now in
    let over : length c.in_ok-entries.entries.items ≤ c.entries.place = search rules in
    let ids : c.deref.result.now ≡ map (id_by c.args.level) front = c.deref.ensures.value ∙ c.in_ok-ids.ensures in
    no_ (id_by c.args.level) (cells_by c.args.level) (row_at front) (length front) c.deref.result.now c.in_ok-entries.entries.items
    (ids ∙ ap (λ (rows : List MainRow). map (id_by c.args.level) rows) (sym (whole front))) c.in_ok-entries.ensures.same
    (λ i j d low within same. c.entries.invariant.agree i j d low (omega arith) same)
    (subst (λ (rows : List MainRow). DifferAt c.args.level rows) (sym (whole front)) h)
