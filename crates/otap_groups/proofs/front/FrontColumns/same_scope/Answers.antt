use Rattle.std.proofs.Common.{◌≡◌, ◌∙◌, true, sym}
use Rattle.otap_groups.specs.Rows.{id_is, row_at}
use Rattle.otap_groups.proofs.Agreement.{other_urls, scopes_agree}
use Rattle.otap_groups.proofs.front.FrontColumns.same_scope.Goals as goal

pub returns-then-not-same_url : goal.returns-then-not-same_url
returns-then-not-same_url g c =
    sym (other_urls (row_at c.args.self.now c.args.a) (row_at c.args.self.now c.args.b) (sym c.same_url.ensures ∙ c.if-not-same_url.true))

pub returns-in-Some : goal.returns-in-Some
returns-in-Some g c =
    let front = c.args.self.now in
    let first = sym c.id_by-id.ensures in
    let second = sym c.id_by.ensures in
    let same : id_is (row_at front c.args.a).scope_id (row_at front c.args.b).scope_id ≡ true =
    (λ i. id_is (first i) (second i)) ∙ sym c.same_id.ensures ∙ c.if-not-same_id.false in
    sym (scopes_agree front c.requires.agree c.args.a c.args.b c.in-Some.field-0 c.requires.a c.requires.b (first ∙ c.in-Some.is) same
    (sym c.same_url.ensures ∙ c.if-not-same_url.false))
