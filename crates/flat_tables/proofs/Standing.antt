-- What holds at an offset of a builder still holds later.
use Rattle.std.proofs.Common.{◌≡◌, ℕ, ◌-◌, List, [], ◌++◌, length, sym, ap, ◌∙◌, subst, append_assoc, length-append, arith}
use Rattle.flat_tables.specs.Building.{Grows, StaysAt}

-- also after something was put in front
pub stands_on : (P : List ℕ → ℕ → Type 0) (old new : List ℕ) (place : ℕ) → Grows old new → StaysAt P old place → StaysAt P new place
stands_on P old new place g s = record {
  inside = omega (arith, ap length g.whole, length-append g.more old, s.inside);
  always = λ front.
      let whole : front ++ new ≡ (front ++ g.more) ++ old = ap (λ (end : List ℕ). front ++ end) g.whole ∙ sym (append_assoc front g.more old) in
      subst (λ (bytes : List ℕ). P bytes (length bytes - place)) (sym whole) (s.always (front ++ g.more));
}

-- in the bytes themselves
pub stands_here : (P : List ℕ → ℕ → Type 0) (bytes : List ℕ) (place : ℕ) → StaysAt P bytes place → P bytes (length bytes - place)
stands_here P bytes place s = s.always []

pub grows_on : (a b c : List ℕ) → Grows a b → Grows b c → Grows a c
grows_on a b c g h = record {
  more = h.more ++ g.more;
  whole = h.whole ∙ ap (λ (end : List ℕ). h.more ++ end) g.whole ∙ sym (append_assoc h.more g.more a);
}

-- and in those that they end
pub stands_later : (P : List ℕ → ℕ → Type 0) (old new : List ℕ) (place : ℕ) → Grows old new → StaysAt P old place → P new (length new - place)
stands_later P old new place g s = stands_here P new place (stands_on P old new place g s)
