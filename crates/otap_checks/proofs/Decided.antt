-- What is decided of elements of lists and of numbers.
use Rattle.std.proofs.Common.{◌≡◌, ◌∙◌, ℕ, suc, ◌<◌, ◌≤◌, nat_eq, false, List, [], ◌∷◌, Option, Some, None, refl, sym, ap, subst, arith, inl, inr, eq-eqb, ne_eqb}
use Rattle.std.specs.Prelude.{Contains, ◌⊎◌}
use Rattle.std.proofs.lemmas.Bool.{cases_Bool, cases_eq, cases_lt, true≢false}
use Rattle.std.proofs.lemmas.Option.{same_Some}
use Rattle.lists.proofs.Every.{some_or_none}
use Rattle.lists.proofs.Contained.{number_or_not}
use Rattle.otap_cells.specs.Cells.{Cell}
use Rattle.otap_cells.specs.Ids.{Twice, times}
use Rattle.otap_groups.specs.Rows.{MainRow, cells_are}
use Rattle.otap_groups.specs.Disagree.{DifferBy}
use Rattle.otap_attrs.specs.Defects.{OrphanIn}

-- ---- ids

-- a number comes twice
pub twice_or_not : (ids : List (Option ℕ)) → Twice ids ⊎ (Twice ids → ⊥)
twice_or_not [] = inr (λ twice. absurd (omega (arith, twice.1)))
twice_or_not (None ∷ ids) = twice_or_not ids
twice_or_not (Some id ∷ ids) = elim (cases_lt 0 (times id ids)) [
  | inl again ↦ inl (id, rw (eq-eqb id id refl) (omega (arith, again)))
  | inr once ↦ elim (twice_or_not ids) [
    | inl twice ↦ inl (
      twice.0,
      let many = twice.1 in elim (cases_Bool (nat_eq id twice.0)) [
        | inl hit ↦ rw hit (omega (arith, many))
        | inr miss ↦ rw miss many
      ],
    )
    | inr none ↦ inr (λ twice. elim (cases_eq id twice.0) [
      | inl same ↦ let many : 1 < suc (times twice.0 ids) = rw (eq-eqb id twice.0 same) at twice.1 in
          let few : times twice.0 ids ≤ 0 = subst (λ n. times n ids ≤ 0) same once in absurd (omega (arith, many, few))
      | inr differ ↦ none (twice.0, rw (ne_eqb id twice.0 differ) at twice.1)
    ])
  ]
]

-- a parent isn't among ids
abbrev IsLost : List (Option ℕ) → Option ℕ → Type 0
IsLost ids None = ⊥
IsLost ids (Some parent) = Contains ids (Some parent) → ⊥

lost_or_not : (ids : List (Option ℕ)) (x : Option ℕ) → IsLost ids x ⊎ (IsLost ids x → ⊥)
lost_or_not ids None = inr (λ none. none)
lost_or_not ids (Some parent) = elim (number_or_not ids parent) [
  | inl there ↦ inr (λ lost. lost there)
  | inr missing ↦ inl missing
]

orphan_of : (parents ids : List (Option ℕ)) (x : Option ℕ) → Contains parents x → IsLost ids x → OrphanIn parents ids
orphan_of parents ids None at lost = absurd lost
orphan_of parents ids (Some parent) at lost = record { parent = parent; named = at; missing = lost }

pub orphan_or_not : (parents ids : List (Option ℕ)) → OrphanIn parents ids ⊎ (OrphanIn parents ids → ⊥)
orphan_or_not parents ids = elim (some_or_none (IsLost ids) (lost_or_not ids) parents) [
  | inl found ↦ inl (orphan_of parents ids found.0 found.1 found.2)
  | inr none ↦ inr (λ orphan. none (Some orphan.parent) orphan.named orphan.missing)
]

-- ---- rows of one id that differ

record Apart (id : MainRow → Option ℕ) (cells : MainRow → List Cell) (a b : MainRow) : Type 0 where
  pub shared : ℕ
  pub first : id a ≡ Some shared
  pub second : id b ≡ Some shared
  pub differ : cells_are (cells a) (cells b) ≡ false

module _ (id : MainRow → Option ℕ) (cells : MainRow → List Cell) where
  apart_or_not : (a b : MainRow) → Apart id cells a b ⊎ (Apart id cells a b → ⊥)
  apart_or_not a b = by_ids (id a) (id b) refl refl
    where
      by_ids : (x y : Option ℕ) → id a ≡ x → id b ≡ y → Apart id cells a b ⊎ (Apart id cells a b → ⊥)
      by_ids None y first second = inr (λ apart. let clash = sym first ∙ apart.first in absurd cc)
      by_ids (Some n) None first second = inr (λ apart. let clash = sym second ∙ apart.second in absurd cc)
      by_ids (Some n) (Some m) first second = elim (cases_eq m n) [
        | inr other ↦ inr (λ apart. other (same_Some m apart.shared (sym second ∙ apart.second) ∙ same_Some apart.shared n (sym apart.first ∙ first)))
        | inl same ↦ elim (cases_Bool (cells_are (cells a) (cells b))) [
          | inl equal ↦ inr (λ apart. absurd (true≢false (sym equal ∙ apart.differ)))
          | inr differ ↦ inl (record { shared = n; first = first; second = second ∙ ap (λ k. Some k) same; differ = differ })
        ]
      ]

  abbrev HasApart : List MainRow → MainRow → Type 0
  HasApart rows a = (b : MainRow) × Contains rows b × Apart id cells a b

  has_apart_or_not : (rows : List MainRow) (a : MainRow) → HasApart rows a ⊎ (HasApart rows a → ⊥)
  has_apart_or_not rows a = elim (some_or_none (Apart id cells a) (apart_or_not a) rows) [
    | inl found ↦ inl found
    | inr none ↦ inr (λ found. none found.0 found.1 found.2)
  ]

  pub differ_or_not : (rows : List MainRow) → DifferBy id cells rows ⊎ (DifferBy id cells rows → ⊥)
  differ_or_not rows = elim (some_or_none (HasApart rows) (has_apart_or_not rows) rows) [
    | inl (a, first, (b, second, apart)) ↦ inl (record {
      shared = apart.shared;
      a = a;
      b = b;
      first = first;
      second = second;
      of_first = apart.first;
      of_second = apart.second;
      differ = apart.differ;
    })
    | inr none ↦ inr (λ d. none d.a d.first (d.b, d.second, record { shared = d.shared; first = d.of_first; second = d.of_second; differ = d.differ }))
  ]
