-- The tables of a kind, with one more table.
use Rattle.std.proofs.Common.{◌≡◌, true, false, List, [], ◌∷◌, ◌++◌, refl, ◌∙◌, append-nil}
use Rattle.std.proofs.lemmas.List.Elements.{filter-append}
use Rattle.otap_cells.specs.declared.payload.Kind.{Kind}
use Rattle.otap_cells.specs.Payload.{is_kind}
use Rattle.otap_cells.specs.Tables.{Table}
use Rattle.otap_columns.specs.TableSets.{of_kind}

pub of_kind-other : (kind : Kind) (ts : List Table) (t : Table) → is_kind t.kind kind ≡ false → of_kind kind (ts ++ t ∷ []) ≡ of_kind kind ts
of_kind-other kind ts t other = filter-append (λ (u : Table). is_kind u.kind kind) ts (t ∷ []) ∙ rw other (append-nil (of_kind kind ts))

pub of_kind-own : (kind : Kind) (ts : List Table) (t : Table) → is_kind t.kind kind ≡ true → of_kind kind (ts ++ t ∷ []) ≡ of_kind kind ts ++ t ∷ []
of_kind-own kind ts t own = filter-append (λ (u : Table). is_kind u.kind kind) ts (t ∷ []) ∙ rw own refl
