-- What one more payload does to the last payload of a type.
use Rattle.std.proofs.Common.{◌≡◌, true, false, List, [], ◌∷◌, ◌++◌, Some, None, ℤ, ap, ◌∙◌}
use Rattle.std.specs.Ordering.{int_eq}
use Rattle.lists.specs.Payloads.{PayloadIn}
use Rattle.lists.specs.Since.{last_after}
use Rattle.lists.proofs.Latest.{last_after-push}
use Rattle.otap_columns.specs.Streams.{of_type, last_of}
use Rattle.otap_columns.proofs.Openings.{of_type-other, of_type-own}

pub last_of-other : (type : ℤ) (ps : List PayloadIn) (p : PayloadIn) → int_eq p.kind type ≡ false → last_of type (ps ++ p ∷ []) ≡ last_of type ps
last_of-other type ps p other = ap (λ xs. last_after None xs) (of_type-other type ps p other)

pub last_of-own : (type : ℤ) (ps : List PayloadIn) (p : PayloadIn) → int_eq p.kind type ≡ true → last_of type (ps ++ p ∷ []) ≡ Some p
last_of-own type ps p own = ap (λ xs. last_after None xs) (of_type-own type ps p own) ∙ last_after-push None (of_type type ps) p
