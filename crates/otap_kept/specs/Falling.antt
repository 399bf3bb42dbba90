-- Where the new numbers of what is kept fall.
use Rattle.std.specs.Prelude.{◌≡◌, ◌<◌, ◌⊎◌, ℕ, List, Option, Some}
use Rattle.otap_cells.specs.declared.profile.Coding.TheVariants as coding
use Rattle.otap_cells.specs.Tables.{Table, coding_in}
use Rattle.otap_groups.specs.Rows.{MainRow, id_at}
use Rattle.otap_kept.specs.Rows.{resource_ids, scope_ids}

-- AN ID COMES BACK: an id, another one, and the first one again are there in this order. Anything may be between them, nulls too
pub record ComesBack (ids : List (Option ℕ)) : Type 0 where
  pub id : ℕ
  pub other : ℕ
  pub differ : id ≡ other → ⊥
  pub first : ℕ
  pub between : ℕ
  pub again : ℕ
  pub before : first < between
  pub after : between < again
  pub first_is : id_at ids first ≡ Some id
  pub between_is : id_at ids between ≡ Some other
  pub again_is : id_at ids again ≡ Some id

-- among main rows, the id of a resource comes back, or that of a scope
abbrev pub SomeIdComesBack : List MainRow → Type 0
SomeIdComesBack rows = ComesBack (resource_ids rows) ⊎ ComesBack (scope_ids rows)

-- a main table stores the ids of resources, or those of scopes, as they are and not as distances
abbrev pub HasPlainIds : Table → Type 0
HasPlainIds t = (coding_in t 1 ≡ coding.Plain) ⊎ (coding_in t 4 ≡ coding.Plain)
