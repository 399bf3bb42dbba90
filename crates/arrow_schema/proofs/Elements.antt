-- The elements of vectors, and the tables that they refer to.
use Rattle.std.specs.Prelude.{◌≡◌, ℕ, ◌+◌, ◌*◌, ◌<◌, ◌≤◌, List, length, slice_index_or, Ok, Option, None, Some}
use Rattle.std.proofs.Common.{refl, sym, ap, subst, inl, inr, arith}
use Rattle.std.proofs.lemmas.Bool.{cases_lt, lt-ltb, le-ltb}
use Rattle.lists.proofs.Equals.{ok_is}
use Rattle.flat_tables.specs.declared.fault.FlatFault.{FlatFault}
use Rattle.lists.specs.Results.{◌>>=◌}
use Rattle.flat_tables.specs.Tables.{TableIn, VectorIn, vector_slot, element_table, element_place, referred, table_at, each}
use Rattle.arrow_schema.specs.Says.{HasElements, HasTables}
use Rattle.arrow_schema.specs.Defects.{IsChild, VectorFault}
use Rattle.arrow_schema.specs.Defects as defects
use Rattle.arrow_schema.proofs.Steps.{bind_ok}

-- an element that is there refers to something
no_table : (v : VectorIn) (place : ℕ) → (table_at v.bytes place >>= λ t. Ok (Some t)) ≡ Ok None → ⊥
no_table v place h = let t = bind_ok (table_at v.bytes place) (λ t. Ok (Some t)) None h in cc (t.2)

no_reference : (v : VectorIn) (place : ℕ) → (each (referred v.bytes) (Some place) >>= each (table_at v.bytes)) ≡ Ok None → ⊥
no_reference v place h =
    let a = bind_ok (referred v.bytes place >>= λ p. Ok (Some p)) (each (table_at v.bytes)) None h in
    let b = bind_ok (referred v.bytes place) (λ p. Ok (Some p)) a.0 a.1 in
    let at : Some b.0 ≡ a.0 = ok_is (Some b.0) a.0 b.2 in
    no_table v b.0 (subst (λ (found : Option ℕ). each (table_at v.bytes) found ≡ Ok None) (sym at) a.2)

pub element_there : (v : VectorIn) (i : ℕ) → i < v.count → element_table v i ≡ Ok None → ⊥
unfolding element_place
element_there v i lt h = no_reference v (v.first + i * v.width) (rw (lt-ltb i v.count lt) at h)

-- an element past the end refers to nothing
pub past_end : (v : VectorIn) (i : ℕ) → v.count ≤ i → element_table v i ≡ Ok None
unfolding element_place
past_end v i le = rw (le-ltb i v.count le) refl

pub inside : (v : VectorIn) (i : ℕ) (t : TableIn) → element_table v i ≡ Ok (Some t) → i < v.count
inside v i t at = elim (cases_lt i v.count) [ inl lt ↦ lt | inr le ↦ cc (at, past_end v i le) ]

-- ---- the vectors in a slot
pub same_vector : (slot : ℕ) (t : TableIn) (v : VectorIn) (tables : List TableIn) → HasTables slot t tables → vector_slot 4 t slot ≡ Ok (Some v) → HasElements v tables
same_vector slot t v tables (inl empty) at = cc (empty.0, at)
same_vector slot t v tables (inr h) at = let same : h.0 ≡ v = cc (h.1, at) in subst (λ (v : VectorIn). HasElements v tables) same h.2

pub no_vector_fault : (f : FlatFault) (slot : ℕ) (t : TableIn) (tables : List TableIn) → HasTables slot t tables → VectorFault f slot t → ⊥
no_vector_fault f slot t tables (inl empty) (defects.VectorFault.of_vector at) = cc (empty.0, at)
no_vector_fault f slot t tables (inr h) (defects.VectorFault.of_vector at) = cc (h.1, at)
no_vector_fault f slot t tables has (defects.VectorFault.of_element v place at fault) =
    let e = same_vector slot t v tables has at in
    elim (cases_lt place v.count) [
      | inl lt ↦ cc (e.each place t (omega (arith, lt, e.count)), fault)
      | inr le ↦ cc (past_end v place le, fault)
    ]

-- the table that an element refers to is one of those
pub one_of : (slot : ℕ) (parent t : TableIn) (tables : List TableIn) → HasTables slot parent tables → IsChild slot parent t → (i : ℕ) × (i < length tables) × ((d : TableIn) → slice_index_or tables i d ≡ t)
one_of slot parent t tables has c =
    let e = same_vector slot parent c.vector tables has c.has in
    let lt = inside c.vector c.place t c.at in
    let within : c.place < length tables = omega (arith, lt, e.count) in
    (c.place, within, λ d. one_is tables c.place d t c.vector (e.each c.place d within) c.at)
  where
    one_is : (tables : List TableIn) (i : ℕ) (d t : TableIn) (v : VectorIn) → element_table v i ≡ Ok (Some (slice_index_or tables i d)) → element_table v i ≡ Ok (Some t) → slice_index_or tables i d ≡ t
    one_is tables i d t v a b = cc (a, b)

-- a table that an element refers to is a child
pub parent_child : (slot : ℕ) (t : TableIn) (tables : List TableIn) (i : ℕ) (d : TableIn) → HasTables slot t tables → i < length tables → IsChild slot t (slice_index_or tables i d)
parent_child slot t tables i d (inl empty) lt = absurd (omega (arith, lt, ap length empty.1))
parent_child slot t tables i d (inr h) lt = record { vector = h.0; has = h.1; place = i; at = h.2.each i d lt }
