-- What one more payload does to the sub-stream of a type.
use Rattle.std.proofs.Common.{◌≡◌, ℕ, Bool, true, false, List, [], ◌∷◌, ◌++◌, Option, Some, None, ℤ, if◌then◌else◌, refl, ap, ◌∙◌, append-nil, inl, inr, sym}
use Rattle.std.specs.Fmt.{decimal}
use Rattle.std.specs.List.{flat_map}
use Rattle.std.specs.Prelude.{not, bytes_eq}
use Rattle.std.proofs.lemmas.Grind.{flat_map-append}
use Rattle.std.proofs.lemmas.List.Elements.{filter-append}
use Rattle.std.proofs.lemmas.Cmp.{int_eq_equiv}
use Rattle.std.proofs.lemmas.Bool.{cases_Bool}
use Rattle.std.proofs.lemmas.Slice.Eq.{bytes_eq-Decides}
use Rattle.lists.specs.Since.{since, last_after}
use Rattle.lists.proofs.Latest.{since-append, last_after-push}
use Rattle.lists.specs.Payloads.{PayloadIn}
use Rattle.arrow_ipc.specs.Fronts.{front_of}
use Rattle.otap_cells.specs.Tables.{Table}
use Rattle.otap_columns.specs.Streams.{is_of, of_type, last_of, opens_after, open_id, marked_after, stream_of, opens, schema_id_in}
use Rattle.otap_columns.specs.TableSets.{IsPayloadOf, id_for, openings}

-- a payload of another type is passed over
pub of_type-other : (kind : ℤ) (ps : List PayloadIn) (p : PayloadIn) → is_of kind p ≡ false → of_type kind (ps ++ p ∷ []) ≡ of_type kind ps
of_type-other kind ps p other = filter-append (is_of kind) ps (p ∷ []) ∙ rw other (append-nil (of_type kind ps))

pub of_type-own : (kind : ℤ) (ps : List PayloadIn) (p : PayloadIn) → is_of kind p ≡ true → of_type kind (ps ++ p ∷ []) ≡ of_type kind ps ++ p ∷ []
of_type-own kind ps p own = filter-append (is_of kind) ps (p ∷ []) ∙ rw own refl

marked_after-push : (last : Option PayloadIn) (ps : List PayloadIn) (p : PayloadIn)
    → marked_after last (ps ++ p ∷ []) ≡ marked_after last ps ++ (opens_after (last_after last ps) p, p) ∷ []
marked_after-push last [] p = refl
marked_after-push last (q ∷ ps) p = ap (λ ms. (opens_after last q, q) ∷ ms) (marked_after-push (Some q) ps p)

pub stream_of-other : (kind : ℤ) (ps : List PayloadIn) (p : PayloadIn) → is_of kind p ≡ false → stream_of kind (ps ++ p ∷ []) ≡ stream_of kind ps
unfolding stream_of
stream_of-other kind ps p other = rw (of_type-other kind ps p other) refl

pub open_id-other : (kind : ℤ) (ps : List PayloadIn) (p : PayloadIn) → is_of kind p ≡ false → open_id kind (ps ++ p ∷ []) ≡ open_id kind ps
unfolding open_id
open_id-other kind ps p other = rw (of_type-other kind ps p other) refl

pub open_id-own : (kind : ℤ) (ps : List PayloadIn) (p : PayloadIn) → is_of kind p ≡ true → open_id kind (ps ++ p ∷ []) ≡ Some p.schema_id
unfolding open_id
open_id-own kind ps p own = rw (of_type-own kind ps p own, last_after-push None (of_type kind ps) p) refl

-- the messages of marked payloads with one more
stream_from : (ms : List (Bool × PayloadIn)) (b : Bool) (p : PayloadIn)
    → flat_map (λ m. front_of m.1.bytes) (since (λ m. m.0) (ms ++ (b, p) ∷ [])) ≡ (if b then front_of p.bytes else flat_map (λ m. front_of m.1.bytes) (since (λ m. m.0) ms) ++ front_of p.bytes)
stream_from ms true p = rw (since-append (λ (m : Bool × PayloadIn). m.0) ms ((true, p) ∷ [])) (append-nil (front_of p.bytes))
stream_from ms false p =
    rw (since-append (λ (m : Bool × PayloadIn). m.0) ms ((false, p) ∷ []), flat_map-append (λ (m : Bool × PayloadIn). front_of m.1.bytes) (since (λ m. m.0) ms) ((false, p) ∷ []), append-nil (front_of p.bytes)) refl

pub stream_of-own : (kind : ℤ) (ps : List PayloadIn) (p : PayloadIn) → is_of kind p ≡ true
    → stream_of kind (ps ++ p ∷ []) ≡ (if opens_after (last_of kind ps) p then front_of p.bytes else stream_of kind ps ++ front_of p.bytes)
unfolding stream_of
stream_of-own kind ps p own =
    rw (of_type-own kind ps p own, marked_after-push None (of_type kind ps) p) (stream_from (marked_after None (of_type kind ps)) (opens_after (last_of kind ps) p) p)

-- a payload is of its own type
pub own_type : (p : PayloadIn) → is_of p.kind p ≡ true
own_type p = int_eq_equiv.refl p.kind

-- where nothing went before, nothing is open
pub open_id-none : (kind : ℤ) → open_id kind [] ≡ None
unfolding open_id
open_id-none kind = refl

-- a payload that opens no sub-stream has the id that is open for its type
id_stays : (last : Option PayloadIn) (p : PayloadIn) → opens_after last p ≡ false → schema_id_in last ≡ Some p.schema_id
id_stays None p stays = absurd (cc stays)
id_stays (Some last) p stays =
    elim (cases_Bool (bytes_eq last.schema_id p.schema_id)) [
      | inl equal ↦ ap (λ (id : List ℕ). Some id) ((bytes_eq-Decides last.schema_id p.schema_id).0 equal)
      | inr differs ↦ absurd (cc (sym stays ∙ ap not differs))
    ]

pub stays_open : (past : List PayloadIn) (p : PayloadIn) → opens past p ≡ false → open_id p.kind past ≡ Some p.schema_id
unfolding opens open_id
stays_open past p stays = id_stays (last_of p.kind past) p stays

-- ---- a payload by the policy

pub same_test : (a b : Bool) → (a ≡ false → b ≡ false) → (b ≡ false → a ≡ false) → a ≡ b
same_test true true there back = refl
same_test true false there back = cc (back refl)
same_test false true there back = cc (there refl)
same_test false false there back = refl

module _ (tables : List Table) (past : List PayloadIn) (t : Table) (p : PayloadIn) (is : IsPayloadOf tables past t p) where
  -- it opens a sub-stream exactly where its schema id says so
  pub opens_is : opens past p ≡ is.opening
  opens_is =
      same_test (opens past p) is.opening (λ stays. is.goes_on.1 (is.written.record_is.goes_on.0 stays)) (λ stays. is.written.record_is.goes_on.1 (is.goes_on.0 stays))

  -- the id of one that opens is a number
  pub numbered : opens past p ≡ true → p.schema_id ≡ decimal (openings past)
  numbered opening =
      let id : Some (decimal (openings past)) ≡ Some p.schema_id = ap (λ b. id_for b p.kind past) (sym opening ∙ opens_is) ∙ is.schema_id in
      sym (cc id)
