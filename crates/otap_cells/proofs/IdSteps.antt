-- One more row of ids, as loops go over them.
use Rattle.std.proofs.Common.{◌≡◌, ℕ, ◌+◌, ◌-◌, ◌≤◌, ◌<◌, nat_le, Bool, true, false, List, [], ◌∷◌, ◌++◌, take, drop, set, get_or, map, length, Option, None, Some, refl, sym, ◌∙◌, ap, arith}
use Rattle.std.proofs.Common.{append_assoc, append-nil, le-leb}
use Rattle.std.proofs.lemmas.List.{drop_more, take_more, take_more_set, drop-set-lt, take-append-drop, length-map, map-set, get_or-map, take_all, drop_all, drop-drop}
use Rattle.std.proofs.lemmas.Bool.{lt-leb}
use Rattle.otap_cells.specs.declared.profile.Coding.{Coding}
use Rattle.otap_cells.specs.declared.profile.Coding.TheVariants.{Run}
use Rattle.otap_cells.specs.Ids.{RiseAfter, base_of, goes_on, takes_null, fits_after, undone_after}
use Rattle.otap_cells.specs.Inside.{stored_after}

module _ (ids : List (Option ℕ)) (k : ℕ) (d : Option ℕ) (rows : List Bool) (within : k < length ids) where
  -- the rest after an element that is there, or that was written
  passes : (x : Option ℕ) (rest whole : List (Option ℕ)) → get_or ids k d ≡ x → take k ids ++ (x ∷ rest) ≡ whole → take (k + 1) ids ++ rest ≡ whole
  passes x rest whole here so_far = rw (take_more ids k d within, here, append_assoc) so_far

  writes : (x : Option ℕ) (rest whole : List (Option ℕ)) → take k ids ++ (x ∷ rest) ≡ whole → take (k + 1) (set ids k x) ++ rest ≡ whole
  writes x rest whole so_far = rw (take_more_set ids k x within, append_assoc) so_far

  left : (x : Option ℕ) → drop (k + 1) (set ids k x) ≡ drop (k + 1) ids
  left x = drop-set-lt (k + 1) ids k x (omega arith)

  at_place : (x : Option ℕ) → get_or ids k d ≡ x → drop k ids ≡ x ∷ drop (k + 1) ids
  at_place x here = drop_more ids k d within ∙ ap (λ x. x ∷ drop (k + 1) ids) here

  module _ (how : Coding) (before : ℕ) (none : get_or ids k d ≡ None) where
    -- a row without an id is passed over
    pub rise_none : RiseAfter how before (drop k rows) (drop k ids) → RiseAfter how before (drop (k + 1) rows) (drop (k + 1) ids)
    rise_none rise = rw (← drop-drop 1 k rows) ((rw (at_place None none) at rise).1)

    pub stored_none : (whole : List (Option ℕ)) → take k ids ++ stored_after how before (drop k rows) (drop k ids) ≡ whole
        → take (k + 1) ids ++ stored_after how before (drop (k + 1) rows) (drop (k + 1) ids) ≡ whole
    stored_none whole so_far =
        passes None (stored_after how before (drop (k + 1) rows) (drop (k + 1) ids)) whole none
        (rw (← drop-drop 1 k rows) (rw (at_place None none) at so_far))

    module _ (last : ℕ) (takes : takes_null how ≡ true) where
      pub fits_none : (whole : Bool) → fits_after how last before (drop k rows) (drop k ids) ≡ whole → fits_after how last before (drop (k + 1) rows) (drop (k + 1) ids) ≡ whole
      fits_none whole so_far = rw (← drop-drop 1 k rows) (rw (at_place None none, takes) at so_far)

      pub undone_none : (whole : List (Option ℕ)) → take k ids ++ undone_after how last before (drop k rows) (drop k ids) ≡ whole
          → take (k + 1) ids ++ undone_after how last before (drop (k + 1) rows) (drop (k + 1) ids) ≡ whole
      undone_none whole so_far =
          passes None (undone_after how last before (drop (k + 1) rows) (drop (k + 1) ids)) whole none
          (rw (← drop-drop 1 k rows) (rw (at_place None none, takes) at so_far))

  module _ (how : Coding) (before n : ℕ) (some : get_or ids k d ≡ Some n) where
    -- an id is stored
    pub low_some : RiseAfter how before (drop k rows) (drop k ids) → base_of how (goes_on (drop k rows)) before ≤ n
    low_some rise = (rw (at_place (Some n) some) at rise).0

    pub rise_some : (x : Option ℕ) → RiseAfter how before (drop k rows) (drop k ids) → RiseAfter how n (drop (k + 1) rows) (drop (k + 1) (set ids k x))
    rise_some x rise = rw (left x, ← drop-drop 1 k rows) ((rw (at_place (Some n) some) at rise).1)

    pub stored_some : (b : ℕ) (whole : List (Option ℕ)) → b ≡ base_of how (goes_on (drop k rows)) before
        → take k ids ++ stored_after how before (drop k rows) (drop k ids) ≡ whole
        → take (k + 1) (set ids k (Some (n - b))) ++ stored_after how n (drop (k + 1) rows) (drop (k + 1) (set ids k (Some (n - b)))) ≡ whole
    stored_some b whole base so_far =
        rw (left (Some (n - b)))
        (writes (Some (n - b)) (stored_after how n (drop (k + 1) rows) (drop (k + 1) ids)) whole
        (rw (base, ← drop-drop 1 k rows) (rw (at_place (Some n) some) at so_far)))

    -- a number is taken
    module _ (last id : ℕ) (is : id ≡ base_of how (goes_on (drop k rows)) before + n) where
      module _ (low : id ≤ last) where
        pub fits_some : (whole : Bool) → fits_after how last before (drop k rows) (drop k ids) ≡ whole
            → fits_after how last id (drop (k + 1) rows) (drop (k + 1) (set ids k (Some id))) ≡ whole
        fits_some whole so_far =
            rw (left (Some id), ← drop-drop 1 k rows) (rw (at_place (Some n) some, ← is, le-leb id last low) at so_far)

        pub undone_some : (whole : List (Option ℕ)) → take k ids ++ undone_after how last before (drop k rows) (drop k ids) ≡ whole
            → take (k + 1) (set ids k (Some id)) ++ undone_after how last id (drop (k + 1) rows) (drop (k + 1) (set ids k (Some id))) ≡ whole
        undone_some whole so_far =
            rw (left (Some id))
            (writes (Some id) (undone_after how last id (drop (k + 1) rows) (drop (k + 1) ids)) whole
            (rw (← drop-drop 1 k rows) (rw (at_place (Some n) some, ← is, le-leb id last low) at so_far)))

-- the same for numbers of rows that all have one
module _ (ids : List ℕ) (k : ℕ) (rows : List Bool) (within : k < length ids) (before : ℕ) where
  there : k < length (map {A = ℕ} {B = Option ℕ} (λ x. Some x) ids)
  there = omega (arith, length-map {B = Option ℕ} ids (λ x. Some x))

  some : get_or (map {A = ℕ} {B = Option ℕ} (λ x. Some x) ids) k None ≡ Some (get_or ids k 0)
  some = get_or-map (λ x. Some x) ids k 0 None within

  pub run_low : RiseAfter Run before (drop k rows) (drop k (map {A = ℕ} {B = Option ℕ} (λ x. Some x) ids)) → base_of Run (goes_on (drop k rows)) before ≤ get_or ids k 0
  run_low rise = low_some (map (λ x. Some x) ids) k None rows there Run before (get_or ids k 0) some rise

  pub run_rise : (x : ℕ) → RiseAfter Run before (drop k rows) (drop k (map {A = ℕ} {B = Option ℕ} (λ x. Some x) ids))
      → RiseAfter Run (get_or ids k 0) (drop (k + 1) rows) (drop (k + 1) (map {A = ℕ} {B = Option ℕ} (λ x. Some x) (set ids k x)))
  run_rise x rise = rw (map-set {B = Option ℕ} (λ x. Some x) ids k x) (rise_some (map (λ x. Some x) ids) k None rows there Run before (get_or ids k 0) some (Some x) rise)

  pub run_stored : (b : ℕ) (whole : List (Option ℕ)) → b ≡ base_of Run (goes_on (drop k rows)) before
      → take k (map {A = ℕ} {B = Option ℕ} (λ x. Some x) ids) ++ stored_after Run before (drop k rows) (drop k (map {A = ℕ} {B = Option ℕ} (λ x. Some x) ids)) ≡ whole
      → take (k + 1) (map {A = ℕ} {B = Option ℕ} (λ x. Some x) (set ids k (get_or ids k 0 - b)))
      ++ stored_after Run (get_or ids k 0) (drop (k + 1) rows) (drop (k + 1) (map {A = ℕ} {B = Option ℕ} (λ x. Some x) (set ids k (get_or ids k 0 - b)))) ≡ whole
  run_stored b whole base so_far =
      rw (map-set {B = Option ℕ} (λ x. Some x) ids k (get_or ids k 0 - b))
      (stored_some (map (λ x. Some x) ids) k None rows there Run before (get_or ids k 0) some b whole base so_far)

  module _ (last id : ℕ) (is : id ≡ base_of Run (goes_on (drop k rows)) before + get_or ids k 0) where
    pub run_fits : (whole : Bool) → id ≤ last → fits_after Run last before (drop k rows) (drop k (map {A = ℕ} {B = Option ℕ} (λ x. Some x) ids)) ≡ whole
        → fits_after Run last id (drop (k + 1) rows) (drop (k + 1) (map {A = ℕ} {B = Option ℕ} (λ x. Some x) (set ids k id))) ≡ whole
    run_fits whole low so_far =
        rw (map-set {B = Option ℕ} (λ x. Some x) ids k id) (fits_some (map (λ x. Some x) ids) k None rows there Run before (get_or ids k 0) some last id is low whole so_far)

    pub run_undone : (whole : List (Option ℕ)) → id ≤ last
        → take k (map {A = ℕ} {B = Option ℕ} (λ x. Some x) ids) ++ undone_after Run last before (drop k rows) (drop k (map {A = ℕ} {B = Option ℕ} (λ x. Some x) ids)) ≡ whole
        → take (k + 1) (map {A = ℕ} {B = Option ℕ} (λ x. Some x) (set ids k id))
        ++ undone_after Run last id (drop (k + 1) rows) (drop (k + 1) (map {A = ℕ} {B = Option ℕ} (λ x. Some x) (set ids k id))) ≡ whole
    run_undone whole low so_far =
        rw (map-set {B = Option ℕ} (λ x. Some x) ids k id) (undone_some (map (λ x. Some x) ids) k None rows there Run before (get_or ids k 0) some last id is low whole so_far)

  -- a number that would pass the greatest
  module _ (last : ℕ) (high : last < base_of Run (goes_on (drop k rows)) before + get_or ids k 0) where
    none_above : nat_le (base_of Run (goes_on (drop k rows)) before + get_or ids k 0) last ≡ false
    none_above = lt-leb (base_of Run (goes_on (drop k rows)) before + get_or ids k 0) last high

    pub run_stops : fits_after Run last before (drop k rows) (drop k (map {A = ℕ} {B = Option ℕ} (λ x. Some x) ids)) ≡ false
    run_stops = rw (drop_more (map {A = ℕ} {B = Option ℕ} (λ x. Some x) ids) k None there, some, none_above) refl

    pub run_kept : (whole : List (Option ℕ))
        → take k (map {A = ℕ} {B = Option ℕ} (λ x. Some x) ids) ++ undone_after Run last before (drop k rows) (drop k (map {A = ℕ} {B = Option ℕ} (λ x. Some x) ids)) ≡ whole
        → map (λ x. Some x) ids ≡ whole
    run_kept whole so_far =
        let rest : undone_after Run last before (drop k rows) (drop k (map {A = ℕ} {B = Option ℕ} (λ x. Some x) ids)) ≡ drop k (map {A = ℕ} {B = Option ℕ} (λ x. Some x) ids)
        = rw (drop_more (map {A = ℕ} {B = Option ℕ} (λ x. Some x) ids) k None there, some, none_above) refl in
        sym (take-append-drop k (map (λ x. Some x) ids)) ∙ ap (λ xs. take k (map {A = ℕ} {B = Option ℕ} (λ x. Some x) ids) ++ xs) (sym rest) ∙ so_far

-- where all rows have been gone over
pub run_all : (ids : List ℕ) (k : ℕ) (F : List (Option ℕ) → List (Option ℕ)) (whole : List (Option ℕ)) → length ids ≤ k → F [] ≡ []
    → take k (map {A = ℕ} {B = Option ℕ} (λ x. Some x) ids) ++ F (drop k (map {A = ℕ} {B = Option ℕ} (λ x. Some x) ids)) ≡ whole → map (λ x. Some x) ids ≡ whole
run_all ids k F whole all none so_far =
    let end : length (map {A = ℕ} {B = Option ℕ} (λ x. Some x) ids) ≤ k = omega (arith, length-map {B = Option ℕ} ids (λ x. Some x)) in
    rw (take_all k (map {A = ℕ} {B = Option ℕ} (λ x. Some x) ids) end, drop_all k (map {A = ℕ} {B = Option ℕ} (λ x. Some x) ids) end, none, append-nil) at so_far

pub run_done : (ids : List ℕ) (k last before : ℕ) (rows : List Bool) → length ids ≤ k
    → fits_after Run last before rows (drop k (map {A = ℕ} {B = Option ℕ} (λ x. Some x) ids)) ≡ true
run_done ids k last before rows all =
    let end : length (map {A = ℕ} {B = Option ℕ} (λ x. Some x) ids) ≤ k = omega (arith, length-map {B = Option ℕ} ids (λ x. Some x)) in
    rw (drop_all k (map {A = ℕ} {B = Option ℕ} (λ x. Some x) ids) end) refl
