-- A dictionary batch given to each dictionary in turn.
use Rattle.std.proofs.Common.{◌≡◌, ℕ, ◌+◌, ◌<◌, ◌≤◌, Bool, true, false, List, [], ◌∷◌, ◌++◌, length, get_or, set, refl, sym, ap, ◌∙◌, append_assoc, append-nil, arith, length-append}
use Rattle.std.specs.Prelude.{ℤ, map}
use Rattle.std.specs.List.{list_any, list_all}
use Rattle.std.proofs.lemmas.Bool.{le-ltb, lt-ltb, or_right}
use Rattle.std.proofs.lemmas.List.{map-append, length-map, get_or_at, set_at}
use Rattle.std.proofs.lemmas.List.Folds.{list_any-append, list_all-append}
use Rattle.arrow_ipc.specs.Batches.{BatchIn}
use Rattle.otap_columns.specs.Limits.{dictionary_limit}
use Rattle.otap_columns.specs.declared.refusal.ColumnRefusal.{ColumnRefusal}
use Rattle.otap_columns.specs.declared.refusal.ColumnRefusal.TheVariants.{Order, Ipc, Column, Buffers, BadIndex, DictionarySize, Memory}
use Rattle.otap_columns.specs.Dictionaries.{DictionaryIn, grown, grown_if, has_id, all_grown, is_too_large}
use Rattle.otap_columns.specs.Records.{is_fine_for}
use Rattle.otap_columns.specs.Reading.{RefusesDictionaryBatch, RefusesIf, RefusesValues}

pub any_here : {A : Type 0} (p : A → Bool) (front : List A) (x : A) (rest : List A) → p x ≡ true → list_any p (front ++ x ∷ rest) ≡ true
any_here p [] x rest h = rw h refl
any_here p (y ∷ front) x rest h = or_right (p y) (list_any p (front ++ x ∷ rest)) (any_here p front x rest h)

module _ (id : ℤ) (delta : Bool) (batch : BatchIn) where
  -- the dictionaries up to an index were given the batch
  pub record Given (old new : List DictionaryIn) (place : ℕ) : Type 0 where
    pub done : List DictionaryIn
    pub rest : List DictionaryIn
    pub old_is : old ≡ done ++ rest
    pub new_is : new ≡ map (grown_if id delta batch) done ++ rest
    pub at : length done ≡ place
    pub fine : list_all (is_fine_for id batch) done ≡ true
    pub few : list_any is_too_large (map (grown_if id delta batch) done) ≡ false

  pub none_given : (old : List DictionaryIn) → Given old old 0
  none_given old = record { done = []; rest = old; old_is = refl; new_is = refl; at = refl; fine = refl; few = refl }

  -- the dictionary at the index, as it was
  pub record Next (old new : List DictionaryIn) (place : ℕ) (x : DictionaryIn) : Type 0 where
    pub done : List DictionaryIn
    pub rest : List DictionaryIn
    pub old_is : old ≡ done ++ x ∷ rest
    pub new_is : new ≡ map (grown_if id delta batch) done ++ x ∷ rest
    pub at : length done ≡ place
    pub fine : list_all (is_fine_for id batch) done ≡ true
    pub few : list_any is_too_large (map (grown_if id delta batch) done) ≡ false

  pub next_of : (old new : List DictionaryIn) (place : ℕ) (x : DictionaryIn) → Given old new place → place < length new → x ≡ get_or new place x → Next old new place x
  next_of old new place x g below is = by_rest g.rest refl
    where
      by_rest : (rest : List DictionaryIn) → g.rest ≡ rest → Next old new place x
      by_rest [] none =
          let long = ap length (g.new_is ∙ ap (λ r. map (grown_if id delta batch) g.done ++ r) none ∙ append-nil (map (grown_if id delta batch) g.done)) in
          absurd (omega (arith, below, long, length-map g.done (grown_if id delta batch), g.at))
      by_rest (y ∷ rest) some =
          let new_is : new ≡ map (grown_if id delta batch) g.done ++ y ∷ rest = g.new_is ∙ ap (λ r. map (grown_if id delta batch) g.done ++ r) some in
          let here : get_or new place x ≡ y =
          ap (λ (ds : List DictionaryIn). get_or ds place x) new_is ∙ get_or_at (map (grown_if id delta batch) g.done) y rest x place (length-map g.done (grown_if id delta batch) ∙ g.at) in
          let same : y ≡ x = sym (is ∙ here) in
          record {
            done = g.done;
            rest = rest;
            old_is = g.old_is ∙ ap (λ r. g.done ++ r) some ∙ ap (λ d. g.done ++ d ∷ rest) same;
            new_is = new_is ∙ ap (λ d. map (grown_if id delta batch) g.done ++ d ∷ rest) same;
            at = g.at;
            fine = g.fine;
            few = g.few;
          }

  -- it was given the batch too
  pub one_given : (old new : List DictionaryIn) (place : ℕ) (x y : DictionaryIn) → Next old new place x → y ≡ grown_if id delta batch x → is_fine_for id batch x ≡ true
      → is_too_large y ≡ false → Given old (set new place y) (place + 1)
  one_given old new place x y n is fine few = record {
    done = n.done ++ x ∷ [];
    rest = n.rest;
    old_is = n.old_is ∙ sym (append_assoc n.done (x ∷ []) n.rest);
    new_is =
        ap (λ (ds : List DictionaryIn). set ds place y) n.new_is
        ∙ set_at (map (grown_if id delta batch) n.done) x n.rest y place (length-map n.done (grown_if id delta batch) ∙ n.at)
        ∙ ap (λ d. map (grown_if id delta batch) n.done ++ d ∷ n.rest) is
        ∙ sym (append_assoc (map (grown_if id delta batch) n.done) (grown_if id delta batch x ∷ []) n.rest)
        ∙ ap (λ ds. ds ++ n.rest) (sym (map-append (grown_if id delta batch) n.done (x ∷ [])));
    at = omega (arith, length-append n.done (x ∷ []), n.at);
    fine = list_all-append (is_fine_for id batch) n.done (x ∷ []) ∙ rw (n.fine, fine) refl;
    few =
        ap (list_any is_too_large) (map-append (grown_if id delta batch) n.done (x ∷ [])) ∙ list_any-append is_too_large (map (grown_if id delta batch) n.done) (grown_if id delta batch x ∷ [])
        ∙ rw (n.few, ap is_too_large (sym is) ∙ few) refl;
  }

  -- all were
  pub all_given : (old new : List DictionaryIn) (place : ℕ) → Given old new place → length new ≤ place
      → (new ≡ all_grown id delta batch old) × (list_all (is_fine_for id batch) old ≡ true) × (list_any is_too_large (all_grown id delta batch old) ≡ false)
  unfolding all_grown
  all_given old new place g end = by_rest g.rest refl
    where
      by_rest : (rest : List DictionaryIn) → g.rest ≡ rest
          → (new ≡ map (grown_if id delta batch) old) × (list_all (is_fine_for id batch) old ≡ true) × (list_any is_too_large (map (grown_if id delta batch) old) ≡ false)
      by_rest [] none =
          let old_is : old ≡ g.done = g.old_is ∙ ap (λ r. g.done ++ r) none ∙ append-nil g.done in
          let new_is : new ≡ map (grown_if id delta batch) g.done = g.new_is ∙ ap (λ r. map (grown_if id delta batch) g.done ++ r) none ∙ append-nil (map (grown_if id delta batch) g.done) in (
            new_is ∙ ap (map (grown_if id delta batch)) (sym old_is),
            ap (list_all (is_fine_for id batch)) old_is ∙ g.fine,
            ap (λ ds. list_any is_too_large (map (grown_if id delta batch) ds)) old_is ∙ g.few,
          )
      by_rest (y ∷ rest) some =
          let long = ap length (g.new_is ∙ ap (λ r. map (grown_if id delta batch) g.done ++ r) some) in
          absurd (omega (arith, end, long, length-append (map (grown_if id delta batch) g.done) (y ∷ rest), length-map g.done (grown_if id delta batch), g.at))

  -- it refuses the batch, and so do all
  pub refused_by : (old new : List DictionaryIn) (place : ℕ) (x : DictionaryIn) (r : ColumnRefusal) → Next old new place x → RefusesIf id delta batch x r → RefusesDictionaryBatch id delta batch old r
  unfolding all_grown
  refused_by old new place x Order n h = absurd h
  refused_by old new place x (Ipc e) n h = absurd h
  refused_by old new place x Column n h = absurd h
  refused_by old new place x (Buffers e) n h = (
    place,
    x,
    omega (arith, ap length n.old_is, length-append n.done (x ∷ n.rest), n.at),
    ap (λ (ds : List DictionaryIn). get_or ds place x) n.old_is ∙ get_or_at n.done x n.rest x place n.at,
    h,
  )
  refused_by old new place x BadIndex n h = absurd h
  refused_by old new place x DictionarySize n h =
      ap (λ ds. list_any is_too_large (map (grown_if id delta batch) ds)) n.old_is ∙ ap (list_any is_too_large) (map-append (grown_if id delta batch) n.done (x ∷ n.rest))
      ∙ any_here is_too_large (map (grown_if id delta batch) n.done) (grown_if id delta batch x) (map (grown_if id delta batch) n.rest) h
  refused_by old new place x (Memory e) n h = tt

  -- not too many are not too many
  pub not_too_large : (d : DictionaryIn) → length d.values ≤ dictionary_limit → is_too_large d ≡ false
  not_too_large d h = le-ltb dictionary_limit (length d.values) h

-- why a dictionary of this id doesn't take a batch of its own
pub refuses_own : (id : ℤ) (delta : Bool) (batch : BatchIn) (d : DictionaryIn) (r : ColumnRefusal) → has_id id d ≡ true → RefusesValues delta batch d r → RefusesIf id delta batch d r
refuses_own id delta batch d (Buffers fault) own h = (own, h)
refuses_own id delta batch d DictionarySize own h =
    let grows : grown_if id delta batch d ≡ grown delta batch d = rw own refl in
    ap is_too_large grows ∙ lt-ltb dictionary_limit (length (grown delta batch d).values) h
refuses_own id delta batch d (Memory e) own h = tt
refuses_own id delta batch d Order own h = absurd h
refuses_own id delta batch d (Ipc e) own h = absurd h
refuses_own id delta batch d Column own h = absurd h
refuses_own id delta batch d BadIndex own h = absurd h
