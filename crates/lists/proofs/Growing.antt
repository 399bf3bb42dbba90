-- What holds of each element, or pair, after those before it, as the lists grow.
use Rattle.std.proofs.Common.{◌≡◌, List, [], ◌∷◌, ◌++◌, length, suc, refl, ap, sym, subst, append_assoc, append-nil}
use Rattle.lists.specs.EachAfter.{EachAfter, AllAfter}

module _ {A B : Type 0} (R : List A → List B → A → B → Type 0) where
  -- one more pair, which is allowed after all that came before
  pub each_after-push : (past : List A) (past' : List B) (xs : List A) (ys : List B) (x : A) (y : B) → EachAfter R past past' xs ys → R (past ++ xs) (past' ++ ys) x y
      → EachAfter R past past' (xs ++ x ∷ []) (ys ++ y ∷ [])
  each_after-push past past' [] [] x y each here = (rw (← append-nil past, ← append-nil past') here, tt)
  each_after-push past past' [] (y' ∷ ys) x y each here = absurd each
  each_after-push past past' (x' ∷ xs) [] x y each here = absurd each
  each_after-push past past' (x' ∷ xs) (y' ∷ ys) x y each here =
      (each.0, each_after-push (past ++ x' ∷ []) (past' ++ y' ∷ []) xs ys x y each.1 (rw (append_assoc past (x' ∷ []) xs, append_assoc past' (y' ∷ []) ys) here))

  -- more pairs, each of which is allowed after all that came before
  pub each_after-append : (past : List A) (past' : List B) (xs us : List A) (ys vs : List B) → EachAfter R past past' xs ys → EachAfter R (past ++ xs) (past' ++ ys) us vs
      → EachAfter R past past' (xs ++ us) (ys ++ vs)
  each_after-append past past' [] us [] vs each more = rw (← append-nil past, ← append-nil past') more
  each_after-append past past' [] us (y ∷ ys) vs each more = absurd each
  each_after-append past past' (x ∷ xs) us [] vs each more = absurd each
  each_after-append past past' (x ∷ xs) us (y ∷ ys) vs each more =
      (each.0, each_after-append (past ++ x ∷ []) (past' ++ y ∷ []) xs us ys vs each.1 (rw (append_assoc past (x ∷ []) xs, append_assoc past' (y ∷ []) ys) more))

  -- what holds at the start, and is kept by each step that is allowed, holds at the end
  pub each_after-keeps : (I : List A → List B → Type 0) → ((xs : List A) (ys : List B) (x : A) (y : B) → I xs ys → R xs ys x y → I (xs ++ x ∷ []) (ys ++ y ∷ []))
      → (past : List A) (past' : List B) (xs : List A) (ys : List B) → I past past' → EachAfter R past past' xs ys → I (past ++ xs) (past' ++ ys)
  each_after-keeps I step past past' [] [] start each = rw (append-nil past, append-nil past') start
  each_after-keeps I step past past' [] (y ∷ ys) start each = absurd each
  each_after-keeps I step past past' (x ∷ xs) [] start each = absurd each
  each_after-keeps I step past past' (x ∷ xs) (y ∷ ys) start each =
      rw (← append_assoc past (x ∷ []) xs, ← append_assoc past' (y ∷ []) ys) (each_after-keeps I step (past ++ x ∷ []) (past' ++ y ∷ []) xs ys (step past past' x y start each.0) each.1)

  -- no list that has elements goes in step with one that has none
  none_beside : (past : List A) (past' : List B) (ys : List B) (y : B) → EachAfter R past past' [] (ys ++ y ∷ []) → ⊥
  none_beside past past' [] y each = each
  none_beside past past' (y' ∷ ys) y each = each

  beside_none : (past : List A) (past' : List B) (xs : List A) (x : A) → EachAfter R past past' (xs ++ x ∷ []) [] → ⊥
  beside_none past past' [] x each = each
  beside_none past past' (x' ∷ xs) x each = each

  -- the last pair, after all before it
  pub each_after-last : (past : List A) (past' : List B) (xs : List A) (ys : List B) (x : A) (y : B) → EachAfter R past past' (xs ++ x ∷ []) (ys ++ y ∷ []) → R (past ++ xs) (past' ++ ys) x y
  each_after-last past past' [] [] x y each = rw (append-nil past, append-nil past') each.0
  each_after-last past past' [] (y' ∷ ys) x y each = absurd (none_beside (past ++ x ∷ []) (past' ++ y' ∷ []) ys y each.1)
  each_after-last past past' (x' ∷ xs) [] x y each = absurd (beside_none (past ++ x' ∷ []) (past' ++ y ∷ []) xs x each.1)
  each_after-last past past' (x' ∷ xs) (y' ∷ ys) x y each =
      rw (← append_assoc past (x' ∷ []) xs, ← append_assoc past' (y' ∷ []) ys) (each_after-last (past ++ x' ∷ []) (past' ++ y' ∷ []) xs ys x y each.1)

  -- there are as many of the one as of the other
  pub each_after-length : (past : List A) (past' : List B) (xs : List A) (ys : List B) → EachAfter R past past' xs ys → length xs ≡ length ys
  each_after-length past past' [] [] each = refl
  each_after-length past past' [] (y ∷ ys) each = absurd each
  each_after-length past past' (x ∷ xs) [] each = absurd each
  each_after-length past past' (x ∷ xs) (y ∷ ys) each = ap (λ n. suc n) (each_after-length (past ++ x ∷ []) (past' ++ y ∷ []) xs ys each.1)

  -- what is allowed by one relation is allowed by a weaker one
  pub each_after-weaker : (Q : List A → List B → A → B → Type 0) → ((xs : List A) (ys : List B) (x : A) (y : B) → R xs ys x y → Q xs ys x y)
      → (past : List A) (past' : List B) (xs : List A) (ys : List B) → EachAfter R past past' xs ys → EachAfter Q past past' xs ys
  each_after-weaker Q weaker past past' [] [] each = tt
  each_after-weaker Q weaker past past' [] (y ∷ ys) each = absurd each
  each_after-weaker Q weaker past past' (x ∷ xs) [] each = absurd each
  each_after-weaker Q weaker past past' (x ∷ xs) (y ∷ ys) each =
      (weaker past past' x y each.0, each_after-weaker Q weaker (past ++ x ∷ []) (past' ++ y ∷ []) xs ys each.1)

-- ---- one list

module _ {A : Type 0} (P : List A → A → Type 0) where
  -- one more element, which is allowed after all that came before
  pub all_after-push : (past xs : List A) (x : A) → AllAfter P past xs → P (past ++ xs) x → AllAfter P past (xs ++ x ∷ [])
  all_after-push past [] x all here = (rw (← append-nil past) here, tt)
  all_after-push past (y ∷ xs) x all here = (all.0, all_after-push (past ++ y ∷ []) xs x all.1 (rw (append_assoc past (y ∷ []) xs) here))

  -- more elements, each of which is allowed after all that came before
  pub all_after-append : (past xs us : List A) → AllAfter P past xs → AllAfter P (past ++ xs) us → AllAfter P past (xs ++ us)
  all_after-append past [] us all more = rw (← append-nil past) more
  all_after-append past (x ∷ xs) us all more = (all.0, all_after-append (past ++ x ∷ []) xs us all.1 (rw (append_assoc past (x ∷ []) xs) more))

  -- what holds at the start, and is kept by each step that is allowed, holds at the end
  pub all_after-keeps : (I : List A → Type 0) → ((xs : List A) (x : A) → I xs → P xs x → I (xs ++ x ∷ [])) → (past xs : List A) → I past → AllAfter P past xs → I (past ++ xs)
  all_after-keeps I step past [] start all = rw (append-nil past) start
  all_after-keeps I step past (x ∷ xs) start all =
      rw (← append_assoc past (x ∷ []) xs) (all_after-keeps I step (past ++ x ∷ []) xs (step past x start all.0) all.1)

  -- what is allowed by one relation is allowed by a weaker one
  pub all_after-weaker : (Q : List A → A → Type 0) → ((before : List A) (x : A) → P before x → Q before x) → (past xs : List A) → AllAfter P past xs → AllAfter Q past xs
  all_after-weaker Q weaker past [] all = tt
  all_after-weaker Q weaker past (x ∷ xs) all = (weaker past x all.0, all_after-weaker Q weaker (past ++ x ∷ []) xs all.1)

  -- what holds of each holds of one of them
  pub all_after-at : (past front rest : List A) (x : A) → AllAfter P past (front ++ x ∷ rest) → P (past ++ front) x
  all_after-at past [] rest x all = subst (λ (before : List A). P before x) (sym (append-nil past)) all.0
  all_after-at past (y ∷ front) rest x all =
      subst (λ (before : List A). P before x) (append_assoc past (y ∷ []) front) (all_after-at (past ++ y ∷ []) front rest x all.1)
