-- What holds of each element of a list holds of each element of the lists that are made of it.
use Rattle.std.proofs.Common.{◌<◌, ℕ, zero, suc, Bool, true, false, List, [], ◌∷◌, get_or, map, Option, Some, None, Result, Ok, Err, IfOk, All, subst}
use Rattle.std.specs.Prelude.{filter, if◌then◌else◌, IfSome, slice_get}
use Rattle.std.specs.List.{AllByRecursion, cons_option, filter_map, flat_map, list_any}
use Rattle.std.proofs.lemmas.List.{get_or_default}
use Rattle.lists.specs.Results.{◌>>=◌}
use Rattle.lists.specs.Since.{since, last_after}
use Rattle.lists.proofs.AllBytes.{IsBytes}
use Rattle.lists.proofs.Every.{every_append}

-- ---- bytes

abbrev pub IfBytes : Option (List ℕ) → Type 0
IfBytes None = Unit {0}
IfBytes (Some bytes) = IsBytes bytes

pub all_bytes : (bytes : List ℕ) → IsBytes bytes → All (λ byte. byte < 256) bytes
all_bytes bytes fits k d within = subst (λ (n : ℕ). n < 256) (get_or_default bytes k 0 d within) (fits k)

-- ---- lists

module _ {A : Type 0} (P : A → Type 0) where
  pub each_at : (xs : List A) (k : ℕ) (d : A) → P d → AllByRecursion P xs → P (get_or xs k d)
  each_at [] zero d default each = default
  each_at [] (suc k) d default each = default
  each_at (x ∷ xs) zero d default each = each.0
  each_at (x ∷ xs) (suc k) d default each = each_at xs k d default each.1

  pub each_filter : (test : A → Bool) (xs : List A) → AllByRecursion P xs → AllByRecursion P (filter test xs)
  each_filter test [] each = tt
  each_filter test (x ∷ xs) each = by_test (test x) (each_filter test xs each.1)
    where
      by_test : (b : Bool) → AllByRecursion P (filter test xs) → AllByRecursion P (if b then x ∷ filter test xs else filter test xs)
      by_test true rest = (each.0, rest)
      by_test false rest = rest

  pub each_since : (test : A → Bool) (xs : List A) → AllByRecursion P xs → AllByRecursion P (since test xs)
  each_since test [] each = tt
  each_since test (x ∷ xs) each = by_test (list_any test xs) (each_since test xs each.1)
    where
      by_test : (b : Bool) → AllByRecursion P (since test xs) → AllByRecursion P (if b then since test xs else x ∷ xs)
      by_test true rest = rest
      by_test false rest = each

  pub each_last : (last : Option A) (xs : List A) → IfSome last P → AllByRecursion P xs → IfSome (last_after last xs) P
  each_last last [] before each = before
  each_last last (x ∷ xs) before each = each_last (Some x) xs each.0 each.1

  pub each_get : (xs : List A) (k : ℕ) → AllByRecursion P xs → IfSome (slice_get xs k) P
  each_get [] zero each = tt
  each_get [] (suc k) each = tt
  each_get (x ∷ xs) zero each = each.0
  each_get (x ∷ xs) (suc k) each = each_get xs k each.1

module _ {A B : Type 0} (P : A → Type 0) (Q : B → Type 0) where
  pub each_map : (f : A → B) → ((x : A) → P x → Q (f x)) → (xs : List A) → AllByRecursion P xs → AllByRecursion Q (map f xs)
  each_map f keeps [] each = tt
  each_map f keeps (x ∷ xs) each = (keeps x each.0, each_map f keeps xs each.1)

  pub each_flat_map : (f : A → List B) → ((x : A) → P x → AllByRecursion Q (f x)) → (xs : List A) → AllByRecursion P xs → AllByRecursion Q (flat_map f xs)
  each_flat_map f keeps [] each = tt
  each_flat_map f keeps (x ∷ xs) each = every_append Q (f x) (flat_map f xs) (keeps x each.0) (each_flat_map f keeps xs each.1)

  pub each_filter_map : (f : A → Option B) → ((x : A) → P x → IfSome (f x) Q) → (xs : List A) → AllByRecursion P xs → AllByRecursion Q (filter_map f xs)
  each_filter_map f keeps [] each = tt
  each_filter_map f keeps (x ∷ xs) each = by_one (f x) (keeps x each.0) (each_filter_map f keeps xs each.1)
    where
      by_one : (o : Option B) → IfSome o Q → (rest : AllByRecursion Q (filter_map f xs)) → AllByRecursion Q (cons_option o (filter_map f xs))
      by_one None one rest = rest
      by_one (Some y) one rest = (one, rest)

-- ---- results

pub bind_if : {A B E : Type 0} (P : A → Type 0) (Q : B → Type 0) (r : Result A E) (f : A → Result B E) → IfOk r P → ((x : A) → P x → IfOk (f x) Q) → IfOk (r >>= f) Q
bind_if P Q (Ok x) f one step = step x one
bind_if P Q (Err e) f one step = tt

pub bind_any : {A B E : Type 0} (Q : B → Type 0) (r : Result A E) (f : A → Result B E) → ((x : A) → IfOk (f x) Q) → IfOk (r >>= f) Q
bind_any Q (Ok x) f step = step x
bind_any Q (Err e) f step = tt

-- a test before a result
pub ok_or : {A E : Type 0} (P : A → Type 0) (b : Bool) (e : E) (r : Result A E) → IfOk r P → IfOk (if b then Err e else r) P
ok_or P true e r one = tt
ok_or P false e r one = one

pub either_or : {A E : Type 0} (P : A → Type 0) (b : Bool) (r s : Result A E) → IfOk r P → IfOk s P → IfOk (if b then r else s) P
either_or P true r s one other = one
either_or P false r s one other = other
