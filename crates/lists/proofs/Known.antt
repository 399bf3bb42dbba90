-- What writes and reads, one after the other, do to known bytes.
use Rattle.std.proofs.Common.{ℕ, List, [], ◌++◌, None, Some, refl, sym, ap, ◌∙◌, append_assoc, append-nil}
use Rattle.std.specs.declared.option.Option.{Option}
use Rattle.std.specs.Io.KnownBytes.{Keeps, Appends}

pub Keeps-refl : (a : Option (List ℕ)) → Keeps a a
Keeps-refl None = tt
Keeps-refl (Some xs) = refl

pub Keeps-trans : (a b c : Option (List ℕ)) → Keeps a b → Keeps b c → Keeps a c
Keeps-trans None b c p q = tt
Keeps-trans (Some xs) None c p q = absurd p
Keeps-trans (Some xs) (Some ys) None p q = absurd q
Keeps-trans (Some xs) (Some ys) (Some zs) p q = q ∙ p

pub Appends-nil : (a b : Option (List ℕ)) → Keeps a b → Appends a b []
Appends-nil None b p = tt
Appends-nil (Some xs) None p = absurd p
Appends-nil (Some xs) (Some ys) p = p ∙ sym (append-nil xs)

pub Appends-trans : (a b c : Option (List ℕ)) (xs ys : List ℕ) → Appends a b xs → Appends b c ys → Appends a c (xs ++ ys)
Appends-trans None b c xs ys p q = tt
Appends-trans (Some as') None c xs ys p q = absurd p
Appends-trans (Some as') (Some bs) None xs ys p q = absurd q
Appends-trans (Some as') (Some bs) (Some cs) xs ys p q = q ∙ ap (λ l. l ++ ys) p ∙ append_assoc as' xs ys

pub Appends-kept : (a b c : Option (List ℕ)) (xs : List ℕ) → Appends a b xs → Keeps b c → Appends a c xs
Appends-kept None b c xs p q = tt
Appends-kept (Some as') None c xs p q = absurd p
Appends-kept (Some as') (Some bs) None xs p q = absurd q
Appends-kept (Some as') (Some bs) (Some cs) xs p q = q ∙ p
