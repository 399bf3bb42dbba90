-- What writes and reads, one after the other, do to known bytes.
use Rattle.std.proofs.Common.{◌≡◌, ℕ, List, [], ◌++◌, take, drop, refl, sym, ap, ◌∙◌, append_assoc, append-nil, take-append-drop}
use Rattle.std.specs.declared.option.Option.{Option}
use Rattle.std.specs.Io.KnownBytes.{Keeps, Appends}
use Rattle.lists.proofs.Known.{Appends-nil, Appends-trans}
use Rattle.otap_capture.specs.Outside.{AppendsFront}

-- all of the text but the rest is written
pub record IsPartWritten (old new : Option (List ℕ)) (text rest : List ℕ) : Type 0 where
  pub front : List ℕ
  pub whole : text ≡ front ++ rest
  pub grown : Appends old new front

-- a front of the text after some of it that is there already
pub front_more : (a b c : Option (List ℕ)) (xs text : List ℕ) → Appends a b xs → AppendsFront b c text → AppendsFront a c (xs ++ text)
front_more a b c xs text before f = record {
  front = xs ++ f.front;
  rest = f.rest;
  whole = ap (λ l. xs ++ l) f.whole ∙ sym (append_assoc xs f.front f.rest);
  grown = Appends-trans a b c xs f.front before f.grown;
}

-- a front of the first part is one of the whole
pub front_of_first : (a b : Option (List ℕ)) (text more : List ℕ) → AppendsFront a b text → AppendsFront a b (text ++ more)
front_of_first a b text more f = record {
  front = f.front;
  rest = f.rest ++ more;
  whole = ap (λ l. l ++ more) f.whole ∙ append_assoc f.front f.rest more;
  grown = f.grown;
}

-- all of it is a front of it
pub front_of_all : (a b : Option (List ℕ)) (text : List ℕ) → Appends a b text → AppendsFront a b text
front_of_all a b text p = record { front = text; rest = []; whole = sym (append-nil text); grown = p }

-- nothing of it is a front of it
pub front_of_none : (a b : Option (List ℕ)) (text : List ℕ) → Keeps a b → AppendsFront a b text
front_of_none a b text p = record { front = []; rest = text; whole = refl; grown = Appends-nil a b p }

-- one more piece of the text is written
pub part_more : (a b c : Option (List ℕ)) (text rest : List ℕ) (n : ℕ) → IsPartWritten a b text rest → Appends b c (take n rest) → IsPartWritten a c text (drop n rest)
part_more a b c text rest n p more = record {
  front = p.front ++ take n rest;
  whole = p.whole ∙ ap (λ l. p.front ++ l) (sym (take-append-drop n rest)) ∙ sym (append_assoc p.front (take n rest) (drop n rest));
  grown = Appends-trans a b c p.front (take n rest) p.grown more;
}
