use Rattle.std.proofs.Common.{◌≡◌, ◌+◌, ◌≤◌, [], ◌∷◌, ◌++◌, length, ap, subst, sym, List, ℕ, arith}
use Rattle.std.specs.Option.{option_copied}
use Rattle.std.specs.Prelude.{All}
use Rattle.std.proofs.lemmas.Grind.{common_steps}
use Rattle.std.proofs.lemmas.List.Elements.{All-nil, All-cons, All-append, All-weaker}
use Rattle.otap_columns.specs.declared.reader.ends.End.{End}
use Rattle.otap_columns.specs.Dictionaries.{DictionaryIn}
use Rattle.otap_columns.specs.Ends.{bytes_or_none}
use Rattle.otap_columns.proofs.Lying.{Pushed, pushed, values_len}
use Rattle.otap_columns.proofs.reader.dictionary.Dictionary.push.Goals as goal

abbrev added : goal.After-self-1 → End
added c = record { from = c.len-from.result; place = c.len-place.result; there = c.in_ok-there.there }

ends_are : (c : goal.After-self-1) → c.push.new.self.items ≡ c.self.inside.ends.items ++ added c ∷ []
ends_are c = grind (arith, common_steps, c.in_ok-push.ensures.items)

grown_to : (c : goal.After-self-1) → Pushed c.self.inside.bytes.items c.keep.new.kept.items 0 c.self.inside.ends.items c.push.new.self.items (option_copied c.args.value)
grown_to c =
    let bytes : c.keep.new.kept.items ≡ c.self.inside.bytes.items ++ bytes_or_none (option_copied c.args.value) = c.in_ok-there.ensures.bytes in
    let begins : c.len-from.result ≡ length c.self.inside.bytes.items = omega (arith, c.len-from.ensures) in
    let place : c.len-place.result ≡ length (c.self.inside.bytes.items ++ bytes_or_none (option_copied c.args.value)) = omega (arith, c.len-place.ensures, ap length bytes, c.keep.new.kept.ok.0) in
    subst (λ (bs : List ℕ). Pushed c.self.inside.bytes.items bs 0 c.self.inside.ends.items c.push.new.self.items (option_copied c.args.value)) (sym bytes)
    (subst (λ (es : List End). Pushed c.self.inside.bytes.items (c.self.inside.bytes.items ++ bytes_or_none (option_copied c.args.value)) 0 c.self.inside.ends.items es (option_copied c.args.value)) (sym (ends_are c))
    (pushed c.self.inside.bytes.items 0 c.self.inside.ends.items (added c) (option_copied c.args.value) c.self.invariant.ends begins place c.in_ok-there.ensures.there))

pub invariant_of-self-2 : goal.invariant_of-self-2
invariant_of-self-2 c =
    let g : Pushed c.self.inside.bytes.items c.keep.new.kept.items 0 c.self.inside.ends.items c.push.new.self.items (option_copied c.args.value) = grown_to c in
    record {
      few = omega (arith, g.count, c.requires, ap (λ (d : DictionaryIn). length d.values) c.self.view_is, values_len c.self.inside.bytes.items 0 c.self.inside.ends.items);
      small = omega (arith, c.in_ok-there.ensures.small, c.keep.new.kept.ok.0);
      ends = g.are;
      longest = subst (λ (es : List End). All (λ e. e.place ≤ e.from + c.max-self-inside.result) es) (sym (ends_are c)) (
          All-append (λ e. e.place ≤ e.from + c.max-self-inside.result) c.self.inside.ends.items (added c ∷ [])
          (All-weaker (λ e. e.place ≤ e.from + c.self.inside.longest) (λ e. e.place ≤ e.from + c.max-self-inside.result) (λ e short. omega (arith, short, c.max-self-inside.ensures)) c.self.inside.ends.items c.self.invariant.longest)
          (All-cons (λ e. e.place ≤ e.from + c.max-self-inside.result) (added c) [] (omega (arith, c.max-self-inside.ensures)) (All-nil (λ e. e.place ≤ e.from + c.max-self-inside.result))));
    }

pub returns-clause-ok : goal.returns-clause-ok
returns-clause-ok c =
    let g : Pushed c.self.inside.bytes.items c.keep.new.kept.items 0 c.self.inside.ends.items c.push.new.self.items (option_copied c.args.value) = grown_to c in
    rw (← c.self.view_is) (λ i. record { id = c.self.inside.id; kind = c.self.inside.kind; values = g.values i })
