-- Cells say a pair whose value is a text where they are read as it.
use Rattle.std.proofs.Common.{◌≡◌, ℕ, Bool, true, false, List, [], ◌∷◌, drop, Option, Some, None, refl, sym, ap, ◌∙◌, inl, inr, rules}
use Rattle.std.specs.Prelude.{◌==◌, ◌&&◌, unwrap_or}
use Rattle.std.specs.Str.{bytes_eq}
use Rattle.std.proofs.lemmas.Bool.{and_parts, cases_Bool, false≢true}
use Rattle.std.proofs.lemmas.Bool.Decides.{Decides-eqb}
use Rattle.std.proofs.lemmas.Slice.Eq.{bytes_eq-Decides}
use Rattle.otlp_model.specs.Equal.{pair_is}
use Rattle.otlp_model.specs.declared.value.Pair.{Pair}
use Rattle.otlp_model.specs.declared.value.Value.{Value, out-Value, the_lemmas}
use Rattle.otlp_model.specs.declared.value.Value as values
use Rattle.otlp_model.specs.declared.value.Value.TheOpen.{Value-F}
use Rattle.otlp_model.proofs.Often.{pair_is_told}
use Rattle.cbor_values.specs.declared.weighing.Nesting.{Nesting}
use Rattle.cbor_values.specs.declared.weighing.Nesting.TheVariants as nesting
use Rattle.cbor_values.specs.Values.{value_of}
use Rattle.cbor_values.specs.Weighing.{nesting_step}
use Rattle.otap_cells.specs.Cells.{Cell, bytes_in, cell_at, nat_in}
use Rattle.otap_cells.specs.Continuing.{attribute_in, bytes_by}
use Rattle.otap_attrs.specs.declared.refusal.RowRefusal.TheVariants as why
use Rattle.otap_attrs.specs.Values.{BadValue, IsOther, nested_in, pair_in, value_in, value_of_type}

-- ---- which values are texts

abbrev text_step : Value-F Value Pair → Bool
text_step (Value-F.Str text) = true
text_step _ = false

abbrev is_text : Value → Bool
is_text value = text_step (out-Value value)

abbrev bytes_step : Value-F Value Pair → List ℕ
bytes_step (Value-F.Str text) = text
bytes_step _ = []

abbrev text_of : Value → List ℕ
text_of value = bytes_step (out-Value value)

str_is : (text : List ℕ) → is_text (values.Str text) ≡ true
str_is text = search (rules, the_lemmas)

str_of : (text : List ℕ) → text_of (values.Str text) ≡ text
str_of text = search (rules, the_lemmas)

empty_not : is_text values.Empty ≡ false
empty_not = search (rules, the_lemmas)

int_not : (cells : List Cell) → is_text (value_of_type 2 cells) ≡ false
int_not cells = search (rules, the_lemmas)

double_not : (cells : List Cell) → is_text (value_of_type 3 cells) ≡ false
double_not cells = search (rules, the_lemmas)

bool_not : (cells : List Cell) → is_text (value_of_type 4 cells) ≡ false
bool_not cells = search (rules, the_lemmas)

bytes_not : (cells : List Cell) → is_text (value_of_type 7 cells) ≡ false
bytes_not cells = search (rules, the_lemmas)

-- a text holds no others
plain_text : (step : Value-F Value Pair) → text_step step ≡ true → nesting_step step ≡ nesting.Plain
plain_text (Value-F.Str text) is = refl
plain_text Value-F.Empty is = absurd (false≢true is)
plain_text (Value-F.Bool b) is = absurd (false≢true is)
plain_text (Value-F.Int n) is = absurd (false≢true is)
plain_text (Value-F.Double bits) is = absurd (false≢true is)
plain_text (Value-F.Array members) is = absurd (false≢true is)
plain_text (Value-F.Map pairs) is = absurd (false≢true is)
plain_text (Value-F.Bytes octets) is = absurd (false≢true is)

-- a nested value of its shape is no text
nested_not : (wanted : Nesting) (part : List ℕ) → (nesting.Plain ≡ wanted → ⊥) → (IsOther wanted part → ⊥)
    → (found : Option Value) → value_of part ≡ found → is_text (unwrap_or found values.Empty) ≡ false
nested_not wanted part other fine None is = empty_not
nested_not wanted part other fine (Some v) is = elim (cases_Bool (is_text v)) [
  | inl t ↦ absurd (fine (record { value = v; is = is; other = λ e. other (sym (plain_text (out-Value v) t) ∙ e) }))
  | inr f ↦ f
]

-- only the type of texts has them
other_not : (k : ℕ) (cells : List Cell) → (k == 1) ≡ false → (k ≡ 5 → IsOther nesting.Map (nested_in cells) → ⊥)
    → (k ≡ 6 → IsOther nesting.Array (nested_in cells) → ⊥) → is_text (value_of_type k cells) ≡ false
other_not k cells one map_fine array_fine = elim (cases_Bool (k == 2)) [
  | inl t ↦ rw ((Decides-eqb k 2).0 t) (int_not cells)
  | inr two ↦ elim (cases_Bool (k == 3)) [
    | inl t ↦ rw ((Decides-eqb k 3).0 t) (double_not cells)
    | inr three ↦ elim (cases_Bool (k == 4)) [
      | inl t ↦ rw ((Decides-eqb k 4).0 t) (bool_not cells)
      | inr four ↦ elim (cases_Bool (k == 7)) [
        | inl t ↦ rw ((Decides-eqb k 7).0 t) (bytes_not cells)
        | inr seven ↦ elim (cases_Bool (k == 5)) [
          | inl t ↦ rw (one, two, three, four, seven, t) (nested_not nesting.Map (nested_in cells) (λ e. let s : nesting.Plain ≡ nesting.Map = e in cc s) (map_fine ((Decides-eqb k 5).0 t)) (value_of (nested_in cells)) refl)
          | inr five ↦ elim (cases_Bool (k == 6)) [
            | inl t ↦ rw (one, two, three, four, seven, five, t) (nested_not nesting.Array (nested_in cells) (λ e. let s : nesting.Plain ≡ nesting.Array = e in cc s) (array_fine ((Decides-eqb k 6).0 t)) (value_of (nested_in cells)) refl)
            | inr six ↦ rw (one, two, three, four, seven, five, six) empty_not
          ]
        ]
      ]
    ]
  ]
]

-- ---- the pair

module _ (key text : List ℕ) where
  abbrev pub wanted : Pair
  wanted = record { key = key; value = values.Str text }

  abbrev pub said : List Cell → Bool
  said cells = (attribute_in cells).kind == 1 && bytes_eq (attribute_in cells).key key && bytes_eq (attribute_in cells).bytes text

  module _ (c : Cell) (cs : List Cell) where
    forth : said (c ∷ cs) ≡ true → wanted ≡ pair_in (c ∷ cs)
    unfolding attribute_in pair_in value_in
    forth is =
        let k : ℕ = nat_in (cell_at cs 0) in
        let both = and_parts (k == 1 && bytes_eq (bytes_in c) key) (bytes_eq (bytes_by k (c ∷ cs)) text) is in
        let two = and_parts (k == 1) (bytes_eq (bytes_in c) key) both.0 in
        let keys : bytes_in c ≡ key = (bytes_eq-Decides (bytes_in c) key).0 two.1 in
        let here : bytes_by k (c ∷ cs) ≡ bytes_in (cell_at cs 1) = rw two.0 refl in
        let texts : bytes_in (cell_at cs 1) ≡ text = sym here ∙ (bytes_eq-Decides (bytes_by k (c ∷ cs)) text).0 both.1 in
        let value : values.Str text ≡ value_of_type k cs = rw two.0 (ap values.Str (sym texts)) in
        λ i. record { key = sym keys i; value = value i }

    back : (BadValue cs why.BadValueType → ⊥) → wanted ≡ pair_in (c ∷ cs) → said (c ∷ cs) ≡ true
    unfolding attribute_in pair_in value_in
    back fine is =
        let k : ℕ = nat_in (cell_at cs 0) in
        let value : values.Str text ≡ value_of_type k cs = ap (λ (p : Pair). p.value) is in
        let keys : bytes_eq (bytes_in c) key ≡ true = (bytes_eq-Decides (bytes_in c) key).1 (sym (ap (λ (p : Pair). p.key) is)) in
        elim (cases_Bool (k == 1)) [
          | inl one ↦
              let here : bytes_by k (c ∷ cs) ≡ bytes_in (cell_at cs 1) = rw one refl in
              let same : value_of_type k cs ≡ values.Str (bytes_in (cell_at cs 1)) = rw one refl in
              let texts : text ≡ bytes_in (cell_at cs 1) = sym (str_of text) ∙ ap text_of (value ∙ same) ∙ str_of (bytes_in (cell_at cs 1)) in
              let also : bytes_eq (bytes_by k (c ∷ cs)) text ≡ true = (bytes_eq-Decides (bytes_by k (c ∷ cs)) text).1 (here ∙ sym texts) in
              rw (also, keys, one) refl
          | inr other ↦
              let no_text : is_text (value_of_type k cs) ≡ false = other_not k cs other (λ five is. fine (inr (inl (five, is)))) (λ six is. fine (inr (inr (six, is)))) in
              absurd (false≢true (sym no_text ∙ sym (ap is_text value) ∙ str_is text))
        ]

  nothing : wanted ≡ pair_in [] → ⊥
  unfolding pair_in value_in
  nothing is = false≢true (sym empty_not ∙ sym (ap (λ (p : Pair). is_text p.value) is) ∙ str_is text)

  -- WHAT CELLS SAY is what is read of them
  pub said_is : (cells : List Cell) → (BadValue (drop 1 cells) why.BadValueType → ⊥) → said cells ≡ pair_is wanted (pair_in cells)
  unfolding attribute_in
  said_is [] fine = pair_is_told false wanted (pair_in []) ((λ e. absurd (false≢true e)), (λ is. absurd (nothing is)))
  said_is (c ∷ cs) fine = pair_is_told (said (c ∷ cs)) wanted (pair_in (c ∷ cs)) (forth c cs, back c cs fine)
