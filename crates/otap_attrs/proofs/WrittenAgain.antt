-- Rows that take cells of the row before them again.
use Rattle.std.proofs.Common.{◌≡◌, ℕ, suc, ◌+◌, ◌*◌, ◌-◌, ◌<◌, pos, true, false, ◌==◌, ◌&&◌, ◌||◌, List, [], ◌∷◌, ◌++◌, drop, get_or, set, length, replicate, Option, None, Some, refl, sym, ap, subst, ◌∙◌, arith, inl, inr}
use Rattle.std.specs.Prelude.{All, IfSome, not, if◌then◌else◌}
use Rattle.std.specs.List.{slice_index_or}
use Rattle.std.specs.Str.{bytes_eq}
use Rattle.std.specs.declared.cmp.Ordering.{Ordering}
use Rattle.std.specs.declared.cmp.Ordering.TheVariants.{Less, Equal, Greater}
use Rattle.std.specs.Ordering.{int_cmp, int_eq, is_eq, nat_cmp, ordering_then}
use Rattle.std.specs.Cmp.{nat_cmp_is}
use Rattle.std.specs.Cmp.Lexicographic.{slice_cmp}
use Rattle.std.proofs.Math.Seq.{get_or-append_seam}
use Rattle.std.proofs.lemmas.Bool.{and_from, and_parts, and_right, cases_Bool, cond-false, cond-true, false_from_ne_true, or_right, true≢false}
use Rattle.std.proofs.lemmas.Bool.Decides.{Decides-eqb, Decides-int_eq}
use Rattle.std.proofs.lemmas.Cmp.{int_cmp_total, nat_cmp_total, nat_list_cmp_total, tied_itself}
use Rattle.std.proofs.lemmas.List.{get_or_append_left, length-append}
use Rattle.std.proofs.lemmas.Slice.Eq.{bytes_eq-Decides}
use Rattle.otap_cells.specs.declared.payload.Kind.{Kind}
use Rattle.otap_cells.specs.Cells.{Cell, null, number}
use Rattle.otap_cells.specs.Continuing.{AttributeIn, attribute_is, has_attributes, is_run_kind, seen_attribute}
use Rattle.otap_cells.specs.Scalars.{number_cell, text_cell}
use Rattle.otap_cells.specs.Tables.{Table, cell_in, null_row, profile_table, with_cell}
use Rattle.otap_cells.proofs.AttributeColumns.{attribute_width}
use Rattle.otap_cells.proofs.Rowwise.{with_cell-push}
use Rattle.otap_attrs.specs.declared.sorting.Keyed.{Keyed}
use Rattle.otap_attrs.specs.declared.sorting.Ranked.{Ranked}
use Rattle.otap_attrs.specs.Fronts.{front_len, front_number, past_front, word}
use Rattle.otap_attrs.specs.Names.{name_cmp}
use Rattle.otap_attrs.specs.Sorting.{KeyIn}
use Rattle.otap_attrs.specs.Inside.{ComesAfter, EndsNamed, EndsSame, HasKeyAndFront, IsRankedAs, attribute_cells, attribute_row, base_after, has_value_of, keyed_cells, keyed_row, left_bytes, name_in, ranked_keyed, said_cell, seen_key, value_place, with_some}
use Rattle.otap_attrs.proofs.AttributeCells.{no_value, one_place, some_last}
use Rattle.otap_attrs.proofs.FrontOrder.{by_lens, front_value, value_cmp}
use Rattle.otap_attrs.proofs.SortedRows.{own_key, tied_numbers}
use Rattle.otap_attrs.proofs.TableLaws.{same_attribute}

-- ---- what ties is the same

ties : (a b : Ordering) → ordering_then a b ≡ Equal → (a ≡ Equal) × (b ≡ Equal)
ties Less b is = absurd (let clash : Less ≡ Equal = is in cc)
ties Equal b is = (refl, is)
ties Greater b is = absurd (let clash : Greater ≡ Equal = is in cc)

tied_texts : (xs ys : List ℕ) → slice_cmp nat_cmp xs ys ≡ Equal → xs ≡ ys
tied_texts [] [] is = refl
tied_texts [] (y ∷ ys) is = absurd (let clash : Less ≡ Equal = is in cc)
tied_texts (x ∷ xs) [] is = absurd (let clash : Greater ≡ Equal = is in cc)
tied_texts (x ∷ xs) (y ∷ ys) is =
    let both = ties (nat_cmp x y) (slice_cmp nat_cmp xs ys) is in
    let first : x ≡ y = tied_numbers x y both.0 in
    let rest : xs ≡ ys = tied_texts xs ys both.1 in
    λ i. first i ∷ rest i

tied_name : (z : AttributeIn) → name_cmp (name_in z) (name_in z) ≡ Equal
tied_name z = λ i. ordering_then (tied_itself nat_cmp_total z.kind i) (tied_itself nat_list_cmp_total z.key i)

tied_value : (z : AttributeIn) → value_cmp z z ≡ Equal
tied_value z = λ i. ordering_then (tied_itself int_cmp_total z.int i) (ordering_then (tied_itself nat_cmp_total z.bits i) (tied_itself nat_list_cmp_total z.bytes i))

attribute_itself : (a b : AttributeIn) → a ≡ b → attribute_is a b ≡ true
attribute_itself a b same =
    and_from (a.kind == b.kind && bytes_eq a.key b.key && int_eq a.int b.int && a.bits == b.bits) (bytes_eq a.bytes b.bytes)
    (and_from (a.kind == b.kind && bytes_eq a.key b.key && int_eq a.int b.int) (a.bits == b.bits)
    (and_from (a.kind == b.kind && bytes_eq a.key b.key) (int_eq a.int b.int)
    (and_from (a.kind == b.kind) (bytes_eq a.key b.key) ((Decides-eqb a.kind b.kind).1 (ap (λ (z : AttributeIn). z.kind) same)) ((bytes_eq-Decides a.key b.key).1 (ap (λ (z : AttributeIn). z.key) same)))
    ((Decides-int_eq a.int b.int).1 (ap (λ (z : AttributeIn). z.int) same)))
    ((Decides-eqb a.bits b.bits).1 (ap (λ (z : AttributeIn). z.bits) same)))
    ((bytes_eq-Decides a.bytes b.bytes).1 (ap (λ (z : AttributeIn). z.bytes) same))

-- what fronts of one length leave
same_left : (m n : ℕ) (xs ys : List ℕ) → m ≡ n → (not (n == 17) || bytes_eq (past_front m xs) (past_front n ys)) ≡ true → past_front m xs ≡ past_front n ys
same_left m n xs ys same told = elim (cases_Bool (n == 17)) [
  | inl long ↦ (bytes_eq-Decides (past_front m xs) (past_front n ys)).0 (sym (ap (λ t. not t || bytes_eq (past_front m xs) (past_front n ys)) long) ∙ told)
  | inr other ↦ ap (λ (k : ℕ). past_front k xs) same ∙ cond-false (n == 17) (drop 16 xs) [] other ∙ sym (cond-false (n == 17) (drop 16 ys) [] other)
]

-- ---- a row and the one before it

-- the row of a key with its parent as it is stored
pub row_coded : (before : Option KeyIn) (keyed : Keyed) (parent : ℕ) → parent ≡ keyed.parent - base_after before (seen_key keyed)
    → attribute_row parent (seen_attribute keyed.attribute) ≡ keyed_row before (seen_key keyed) (keyed_cells keyed)
row_coded before keyed parent is = ap (λ (p : ℕ). number (pos p) ∷ attribute_cells (seen_attribute keyed.attribute)) is

module _ (a b : Ranked) (of_a : HasKeyAndFront a) (of_b : HasKeyAndFront b) (ranks : IsRankedAs a b) where
  abbrev earlier : AttributeIn
  earlier = seen_attribute a.keyed.now.attribute

  abbrev later : AttributeIn
  later = seen_attribute b.keyed.now.attribute

  -- one rank, one name
  one_name : a.rank ≡ b.rank → name_cmp (name_in earlier) (name_in later) ≡ Equal
  one_name same = sym ranks ∙ sym (nat_cmp_is a.rank b.rank Equal same)

  pub same_kind : a.rank ≡ b.rank → earlier.kind ≡ later.kind
  same_kind same = tied_numbers earlier.kind later.kind (ties (nat_cmp earlier.kind later.kind) (slice_cmp nat_cmp earlier.key later.key) (one_name same)).0

  pub same_key : a.rank ≡ b.rank → earlier.key ≡ later.key
  same_key same = tied_texts earlier.key later.key (ties (nat_cmp earlier.kind later.kind) (slice_cmp nat_cmp earlier.key later.key) (one_name same)).1

  other_name : (a.rank ≡ b.rank → ⊥) → earlier ≡ later → ⊥
  other_name differs same =
      let tie : name_cmp (name_in earlier) (name_in later) ≡ Equal = subst (λ (z : AttributeIn). name_cmp (name_in earlier) (name_in z) ≡ Equal) same (tied_name earlier) in
      differs (tied_numbers a.rank b.rank (ranks ∙ tie))

  fronts : earlier.kind ≡ later.kind → ordering_then (nat_cmp (front_number a.front) (front_number b.front)) (by_lens (front_len earlier) (front_len later) earlier.bytes later.bytes) ≡ value_cmp earlier later
  fronts kinds = front_value earlier later a.front b.front of_a.front of_b.front (own_key a.keyed.now of_a.key) (own_key b.keyed.now of_b.key) kinds

  -- one front of one length, and the same bytes after it
  tied_lens : a.len ≡ b.len → left_bytes a ≡ left_bytes b → by_lens (front_len earlier) (front_len later) earlier.bytes later.bytes ≡ Equal
  tied_lens len left =
      sym (λ i. by_lens (of_a.len i) (of_b.len i) earlier.bytes later.bytes)
      ∙ ap (λ o. ordering_then o (slice_cmp nat_cmp (left_bytes a) (left_bytes b))) (sym (nat_cmp_is a.len b.len Equal len))
      ∙ ap (slice_cmp nat_cmp (left_bytes a)) (sym left) ∙ tied_itself nat_list_cmp_total (left_bytes a)

  pub same_value : a.rank ≡ b.rank → has_value_of a b ≡ true → earlier ≡ later
  same_value one valued =
      let p = and_parts (a.front.first == b.front.first && a.front.next == b.front.next && a.len == b.len) (not (b.len == 17) || bytes_eq (left_bytes a) (left_bytes b)) valued in
      let q = and_parts (a.front.first == b.front.first && a.front.next == b.front.next) (a.len == b.len) p.0 in
      let r = and_parts (a.front.first == b.front.first) (a.front.next == b.front.next) q.0 in
      let first : a.front.first ≡ b.front.first = (Decides-eqb a.front.first b.front.first).0 r.0 in
      let next : a.front.next ≡ b.front.next = (Decides-eqb a.front.next b.front.next).0 r.1 in
      let front : front_number a.front ≡ front_number b.front = λ i. first i * word + next i in
      let len : a.len ≡ b.len = (Decides-eqb a.len b.len).0 q.1 in
      let left : left_bytes a ≡ left_bytes b = same_left a.len b.len earlier.bytes later.bytes len p.1 in
      let kinds : earlier.kind ≡ later.kind = same_kind one in
      let value : value_cmp earlier later ≡ Equal = sym (fronts kinds)
      ∙ ap (λ o. ordering_then o (by_lens (front_len earlier) (front_len later) earlier.bytes later.bytes)) (sym (nat_cmp_is (front_number a.front) (front_number b.front) Equal front)) ∙ tied_lens len left in
      let u = ties (int_cmp earlier.int later.int) (ordering_then (nat_cmp earlier.bits later.bits) (slice_cmp nat_cmp earlier.bytes later.bytes)) value in
      let v = ties (nat_cmp earlier.bits later.bits) (slice_cmp nat_cmp earlier.bytes later.bytes) u.1 in
      let int : earlier.int ≡ later.int = (Decides-int_eq earlier.int later.int).0 (ap is_eq u.0) in
      let bits : earlier.bits ≡ later.bits = tied_numbers earlier.bits later.bits v.0 in
      let part : earlier.bytes ≡ later.bytes = tied_texts earlier.bytes later.bytes v.1 in
      let key : earlier.key ≡ later.key = same_key one in
      λ i. record { kind = kinds i; key = key i; int = int i; bits = bits i; bytes = part i }

  -- rows that say the same have the same value
  said_same : earlier ≡ later → has_value_of a b ≡ true
  said_same same =
      let kinds : earlier.kind ≡ later.kind = ap (λ (z : AttributeIn). z.kind) same in
      let value : value_cmp earlier later ≡ Equal = subst (λ (z : AttributeIn). value_cmp earlier z ≡ Equal) same (tied_value earlier) in
      let u = ties (nat_cmp (front_number a.front) (front_number b.front)) (by_lens (front_len earlier) (front_len later) earlier.bytes later.bytes) (fronts kinds ∙ value) in
      let v = ties (nat_cmp (front_len earlier) (front_len later)) (slice_cmp nat_cmp (past_front (front_len earlier) earlier.bytes) (past_front (front_len later) later.bytes)) u.1 in
      let front : front_number a.front ≡ front_number b.front = tied_numbers (front_number a.front) (front_number b.front) u.0 in
      let first : a.front.first ≡ b.front.first = omega (arith, front, of_a.front.small, of_b.front.small) in
      let next : a.front.next ≡ b.front.next = omega (arith, front, of_a.front.small, of_b.front.small) in
      let len : a.len ≡ b.len = of_a.len ∙ tied_numbers (front_len earlier) (front_len later) v.0 ∙ sym of_b.len in
      let left : left_bytes a ≡ left_bytes b =
      ap (λ (k : ℕ). past_front k earlier.bytes) of_a.len ∙ tied_texts (past_front (front_len earlier) earlier.bytes) (past_front (front_len later) later.bytes) v.1 ∙ sym (ap (λ (k : ℕ). past_front k later.bytes) of_b.len) in
      and_from (a.front.first == b.front.first && a.front.next == b.front.next && a.len == b.len) (not (b.len == 17) || bytes_eq (left_bytes a) (left_bytes b))
      (and_from (a.front.first == b.front.first && a.front.next == b.front.next) (a.len == b.len)
      (and_from (a.front.first == b.front.first) (a.front.next == b.front.next) ((Decides-eqb a.front.first b.front.first).1 first) ((Decides-eqb a.front.next b.front.next).1 next))
      ((Decides-eqb a.len b.len).1 len))
      (or_right (not (b.len == 17)) (bytes_eq (left_bytes a) (left_bytes b)) ((bytes_eq-Decides (left_bytes a) (left_bytes b)).1 left))

  -- ---- the parent as it is stored

  apart : (earlier ≡ later → ⊥) → base_after (Some (seen_key a.keyed.now)) (seen_key b.keyed.now) ≡ 0
  apart differs =
      cond-false (is_run_kind later.kind && attribute_is earlier later) a.keyed.now.parent 0
      (and_right (is_run_kind later.kind) (attribute_is earlier later) (false_from_ne_true (attribute_is earlier later) (λ same. differs (same_attribute earlier later same))))

  abbrev Stored : ℕ → Type 0
  Stored parent = attribute_row parent later ≡ keyed_row (Some (seen_key a.keyed.now)) (seen_key b.keyed.now) (keyed_cells b.keyed.now)

  -- a row of another name
  pub other_named : (a.rank ≡ b.rank → ⊥) → Stored b.keyed.now.parent
  other_named differs = row_coded (Some (seen_key a.keyed.now)) b.keyed.now b.keyed.now.parent (omega (arith, apart (other_name differs)))

  -- a row of the same name with another value
  pub other_valued : has_value_of a b ≡ false → Stored b.keyed.now.parent
  other_valued none =
      row_coded (Some (seen_key a.keyed.now)) b.keyed.now b.keyed.now.parent
      (omega (arith, apart (λ same. true≢false (sym (said_same same) ∙ none))))

  -- a row that says the same
  pub said_again : (parent : ℕ) → earlier ≡ later → parent ≡ (if is_run_kind later.kind then b.keyed.now.parent - a.keyed.now.parent else b.keyed.now.parent) → Stored parent
  said_again parent same is = elim (cases_Bool (is_run_kind later.kind)) [
    | inl run ↦
        let base : base_after (Some (seen_key a.keyed.now)) (seen_key b.keyed.now) ≡ a.keyed.now.parent =
        cond-true (is_run_kind later.kind && attribute_is earlier later) a.keyed.now.parent 0 (and_from (is_run_kind later.kind) (attribute_is earlier later) run (attribute_itself earlier later same)) in
        let own : parent ≡ b.keyed.now.parent - a.keyed.now.parent = is ∙ cond-true (is_run_kind later.kind) (b.keyed.now.parent - a.keyed.now.parent) b.keyed.now.parent run in
        row_coded (Some (seen_key a.keyed.now)) b.keyed.now parent (omega (arith, base, own))
    | inr none ↦
        let base : base_after (Some (seen_key a.keyed.now)) (seen_key b.keyed.now) ≡ 0 =
        cond-false (is_run_kind later.kind && attribute_is earlier later) a.keyed.now.parent 0 (ap (λ t. t && attribute_is earlier later) none) in
        let own : parent ≡ b.keyed.now.parent = is ∙ cond-false (is_run_kind later.kind) (b.keyed.now.parent - a.keyed.now.parent) b.keyed.now.parent none in
        row_coded (Some (seen_key a.keyed.now)) b.keyed.now parent (omega (arith, base, own))
  ]

  -- the cells that are there already
  pub ends_named : (rows : List (List Cell)) → a.rank ≡ b.rank → EndsSame earlier rows → EndsNamed later rows
  ends_named rows one ends = record {
    some = ends.named.some;
    key = ends.named.key ∙ ap text_cell (same_key one);
    kind = ends.named.kind ∙ ap number_cell (same_kind one);
  }

  pub ends_same : (rows : List (List Cell)) → earlier ≡ later → EndsSame earlier rows → EndsSame later rows
  ends_same rows same ends = subst (λ (z : AttributeIn). EndsSame z rows) same ends

-- ---- rows, cell by cell

-- a cell of the last row that is written as the one of the row before
again_last : (rows : List (List Cell)) (row : List Cell) (column : ℕ) (x : Cell) → 0 < length rows → cell_in rows column (length rows - 1) ≡ x
    → with_cell column (cell_in (rows ++ row ∷ []) column (length (rows ++ row ∷ []) - 2)) (rows ++ row ∷ []) ≡ rows ++ set row column x ∷ []
again_last rows row column x some at =
    let two : length (rows ++ row ∷ []) - 2 ≡ length rows - 1 = omega (arith, length-append rows (row ∷ [])) in
    let cell : cell_in (rows ++ row ∷ []) column (length (rows ++ row ∷ []) - 2) ≡ x =
    ap (cell_in (rows ++ row ∷ []) column) two
    ∙ ap (λ (r : List Cell). get_or r column null) (get_or_append_left rows (row ∷ []) [] (length rows - 1) (omega arith))
    ∙ at in
    ap (λ (y : Cell). with_cell column y (rows ++ row ∷ [])) cell ∙ with_cell-push column x rows row

-- the row before, whose number of a parent is written, and whose name is taken again
module _ (before pushed first second third : Table) (parent : ℕ) (a : AttributeIn) (own : Cell) (is : has_attributes before.kind ≡ true)
    (one : pushed ≡ record before { rows = before.rows ++ null_row before.kind ∷ [] })
    (two : first ≡ record pushed { rows = with_cell 0 own pushed.rows }) (is_own : own ≡ number (pos parent))
    (three : second ≡ record first { rows = with_cell 1 (cell_in first.rows 1 (length first.rows - 2)) first.rows })
    (four : third ≡ record second { rows = with_cell 2 (cell_in second.rows 2 (length second.rows - 2)) second.rows })
    (ends : EndsNamed a before.rows) where
  abbrev Last : Table → List Cell → Type 0
  Last t row = t ≡ record before { rows = before.rows ++ row ∷ [] }

  null_last : Last pushed (replicate 9 null)
  null_last = one ∙ ap {B = Table} (λ (n : ℕ). record before { rows = before.rows ++ replicate n null ∷ [] }) (attribute_width before.kind is)

  parent_last : Last first (number (pos parent) ∷ replicate 8 null)
  parent_last =
      two
      ∙ (λ i. record pushed { rows = with_cell 0 (is_own i) pushed.rows })
      ∙ ap {B = Table} (λ (t : Table). record t { rows = with_cell 0 (number (pos parent)) t.rows }) null_last
      ∙ ap {B = Table} (λ (rows : List (List Cell)). record before { rows = rows }) (with_cell-push 0 (number (pos parent)) before.rows (replicate 9 null))

  key_last : Last second (number (pos parent) ∷ text_cell a.key ∷ replicate 7 null)
  key_last =
      three
      ∙ ap {B = Table} (λ (t : Table). record t { rows = with_cell 1 (cell_in t.rows 1 (length t.rows - 2)) t.rows }) parent_last
      ∙ ap {B = Table} (λ (rows : List (List Cell)). record before { rows = rows }) (again_last before.rows (number (pos parent) ∷ replicate 8 null) 1 (text_cell a.key) ends.some ends.key)

  kind_last : Last third (number (pos parent) ∷ text_cell a.key ∷ number_cell a.kind ∷ replicate 6 null)
  kind_last =
      four
      ∙ ap {B = Table} (λ (t : Table). record t { rows = with_cell 2 (cell_in t.rows 2 (length t.rows - 2)) t.rows }) key_last
      ∙ ap {B = Table} (λ (rows : List (List Cell)). record before { rows = rows })
      (again_last before.rows (number (pos parent) ∷ text_cell a.key ∷ replicate 7 null) 2 (number_cell a.kind) ends.some ends.kind)

  -- with a value of its own, or that of the row before
  pub named_written : (whole : Table) (column : ℕ) (value : Cell) → whole ≡ record third { rows = with_some column value third.rows } → column ≡ suc (value_place a.kind) → value ≡ said_cell a
      → whole ≡ record before { rows = before.rows ++ attribute_row parent a ∷ [] }
  named_written whole column value five at is_value =
      five
      ∙ (λ i. record third { rows = with_some (at i) (is_value i) third.rows })
      ∙ ap {B = Table} (λ (t : Table). record t { rows = with_some (suc (value_place a.kind)) (said_cell a) t.rows }) kind_last
      ∙ ap {B = Table} (λ (rows : List (List Cell)). record before { rows = rows })
      (some_last before.rows (number (pos parent) ∷ text_cell a.key ∷ number_cell a.kind ∷ replicate 6 null) (suc (value_place a.kind)) (said_cell a) (no_value (text_cell a.key) (number_cell a.kind) a.kind))

  pub again_written : (whole : Table) (column : ℕ) → whole ≡ record third { rows = with_cell column (cell_in third.rows column (length third.rows - 2)) third.rows } → column ≡ suc (value_place a.kind)
      → cell_in before.rows (suc (value_place a.kind)) (length before.rows - 1) ≡ said_cell a
      → whole ≡ record before { rows = before.rows ++ attribute_row parent a ∷ [] }
  again_written whole column five at value =
      five
      ∙ (λ i. record third { rows = with_cell (at i) (cell_in third.rows (at i) (length third.rows - 2)) third.rows })
      ∙ ap {B = Table} (λ (t : Table). record t { rows = with_cell (suc (value_place a.kind)) (cell_in t.rows (suc (value_place a.kind)) (length t.rows - 2)) t.rows }) kind_last
      ∙ ap {B = Table} (λ (rows : List (List Cell)). record before { rows = rows })
      (again_last before.rows (number (pos parent) ∷ text_cell a.key ∷ number_cell a.kind ∷ replicate 6 null) (suc (value_place a.kind)) (said_cell a) ends.some value)

-- ---- a row that was written

ends_written : (rows : List (List Cell)) (parent : Cell) (a : AttributeIn) → EndsSame a (rows ++ (parent ∷ attribute_cells a) ∷ [])
ends_written rows parent a =
    let row = parent ∷ attribute_cells a in
    let front = text_cell a.key ∷ number_cell a.kind ∷ replicate 6 null in
    let long = length-append rows (row ∷ []) in
    let last : length (rows ++ row ∷ []) - 1 ≡ length rows = omega (arith, long) in
    let at : (column : ℕ) → cell_in (rows ++ row ∷ []) column (length (rows ++ row ∷ []) - 1) ≡ get_or row column null =
    λ column. ap (cell_in (rows ++ row ∷ []) column) last ∙ ap (λ (r : List Cell). get_or r column null) (get_or-append_seam rows row [] []) in
    record {
      named = record {
        some = omega (arith, long);
        key = at 1 ∙ one_place (λ place. get_or (set front place (said_cell a)) 0 null ≡ text_cell a.key) a.kind refl refl refl refl refl refl;
        kind = at 2 ∙ one_place (λ place. get_or (set front place (said_cell a)) 1 null ≡ number_cell a.kind) a.kind refl refl refl refl refl refl;
      };
      value = at (suc (value_place a.kind)) ∙ one_place (λ place. get_or (set front place (said_cell a)) place null ≡ said_cell a) a.kind refl refl refl refl refl refl;
    }

-- what is known of the row before, whichever of all rows comes next
pub record WasLast (all : List Ranked) (before : Ranked) (rows : List (List Cell)) : Type 0 where
  pub own : HasKeyAndFront before
  pub ranks : All (IsRankedAs before) all
  pub last : EndsSame (seen_attribute before.keyed.now.attribute) rows

pub comes_after : (before : Option Ranked) (all : List Ranked) (rows : List (List Cell)) (k : ℕ) (d : Ranked) → k < length all → All HasKeyAndFront all
    → IfSome before (λ b. WasLast all b rows) → IfSome before (λ b. ComesAfter b (slice_index_or all k d) rows)
comes_after None all rows k d low keys was = tt
comes_after (Some b) all rows k d low keys was = record { former = was.own; row = keys k d low; ranks = was.ranks k d low; last = was.last }

pub was_last : (all : List Ranked) (k : ℕ) (d : Ranked) (before : Option KeyIn) (rows pushed : List (List Cell)) → k < length all → All HasKeyAndFront all → All (λ a. All (IsRankedAs a) all) all
    → pushed ≡ rows ++ keyed_row before (seen_key (ranked_keyed (slice_index_or all k d))) (keyed_cells (ranked_keyed (slice_index_or all k d))) ∷ []
    → WasLast all (slice_index_or all k d) pushed
was_last all k d before rows pushed low keys ranks more =
    let says = seen_attribute (ranked_keyed (slice_index_or all k d)).attribute in
    record {
      own = keys k d low;
      ranks = ranks k d low;
      last = subst (EndsSame says) (sym more) (ends_written rows _ says);
    }

-- a table with more rows is one of the profile still
pub still_profile : (kind : Kind) (old new : Table) (rows : List (List Cell)) → old ≡ profile_table kind old.rows → new ≡ record old { rows = rows } → new ≡ profile_table kind new.rows
still_profile kind old new rows was is =
    is ∙ ap {B = Table} (λ (t : Table). record t { rows = rows }) was ∙ ap (profile_table kind) (sym (ap (λ (t : Table). t.rows) is))
