-- How much a batch takes, part by part.
use Rattle.std.proofs.Common.{◌≡◌, ℕ, ◌+◌, ◌*◌, ◌/◌, ◌<◌, ◌≤◌, List, [], ◌∷◌, ◌++◌, length, get_or, take, sym, ap, subst, arith, length-append}
use Rattle.std.specs.Prelude.{pos, sum_by, Result, Ok, Err, OnOk}
use Rattle.std.proofs.lemmas.List.{take_more}
use Rattle.std.proofs.lemmas.List.Sums.{sum_by-cons, sum_by-append, sum_by_push, sum_by-take-le}
use Rattle.arrow_buffers.specs.declared.builder.Buffers.{Buffers}
use Rattle.arrow_buffers.specs.declared.width.Width.{Width}
use Rattle.arrow_buffers.specs.declared.width.Width.TheVariants as width
use Rattle.arrow_ipc.specs.Batches.{BatchIn}
use Rattle.arrow_ipc.specs.Written.{padded, body_size, most_of_batch}
use Rattle.arrow_arrays.specs.Written.{PartIn, struct_part, elements_part}
use Rattle.otap_columns.specs.BuiltCells.{HasRoom, GrowsBy, batch_parts, with_part, with_parts}

-- ---- one more part

size-append : (xs ys : List (List ℕ)) → body_size (xs ++ ys) ≡ body_size xs + body_size ys
size-append xs ys = sum_by-append (λ (part : List ℕ). padded (length part)) xs ys

part_grows : (batch : BatchIn) (p : PartIn) (buffers long : ℕ) → length p.buffers ≤ buffers → body_size p.buffers ≤ long
    → (length (with_part batch p).nodes ≡ length batch.nodes + 1) × (length (with_part batch p).buffers ≤ length batch.buffers + buffers) × (body_size (with_part batch p).buffers ≤ body_size batch.buffers + long)
part_grows batch p buffers long few small =
    (length-append batch.nodes ((pos p.rows, pos p.nulls) ∷ []), omega (arith, length-append batch.buffers p.buffers, few), omega (arith, size-append batch.buffers p.buffers, small))

pub struct_grows : (batch new : BatchIn) (rows : ℕ) → new ≡ with_part batch (struct_part rows) → GrowsBy 1 0 batch new
struct_grows batch new rows is =
    let one = part_grows batch (struct_part rows) 1 0 (omega arith) (omega arith) in
    subst (GrowsBy 1 0 batch) (sym is) (record { nodes = omega (arith, one.0); buffers = omega (arith, one.1); body = omega (arith, one.2) })

abbrev pub sizes : Buffers → ℕ
sizes b = padded (length b.validity.items) + padded (length b.offsets.items) + padded (length b.values.items)

two_size : (x y : List ℕ) → body_size (x ∷ y ∷ []) ≡ padded (length x) + padded (length y)
two_size x y = omega (arith, sum_by-cons (λ (part : List ℕ). padded (length part)) x (y ∷ []), sum_by-cons (λ (part : List ℕ). padded (length part)) y [])

three_size : (x y z : List ℕ) → body_size (x ∷ y ∷ z ∷ []) ≡ padded (length x) + padded (length y) + padded (length z)
three_size x y z = omega (arith, sum_by-cons (λ (part : List ℕ). padded (length part)) x (y ∷ z ∷ []), two_size y z)

pub column_grows : (batch : BatchIn) (w : Width) (b : Buffers) → GrowsBy 1 (sizes b) batch (with_parts batch (batch_parts w b))
column_grows batch width.Bit b =
    let p : PartIn = record { rows = b.rows; nulls = b.nulls; buffers = b.validity.items ∷ b.values.items ∷ [] } in
    let one = part_grows batch p 2 (sizes b) (omega arith) (omega (arith, two_size b.validity.items b.values.items)) in
    record { nodes = omega (arith, one.0); buffers = omega (arith, one.1); body = omega (arith, one.2) }
column_grows batch (width.Fixed n) b =
    let p : PartIn = record { rows = b.rows; nulls = b.nulls; buffers = b.validity.items ∷ b.values.items ∷ [] } in
    let one = part_grows batch p 2 (sizes b) (omega arith) (omega (arith, two_size b.validity.items b.values.items)) in
    record { nodes = omega (arith, one.0); buffers = omega (arith, one.1); body = omega (arith, one.2) }
column_grows batch width.Var b =
    let p : PartIn = record { rows = b.rows; nulls = b.nulls; buffers = b.validity.items ∷ b.offsets.items ∷ b.values.items ∷ [] } in
    let one = part_grows batch p 3 (sizes b) (omega arith) (omega (arith, three_size b.validity.items b.offsets.items b.values.items)) in
    record { nodes = omega (arith, one.0); buffers = omega (arith, one.1); body = omega (arith, one.2) }
column_grows batch (width.List n) b =
    let p : PartIn = record { rows = b.rows; nulls = b.nulls; buffers = b.validity.items ∷ b.offsets.items ∷ [] } in
    let one = part_grows batch p 2 (padded (length b.validity.items) + padded (length b.offsets.items)) (omega arith) (omega (arith, two_size b.validity.items b.offsets.items)) in
    let two = part_grows (with_part batch p) (elements_part (length b.values.items / 8) b.values.items) 2 (padded (length b.values.items)) (omega arith) (omega (arith, two_size [] b.values.items)) in
    record { nodes = omega (arith, one.0, two.0); buffers = omega (arith, one.1, two.1); body = omega (arith, one.2, two.2) }

-- ---- more of them

pub grows_less : (p q x y : ℕ) (a b : BatchIn) → p ≤ q → x ≤ y → GrowsBy p x a b → GrowsBy q y a b
grows_less p q x y a b parts bytes g = record { nodes = omega (arith, g.nodes, parts); buffers = omega (arith, g.buffers, parts); body = omega (arith, g.body, bytes) }

pub grows_more : (p q x y : ℕ) (a b c : BatchIn) → GrowsBy p x a b → GrowsBy q y b c → GrowsBy (p + q) (x + y) a c
grows_more p q x y a b c g h = record { nodes = omega (arith, g.nodes, h.nodes); buffers = omega (arith, g.buffers, h.buffers); body = omega (arith, g.body, h.body) }

pub room_less : (n x y : ℕ) (a : BatchIn) → x ≤ y → HasRoom a n y → HasRoom a n x
room_less n x y a less room = record { nodes = room.nodes; buffers = room.buffers; body = omega (arith, room.body, less) }

-- what is left of the room
pub room_left : (p q n x y most : ℕ) (a b : BatchIn) → p + q ≤ n → x + y ≤ most → HasRoom a n most → GrowsBy p x a b → HasRoom b q y
room_left p q n x y most a b parts bytes room g =
    record { nodes = omega (arith, g.nodes, room.nodes, parts); buffers = omega (arith, g.buffers, room.buffers, parts); body = omega (arith, g.body, room.body, bytes) }

-- ---- a list of them, each with its parts and bytes

module _ {A : Type 0} (parts bytes : A → ℕ) where
  pub list_grows : (xs : List A) (k : ℕ) (d : A) (a b c : BatchIn) → k < length xs → GrowsBy (sum_by parts (take k xs)) (sum_by bytes (take k xs)) a b → GrowsBy (parts (get_or xs k d)) (bytes (get_or xs k d)) b c
      → GrowsBy (sum_by parts (take (k + 1) xs)) (sum_by bytes (take (k + 1) xs)) a c
  list_grows xs k d a b c low g h =
      let x : A = get_or xs k d in
      let more : take (k + 1) xs ≡ take k xs ++ x ∷ [] = take_more xs k d low in
      grows_less (sum_by parts (take k xs) + parts x) (sum_by parts (take (k + 1) xs)) (sum_by bytes (take k xs) + bytes x) (sum_by bytes (take (k + 1) xs)) a c
      (omega (arith, ap (sum_by parts) more, sum_by_push parts (take k xs) x)) (omega (arith, ap (sum_by bytes) more, sum_by_push bytes (take k xs) x))
      (grows_more (sum_by parts (take k xs)) (parts x) (sum_by bytes (take k xs)) (bytes x) a b c g h)

  pub list_room : (xs : List A) (k : ℕ) (d : A) (n most : ℕ) (a b : BatchIn) → k < length xs → sum_by parts xs ≤ n → sum_by bytes xs ≤ most → HasRoom a n most
      → GrowsBy (sum_by parts (take k xs)) (sum_by bytes (take k xs)) a b → HasRoom b (parts (get_or xs k d)) (bytes (get_or xs k d))
  list_room xs k d n most a b low few short room g =
      let x : A = get_or xs k d in
      let more : take (k + 1) xs ≡ take k xs ++ x ∷ [] = take_more xs k d low in
      room_left (sum_by parts (take k xs)) (parts x) n (sum_by bytes (take k xs)) (bytes x) most a b
      (omega (arith, ap (sum_by parts) more, sum_by_push parts (take k xs) x, sum_by-take-le parts xs (k + 1), few))
      (omega (arith, ap (sum_by bytes) more, sum_by_push bytes (take k xs) x, sum_by-take-le bytes xs (k + 1), short)) room g

-- ---- what the calls give

pub member_grows : {E : Type 0} (most : ℕ) (b : Buffers) (old new : BatchIn) (w : Width) (r : Result (Unit {0}) E) → sizes b ≤ most → OnOk r (new ≡ with_parts old (batch_parts w b)) → OnOk r (GrowsBy 1 most old new)
member_grows most b old new w (Ok x) short is = subst (GrowsBy 1 most old) (sym is) (grows_less 1 1 (sizes b) most old (with_parts old (batch_parts w b)) (omega arith) short (column_grows old w b))
member_grows most b old new w (Err e) short is = tt

pub under_grows : {E : Type 0} (n most : ℕ) (old mid new : BatchIn) (r : Result (Unit {0}) E) → GrowsBy 1 0 old mid → OnOk r (GrowsBy n most mid new) → OnOk r (GrowsBy (1 + n) most old new)
under_grows n most old mid new (Ok x) first rest = grows_less (1 + n) (1 + n) (0 + most) most old new (omega arith) (omega arith) (grows_more 1 n 0 most old mid new first rest)
under_grows n most old mid new (Err e) first rest = tt

-- ---- the message of a batch

lengths : (buffers : List (List ℕ)) → sum_by (λ (part : List ℕ). length part) buffers ≤ body_size buffers
lengths [] = omega arith
lengths (part ∷ buffers) =
    omega (arith, sum_by-cons (λ (part : List ℕ). length part) part buffers, sum_by-cons (λ (part : List ℕ). padded (length part)) part buffers, lengths buffers)

pub message_short : (n most rows : ℕ) (batch : BatchIn) → GrowsBy n most (record { rows = rows; nodes = []; buffers = [] }) batch → most_of_batch batch ≤ most + 128 * n + 2048
message_short n most rows batch g = omega (arith, lengths batch.buffers, g.nodes, g.buffers, g.body)
