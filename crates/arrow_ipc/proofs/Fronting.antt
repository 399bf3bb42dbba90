-- All bytes have just one front, and readers come upon it message by message.
use Rattle.std.proofs.Common.{◌≡◌, ◌≢◌, ℕ, ◌+◌, ◌<◌, ◌≤◌, suc, zero, List, [], ◌∷◌, length, drop, length-drop, drop-drop, Result, Ok}
use Rattle.std.proofs.Common.{Err, Option, Some, None, MatchResult, IfSome, IfNone, ◌⊎◌, inl, inr, refl, sym, ap, ◌∙◌, subst, arith}
use Rattle.arrow_ipc.specs.declared.fault.IpcFault.{IpcFault}
use Rattle.arrow_ipc.specs.declared.fault.IpcFault.TheVariants.{Cut, Flat, BadVersion, Compressed, BadBody, Unsupported, Schema, Memory}
use Rattle.arrow_ipc.specs.declared.messages.IpcMessage.{IpcMessage}
use Rattle.arrow_ipc.specs.declared.messages.IpcMessage.TheVariants as content
use Rattle.arrow_ipc.specs.declared.header.Header.{Header}
use Rattle.arrow_ipc.specs.declared.header.Header.TheVariants as header
use Rattle.arrow_ipc.specs.declared.header.FoundHeader.{FoundHeader}
use Rattle.arrow_ipc.specs.Batches.{BatchIn}
use Rattle.arrow_ipc.specs.Messages.{IsMessage}
use Rattle.arrow_ipc.specs.Faults.{Stands, Refuses}
use Rattle.arrow_ipc.specs.Fronts.{HasNoMessage, Front, FrontRead, read_further, read_front, front_of, left_of, MessagesIn, rest_of, Advances, EndsFront, rows_held, rows_found, record_batch_in, HasRows}
use Rattle.arrow_ipc.specs.Order as order
use Rattle.arrow_ipc.proofs.Parts.{part_lies}
use Rattle.arrow_ipc.proofs.Decided.{decided}
use Rattle.arrow_ipc.proofs.Unique.{find_read, message_read, one_message, alone}

pub message_ends : (bytes : List ℕ) (m : IpcMessage) (size : ℕ) → IsMessage bytes m size → (0 < size) × (size ≤ length bytes)
message_ends bytes m size h =
    (omega (arith, h.ends), omega (arith, h.ends, (part_lies bytes (8 + length h.metadata) (length h.body) h.body h.has_body).inside))

abbrev IsDecided : List ℕ → Result (IpcMessage × ℕ) IpcFault → Type 0
IsDecided bytes r = MatchResult r (λ found. IsMessage bytes found.0 found.1) (λ e. bytes ≢ [] → Stands bytes e)

-- what is read is the front, where it may be as long as the bytes
abbrev Reads : ℕ → (List ℕ → FrontRead) → Type 0
Reads most read = (bytes : List ℕ) → length bytes ≤ most → Front bytes (read bytes).0 (read bytes).1

further_is : (bytes : List ℕ) (most : ℕ) (read : List ℕ → FrontRead) → length bytes ≤ suc most → Reads most read → (r : Result (IpcMessage × ℕ) IpcFault) → order.message bytes ≡ r
    → IsDecided bytes r → Front bytes (read_further read bytes r).0 (read_further read bytes r).1
further_is bytes most read few reads (Ok (m, size)) e h =
    let ends : (0 < size) × (size ≤ length bytes) = message_ends bytes m size h in
    (size, h, reads (drop size bytes) (omega (arith, length-drop size bytes, ends.0, ends.1, few)))
further_is bytes most read few reads (Err fault) e h = (refl, λ m size is. cc (e, message_read bytes m size is))

pub no_message : HasNoMessage []
no_message m size h = let ends : (0 < size) × (size ≤ length {A = ℕ} []) = message_ends [] m size h in absurd (omega (arith, ends.0, ends.1))

read_front-is : (most : ℕ) → Reads most (read_front most)
unfolding read_front
read_front-is zero [] few = (refl, no_message)
read_front-is zero (byte ∷ bytes) few = absurd (omega (arith, few))
read_front-is (suc most) bytes few = further_is bytes most (read_front most) few (read_front-is most) (order.message bytes) refl (decided bytes)

pub front_of-is : (bytes : List ℕ) → Front bytes (front_of bytes) (left_of bytes)
unfolding front_of left_of
front_of-is bytes = read_front-is (length bytes) bytes (omega arith)

pub one_front : (bytes : List ℕ) (ms ns : List IpcMessage) (left rest : List ℕ) → Front bytes ms left → Front bytes ns rest → (ms ≡ ns) × (left ≡ rest)
one_front bytes [] [] left rest f g = (refl, f.0 ∙ sym g.0)
one_front bytes [] (n ∷ ns) left rest f g = absurd (f.1 n g.0 g.1)
one_front bytes (m ∷ ms) [] left rest f g = absurd (g.1 m f.0 f.1)
one_front bytes (m ∷ ms) (n ∷ ns) left rest (a, h, f) (b, k, g) =
    let same : (m ≡ n) × (a ≡ b) = one_message bytes m n a b h k in
    let further : (ms ≡ ns) × (left ≡ rest) =
    one_front (drop a bytes) ms ns left rest f (subst (λ (size : ℕ). Front (drop size bytes) ns rest) (sym same.1) g) in
    (λ i. same.0 i ∷ further.0 i, further.1)

pub front_of-only : (bytes : List ℕ) (messages : List IpcMessage) (left : List ℕ) → Front bytes messages left → (front_of bytes ≡ messages) × (left_of bytes ≡ left)
front_of-only bytes messages left f = one_front bytes (front_of bytes) messages (left_of bytes) left (front_of-is bytes) f

pub front_of-message : (bytes : List ℕ) (m : IpcMessage) (size : ℕ) → IsMessage bytes m size
    → (front_of bytes ≡ m ∷ front_of (drop size bytes)) × (left_of bytes ≡ left_of (drop size bytes))
front_of-message bytes m size h =
    front_of-only bytes (m ∷ front_of (drop size bytes)) (left_of (drop size bytes)) (size, h, front_of-is (drop size bytes))

pub front_of-none : (bytes : List ℕ) → HasNoMessage bytes → (front_of bytes ≡ []) × (left_of bytes ≡ bytes)
front_of-none bytes none = front_of-only bytes [] bytes (refl, none)

-- what is left has no message in front
left_has_none : (bytes : List ℕ) (messages : List IpcMessage) (left : List ℕ) → Front bytes messages left → HasNoMessage left
left_has_none bytes [] left f = subst HasNoMessage (sym f.0) f.1
left_has_none bytes (m ∷ ms) left (size, h, f) = left_has_none (drop size bytes) ms left f

-- bytes begin with a message, or have a fault
pub message_or_fault : (bytes : List ℕ) → bytes ≢ [] → ((m : IpcMessage) × (size : ℕ) × IsMessage bytes m size) ⊎ ((fault : IpcFault) × Stands bytes fault)
message_or_fault bytes some = go (order.message bytes) (decided bytes)
  where
    go : (r : Result (IpcMessage × ℕ) IpcFault) → MatchResult r (λ found. IsMessage bytes found.0 found.1) (λ e. bytes ≢ [] → Stands bytes e)
        → ((m : IpcMessage) × (size : ℕ) × IsMessage bytes m size) ⊎ ((fault : IpcFault) × Stands bytes fault)
    go (Ok (m, size)) h = inl (m, size, h)
    go (Err e) h = inr (e, h some)

-- so what is left is empty, or has a fault
fault_or_end : (bytes : List ℕ) → HasNoMessage bytes → (bytes ≡ []) ⊎ ((fault : IpcFault) × Stands bytes fault)
fault_or_end [] none = inl refl
fault_or_end (byte ∷ bytes) none = elim (message_or_fault (byte ∷ bytes) (λ empty. cc)) [ inl (m, size, h) ↦ absurd (none m size h) | inr found ↦ inr found ]

pub front_ends : (bytes : List ℕ) → (left_of bytes ≡ []) ⊎ ((fault : IpcFault) × Stands (left_of bytes) fault)
front_ends bytes = fault_or_end (left_of bytes) (left_has_none bytes (front_of bytes) (left_of bytes) (front_of-is bytes))

-- ---- reading them one by one

pub takes_none : (old : MessagesIn) → rest_of old ≡ [] → (front_of (rest_of old) ≡ []) × (left_of (rest_of old) ≡ [])
takes_none old empty = subst (λ (bytes : List ℕ). (front_of bytes ≡ []) × (left_of bytes ≡ [])) (sym empty) (front_of-none [] no_message)

pub takes_message : (old new : MessagesIn) (m : IpcMessage) → Advances old new m
    → (front_of (rest_of old) ≡ m ∷ front_of (rest_of new)) × (left_of (rest_of old) ≡ left_of (rest_of new))
takes_message old new m a = rw (a.goes_on, a.moved, ← drop-drop a.size old.place old.bytes) (front_of-message (drop old.place old.bytes) m a.size a.is)

fault_none : (bytes : List ℕ) (fault : IpcFault) → Stands bytes fault → (front_of bytes ≡ []) × (left_of bytes ≡ bytes)
fault_none bytes fault stands = front_of-none bytes (λ m size h. alone bytes m size fault h stands)

pub takes_fault : (bytes : List ℕ) (fault : IpcFault) → Refuses bytes fault → EndsFront bytes fault
takes_fault bytes (Memory e) r = tt
takes_fault bytes Cut r = fault_none bytes Cut r
takes_fault bytes (Flat e) r = fault_none bytes (Flat e) r
takes_fault bytes BadVersion r = fault_none bytes BadVersion r
takes_fault bytes Compressed r = fault_none bytes Compressed r
takes_fault bytes BadBody r = fault_none bytes BadBody r
takes_fault bytes Unsupported r = fault_none bytes Unsupported r
takes_fault bytes (Schema e) r = fault_none bytes (Schema e) r

-- ---- finding a record batch again

pub rows_in-message : (bytes : List ℕ) (batch : BatchIn) → HasRows bytes batch → record_batch_in bytes ≡ Some batch
unfolding record_batch_in
rows_in-message bytes batch (size, h) = ap rows_found (find_read bytes (content.Rows batch) size h)

pub rows_in-is : (bytes : List ℕ) (batch : BatchIn) → record_batch_in bytes ≡ Some batch → HasRows bytes batch
unfolding record_batch_in order.message order.message_of
rows_in-is bytes batch h = go (order.find bytes) refl h
  where
    rows : (held : Header) (size : ℕ) → order.find bytes ≡ Ok (record { header = held; size = size }) → rows_held held ≡ Some batch → HasRows bytes batch
    rows (header.Schema table) size e h = absurd (cc h)
    rows (header.Dictionary id delta b) size e h = absurd (cc h)
    rows (header.Rows b) size e h =
        let same : b ≡ batch = cc h in
        let read : order.message bytes ≡ Ok (content.Rows b, size) = rw e refl in (
          size,
          subst (λ (x : BatchIn). IsMessage bytes (content.Rows x) size) same
              (subst (λ (r : Result (IpcMessage × ℕ) IpcFault). MatchResult r (λ found. IsMessage bytes found.0 found.1) (λ e. bytes ≢ [] → Stands bytes e)) read (decided bytes)),
        )

    go : (r : Result FoundHeader IpcFault) → order.find bytes ≡ r → rows_found r ≡ Some batch → HasRows bytes batch
    go (Ok found) e h = rows found.header found.size e h
    go (Err fault) e h = absurd (cc h)

pub rows_some : (bytes : List ℕ) (found : Option BatchIn) → found ≡ record_batch_in bytes → IfSome found (HasRows bytes)
rows_some bytes None h = tt
rows_some bytes (Some batch) h = rows_in-is bytes batch (sym h)

pub rows_none : (bytes : List ℕ) (found : Option BatchIn) → found ≡ record_batch_in bytes → IfNone found ((batch : BatchIn) → HasRows bytes batch → ⊥)
rows_none bytes None h = λ batch has. cc (h, rows_in-message bytes batch has)
rows_none bytes (Some batch) h = tt
