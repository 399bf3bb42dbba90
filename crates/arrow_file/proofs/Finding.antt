-- Messages that begin bytes, and messages at offsets.
use Rattle.std.proofs.Common.{◌≡◌, ◌≢◌, ℕ, ◌+◌, ◌<◌, ◌≤◌, List, [], ◌∷◌, false, length, length-drop, take, drop, refl, sym, ap, ◌∙◌, subst, arith}
use Rattle.std.specs.Prelude.{ℤ, pos}
use Rattle.std.proofs.lemmas.List.{length-take-le}
use Rattle.arrow_ipc.specs.declared.fault.IpcFault.{IpcFault}
use Rattle.arrow_ipc.specs.declared.fault.IpcFault.TheVariants.{Cut, Flat, BadVersion, Compressed, BadBody, Unsupported, Schema, Memory}
use Rattle.arrow_ipc.specs.declared.messages.IpcMessage.{IpcMessage}
use Rattle.arrow_ipc.specs.Messages.{IsMessage, kind_number}
use Rattle.arrow_ipc.specs.Faults.{Stands, Refuses}
use Rattle.arrow_ipc.specs.Fronts.{MessagesIn, rest_of, Advances}
use Rattle.arrow_ipc.proofs.Unique.{one_message, alone}
use Rattle.arrow_ipc.proofs.Fronting.{message_ends, no_message}
use Rattle.arrow_file.specs.declared.block.Block.{Block}
use Rattle.arrow_file.specs.Files.{IsMessageAt, IsMessageFrom, AreMessagesOf}
use Rattle.arrow_file.specs.Defects.{HasNoMessageAt}
use Rattle.arrow_file.specs.Reading.{BeginsWith, IsOfBytes}

-- no message begins no bytes, or bytes that have a fault
pub none_begins : (bytes : List ℕ) (kind : ℕ) → bytes ≡ [] → (size : ℕ) → BeginsWith bytes kind size → ⊥
none_begins bytes kind empty size h = no_message h.reads size (subst (λ (b : List ℕ). IsMessage b h.reads size) empty h.is)

fault_stands : (bytes : List ℕ) (fault : IpcFault) → IsOfBytes fault → Refuses bytes fault → Stands bytes fault
fault_stands bytes (Memory e) of h = absurd of
fault_stands bytes Cut of h = h
fault_stands bytes (Flat e) of h = h
fault_stands bytes BadVersion of h = h
fault_stands bytes Compressed of h = h
fault_stands bytes BadBody of h = h
fault_stands bytes Unsupported of h = h
fault_stands bytes (Schema e) of h = h

pub fault_begins : (bytes : List ℕ) (kind : ℕ) (fault : IpcFault) → IsOfBytes fault → Refuses bytes fault → (size : ℕ) → BeginsWith bytes kind size → ⊥
fault_begins bytes kind fault of h size b = alone bytes b.reads size fault b.is (fault_stands bytes fault of h)

-- a reading that begins with the bytes came upon a message, or a fault
abbrev pub from_start : List ℕ → MessagesIn
from_start bytes = record { bytes = bytes; place = 0; ended = false }

pub advanced : (bytes : List ℕ) (old new : MessagesIn) (m : IpcMessage) → old ≡ from_start bytes → Advances old new m
    → (0 < new.place) × (new.place ≤ length bytes)
advanced bytes old new m start a =
    let b : Advances (from_start bytes) new m = subst (λ (o : MessagesIn). Advances o new m) start a in
    let ends : (0 < b.size) × (b.size ≤ length bytes) = message_ends bytes m b.size b.is in
    let at : new.place ≡ b.size = omega (arith, ap (λ (n : MessagesIn). n.place) b.moved) in
    (omega (arith, at, ends.0), omega (arith, at, ends.1))

pub refused_start : (bytes : List ℕ) (old : MessagesIn) (fault : IpcFault) → old ≡ from_start bytes → Refuses (rest_of old) fault → Refuses bytes fault
refused_start bytes old fault start h = subst (λ (o : MessagesIn). Refuses (rest_of o) fault) start h

-- nor one of another kind
pub other_begins : (bytes : List ℕ) (kind other size : ℕ) → other ≢ kind → BeginsWith bytes other size → (n : ℕ) → BeginsWith bytes kind n → ⊥
other_begins bytes kind other size ne b n h =
    ne (sym b.kind_is ∙ ap kind_number (one_message bytes b.reads h.reads size n b.is h.is).0 ∙ h.kind_is)

pub begins_within : (bytes : List ℕ) (kind size : ℕ) → BeginsWith bytes kind size → (0 < size) × (size ≤ length bytes)
begins_within bytes kind size b = message_ends bytes b.reads size b.is

-- a message at an offset is one that begins the bytes from there on
pub at_offset : (bytes : List ℕ) (kind offset size : ℕ) → BeginsWith (drop offset bytes) kind size → IsMessageAt bytes kind offset (take size (drop offset bytes))
at_offset bytes kind offset size b = record { reads = b.reads; size = size; is = b.is; kind_is = b.kind_is; same = refl }

pub none_at_offset : (bytes : List ℕ) (kind offset : ℕ) → ((size : ℕ) → BeginsWith (drop offset bytes) kind size → ⊥) → HasNoMessageAt bytes kind offset
none_at_offset bytes kind offset none message h = none h.size (record { reads = h.reads; is = h.is; kind_is = h.kind_is })

pub length_at : (bytes : List ℕ) (kind offset : ℕ) (message : List ℕ) (h : IsMessageAt bytes kind offset message) → (length message ≡ h.size) × (offset + length message ≤ length bytes)
length_at bytes kind offset message h =
    let ends : (0 < h.size) × (h.size ≤ length (drop offset bytes)) = message_ends (drop offset bytes) h.reads h.size h.is in
    let size : length message ≡ h.size = ap length h.same ∙ length-take-le h.size (drop offset bytes) ends.1 in
    (size, omega (arith, size, ends.0, ends.1, length-drop offset bytes))

-- one message is at an offset
pub one_at : (bytes : List ℕ) (kind offset : ℕ) (m n : List ℕ) → IsMessageAt bytes kind offset m → IsMessageAt bytes kind offset n → m ≡ n
one_at bytes kind offset m n h k =
    let same : (h.reads ≡ k.reads) × (h.size ≡ k.size) = one_message (drop offset bytes) h.reads k.reads h.size k.size h.is k.is in
    h.same ∙ ap (λ size. take size (drop offset bytes)) same.1 ∙ sym k.same

-- the same where a block names the offset
pub none_from : (bytes : List ℕ) (kind from offset : ℕ) (named : ℤ) → named ≡ pos offset → HasNoMessageAt bytes kind offset
    → (message : List ℕ) → IsMessageFrom bytes kind from named message → ⊥
none_from bytes kind from offset named is none message h =
    let same : h.offset ≡ offset = cc (h.named_is, is) in
    none message (subst (λ (n : ℕ). IsMessageAt bytes kind n message) same h.is)

pub one_from : (bytes : List ℕ) (kind from : ℕ) (named : ℤ) (m n : List ℕ) (h : IsMessageFrom bytes kind from named m) (k : IsMessageFrom bytes kind from named n)
    → (h.offset ≡ k.offset) × (m ≡ n)
one_from bytes kind from named m n h k =
    let same : k.offset ≡ h.offset = cc (h.named_is, k.named_is) in
    (sym same, one_at bytes kind h.offset m n h.is (subst (λ (o : ℕ). IsMessageAt bytes kind o n) same k.is))

-- the messages of blocks are determined
pub one_list : (bytes : List ℕ) (kind from : ℕ) (blocks : List Block) (ms ns : List (List ℕ)) → AreMessagesOf bytes kind from blocks ms → AreMessagesOf bytes kind from blocks ns → ms ≡ ns
one_list bytes kind from [] [] [] h k = refl
one_list bytes kind from [] [] (n ∷ ns) h k = absurd k
one_list bytes kind from [] (m ∷ ms) ns h k = absurd h
one_list bytes kind from (block ∷ blocks) [] ns h k = absurd h
one_list bytes kind from (block ∷ blocks) (m ∷ ms) [] h k = absurd k
one_list bytes kind from (block ∷ blocks) (m ∷ ms) (n ∷ ns) (first, h) (second, k) =
    let same : (first.offset ≡ second.offset) × (m ≡ n) = one_from bytes kind from block.offset m n first second in
    let end : second.offset + length n ≡ first.offset + length m = omega (arith, same.0, ap length same.1) in
    let rest : ms ≡ ns = one_list bytes kind (first.offset + length m) blocks ms ns h (subst (λ (e : ℕ). AreMessagesOf bytes kind e blocks ns) end k) in
    λ i. same.1 i ∷ rest i
