-- What texts and byte strings hold, where short ones are kept inline.
use Rattle.std.specs.Prelude.{ℕ, ◌≤◌, List, take, string_bytes, IsUtf8}
use Rattle.lists.specs.declared.text.Letters.{Letters}
use Rattle.lists.specs.declared.text.Letters.TheVariants as letters
use Rattle.lists.specs.declared.octets.Held.{Held}
use Rattle.lists.specs.declared.octets.Held.TheVariants as held

abbrev pub letters_in : Letters → List ℕ
letters_in (letters.Short short) = take short.len short.bytes
letters_in (letters.Long text) = string_bytes text

abbrev pub HasLetters : Letters → Type 0
HasLetters (letters.Short short) = (short.len ≤ 30) × IsUtf8 (take short.len short.bytes)
HasLetters (letters.Long text) = Unit {0}

abbrev pub bytes_in : Held → List ℕ
bytes_in (held.Short alloc len bytes) = take len bytes
bytes_in (held.Long bytes) = bytes.items

abbrev pub HasBytes : Held → Type 0
HasBytes (held.Short alloc len bytes) = len ≤ 30
HasBytes (held.Long bytes) = Unit {0}
