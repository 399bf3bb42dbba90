-- Numbers in lists of bytes.
use Rattle.std.proofs.Common.{◌≡◌, ℕ, zero, suc, ◌+◌, ◌*◌, ◌/◌, ◌%◌, ◌^◌, ◌<◌, List, [], ◌∷◌, length, refl, sym, ap, ◌∙◌, arith}
use Rattle.std.proofs.Math.Nat.{div-one, mod-eq_of_lt, mul_assoc, mul-add-div_right, one-le-pow, pow-succ'}
use Rattle.std.proofs.lemmas.Nat.{div-mul-add}
use Rattle.std.specs.Int.{byte_at, bytes_high_first}
use Rattle.byteorder.specs.Endian.{big_bytes, big_number}
use Rattle.byteorder.specs.Numbers.{big_from-cons, big_from-lt}
use Rattle.lists.proofs.AllBytes.{IsBytes, IsBytes-tail}

byte_is : (k n : ℕ) → byte_at k n ≡ n / 256 ^ k % 256
byte_is zero n = ap (λ (m : ℕ). m % 256) (sym (div-one n))
byte_is (suc k) n = refl

power_pos : (n : ℕ) → 0 < 256 ^ n
power_pos n = let some = one-le-pow n 256 (omega arith) in omega (arith, some)

-- the low bytes don't depend on what is above them
high_bytes : (n above low : ℕ) → bytes_high_first n (above * 256 ^ n + low) ≡ bytes_high_first n low
high_bytes zero above low = refl
high_bytes (suc n) above low =
    let shift : above * 256 ^ suc n ≡ (above * 256) * 256 ^ n = ap (λ (m : ℕ). above * m) (pow-succ' 256 n) ∙ sym (mul_assoc above 256 (256 ^ n)) in
    let divided : (above * 256 * 256 ^ n + low) / 256 ^ n ≡ above * 256 + low / 256 ^ n = mul-add-div_right (power_pos n) (above * 256) low in
    let same : (above * 256 + low / 256 ^ n) % 256 ≡ low / 256 ^ n % 256 = omega arith in
    rw (shift, byte_is n (above * 256 * 256 ^ n + low), divided, same, byte_is n low, high_bytes n (above * 256) low) refl

-- a number that is read is written as the same bytes
pub number_back : (bytes : List ℕ) → IsBytes bytes → big_bytes (length bytes) (big_number (length bytes) bytes) ≡ bytes
number_back [] fits = refl
number_back (byte ∷ bytes) fits =
    let n = length bytes in
    let low = big_number n bytes in
    let rest : IsBytes bytes = IsBytes-tail byte bytes fits in
    let small : low < 256 ^ n = big_from-lt 0 n bytes rest in
    let first : byte < 256 = fits 0 in
    let whole : big_number (suc n) (byte ∷ bytes) ≡ byte * 256 ^ n + low = ap (λ (m : ℕ). byte * 256 ^ n + m) (big_from-cons 0 n byte bytes) in
    let top : (byte * 256 ^ n + low) / 256 ^ n ≡ byte = div-mul-add byte (256 ^ n) low small in
    let head : byte_at n (byte * 256 ^ n + low) ≡ byte = byte_is n (byte * 256 ^ n + low) ∙ ap (λ (m : ℕ). m % 256) top ∙ mod-eq_of_lt first in
    ap (big_bytes (suc n)) whole ∙ rw (head, high_bytes n byte low, number_back bytes rest) refl

pub number_fits : (bytes : List ℕ) → IsBytes bytes → big_number (length bytes) bytes < 256 ^ length bytes
number_fits bytes fits = big_from-lt 0 (length bytes) bytes fits
