-- Hexadecimal that was written, read again. Assumes nothing.
use Rattle.std.proofs.Common.{◌≡◌, ℕ, ◌*◌, ◌<◌, ◌≤◌, true, List, [], ◌∷◌, length, None, refl, arith}
use Rattle.std.specs.List.{list_all}
use Rattle.std.proofs.lemmas.Bool.Decides.{nat_tests}
use Rattle.words.specs.Bytes.{is_kind}
use Rattle.words.specs.declared.byte.Kind.TheVariants.{Hexadecimal}
use Rattle.digits.specs.HexText.{hex_value, hex_char, hex_of, bytes_of, are_bytes, hex_fault}

value-char : (n : ℕ) → n < 16 → hex_value (hex_char n) ≡ n
value-char n h = grind (arith, nat_tests)

char-digit : (n : ℕ) → n < 16 → is_kind Hexadecimal (hex_char n) ≡ true
char-digit n h = grind (arith, nat_tests)

pub bytes_again : (bs : List ℕ) → are_bytes bs ≡ true → bytes_of (hex_of bs) ≡ bs
bytes_again [] e = refl
bytes_again (b ∷ bs) e = let again = bytes_again bs in grind (arith, nat_tests, value-char)

hex-digits : (bs : List ℕ) → are_bytes bs ≡ true → list_all (is_kind Hexadecimal) (hex_of bs) ≡ true
hex-digits [] e = refl
hex-digits (b ∷ bs) e = let more = hex-digits bs in grind (arith, nat_tests, char-digit)

length-hex_of : (bs : List ℕ) → length (hex_of bs) ≡ 2 * length bs
length-hex_of [] = refl
length-hex_of (b ∷ bs) = omega (arith, length-hex_of bs)

pub hex_fine : (bs : List ℕ) → are_bytes bs ≡ true → length bs ≤ 4096 → hex_fault (hex_of bs) ≡ None
hex_fine bs e h = let d = hex-digits bs e in grind (arith, nat_tests, length-hex_of)
