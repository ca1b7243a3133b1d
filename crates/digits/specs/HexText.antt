-- Bytes as a text in hexadecimal. Assumes nothing.
use Rattle.std.specs.Prelude.{ℕ, ◌+◌, ◌-◌, ◌*◌, ◌/◌, ◌%◌, Bool, true, cond, ◌&&◌, List, [], ◌∷◌, length, Some, None, Option, ◌==◌, nat_lt, codes}
use Rattle.std.specs.List.{list_all}
use Rattle.words.specs.Bytes.{between, is_kind}
use Rattle.words.specs.declared.byte.Kind.TheVariants.{Hexadecimal}
use Rattle.digits.specs.declared.hex.NotHex.{NotHex}
use Rattle.digits.specs.declared.hex.NotHex.TheVariants.{TooMany, NoDigit, Odd}

-- The value of a digit, of which there are 0 to 9, a to f and A to F.
abbrev pub hex_value : ℕ → ℕ
hex_value b = cond (between 48 57 b) (b - 48) (cond (between 97 102 b) (b - 87) (cond (between 65 70 b) (b - 55) 0))

-- Two digits to a byte, the higher first.
abbrev pub bytes_of : List ℕ → List ℕ
bytes_of [] = []
bytes_of (h ∷ []) = []
bytes_of (h ∷ l ∷ ds) = (16 * hex_value h + hex_value l) ∷ bytes_of ds

-- What is wrong with a text that should be the bytes of a block, or of a part of one.
abbrev pub hex_fault : List ℕ → Option NotHex
hex_fault ds = cond (nat_lt 8192 (length ds)) (Some TooMany) (cond (list_all (is_kind Hexadecimal) ds) (cond (length ds % 2 == 0) None (Some Odd)) (Some NoDigit))

-- What is said of a text with such a fault.
abbrev pub not_hex_text : NotHex → List ℕ
not_hex_text TooMany = codes "more than 8,192 digits"
not_hex_text NoDigit = codes "not a hexadecimal digit"
not_hex_text Odd = codes "an odd count of digits"

-- The digit of a number below 16, in lower case.
abbrev pub hex_char : ℕ → ℕ
hex_char n = cond (nat_lt n 10) (48 + n) (87 + n)

abbrev pub hex_of : List ℕ → List ℕ
hex_of [] = []
hex_of (b ∷ bs) = hex_char (b / 16) ∷ hex_char (b % 16) ∷ hex_of bs

abbrev pub are_bytes : List ℕ → Bool
are_bytes [] = true
are_bytes (b ∷ bs) = nat_lt b 256 && are_bytes bs

abbrev pub all_zero : List ℕ → Bool
all_zero [] = true
all_zero (b ∷ bs) = b == 0 && all_zero bs

-- The bytes up to the last that is not zero.
abbrev pub trimmed : List ℕ → List ℕ
trimmed [] = []
trimmed (b ∷ bs) = cond (all_zero (b ∷ bs)) [] (b ∷ trimmed bs)
