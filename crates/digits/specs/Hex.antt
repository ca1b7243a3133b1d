-- A text that was read as hexadecimal. Assumes nothing.
use Rattle.std.specs.Prelude.{◌≡◌, ℕ, List, Some, None, Result, MatchResult}
pub use Rattle.digits.specs.HexText.{all_zero, are_bytes, bytes_of, hex_char, hex_fault, hex_of, hex_value, not_hex_text, trimmed}
use Rattle.digits.specs.declared.hex.Hex.{Hex}
use Rattle.digits.specs.declared.hex.NotHex.{NotHex}

abbrev pub hex_digits : Hex → List ℕ
hex_digits h = h.digits.now

-- A text that has no fault is read as it stands, and of another the fault is told.
abbrev pub IsHexRead : List ℕ → Result Hex NotHex → Type 0
IsHexRead ds r = MatchResult r (λ h. (hex_fault ds ≡ None) × (hex_digits h ≡ ds)) (λ e. hex_fault ds ≡ Some e)
