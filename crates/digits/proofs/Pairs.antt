-- Two digits to a byte. Assumes nothing.
use Rattle.std.proofs.Common.{◌≡◌, ℕ, ◌/◌, ◌≤◌, List, [], ◌∷◌, length, None, refl, arith}
use Rattle.std.proofs.lemmas.Bool.Decides.{nat_tests}
use Rattle.digits.specs.HexText.{bytes_of, hex_fault}

pub length-bytes_of : (ds : List ℕ) → length (bytes_of ds) ≡ length ds / 2
length-bytes_of [] = refl
length-bytes_of (h ∷ []) = refl
length-bytes_of (h ∷ l ∷ ds) = omega (arith, length-bytes_of ds)

-- what has no fault fits a block
pub fine_fits : (ds : List ℕ) → hex_fault ds ≡ None → length (bytes_of ds) ≤ 4096
fine_fits ds e = grind (arith, nat_tests, length-bytes_of)
