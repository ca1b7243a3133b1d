-- The zeros at the end of a list. Assumes nothing.
use Rattle.std.proofs.Common.{◌≡◌, ℕ, zero, suc, ◌-◌, true, cond, ◌&&◌, ◌==◌, List, [], ◌∷◌, ◌++◌, length, get_or, take, refl, arith}
use Rattle.std.proofs.lemmas.Bool.Decides.{nat_tests}
use Rattle.std.proofs.lemmas.Grind.{common_steps}
use Rattle.digits.specs.HexText.{all_zero, trimmed}

all_zero-append : (bs : List ℕ) (b : ℕ) → all_zero (bs ++ b ∷ []) ≡ (all_zero bs && b == 0)
all_zero-append [] b = grind (arith, nat_tests)
all_zero-append (a ∷ bs) b = let more = all_zero-append bs b in grind (arith, nat_tests)

trimmed-append : (bs : List ℕ) (b : ℕ) → trimmed (bs ++ b ∷ []) ≡ cond (b == 0) (trimmed bs) (bs ++ b ∷ [])
trimmed-append [] b = grind (arith, nat_tests)
trimmed-append (a ∷ bs) b = let zeros = all_zero-append bs b in let more = trimmed-append bs b in grind (arith, nat_tests)

-- a zero at the end makes no difference, and what ends in something else is left as it is
pub trimmed_last : (bs : List ℕ) → trimmed bs ≡ cond (get_or bs (length bs - 1) 0 == 0) (trimmed (take (length bs - 1) bs)) bs
trimmed_last [] = refl
trimmed_last (b ∷ bs) =
    let split : take (length (b ∷ bs) - 1) (b ∷ bs) ++ get_or (b ∷ bs) (length (b ∷ bs) - 1) 0 ∷ [] ≡ b ∷ bs = grind (arith, common_steps) in
    let last = trimmed-append (take (length (b ∷ bs) - 1) (b ∷ bs)) (get_or (b ∷ bs) (length (b ∷ bs) - 1) 0) in
    rw split at last

zero-at : (bs : List ℕ) (k : ℕ) → all_zero bs ≡ true → get_or bs k 0 ≡ 0
zero-at [] k e = refl
zero-at (b ∷ bs) zero e = grind (arith, nat_tests)
zero-at (b ∷ bs) (suc k) e = zero-at bs k (grind (arith, nat_tests))
