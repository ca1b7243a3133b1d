-- Sums of weights over lists.
use Rattle.std.proofs.Common.{◌≡◌, ℕ, zero, suc, ◌+◌, ◌<◌, ◌≤◌, Bool, List, [], ◌∷◌, ◌++◌, length, get_or, set, refl, arith}
use Rattle.std.specs.List.{remove, AllByRecursion}
use Rattle.std.proofs.lemmas.Bool.Decides.{nat_tests}
use Rattle.model.specs.Blocks.{frees, keeps}
use Rattle.model.specs.Sound.{young, old}
use Rattle.model.specs.Sums.{bit, sum}
use Rattle.model.specs.declared.types.Ptr.{Ptr}

pub bit-most : (b : Bool) → bit b ≤ 1
bit-most b = grind (arith, nat_tests)

pub sum-append : {X : Type 0} (w : X → ℕ) (a b : List X) → sum w (a ++ b) ≡ sum w a + sum w b
sum-append w [] b = omega arith
sum-append w (x ∷ a) b = omega (arith, sum-append w a b)

pub sum-push : {X : Type 0} (w : X → ℕ) (xs : List X) (y : X) → sum w (xs ++ y ∷ []) ≡ sum w xs + w y
sum-push w [] y = omega arith
sum-push w (x ∷ xs) y = omega (arith, sum-push w xs y)

pub sum-add : {X : Type 0} (u v t : X → ℕ) → ((x : X) → u x + v x ≡ t x) → (l : List X) → sum u l + sum v l ≡ sum t l
sum-add u v t h [] = omega arith
sum-add u v t h (x ∷ l) = omega (arith, h x, sum-add u v t h l)

pub sum_same : {X : Type 0} (u t : X → ℕ) → ((x : X) → u x ≡ t x) → (l : List X) → sum u l ≡ sum t l
sum_same u t h l = grind (arith, nat_tests)

-- one element in the place of another, and one left out
pub sum-set : {X : Type 0} (w : X → ℕ) (xs : List X) (i : ℕ) (y d : X) → i < length xs → sum w (set xs i y) + w (get_or xs i d) ≡ sum w xs + w y
sum-set w [] i y d lt = absurd (omega arith)
sum-set w (x ∷ xs) zero y d lt = omega arith
sum-set w (x ∷ xs) (suc i) y d lt = omega (arith, sum-set w xs i y d (omega arith))

pub sum-removed : {X : Type 0} (w : X → ℕ) (xs : List X) (i : ℕ) (d : X) → i < length xs → sum w (remove xs i) + w (get_or xs i d) ≡ sum w xs
sum-removed w [] i d lt = absurd (omega arith)
sum-removed w (x ∷ xs) zero d lt = omega arith
sum-removed w (x ∷ xs) (suc i) d lt = omega (arith, sum-removed w xs i d (omega arith))

pub sum-at : {X : Type 0} (w : X → ℕ) (xs : List X) (i : ℕ) (d : X) → i < length xs → w (get_or xs i d) ≤ sum w xs
sum-at w [] i d lt = absurd (omega arith)
sum-at w (x ∷ xs) zero d lt = omega arith
sum-at w (x ∷ xs) (suc i) d lt = omega (arith, sum-at w xs i d (omega arith))

-- how long a list is
abbrev pub one : {X : Type 0} → X → ℕ
one x = 1

pub sum_one : {X : Type 0} (l : List X) → sum one l ≡ length l
sum_one [] = refl
sum_one (x ∷ l) = omega (arith, sum_one l)

-- a list parted by births
pub sum-frees : (w : Ptr → ℕ) (m : ℕ) (l : List Ptr) → sum w (frees m l) ≡ sum (young m w) l
sum-frees w m [] = refl
sum-frees w m (p ∷ l) = let again = sum-frees w m l in grind arith

pub sum-keeps : (w : Ptr → ℕ) (m : ℕ) (l : List Ptr) → sum w (keeps m l) ≡ sum (old m w) l
sum-keeps w m [] = refl
sum-keeps w m (p ∷ l) = let again = sum-keeps w m l in grind arith

-- laws of the two kinds of weights, for moments in order
pub young-old : (k m : ℕ) → k ≤ m → (w : Ptr → ℕ) (l : List Ptr) → sum (old m (young k w)) l + sum (young m w) l ≡ sum (young k w) l
young-old k m h w l = sum-add (old m (young k w)) (young m w) (young k w) (λ p. grind (arith, nat_tests)) l

pub old-old : (k m : ℕ) → k ≤ m → (w : Ptr → ℕ) (l : List Ptr) → sum (old m (old k w)) l ≡ sum (old k w) l
old-old k m h w l = sum_same (old m (old k w)) (old k w) (λ p. grind (arith, nat_tests)) l

pub split : (m : ℕ) (w : Ptr → ℕ) (l : List Ptr) → sum (young m w) l + sum (old m w) l ≡ sum w l
split m w l = sum-add (young m w) (old m w) w (λ p. grind (arith, nat_tests)) l

-- what was born before a moment isn't younger
pub young-none : (t : ℕ) (l : List Ptr) → AllByRecursion (λ p. (0 < p.birth) × (p.birth < t)) l → (w : Ptr → ℕ) → sum (young t w) l ≡ 0
young-none t [] e w = refl
young-none t (p ∷ l) e w = let again = young-none t l e.1 w in let lt = e.0.1 in grind (arith, nat_tests)
