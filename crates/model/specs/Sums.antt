-- Weights, added up over a list. Assumes nothing.
use Rattle.std.specs.Prelude.{ℕ, ◌+◌, Bool, cond, List, [], ◌∷◌}

abbrev pub bit : Bool → ℕ
bit b = cond b 1 0

-- Two lists have the same elements, each as often, where every weight comes to the same sum over both.
abbrev pub sum : {X : Type 0} → (X → ℕ) → List X → ℕ
sum w [] = 0
sum w (x ∷ xs) = w x + sum w xs
