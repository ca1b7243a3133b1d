-- The words of a line. Assumes nothing.
use Rattle.std.specs.Prelude.{ℕ, Bool, false, cond, List, [], ◌∷◌, ◌++◌, Some, None, Option, ◌==◌}
use Rattle.words.specs.Bytes.{blank}

-- One word more in front, unless it has no bytes.
abbrev pub before : List ℕ → List (List ℕ) → List (List ℕ)
before [] ws = ws
before (b ∷ bs) ws = (b ∷ bs) ∷ ws

-- The words of w ++ bs, where w is what has been seen of a word.
abbrev pub words_after : List ℕ → List ℕ → List (List ℕ)
words_after w [] = before w []
words_after w (b ∷ bs) = cond (blank b) (before w (words_after [] bs)) (words_after (w ++ b ∷ []) bs)

abbrev pub words : List ℕ → List (List ℕ)
words bs = words_after [] bs

abbrev pub first_of : {X : Type 0} → List X → Option X
first_of [] = None
first_of (x ∷ xs) = Some x

abbrev pub marked : List ℕ → Bool
marked [] = false
marked (b ∷ bs) = b == 35

-- A line whose first word begins with `#` is a remark.
abbrev pub remark : List (List ℕ) → Bool
remark [] = false
remark (w ∷ ws) = marked w

-- Words, written with one blank between each and the next.
abbrev pub spaced : List (List ℕ) → List ℕ
spaced [] = []
spaced (w ∷ []) = w
spaced (w ∷ v ∷ ws) = w ++ 32 ∷ spaced (v ∷ ws)
