-- Words that were written with one blank between each and the next, read again. Assumes nothing.
use Rattle.std.proofs.Common.{◌≡◌, ℕ, true, List, [], ◌∷◌, ◌++◌, refl, ap, ◌∙◌, append_assoc, append-nil, arith}
use Rattle.std.specs.List.{list_all, AllByRecursion}
use Rattle.std.proofs.lemmas.Bool.Decides.{nat_tests}
use Rattle.words.specs.Bytes.{is_solid, is_word}
use Rattle.words.specs.Words.{spaced, words, words_after}

-- bytes that are not blank go to the word that is being read
after-solid : (v w bs : List ℕ) → list_all is_solid w ≡ true → words_after v (w ++ bs) ≡ words_after (v ++ w) bs
after-solid v [] bs e = simp append-nil
after-solid v (b ∷ w) bs e = let again = after-solid (v ++ b ∷ []) w bs in grind (arith, nat_tests, append_assoc)

first_word : (w bs : List ℕ) → is_word w ≡ true → words (w ++ 32 ∷ bs) ≡ w ∷ words bs
first_word [] bs e = absurd (grind arith)
first_word (b ∷ w) bs e = after-solid [] (b ∷ w) (32 ∷ bs) e

last_word : (w : List ℕ) → is_word w ≡ true → words w ≡ w ∷ []
last_word [] e = absurd (grind arith)
last_word (b ∷ w) e = grind (arith, append-nil w, after-solid [] (b ∷ w) [] e)

pub words-spaced : (ws : List (List ℕ)) → AllByRecursion (λ w. is_word w ≡ true) ws → words (spaced ws) ≡ ws
words-spaced [] h = refl
words-spaced (w ∷ []) h = last_word w h.0
words-spaced (w ∷ v ∷ ws) h = first_word w (spaced (v ∷ ws)) h.0 ∙ ap (λ l. w ∷ l) (words-spaced (v ∷ ws) h.1)
