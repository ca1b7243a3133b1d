-- The words of a text are words, and text themselves. Assumes nothing.
use Rattle.std.proofs.Common.{◌≡◌, ℕ, ◌+◌, true, List, [], ◌∷◌, ◌++◌, length, IsUtf8, refl, append_assoc, append-nil, arith, length-append}
use Rattle.std.specs.List.{list_all, AllByRecursion}
use Rattle.std.proofs.Math.Seq.{drop-append-add, get_or-append_seam, take-append_seam}
use Rattle.std.proofs.lemmas.List.Folds.{list_all-append}
use Rattle.std.proofs.lemmas.Bool.{cond_both}
use Rattle.std.proofs.lemmas.Bool.Decides.{nat_tests}
use Rattle.std.proofs.lemmas.Str.{IsUtf8-drop, IsUtf8-take, lead_after_ascii}
use Rattle.words.specs.Bytes.{blank, is_solid, is_word}
use Rattle.words.specs.Words.{before, words, words_after}

-- a word, and text
pub record Solid (w : List ℕ) : Type 0 where
  pub one : is_word w ≡ true
  pub text : IsUtf8 w

-- what stands before and behind a blank is text
cut-text : (w bs : List ℕ) (b : ℕ) → blank b ≡ true → IsUtf8 (w ++ b ∷ bs) → IsUtf8 w × IsUtf8 bs
cut-text w bs b t u =
    let seam = get_or-append_seam w b bs 0 in
    let long = length-append w (b ∷ bs) in
    let behind = lead_after_ascii (w ++ b ∷ bs) (length w) u in
    let front = IsUtf8-take (w ++ b ∷ bs) (length w) u (grind (arith, nat_tests)) in
    let back = IsUtf8-drop (w ++ b ∷ bs) (length w + 1) u (grind (arith, nat_tests)) in
    (rw take-append_seam at front, rw drop-append-add at back)

parts-before : (w : List ℕ) (ws : List (List ℕ)) → list_all is_solid w ≡ true → IsUtf8 w → AllByRecursion Solid ws → AllByRecursion Solid (before w ws)
parts-before [] ws e u p = p
parts-before (b ∷ w) ws e u p = (record { one = e; text = u }, p)

parts-after : (w bs : List ℕ) → list_all is_solid w ≡ true → IsUtf8 (w ++ bs) → AllByRecursion Solid (words_after w bs)
parts-after w [] e u = parts-before w [] e (rw append-nil at u) tt
parts-after w (b ∷ bs) e u =
    cond_both (blank b) (before w (words bs)) (words_after (w ++ b ∷ []) bs) (AllByRecursion Solid)
    (λ t. let cut = cut-text w bs b t u in parts-before w (words bs) e cut.0 (parts-after [] bs refl cut.1))
    (λ t. parts-after (w ++ b ∷ []) bs (grind (arith, nat_tests, list_all-append)) (rw append_assoc u))

pub parts : (bs : List ℕ) → IsUtf8 bs → AllByRecursion Solid (words bs)
parts bs u = parts-after [] bs refl u
