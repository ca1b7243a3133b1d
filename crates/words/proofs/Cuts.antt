-- Where a line is cut into words. Assumes nothing.
use Rattle.std.proofs.Common.{◌≡◌, ℕ, ◌+◌, ◌-◌, ◌<◌, Bool, true, eqb, List, [], ◌∷◌, ◌++◌, length, get_or, take, drop, IsUtf8, refl, ◌⊎◌, inl, append_assoc, append-nil, one-add, arith}
use Rattle.std.specs.Str.{IsCharBoundary}
use Rattle.std.specs.List.{list_all, prefix_len, take_while}
use Rattle.std.proofs.lemmas.List.Sums.{prefix_len-le-length, prefix_len_passes, prefix_len_stops}
use Rattle.std.proofs.lemmas.Bool.{cond_both}
use Rattle.std.proofs.lemmas.Str.{IsCharBoundary-start, lead_after_ascii}
use Rattle.std.proofs.lemmas.Bool.Decides.{nat_tests}
use Rattle.words.specs.declared.byte.Kind.TheVariants.{Blank, Solid}
use Rattle.words.specs.Bytes.{blank, is_kind}
use Rattle.words.specs.Words.{before, remark, words_after, words}

-- a line may be cut behind the blanks at its front
pub behind_blanks : (bs : List ℕ) → IsUtf8 bs → IsCharBoundary bs (prefix_len (is_kind Blank) bs)
behind_blanks bs u =
    let start = IsCharBoundary-start bs u in
    let last = prefix_len_passes (is_kind Blank) bs (prefix_len (is_kind Blank) bs - 1) 0 in
    let behind = lead_after_ascii bs (prefix_len (is_kind Blank) bs - 1) u in
    grind (arith, nat_tests, prefix_len-le-length)

-- and before the first blank
pub before_blank : (bs : List ℕ) → IsCharBoundary bs (prefix_len (is_kind Solid) bs)
before_blank bs = grind (arith, nat_tests, prefix_len-le-length, prefix_len_stops)

-- what is left of a word, and the words behind it
pub words-cut : (w bs : List ℕ) → words_after w bs ≡ before (w ++ take_while (is_kind Solid) bs) (words (drop (prefix_len (is_kind Solid) bs) bs))
words-cut w [] = simp append-nil
words-cut w (b ∷ bs) = let again = words-cut (w ++ b ∷ []) bs in simp one-add (grind (arith, nat_tests, append_assoc, append-nil w))

-- Words, and what is left of their line behind its blanks: there are none, or it begins with the first of them.
abbrev pub FirstOf : List (List ℕ) → List ℕ → Type 0
FirstOf ws l = ((length (take_while (is_kind Solid) l) ≡ 0) × (ws ≡ []) × (words (drop (prefix_len (is_kind Solid) l) l) ≡ []))
    ⊎ ((0 < length (take_while (is_kind Solid) l)) × (ws ≡ take_while (is_kind Solid) l ∷ words (drop (prefix_len (is_kind Solid) l) l)))

pub first_cut : (bs : List ℕ) → FirstOf (words bs) (drop (prefix_len (is_kind Blank) bs) bs)
first_cut [] = inl (refl, refl, refl)
first_cut (b ∷ bs) =
    let again = first_cut bs in
    let word = words-cut (b ∷ []) bs in
    cond_both (blank b) (1 + prefix_len (is_kind Blank) bs) 0 (λ k. FirstOf (words (b ∷ bs)) (drop k (b ∷ bs))) (λ t. simp (one-add, t) again) (λ t. simp (one-add, t) (grind (arith, nat_tests)))

remark-by : (b : ℕ) (w bs : List ℕ) → remark (words_after (b ∷ w) bs) ≡ eqb b 35
remark-by b w [] = refl
remark-by b w (c ∷ bs) = let again = remark-by b (w ++ c ∷ []) bs in grind (arith, nat_tests)

-- what stands behind the blanks tells whether a line is a remark
pub remark_is : (bs : List ℕ) → remark (words bs) ≡ eqb (get_or bs (prefix_len (is_kind Blank) bs) 0) 35
remark_is [] = refl
remark_is (b ∷ bs) = let again = remark_is bs in let solid = remark-by b [] bs in grind (arith, nat_tests)

-- every byte passes just where the front that passes is all, and the front always does
pub every_front : (p : ℕ → Bool) (bs : List ℕ) → eqb (prefix_len p bs) (length bs) ≡ list_all p bs
every_front p [] = refl
every_front p (b ∷ bs) = let again = every_front p bs in grind (arith, nat_tests)

every-taken : (p : ℕ → Bool) (bs : List ℕ) → list_all p (take (prefix_len p bs) bs) ≡ true
every-taken p [] = refl
every-taken p (b ∷ bs) = let again = every-taken p bs in simp one-add (grind (arith, nat_tests))
