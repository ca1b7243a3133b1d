-- Each word of a line that is written out is one, and is text. Assumes nothing.
use Rattle.std.proofs.Common.{◌≡◌, ℕ, true, List, [], ◌∷◌, None, IsUtf8, arith, rules}
use Rattle.std.specs.List.{list_all, AllByRecursion}
use Rattle.std.proofs.lemmas.Str.{IsUtf8-append, IsUtf8-nil}
use Rattle.std.proofs.lemmas.Bool.Decides.{nat_tests}
use Rattle.words.proofs.Decimals.{decimal-solid, of-kind}
use Rattle.words.proofs.Parts.{Solid}
use Rattle.digits.specs.Bits.{bits_text}
use Rattle.words.specs.Bytes.{is_bit, is_hex, is_word}
use Rattle.words.specs.Words.{spaced}
use Rattle.lines.specs.Lines.{Asked, Said, Write, Plain, Power, Cut}
use Rattle.lines.specs.Texts.{line_words, words_of}
use Rattle.reader.specs.Proper.{Bytes, ProperCall, ProperSaid}

bytes : (ds : List ℕ) → Bytes ds → Solid ds
bytes ds h = of-kind is_hex (λ b e. grind (arith, nat_tests)) ds h.0 (grind (arith, nat_tests))

bits : (b : List ℕ) → list_all is_bit b ≡ true → Solid (bits_text b)
bits [] e = search rules
bits (x ∷ b) e = of-kind is_bit (λ b e. grind (arith, nat_tests)) (x ∷ b) (omega arith) e

-- what the words of a line are
ruleset solids = (decimal-solid, bytes, bits)

pub call-solid : (a : Asked) → ProperCall a → AllByRecursion Solid (words_of a)
call-solid (Write d s None) p = search (rules, solids)
call-solid a p = search (rules, solids)

pub line-solid : (l : Said) → ProperSaid l → AllByRecursion Solid (line_words l)
line-solid (Plain a) p = call-solid a p
line-solid (Power b) p = search (rules, solids)
line-solid (Cut b k a) p = search (rules, solids, call-solid)

pub spaced-text : (ws : List (List ℕ)) → AllByRecursion Solid ws → IsUtf8 (spaced ws)
spaced-text [] h = IsUtf8-nil
spaced-text (w ∷ []) h = h.0.text
spaced-text (w ∷ v ∷ ws) h = IsUtf8-append w _ h.0.text (IsUtf8-append (32 ∷ []) _ (search rules) (spaced-text (v ∷ ws) h.1))

pub all_words : (ws : List (List ℕ)) → AllByRecursion Solid ws → AllByRecursion (λ w. is_word w ≡ true) ws
all_words [] h = tt
all_words (w ∷ ws) h = (h.0.one, all_words ws h.1)
