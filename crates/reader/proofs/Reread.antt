-- A line that was written out, read again. Assumes nothing.
use Rattle.std.proofs.Common.{◌≡◌, ℕ, true, false, List, [], ◌∷◌, length, Some, None, Ok, IsUtf8, refl, ◌∙◌, arith}
use Rattle.std.specs.List.{list_all}
use Rattle.std.proofs.lemmas.Bool.{cond-false, le-ltb}
use Rattle.std.proofs.lemmas.Bool.Decides.{nat_tests}
use Rattle.words.proofs.Decimals.{number-again}
use Rattle.words.proofs.Spaced.{words-spaced}
use Rattle.digits.specs.Bits.{bits_in, bits_text}
use Rattle.words.specs.Bytes.{is_bit}
use Rattle.words.specs.Words.{first_of, marked, remark, words}
use Rattle.commands.specs.Commands.{word_of}
use Rattle.commands.specs.declared.command.Command.{Command}
use Rattle.commands.specs.declared.command.Command.TheVariants as command
use Rattle.lines.specs.Lines.{Asked, Said, Write, Plain, Power, Cut}
use Rattle.lines.specs.Texts.{line_words, words_of, written}
use Rattle.reader.specs.Proper.{Proper, ProperCall, ProperSaid}
use Rattle.reader.specs.Reads.{call_of, heard_by, longest, reading}
use Rattle.reader.proofs.Solids.{all_words, line-solid, spaced-text}

bits-again : (b : List ℕ) → list_all is_bit b ≡ true → bits_in (bits_text b) ≡ Some b
bits-again (x ∷ []) e = grind (arith, nat_tests)
bits-again b e = grind (arith, nat_tests)

-- the call that a stop cuts short, by its words; the last line is for each of the other calls
pub call-again : (a : Asked) → ProperCall a → call_of (words_of a) ≡ Ok a
call-again (Write d s None) p = grind (arith, number-again)
call-again a p = grind (arith, number-again)

line-again : (l : Said) → ProperSaid l → heard_by (first_of (line_words l)) (line_words l) ≡ Ok (Some l)
line-again (Plain (Write d s None)) p = grind (arith, number-again)
line-again l p = grind (arith, number-again, bits-again, call-again)

words-again : (l : Said) → ProperSaid l → words (written l) ≡ line_words l
words-again l p = words-spaced (line_words l) (all_words (line_words l) (line-solid l p))

pub written_text : (l : Said) → Proper l → IsUtf8 (written l)
written_text l p = spaced-text (line_words l) (line-solid l p.0)

-- what the words of its text say
pub written_said : (l : Said) → Proper l → heard_by (first_of (words (written l))) (words (written l)) ≡ Ok (Some l)
written_said l p = rw (words-again l p.0) (line-again l p.0)

-- no command is written as a remark is, and so no line
pub no-remark : (c : Command) → marked (word_of c) ≡ false
no-remark command.Power = refl
no-remark c = refl

not-remark : (l : Said) → remark (line_words l) ≡ false
not-remark (Plain (Write d s None)) = refl
not-remark (Plain a) = refl
not-remark (Power b) = refl
not-remark (Cut b k a) = refl

pub written_read : (l : Said) → Proper l → reading true (written l) ≡ Ok (Some l)
written_read l p =
    rw (words-again l p.0) (cond-false _ _ _ (not-remark l) ∙ cond-false _ _ _ (le-ltb longest (length (written l)) p.1) ∙ line-again l p.0)
