-- Hexadecimal, written byte by byte. Assumes nothing.
use Rattle.std.proofs.Common.{◌≡◌, ℕ, ◌+◌, ◌/◌, ◌%◌, ◌<◌, List, [], ◌∷◌, ◌++◌, length, get_or, take, sym, refl, ap, ◌∙◌}
use Rattle.std.specs.declared.fmt.Formatter.{Formatter}
use Rattle.std.specs.Fmt.{HasWritten}
use Rattle.std.proofs.Output.{has_written_append, has_written_of_eq}
use Rattle.std.proofs.lemmas.List.{take_more}
use Rattle.digits.specs.HexText.{hex_char, hex_of}

pub hex_of-append : (xs ys : List ℕ) → hex_of (xs ++ ys) ≡ hex_of xs ++ hex_of ys
hex_of-append [] ys = refl
hex_of-append (x ∷ xs) ys = ap (λ l. hex_char (x / 16) ∷ hex_char (x % 16) ∷ l) (hex_of-append xs ys)

hex_of-more : (bs : List ℕ) (i : ℕ) → i < length bs → hex_of (take i bs) ++ hex_of (get_or bs i 0 ∷ []) ≡ hex_of (take (i + 1) bs)
hex_of-more bs i h = sym (ap hex_of (take_more bs i 0 h) ∙ hex_of-append (take i bs) (get_or bs i 0 ∷ []))

-- one byte more
pub byte_more : {W : Type 0} (took : W → List ℕ → W → Type 0) (f g h : Formatter W) (bs : List ℕ) (i : ℕ) → i < length bs → HasWritten took f (hex_of (take i bs)) g → HasWritten took g (hex_of (get_or bs i 0 ∷ [])) h → HasWritten took f (hex_of (take (i + 1) bs)) h
byte_more took f g h bs i lt p q = has_written_of_eq took f _ _ h (hex_of-more bs i lt) (has_written_append took f _ g _ h p q)
