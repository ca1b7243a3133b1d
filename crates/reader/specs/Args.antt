-- What the words behind a command give, one after the other. Assumes nothing.
use Rattle.std.specs.Prelude.{ℕ, List, [], ◌∷◌, Some, None, Ok, Err, Option, Result}
use Rattle.std.specs.Option.{ok_or}
use Rattle.words.specs.Numbers.{number_of}
use Rattle.words.specs.Words.{first_of}
use Rattle.words.specs.declared.number.NotNumber.{NotNumber}
use Rattle.words.specs.declared.number.NotNumber.TheVariants.{NoDigits, TooLarge}
use Rattle.digits.specs.Bits.{bits_in, not_bits}
use Rattle.digits.specs.HexText.{hex_fault}
use Rattle.digits.specs.declared.hex.NotHex.{NotHex}
use Rattle.commands.specs.declared.trouble.Why.{Why}
use Rattle.commands.specs.declared.trouble.Why.TheVariants.{TooFew, TooMany, Number, Hex, Bits}

-- One step and then another: what is wrong first, from the left, is what is told.
abbrev pub then : {A B E : Type 0} → Result A E → (A → Result B E) → Result B E
then (Ok a) f = f a
then (Err e) f = Err e

-- What is wrong, told as something else.
abbrev pub mapped_err : {A E F : Type 0} → (E → F) → Result A E → Result A F
mapped_err f (Ok a) = Ok a
mapped_err f (Err e) = Err (f e)

-- A number that names something, or counts. The largest of 64 bits stands for all that pass it.
abbrev pub capped : Result ℕ NotNumber → Result ℕ Why
capped (Ok n) = Ok n
capped (Err TooLarge) = Ok 18446744073709551615
capped (Err NoDigits) = Err (Number NoDigits)

-- What the first of the words gives.
abbrev pub word_in : List (List ℕ) → Result (List ℕ) Why
word_in ws = ok_or (first_of ws) TooFew

abbrev pub number_in : List (List ℕ) → Result ℕ Why
number_in ws = then (word_in ws) (λ w. capped (number_of w))

-- A number of 64 bits, and no other.
abbrev pub exact_in : List (List ℕ) → Result ℕ Why
exact_in ws = then (word_in ws) (λ w. mapped_err Number (number_of w))

-- Digits without a fault, or what their fault is.
abbrev pub fine : List ℕ → Option NotHex → Result (Option (List ℕ)) Why
fine ds None = Ok (Some ds)
fine ds (Some e) = Err (Hex e)

-- Bytes may be left out.
abbrev pub hex_at : Option (List ℕ) → Result (Option (List ℕ)) Why
hex_at None = Ok None
hex_at (Some w) = fine w (hex_fault w)

abbrev pub hex_in : List (List ℕ) → Result (Option (List ℕ)) Why
hex_in ws = hex_at (first_of ws)

-- Bits that are left out are none.
abbrev pub bits_at : Option (List ℕ) → Result (List ℕ) Why
bits_at None = Ok []
bits_at (Some w) = ok_or (bits_in w) (Bits not_bits)

abbrev pub bits_of : List (List ℕ) → Result (List ℕ) Why
bits_of ws = bits_at (first_of ws)

-- Nothing is left.
abbrev pub end_in : List (List ℕ) → Result (Unit {0}) Why
end_in [] = Ok tt
end_in (w ∷ ws) = Err TooMany
