-- A decimal number. Assumes nothing.
use Rattle.std.specs.Prelude.{ℕ, ◌^◌, cond, List, [], ◌∷◌, Ok, Err, Result, codes, nat_lt}
use Rattle.std.specs.List.{list_all}
use Rattle.words.specs.Bytes.{is_kind}
use Rattle.words.specs.Digits.{value_after}
use Rattle.words.specs.declared.byte.Kind.TheVariants.{Decimal}
use Rattle.words.specs.declared.number.NotNumber.{NotNumber}
use Rattle.words.specs.declared.number.NotNumber.TheVariants.{NoDigits, TooLarge}

abbrev pub fitted : ℕ → Result ℕ NotNumber
fitted n = cond (nat_lt n (2 ^ 64)) (Ok n) (Err TooLarge)

-- At least one digit, and nothing else. However many there are, one that passes 64 bits is still a number.
abbrev pub number_of : List ℕ → Result ℕ NotNumber
number_of [] = Err NoDigits
number_of (b ∷ bs) = cond (list_all (is_kind Decimal) (b ∷ bs)) (fitted (value_after 0 (b ∷ bs))) (Err NoDigits)

abbrev pub not_number_text : NotNumber → List ℕ
not_number_text NoDigits = codes "not a number"
not_number_text TooLarge = codes "a number of more than 64 bits"
