-- A number that was written, read again. Assumes nothing.
use Rattle.std.proofs.Common.{◌≡◌, ℕ, ◌+◌, ◌-◌, ◌*◌, ◌^◌, ◌<◌, ◌≤◌, Bool, true, List, [], ◌∷◌, length, Ok, decimal, arith, rules}
use Rattle.std.specs.List.{list_all}
use Rattle.std.specs.Str.Parse.{IsNumeral, digits_value, without_leading_plus}
use Rattle.std.proofs.lemmas.Fmt.{decimal_nonempty, digits_decimal, digits_value-decimal}
use Rattle.std.proofs.lemmas.List.Elements.{All-weaker}
use Rattle.std.proofs.lemmas.List.Sums.{AllPass-from_list_all, list_all-from_AllPass}
use Rattle.std.proofs.lemmas.Str.{IsUtf8-from_ascii}
use Rattle.std.proofs.lemmas.Str.Ascii.{IsAscii-from_all}
use Rattle.std.proofs.lemmas.Str.Parse.{IsNumeralModel, numerals_by_fold}
use Rattle.std.proofs.lemmas.Bool.Decides.{nat_tests}
use Rattle.words.specs.declared.byte.Kind.TheVariants.{Decimal}
use Rattle.words.specs.Bytes.{is_kind, is_solid}
use Rattle.words.specs.Digits.{value_after}
use Rattle.words.specs.Numbers.{fitted, number_of}
use Rattle.words.proofs.Parts.{Solid}

own : IsNumeralModel (λ ds. list_all (is_kind Decimal) ds ≡ true) (value_after 0)
own = numerals_by_fold _ (search rules) value_after (search rules)

-- what `parse` reads, digits and no sign
pub number_is : (bs : List ℕ) → 0 < length bs → list_all (is_kind Decimal) bs ≡ true → (number_of bs ≡ fitted (digits_value 10 (without_leading_plus bs))) × IsNumeral 10 (without_leading_plus bs)
number_is [] some all = absurd (omega arith)
number_is (b ∷ bs) some all =
    let plain : without_leading_plus (b ∷ bs) ≡ b ∷ bs = grind (arith, nat_tests) in
    let digits = own.to (b ∷ bs) all in
    let same = own.same (b ∷ bs) digits in
    rw plain (grind (arith, nat_tests), (some, digits))

pub number-again : (n : ℕ) → n < 2 ^ 64 → number_of (decimal n) ≡ Ok n
number-again n h = grind (arith, nat_tests, decimal_nonempty n h, digits_decimal own n h, digits_value-decimal own n h)

-- a text of bytes of a kind that has neither blanks nor what is not ASCII
pub of-kind : (p : ℕ → Bool) → ((b : ℕ) → p b ≡ true → (is_solid b ≡ true) × (b < 128)) → (w : List ℕ) → 0 < length w → list_all p w ≡ true → Solid w
of-kind p f [] some e = absurd (omega arith)
of-kind p f (b ∷ w) some e = let each = AllPass-from_list_all p (b ∷ w) e in record {
  one = list_all-from_AllPass is_solid (b ∷ w) (All-weaker (λ b. p b ≡ true) (λ b. is_solid b ≡ true) (λ b t. (f b t).0) (b ∷ w) each);
  text = IsUtf8-from_ascii (b ∷ w) (IsAscii-from_all (b ∷ w) (All-weaker (λ b. p b ≡ true) (λ b. b < 128) (λ b t. (f b t).1) (b ∷ w) each));
}

pub decimal-solid : (n : ℕ) → n < 2 ^ 64 → Solid (decimal n)
decimal-solid n h = of-kind (is_kind Decimal) (λ b e. grind (arith, nat_tests)) (decimal n) (decimal_nonempty n h) (digits_decimal own n h)

-- digits more make no number smaller
pub value_grows : (n : ℕ) (bs : List ℕ) → n ≤ value_after n bs
value_grows n [] = omega arith
value_grows n (b ∷ bs) = omega (arith, value_grows (n * 10 + (b - 48)) bs)
