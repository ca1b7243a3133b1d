-- A text of 0 and 1. Assumes nothing.
use Rattle.std.specs.Prelude.{ℕ, cond, List, [], ◌∷◌, Some, None, Option, codes, ◌==◌}
use Rattle.std.specs.List.{list_all}
use Rattle.words.specs.Bytes.{is_kind}
use Rattle.digits.specs.declared.bits.Bits.{Bits}
use Rattle.digits.specs.declared.bits.NotBits.{NotBits}
use Rattle.words.specs.declared.byte.Kind.TheVariants.{Bit}

abbrev pub bit_digits : Bits → List ℕ
bit_digits b = b.digits.now

-- What a text says as bits: `-` stands for none at all.
abbrev pub bits_in : List ℕ → Option (List ℕ)
bits_in [] = Some []
bits_in (b ∷ []) = cond (b == 45) (Some []) (cond (list_all (is_kind Bit) (b ∷ [])) (Some (b ∷ [])) None)
bits_in (b ∷ c ∷ bs) = cond (list_all (is_kind Bit) (b ∷ c ∷ bs)) (Some (b ∷ c ∷ bs)) None

abbrev pub bits_text : List ℕ → List ℕ
bits_text [] = 45 ∷ []
bits_text (b ∷ bs) = b ∷ bs

-- All that there is to say of a text that is none, and how it is said.
abbrev pub not_bits : NotBits
not_bits = record {}

abbrev pub not_bits_text : List ℕ
not_bits_text = codes "not a text of 0 and 1"
