-- The kinds of bytes that words are made of. Assumes nothing.
use Rattle.std.specs.Prelude.{ℕ, Bool, false, not, ◌&&◌, ◌||◌, List, [], ◌∷◌, ◌==◌, nat_le}
use Rattle.std.specs.List.{list_all}
use Rattle.words.specs.declared.byte.Kind.{Kind}
use Rattle.words.specs.declared.byte.Kind.TheVariants.{Blank, Solid, Decimal, Hexadecimal, Bit}

-- What separates words: a space, a tab, and the carriage return that some editors put before the end of a line.
abbrev pub blank : ℕ → Bool
blank b = b == 32 || (b == 9 || b == 13)

abbrev pub between : ℕ → ℕ → ℕ → Bool
between low high b = nat_le low b && nat_le b high

abbrev pub is_solid : ℕ → Bool
is_solid b = not (blank b)

abbrev pub is_hex : ℕ → Bool
is_hex b = between 48 57 b || (between 97 102 b || between 65 70 b)

abbrev pub is_bit : ℕ → Bool
is_bit b = between 48 49 b

abbrev pub is_kind : Kind → ℕ → Bool
is_kind Blank b = blank b
is_kind Solid b = is_solid b
is_kind Decimal b = between 48 57 b
is_kind Hexadecimal b = is_hex b
is_kind Bit b = is_bit b

-- Bytes that are one word: at least one, and none of them blank.
abbrev pub is_word : List ℕ → Bool
is_word [] = false
is_word (b ∷ bs) = list_all (is_kind Solid) (b ∷ bs)
