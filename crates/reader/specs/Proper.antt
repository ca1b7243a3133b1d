-- The values that a line can have. Assumes nothing.
use Rattle.std.specs.Prelude.{◌≡◌, ℕ, ◌^◌, ◌<◌, ◌≤◌, true, List, length, Some, None, IsUtf8}
use Rattle.std.specs.List.{list_all}
use Rattle.words.specs.Bytes.{is_bit, is_word}
use Rattle.digits.specs.HexText.{hex_fault}
use Rattle.lines.specs.Lines.{Asked, Said, Format, Write, Clear, Hold, Release, Would, Copy, New, Drop, Read, ReadHold, Free, Sync, Stream, Take, Show, Listing, Plain, Power, Cut}
use Rattle.lines.specs.Texts.{written}
use Rattle.reader.specs.Reads.{longest}

abbrev pub Number : ℕ → Type 0
Number n = n < 2 ^ 64

-- The bytes of one word of text.
abbrev pub File : List ℕ → Type 0
File f = (is_word f ≡ true) × IsUtf8 f

-- Two digits for each of at least one byte, and of 4,096 at the most.
abbrev pub Bytes : List ℕ → Type 0
Bytes ds = (0 < length ds) × (hex_fault ds ≡ None)

abbrev pub ProperCall : Asked → Type 0
ProperCall (Format n v) = Number n × Number v
ProperCall (Write d s None) = Number d × Number s
ProperCall (Write d s (Some ds)) = Number d × Number s × Bytes ds
ProperCall (Clear d s) = Number d × Number s
ProperCall (Hold d) = Number d
ProperCall (Release h) = Number h
ProperCall (Would h) = Number h
ProperCall (Copy h) = Number h
ProperCall New = Unit {0}
ProperCall (Drop d) = Number d
ProperCall (Read d s) = Number d × Number s
ProperCall (ReadHold h s) = Number h × Number s
ProperCall Free = Unit {0}
ProperCall Sync = Unit {0}
ProperCall (Stream a b f) = Number a × Number b × File f
ProperCall (Take d f) = Number d × File f
ProperCall Show = Unit {0}
ProperCall Listing = Unit {0}

abbrev pub ProperSaid : Said → Type 0
ProperSaid (Plain a) = ProperCall a
ProperSaid (Power b) = list_all is_bit b ≡ true
ProperSaid (Cut b k a) = (list_all is_bit b ≡ true) × Number k × ProperCall a

-- And its text is no longer than a line may be.
abbrev pub Proper : Said → Type 0
Proper l = ProperSaid l × (length (written l) ≤ longest)
