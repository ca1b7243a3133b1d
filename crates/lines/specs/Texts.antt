-- A line written out. Assumes nothing.
use Rattle.std.specs.Prelude.{ℕ, List, [], ◌∷◌, Some, None, decimal}
use Rattle.digits.specs.Bits.{bits_text}
use Rattle.words.specs.Words.{spaced}
use Rattle.commands.specs.Commands.{word_of}
use Rattle.lines.specs.Lines.{Asked, Said, Format, Write, Clear, Hold, Release, Would, Copy, New, Drop, Read, ReadHold, Free, Sync, Stream, Take, Show, Listing, Plain, Power, Cut}
use Rattle.commands.specs.declared.command.Command.TheVariants as command

-- The words of a call.
abbrev pub words_of : Asked → List (List ℕ)
words_of (Format n v) = word_of command.Format ∷ decimal n ∷ decimal v ∷ []
words_of (Write d s None) = word_of command.Write ∷ decimal d ∷ decimal s ∷ []
words_of (Write d s (Some ds)) = word_of command.Write ∷ decimal d ∷ decimal s ∷ ds ∷ []
words_of (Clear d s) = word_of command.Clear ∷ decimal d ∷ decimal s ∷ []
words_of (Hold d) = word_of command.Hold ∷ decimal d ∷ []
words_of (Release h) = word_of command.Release ∷ decimal h ∷ []
words_of (Would h) = word_of command.Would ∷ decimal h ∷ []
words_of (Copy h) = word_of command.Copy ∷ decimal h ∷ []
words_of New = word_of command.New ∷ []
words_of (Drop d) = word_of command.Drop ∷ decimal d ∷ []
words_of (Read d s) = word_of command.Read ∷ decimal d ∷ decimal s ∷ []
words_of (ReadHold h s) = word_of command.ReadHold ∷ decimal h ∷ decimal s ∷ []
words_of Free = word_of command.Free ∷ []
words_of Sync = word_of command.Sync ∷ []
words_of (Stream a b f) = word_of command.Stream ∷ decimal a ∷ decimal b ∷ f ∷ []
words_of (Take d f) = word_of command.Take ∷ decimal d ∷ f ∷ []
words_of Show = word_of command.Show ∷ []
words_of Listing = word_of command.Listing ∷ []

abbrev pub line_words : Said → List (List ℕ)
line_words (Plain a) = words_of a
line_words (Power b) = word_of command.Power ∷ bits_text b ∷ []
line_words (Cut b k a) = word_of command.Power ∷ bits_text b ∷ decimal k ∷ words_of a

-- The text of a line, its words with one blank between each and the next.
abbrev pub written : Said → List ℕ
written l = spaced (line_words l)
