-- The commands: the word that names each, and its form for people. Assumes nothing.
use Rattle.std.specs.Prelude.{ℕ, List, [], ◌∷◌, codes, Option}
use Rattle.std.specs.List.{find}
use Rattle.std.specs.Str.{bytes_eq}
use Rattle.commands.specs.declared.command.Command.{Command}
use Rattle.commands.specs.declared.command.Command.TheVariants.{Format, Write, Clear, Hold, Release, Would, Copy, New, Drop, Read, ReadHold, Free, Sync, Stream, Take, Power, Show, Listing}

abbrev pub word_of : Command → List ℕ
word_of Format = codes "format"
word_of Write = codes "write"
word_of Clear = codes "clear"
word_of Hold = codes "hold"
word_of Release = codes "release"
word_of Would = codes "would"
word_of Copy = codes "copy"
word_of New = codes "new"
word_of Drop = codes "drop"
word_of Read = codes "read"
word_of ReadHold = codes "readhold"
word_of Free = codes "free"
word_of Sync = codes "sync"
word_of Stream = codes "stream"
word_of Take = codes "take"
word_of Power = codes "power"
word_of Show = codes "show"
word_of Listing = codes "list"

abbrev pub usage_of : Command → List ℕ
usage_of Format = codes "format N V"
usage_of Write = codes "write D S HEX"
usage_of Clear = codes "clear D S"
usage_of Hold = codes "hold D"
usage_of Release = codes "release H"
usage_of Would = codes "would H"
usage_of Copy = codes "copy H"
usage_of New = codes "new"
usage_of Drop = codes "drop D"
usage_of Read = codes "read D S"
usage_of ReadHold = codes "readhold H S"
usage_of Free = codes "free"
usage_of Sync = codes "sync"
usage_of Stream = codes "stream H H FILE"
usage_of Take = codes "take D FILE"
usage_of Power = codes "power BITS, or power BITS K LINE"
usage_of Show = codes "show"
usage_of Listing = codes "list"

abbrev pub commands : List Command
commands = Format ∷ Write ∷ Clear ∷ Hold ∷ Release ∷ Would ∷ Copy ∷ New ∷ Drop ∷ Read ∷ ReadHold ∷ Free ∷ Sync ∷ Stream ∷ Take ∷ Power ∷ Show ∷ Listing ∷ []

-- The first of these that the word names.
abbrev pub named_in : List Command → List ℕ → Option Command
named_in cs w = find (λ c. bytes_eq (word_of c) w) cs

abbrev pub command_of : List ℕ → Option Command
command_of w = named_in commands w
