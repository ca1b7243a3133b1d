-- What a line asks for, as plain lists. Assumes nothing.
use Rattle.std.specs.Prelude.{ℕ, List, Option, Ok, Err, Result}
use Rattle.std.specs.Option.{option_map}
use Rattle.digits.specs.Bits.{bit_digits}
use Rattle.digits.specs.Hex.{hex_digits}
use Rattle.lines.specs.declared.line.Call.{Call}
use Rattle.lines.specs.declared.line.Call.TheVariants as code
use Rattle.lines.specs.declared.line.Line.{Line}
use Rattle.lines.specs.declared.line.Line.TheVariants as lines
use Rattle.commands.specs.declared.trouble.Trouble.{Trouble}

-- The same calls; bytes are the text of their hexadecimal digits, and a file's name is its bytes.
pub data Asked : Type 0 where
  Format : (blocks number : ℕ) → Asked
  Write : (disk slot : ℕ) (digits : Option (List ℕ)) → Asked
  Clear : (disk slot : ℕ) → Asked
  Hold : (disk : ℕ) → Asked
  Release : (hold : ℕ) → Asked
  Would : (hold : ℕ) → Asked
  Copy : (hold : ℕ) → Asked
  New : Asked
  Drop : (disk : ℕ) → Asked
  Read : (disk slot : ℕ) → Asked
  ReadHold : (hold slot : ℕ) → Asked
  Free : Asked
  Sync : Asked
  Stream : (older newer : ℕ) (file : List ℕ) → Asked
  Take : (disk : ℕ) (file : List ℕ) → Asked
  Show : Asked
  Listing : Asked

-- The same lines; bits are the text of their digits.
pub data Said : Type 0 where
  Plain : Asked → Said
  Power : (bits : List ℕ) → Said
  Cut : (bits : List ℕ) (after : ℕ) → Asked → Said

abbrev pub asked : Call → Asked
asked (code.Format n v) = Format n v
asked (code.Write d s h) = Write d s (option_map hex_digits h)
asked (code.Clear d s) = Clear d s
asked (code.Hold d) = Hold d
asked (code.Release h) = Release h
asked (code.Would h) = Would h
asked (code.Copy h) = Copy h
asked code.New = New
asked (code.Drop d) = Drop d
asked (code.Read d s) = Read d s
asked (code.ReadHold h s) = ReadHold h s
asked code.Free = Free
asked code.Sync = Sync
asked (code.Stream a b f) = Stream a b f.now
asked (code.Take d f) = Take d f.now
asked code.Show = Show
asked code.Listing = Listing

abbrev pub said : Line → Said
said (lines.Plain c) = Plain (asked c)
said (lines.Power b) = Power (bit_digits b)
said (lines.Cut b k c) = Cut (bit_digits b) k (asked c)

-- An answer, seen as something else.
abbrev pub mapped_ok : {A B E : Type 0} → (A → B) → Result A E → Result B E
mapped_ok f (Ok a) = Ok (f a)
mapped_ok f (Err e) = Err e

-- What reading a line gives: a line, nothing where it is to be skipped, or what is wrong with it.
abbrev pub heard : Result (Option Line) Trouble → Result (Option Said) Trouble
heard r = mapped_ok (option_map said) r
