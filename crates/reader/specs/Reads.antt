-- How a line is read. Assumes nothing.
use Rattle.std.specs.Prelude.{ℕ, Bool, true, false, cond, List, length, drop, Some, None, Ok, Err, Option, Result, nat_lt}
use Rattle.words.specs.Words.{first_of, remark, words}
use Rattle.commands.specs.Commands.{command_of}
use Rattle.commands.specs.declared.command.Command.{Command}
use Rattle.commands.specs.declared.command.Command.TheVariants as command
use Rattle.commands.specs.declared.trouble.Why.{Why}
use Rattle.commands.specs.declared.trouble.Why.TheVariants.{Nested}
use Rattle.commands.specs.declared.trouble.Trouble.{Trouble}
use Rattle.commands.specs.declared.trouble.Trouble.TheVariants.{TooLong, NotText, NoCommand, Form}
use Rattle.lines.specs.Lines.{Asked, Said, Format, Write, Clear, Hold, Release, Would, Copy, New, Drop, Read, ReadHold, Free, Sync, Stream, Take, Show, Listing, Plain, Power, Cut, mapped_ok}
use Rattle.reader.specs.Args.{then, word_in, number_in, exact_in, hex_in, bits_of, end_in}

-- The bits of a stop are the longest part of any line: there are never 2,097,152 sectors that wait.
abbrev pub longest : ℕ
longest = 2097152

abbrev pub is_power : Command → Bool
is_power command.Power = true
is_power c = false

-- What the words behind a command ask for.
abbrev pub asked_in : Command → List (List ℕ) → Result Asked Why
asked_in command.Format ws = then (number_in ws) (λ n. then (exact_in (drop 1 ws)) (λ v. Ok (Format n v)))
asked_in command.Write ws = then (number_in ws) (λ d. then (number_in (drop 1 ws)) (λ s. then (hex_in (drop 2 ws)) (λ ds. Ok (Write d s ds))))
asked_in command.Clear ws = then (number_in ws) (λ d. then (number_in (drop 1 ws)) (λ s. Ok (Clear d s)))
asked_in command.Hold ws = then (number_in ws) (λ d. Ok (Hold d))
asked_in command.Release ws = then (number_in ws) (λ h. Ok (Release h))
asked_in command.Would ws = then (number_in ws) (λ h. Ok (Would h))
asked_in command.Copy ws = then (number_in ws) (λ h. Ok (Copy h))
asked_in command.New ws = Ok New
asked_in command.Drop ws = then (number_in ws) (λ d. Ok (Drop d))
asked_in command.Read ws = then (number_in ws) (λ d. then (number_in (drop 1 ws)) (λ s. Ok (Read d s)))
asked_in command.ReadHold ws = then (number_in ws) (λ h. then (number_in (drop 1 ws)) (λ s. Ok (ReadHold h s)))
asked_in command.Free ws = Ok Free
asked_in command.Sync ws = Ok Sync
asked_in command.Stream ws = then (number_in ws) (λ a. then (number_in (drop 1 ws)) (λ b. then (word_in (drop 2 ws)) (λ f. Ok (Stream a b f))))
asked_in command.Take ws = then (number_in ws) (λ d. then (word_in (drop 1 ws)) (λ f. Ok (Take d f)))
asked_in command.Power ws = Err Nested
asked_in command.Show ws = Ok Show
asked_in command.Listing ws = Ok Listing

-- How many words a command has behind it, at the most.
abbrev pub most_words : Command → ℕ
most_words command.Format = 2
most_words command.Write = 3
most_words command.Clear = 2
most_words command.Hold = 1
most_words command.Release = 1
most_words command.Would = 1
most_words command.Copy = 1
most_words command.New = 0
most_words command.Drop = 1
most_words command.Read = 2
most_words command.ReadHold = 2
most_words command.Free = 0
most_words command.Sync = 0
most_words command.Stream = 3
most_words command.Take = 2
most_words command.Power = 0
most_words command.Show = 0
most_words command.Listing = 0

-- A call: what the words ask for, and nothing behind them.
abbrev pub call_in : Command → List (List ℕ) → Result Asked Why
call_in c ws = then (asked_in c ws) (λ a. then (end_in (drop (most_words c) ws)) (λ _. Ok a))

-- What is wrong is told with the command that it is wrong for.
abbrev pub formed : {A : Type 0} → Command → Result A Why → Result A Trouble
formed c (Ok a) = Ok a
formed c (Err w) = Err (Form c w)

-- A call, its command first; as the line that a stop cuts short.
abbrev pub commanded : Option Command → List (List ℕ) → Result Asked Trouble
commanded None ws = Err NoCommand
commanded (Some c) ws = formed c (call_in c ws)

abbrev pub call_of : List (List ℕ) → Result Asked Trouble
call_of ws = then (formed command.Power (word_in ws)) (λ w. commanded (command_of w) (drop 1 ws))

-- Behind the bits nothing, or a number and a call.
abbrev pub stop_at : Option (List ℕ) → List ℕ → List (List ℕ) → Result Said Trouble
stop_at None bits ws = Ok (Power bits)
stop_at (Some w) bits ws = then (formed command.Power (number_in ws)) (λ k. then (call_of (drop 1 ws)) (λ a. Ok (Cut bits k a)))

abbrev pub stop_in : List ℕ → List (List ℕ) → Result Said Trouble
stop_in bits ws = stop_at (first_of ws) bits ws

-- The bits of a stop, and what is behind them.
abbrev pub power_in : List (List ℕ) → Result Said Trouble
power_in ws = then (formed command.Power (bits_of ws)) (λ bits. stop_in bits (drop 1 ws))

-- A line whose command is c.
abbrev pub said_as : Command → List (List ℕ) → Result Said Trouble
said_as c ws = cond (is_power c) (power_in ws) (then (formed c (call_in c ws)) (λ a. Ok (Plain a)))

abbrev pub said_by : Option Command → List (List ℕ) → Result Said Trouble
said_by None ws = Err NoCommand
said_by (Some c) ws = said_as c ws

-- What the words of a line say that is no remark; nothing where there are none.
abbrev pub heard_by : Option (List ℕ) → List (List ℕ) → Result (Option Said) Trouble
heard_by None ws = Ok None
heard_by (Some w) ws = mapped_ok Some (said_by (command_of w) (drop 1 ws))

-- A line; t says whether it is text, which is UTF-8. A remark is skipped, whatever it is; then one that is longer than any line has to
-- be is not looked at.
abbrev pub reading : Bool → List ℕ → Result (Option Said) Trouble
reading t bs = cond (remark (words bs)) (Ok None) (cond (nat_lt longest (length bs)) (Err TooLong) (cond t (heard_by (first_of (words bs)) (words bs)) (Err NotText)))
