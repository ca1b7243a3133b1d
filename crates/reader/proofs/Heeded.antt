-- A line that is understood is one that a line can be. Assumes nothing.
use Rattle.std.proofs.Common.{◌≡◌, ℕ, true, List, [], ◌∷◌, Some, None, Ok, Err, Option, Result, IfOk, IsUtf8, arith, rules}
use Rattle.std.specs.List.{list_all, AllByRecursion}
use Rattle.std.specs.Option.{IfSome}
use Rattle.std.proofs.lemmas.Result.{IfOk-at_ok}
use Rattle.std.proofs.lemmas.Bool.Decides.{nat_tests}
use Rattle.words.proofs.Parts.{Solid, parts}
use Rattle.words.specs.Bytes.{is_bit}
use Rattle.words.specs.Words.{first_of, words}
use Rattle.commands.specs.Commands.{command_of}
use Rattle.commands.specs.declared.command.Command.{Command}
use Rattle.commands.specs.declared.command.Command.TheVariants as command
use Rattle.lines.specs.Lines.{Said, mapped_ok}
use Rattle.reader.specs.Proper.{ProperCall, ProperSaid}
use Rattle.reader.specs.Args.{bits_of}
use Rattle.reader.specs.Reads.{call_of, stop_in, power_in, said_by, heard_by}
use Rattle.reader.proofs.Gained.{by-then, by-formed, number-in, fewer, call-in, commanded-in}

-- bits that were read are bits
bits-of : (ws : List (List ℕ)) → IfOk (bits_of ws) (λ b. list_all is_bit b ≡ true)
bits-of ((b ∷ []) ∷ ws) = grind (arith, nat_tests)
bits-of ws = grind (arith, nat_tests)

call-of : (ws : List (List ℕ)) → AllByRecursion Solid ws → IfOk (call_of ws) ProperCall
call-of [] s = tt
call-of (w ∷ ws) s = commanded-in (command_of w) ws s.1

stop-in : (b : List ℕ) (ws : List (List ℕ)) → list_all is_bit b ≡ true → AllByRecursion Solid ws → IfOk (stop_in b ws) ProperSaid
stop-in b [] h s = h
stop-in b (w ∷ ws) h s = let k = number-in (w ∷ ws) in let a = call-of ws s.1 in search (rules, by-then, by-formed)

power-in : (ws : List (List ℕ)) → AllByRecursion Solid ws → IfOk (power_in ws) ProperSaid
power-in ws s = search (rules, by-then, by-formed, bits-of, stop-in, fewer)

said-by : (o : Option Command) (ws : List (List ℕ)) → AllByRecursion Solid ws → IfOk (said_by o ws) ProperSaid
said-by None ws s = tt
said-by (Some command.Power) ws s = power-in ws s
said-by (Some c) ws s = search (rules, by-then, by-formed, call-in)

by-mapped : {A B E : Type 0} (P : B → Type 0) (f : A → B) (r : Result A E) → IfOk r (λ a. P (f a)) → IfOk (mapped_ok f r) P
by-mapped P f (Ok a) p = p
by-mapped P f (Err e) p = tt

pub heard-by : (ws : List (List ℕ)) → AllByRecursion Solid ws → IfOk (heard_by (first_of ws) ws) (λ o. IfSome o ProperSaid)
heard-by [] s = tt
heard-by (w ∷ ws) s = search (rules, by-mapped, said-by)

pub text_heard : (bs : List ℕ) (l : Said) → IsUtf8 bs → heard_by (first_of (words bs)) (words bs) ≡ Ok (Some l) → ProperSaid l
text_heard bs l u e = IfOk-at_ok (λ o. IfSome o ProperSaid) e (heard-by (words bs) (parts bs u))
