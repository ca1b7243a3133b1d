-- A call that is understood is one that a line can have. Assumes nothing.
use Rattle.std.proofs.Common.{ℕ, List, [], ◌∷◌, drop, Some, None, Ok, Err, Option, Result, IfOk, MatchOption, arith, rules}
use Rattle.std.specs.List.{AllByRecursion}
use Rattle.std.proofs.lemmas.List.Elements.{All-drop, All-from_recursion, recursion_from_All}
use Rattle.std.proofs.lemmas.Bool.Decides.{nat_tests}
use Rattle.words.proofs.Parts.{Solid}
use Rattle.commands.specs.declared.command.Command.{Command}
use Rattle.commands.specs.declared.command.Command.TheVariants as command
use Rattle.commands.specs.declared.trouble.Why.{Why}
use Rattle.reader.specs.Proper.{Number, File, Bytes, ProperCall}
use Rattle.reader.specs.Args.{then, word_in, number_in, exact_in, hex_in}
use Rattle.reader.specs.Reads.{asked_in, call_in, commanded, formed}

-- what two steps give, and what is told with its command
pub by-then : {A B E : Type 0} (P : A → Type 0) (Q : B → Type 0) (r : Result A E) (f : A → Result B E) → IfOk r P → ((a : A) → P a → IfOk (f a) Q) → IfOk (then r f) Q
by-then P Q (Ok a) f p k = k a p
by-then P Q (Err e) f p k = tt

pub by-formed : {A : Type 0} (P : A → Type 0) (c : Command) (r : Result A Why) → IfOk r P → IfOk (formed c r) P
by-formed P c (Ok a) p = p
by-formed P c (Err e) p = tt

pub number-in : (ws : List (List ℕ)) → IfOk (number_in ws) Number
number-in ((b ∷ w) ∷ ws) = grind (arith, nat_tests)
number-in ws = tt

exact-in : (ws : List (List ℕ)) → IfOk (exact_in ws) Number
exact-in ((b ∷ w) ∷ ws) = grind (arith, nat_tests)
exact-in ws = tt

-- the words of a list that is shorter at its front
pub fewer : (n : ℕ) (ws : List (List ℕ)) → AllByRecursion Solid ws → AllByRecursion Solid (drop n ws)
fewer n ws s = recursion_from_All Solid (drop n ws) (All-drop Solid n ws (All-from_recursion Solid ws s))

file-in : (ws : List (List ℕ)) → AllByRecursion Solid ws → IfOk (word_in ws) File
file-in [] s = tt
file-in (w ∷ ws) s = search rules

-- bytes may be left out
abbrev Sent : Option (List ℕ) → Type 0
Sent o = MatchOption o (Unit {0}) Bytes

hex-in : (ws : List (List ℕ)) → AllByRecursion Solid ws → IfOk (hex_in ws) Sent
hex-in ([] ∷ ws) s = grind (arith, nat_tests, s.0.one)
hex-in ws s = grind (arith, nat_tests)

ruleset steps = (by-then, number-in, exact-in, hex-in, file-in, fewer)

-- the last line is for each of the other commands
asked-in : (c : Command) (ws : List (List ℕ)) → AllByRecursion Solid ws → IfOk (asked_in c ws) ProperCall
asked-in command.Format ws s = search (rules, steps)
asked-in c ws s = search (rules, steps)

pub call-in : (c : Command) (ws : List (List ℕ)) → AllByRecursion Solid ws → IfOk (call_in c ws) ProperCall
call-in c ws s = search (rules, by-then, asked-in)

pub commanded-in : (o : Option Command) (ws : List (List ℕ)) → AllByRecursion Solid ws → IfOk (commanded o ws) ProperCall
commanded-in None ws s = tt
commanded-in (Some c) ws s = search (rules, by-formed, call-in)
