-- A command's word is its name. Assumes nothing.
use Rattle.std.proofs.Common.{◌≡◌, Some, refl}
use Rattle.commands.specs.declared.command.Command.{Command}
use Rattle.commands.specs.declared.command.Command.TheVariants.{Format}
use Rattle.commands.specs.Commands.{command_of, word_of}

-- the last line is for each of the other commands
pub named_again : (c : Command) → command_of (word_of c) ≡ Some c
named_again Format = refl
named_again c = refl
