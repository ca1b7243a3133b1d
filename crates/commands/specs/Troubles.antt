-- Why a line is not understood, in words. Assumes nothing.
use Rattle.std.specs.Prelude.{ℕ, List, ◌++◌, codes}
use Rattle.commands.specs.Commands.{usage_of}
use Rattle.commands.specs.declared.trouble.Trouble.{Trouble}
use Rattle.commands.specs.declared.trouble.Trouble.TheVariants.{TooLong, NotText, NoCommand, Form}
use Rattle.commands.specs.declared.trouble.Why.{Why}
use Rattle.commands.specs.declared.trouble.Why.TheVariants.{TooFew, TooMany, Number, Hex, Bits, Nested}
use Rattle.words.specs.Numbers.{not_number_text}
use Rattle.digits.specs.Bits.{not_bits_text}
use Rattle.digits.specs.HexText.{not_hex_text}

abbrev pub why_text : Why → List ℕ
why_text TooFew = codes "too few words"
why_text TooMany = codes "too many words"
why_text (Number e) = not_number_text e
why_text (Hex e) = not_hex_text e
why_text (Bits e) = not_bits_text
why_text Nested = codes "a stop within a stop"

abbrev pub trouble_text : Trouble → List ℕ
trouble_text TooLong = codes "the line is too long"
trouble_text NotText = codes "not UTF-8 text"
trouble_text NoCommand = codes "no such command"
trouble_text (Form c w) = why_text w ++ (codes ": " ++ usage_of c)
