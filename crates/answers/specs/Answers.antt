-- What is answered to a line, as text. Assumes nothing.
use Rattle.std.specs.Prelude.{ℕ, List, [], ◌∷◌, ◌++◌, Some, None, Option, codes, decimal}
use Rattle.rules.specs.Refusals.{number_of, words_of}
use Rattle.digits.specs.Hex.{hex_of}
use Rattle.digits.specs.Shown.{shown_bytes}
use Rattle.commands.specs.Troubles.{trouble_text}
use Rattle.answers.specs.declared.About.{About}
use Rattle.answers.specs.declared.About.TheVariants.{Blocks}
use Rattle.answers.specs.declared.Answer.{Answer}
use Rattle.answers.specs.declared.Answer.TheVariants.{Done, Value, Bytes}
use Rattle.answers.specs.declared.Failure.{Failure}
use Rattle.answers.specs.declared.Failure.TheVariants.{Refused, Misread, NotYet}

-- `ok` and the bytes behind a blank, or `ok` alone where there are none.
abbrev pub bytes_text : List ℕ → List ℕ
bytes_text [] = codes "ok"
bytes_text (b ∷ bs) = codes "ok " ++ hex_of (b ∷ bs)

abbrev pub answer_text : Answer → List ℕ
answer_text Done = codes "ok"
answer_text (Value n) = codes "ok " ++ decimal n
answer_text (Bytes s) = bytes_text (shown_bytes s)

abbrev pub about_text : About → List ℕ
about_text (Blocks n) = codes ": " ++ (decimal n ++ codes " blocks")

-- What a refusal is about stands behind its words, if it is about anything.
abbrev pub behind : Option About → List ℕ
behind None = []
behind (Some a) = about_text a

abbrev pub failure_text : Failure → List ℕ
failure_text (Refused r a) = codes "error " ++ (decimal (number_of r) ++ (codes ": " ++ (words_of r ++ behind a)))
failure_text (Misread t) = codes "error: " ++ trouble_text t
failure_text NotYet = codes "error: not yet"
