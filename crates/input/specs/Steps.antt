-- What comes after a chunk of the input. Assumes nothing.
use Rattle.std.specs.Prelude.{ℕ, cond, List, length, nat_lt}
use Rattle.input.specs.Pieces.{whole}
use Rattle.input.specs.declared.next.Next.{Next}
use Rattle.input.specs.declared.next.Next.TheVariants.{More, Line, End}

-- An empty chunk is the end of the input, and ends a line of which something was held.
abbrev pub after_all_lem : ℕ → ℕ → Next
after_all_lem held n = cond (nat_lt 0 n) More (cond (nat_lt 0 held) Line End)

abbrev pub next_after : List ℕ → List ℕ → Next
next_after held chunk = cond (whole chunk) Line (after_all_lem (length held) (length chunk))
