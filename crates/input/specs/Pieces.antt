-- What a chunk of the input has of a line. Assumes nothing.
use Rattle.std.specs.Prelude.{ℕ, ◌+◌, Bool, cond, not, List, length, take, ◌==◌, nat_lt}
use Rattle.std.specs.List.{prefix_len}
use Rattle.reader.specs.Reads.{longest}

-- How much is held of a line: one byte more than the longest has, which shows that it is too long.
abbrev pub most : ℕ
most = longest + 1

-- A byte that does not end the line.
abbrev pub inside : ℕ → Bool
inside b = not (b == 10)

-- The bytes up to the line's end, or all.
abbrev pub line_in : List ℕ → List ℕ
line_in bs = take (prefix_len inside bs) bs

-- Does the line end in the chunk.
abbrev pub whole : List ℕ → Bool
whole bs = nat_lt (prefix_len inside bs) (length bs)

-- The bytes that are done with: the line and its end.
abbrev pub passed : List ℕ → ℕ
passed bs = cond (whole bs) (prefix_len inside bs + 1) (prefix_len inside bs)
