-- The words that are left of a line. Assumes nothing.
use Rattle.std.specs.Prelude.{ℕ, List}
use Rattle.words.specs.declared.cursor.Words.{Words}
use Rattle.words.specs.Words.{words}

abbrev pub left : Words → List (List ℕ)
left w = words w.rest.now
