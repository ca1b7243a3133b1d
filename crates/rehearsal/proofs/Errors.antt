-- An error changes nothing, whatever was read. Assumes nothing.
use Rattle.std.proofs.Common.{◌≡◌, ℕ, Some, None, Ok, Err, Option, Result, refl}
use Rattle.std.specs.Option.{option_or}
use Rattle.std.specs.Result.{OnErr}
use Rattle.commands.specs.declared.trouble.Trouble.{Trouble}
use Rattle.lines.specs.Lines.{Asked, Said, Format, Free, Plain, mapped_ok}
use Rattle.rehearsal.specs.declared.Formatted.{Formatted}
use Rattle.rehearsal.specs.Playing.{after_call, after_line, after_reading, answer_to_call, answer_to_line, answer_to_reading, format_answer, formatted}

-- a volume that could not be formatted leaves the device as it was
format-same : (o at : Option Formatted) (n : ℕ) → OnErr (format_answer o n) (option_or o at ≡ at)
format-same (Some f) at n = tt
format-same None at n = refl

by-same : {T E P : Type 0} (r : Result T E) → P → OnErr r P
by-same (Ok a) p = tt
by-same (Err e) p = p

by-mapped : {A B E : Type 0} (P : Type 0) (f : A → B) (r : Result A E) → OnErr r P → OnErr (mapped_ok f r) P
by-mapped P f (Ok a) p = tt
by-mapped P f (Err e) p = p

call_same : (at : Option Formatted) (a : Asked) → OnErr (answer_to_call at a) (after_call at a ≡ at)
call_same at (Format n v) = format-same (formatted at n v) at n
call_same at Free = by-same (answer_to_call at Free) refl
call_same at a = by-same (answer_to_call at a) refl

line-same : (at : Option Formatted) (l : Said) → OnErr (answer_to_line at l) (after_line at l ≡ at)
line-same at (Plain a) = call_same at a
line-same at l = by-same (answer_to_line at l) refl

pub reading-same : (at : Option Formatted) (r : Result (Option Said) Trouble) → OnErr (answer_to_reading at r) (after_reading at r ≡ at)
reading-same at (Ok None) = tt
reading-same at (Ok (Some l)) = by-mapped _ Some (answer_to_line at l) (line-same at l)
reading-same at (Err t) = refl
