-- What a rehearsal answers to a line, and what it is after it. Assumes nothing.
use Rattle.std.specs.Prelude.{ℕ, ◌-◌, cond, Some, None, Option, Ok, Err, Result, nat_le}
use Rattle.std.specs.Option.{option_or}
use Rattle.rules.specs.Limits.{first_block, volume_of}
use Rattle.rules.specs.declared.refusal.Refusal.TheVariants.{Missing, NoVolume}
use Rattle.commands.specs.declared.trouble.Trouble.{Trouble}
use Rattle.lines.specs.Lines.{Asked, Said, Format, Free, Plain, mapped_ok}
use Rattle.answers.specs.declared.About.TheVariants.{Blocks}
use Rattle.answers.specs.declared.Answer.{Answer}
use Rattle.answers.specs.declared.Answer.TheVariants as answer
use Rattle.answers.specs.declared.Failure.{Failure}
use Rattle.answers.specs.declared.Failure.TheVariants.{Refused, Misread, NotYet}
use Rattle.rehearsal.specs.declared.Formatted.{Formatted}

-- The first volume makes the device; a later one has to fit it.
abbrev pub formatted_as : Option Formatted → ℕ → ℕ → Option Formatted
formatted_as None b v = Some (record { device = b; blocks = b; number = v })
formatted_as (Some f) b v = cond (nat_le b f.device) (Some (record { device = f.device; blocks = b; number = v })) None

abbrev pub formatted_by : Option Formatted → Option ℕ → ℕ → Option Formatted
formatted_by s None v = None
formatted_by s (Some b) v = formatted_as s b v

-- The device as formatting it with n blocks leaves it, if that can be.
abbrev pub formatted : Option Formatted → ℕ → ℕ → Option Formatted
formatted s n v = formatted_by s (volume_of n) v

abbrev pub format_answer : Option Formatted → ℕ → Result Answer Failure
format_answer (Some f) n = Ok answer.Done
format_answer None n = Err (Refused Missing (Some (Blocks n)))

abbrev pub no_volume : Failure
no_volume = Refused NoVolume None

-- Until there is a volume, nothing but formatting is answered otherwise.
abbrev pub up : Option Formatted → (Formatted → Result Answer Failure) → Result Answer Failure
up None k = Err no_volume
up (Some f) k = k f

-- All blocks that slots can show are free as yet.
abbrev pub free_answer : Option Formatted → Result Answer Failure
free_answer s = up s (λ f. Ok (answer.Value (f.blocks - first_block)))

abbrev pub later : Option Formatted → Result Answer Failure
later s = up s (λ _. Err NotYet)

abbrev pub answer_to_call : Option Formatted → Asked → Result Answer Failure
answer_to_call at (Format n v) = format_answer (formatted at n v) n
answer_to_call at Free = free_answer at
answer_to_call at a = later at

abbrev pub after_call : Option Formatted → Asked → Option Formatted
after_call at (Format n v) = option_or (formatted at n v) at
after_call at a = at

abbrev pub answer_to_line : Option Formatted → Said → Result Answer Failure
answer_to_line s (Plain a) = answer_to_call s a
answer_to_line s l = later s

abbrev pub after_line : Option Formatted → Said → Option Formatted
after_line s (Plain a) = after_call s a
after_line s l = s

-- A line that is skipped has no answer, and one that is not understood changes nothing.
abbrev pub answer_to_reading : Option Formatted → Result (Option Said) Trouble → Result (Option Answer) Failure
answer_to_reading s (Ok None) = Ok None
answer_to_reading s (Ok (Some l)) = mapped_ok Some (answer_to_line s l)
answer_to_reading s (Err t) = Err (Misread t)

abbrev pub after_reading : Option Formatted → Result (Option Said) Trouble → Option Formatted
after_reading s (Ok None) = s
after_reading s (Ok (Some l)) = after_line s l
after_reading s (Err t) = s
