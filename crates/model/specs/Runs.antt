-- Why a call is refused, and what it leaves, answers and writes; and lists of calls. Assumes nothing.
use Rattle.std.specs.Prelude.{ℕ, ◌+◌, Bool, cond, not, ◌||◌, List, [], ◌∷◌, length, Some, None, Ok, Err, Option, nat_lt}
use Rattle.rules.specs.declared.refusal.Refusal.{Refusal}
use Rattle.rules.specs.declared.refusal.Refusal.TheVariants.{Missing, Full, TooMuch, Copied, Held, Unfit, Spent}
use Rattle.model.specs.Blocks.{is_full, usable, spare}
use Rattle.model.specs.Calls.{Stream, Query, would, read, readhold, free, Call, write, clear, hold, release, copy, new, drop, take, sync, ask, Value, done, name, count, slot, Done}
use Rattle.model.specs.Maps.{look_in}
use Rattle.model.specs.Steps.{change, change_at, changes_at, puts_at, holds_at, freed_by, release_at, grown, origin_of, drop_at, synced, start}
use Rattle.model.specs.Tests.{no_disk, no_holder, no_slot, no_moment, no_name, too_long, many_disks, many_holds, no_holds, front, writes, unfit}
use Rattle.model.specs.Volume.{Volume, disk_at, place_of, hold_place, holder_of, hold_named, is_copied}

-- what taking a stream leaves: its changes one after the other, and a hold; the disk has the mark of the newer hold
abbrev pub taken_at : ℕ → Stream → Volume → Volume
taken_at i st v = holds_at i (Some st.newer) (changes_at i (front 0 st.changes) v)

-- WHY a call is refused: for each number that can apply, lowest first, whether it does.
abbrev pub Reason : Type 0
Reason = Refusal × Bool

abbrev pub unanswered : Query → Volume → List Reason
unanswered (would h) v = (Missing, no_holder h v) ∷ (Copied, is_copied h v.disks) ∷ []
unanswered (read d s) v = (Missing, no_disk d v || no_slot s) ∷ []
unanswered (readhold h s) v = (Missing, no_holder h v || no_slot s) ∷ []
unanswered free v = []

abbrev pub reasons : Call → Volume → List Reason
reasons (write d s bs) v =
    (Missing, no_disk d v || no_slot s) ∷
    (Full, is_full v.uses) ∷
    (TooMuch, too_long (change_at (place_of d v.disks) (change s (Some bs)) v)) ∷
    (Spent, no_moment 1 v) ∷ []
reasons (clear d s) v = (Missing, no_disk d v || no_slot s) ∷ (Spent, no_moment 1 v) ∷ []
reasons (hold d) v =
    let i = place_of d v.disks in let e = disk_at i v.disks in
    (Missing, no_disk d v) ∷
    (TooMuch, many_holds e || too_long (holds_at i e.mark v)) ∷
    (Spent, no_moment 1 v || no_name v) ∷ []
reasons (release h) v = (Missing, no_holder h v) ∷ (Copied, is_copied h v.disks) ∷ (Spent, no_moment 1 v) ∷ []
reasons (copy h) v =
    let k = hold_named h v.disks in
    (Missing, no_holder h v) ∷
    (TooMuch, many_disks v || too_long (grown (origin_of k) k.shows v)) ∷
    (Spent, no_moment 1 v || no_name v) ∷ []
reasons new v = (TooMuch, many_disks v || too_long (grown None [] v)) ∷ (Spent, no_moment 1 v || no_name v) ∷ []
reasons (drop d) v =
    (Missing, no_disk d v) ∷
    (Held, not (no_holds (disk_at (place_of d v.disks) v.disks))) ∷
    (Spent, no_moment 1 v) ∷ []
reasons (take d st) v =
    let i = place_of d v.disks in let e = disk_at i v.disks in let cs = front 0 st.changes in
    (Missing, no_disk d v) ∷
    (Full, nat_lt (usable v.uses) (writes cs)) ∷
    (TooMuch, many_holds e || too_long (taken_at i st v)) ∷
    (Unfit, unfit st e) ∷
    (Spent, no_moment (length cs + 1) v || no_name v) ∷ []
reasons sync v = []
reasons (ask q) v = unanswered q v

-- the first that applies
abbrev pub refusal : List Reason → Option Refusal
refusal [] = None
refusal (r ∷ rs) = cond r.1 (Some r.0) (refusal rs)

-- WHAT comes of a call that isn't refused.
abbrev pub leaves : Volume → Value → Done
leaves v a = record { leaves = v; answer = Ok a; puts = [] }

abbrev pub told : Query → Volume → Value
told (would h) v = let d = disk_at (holder_of h v.disks) v.disks in count (length (freed_by (hold_place h d.holds) d))
told (read d s) v = slot (look_in s (disk_at (place_of d v.disks) v.disks).shows)
told (readhold h s) v = slot (look_in s (hold_named h v.disks).shows)
told free v = count (spare v.uses)

abbrev pub does : Call → Volume → Done
does (write d s bs) v =
    let i = place_of d v.disks in let c = change s (Some bs) in
    record { leaves = change_at i c v; answer = Ok done; puts = puts_at i (c ∷ []) v }
does (clear d s) v = leaves (change_at (place_of d v.disks) (change s None) v) done
does (hold d) v = let i = place_of d v.disks in leaves (holds_at i (disk_at i v.disks).mark v) (name v.names)
does (release h) v = let i = holder_of h v.disks in leaves (release_at i (hold_place h (disk_at i v.disks).holds) v) done
does (copy h) v = let k = hold_named h v.disks in leaves (grown (origin_of k) k.shows v) (name v.names)
does new v = leaves (grown None [] v) (name v.names)
does (drop d) v = leaves (drop_at (place_of d v.disks) v) done
does (take d st) v =
    let i = place_of d v.disks in let cs = front 0 st.changes in
    record { leaves = taken_at i st v; answer = Ok (count (length cs)); puts = puts_at i cs v }
does sync v = leaves (synced v) done
does (ask q) v = leaves v (told q v)

-- A call is refused by the lowest number that applies, and then changes nothing; or it is done.
abbrev pub decided : Volume → Option Refusal → Done → Done
decided v None d = d
decided v (Some r) d = record { leaves = v; answer = Err r; puts = [] }

abbrev pub step : Call → Volume → Done
step c v = decided v (refusal (reasons c v)) (does c v)

abbrev pub run : List Call → Volume → Volume
run [] v = v
run (c ∷ cs) v = run cs (step c v).leaves

-- a volume after a list of calls, from a format on
abbrev pub reached : (blocks number : ℕ) → List Call → Volume
reached n number calls = run calls (start n number)
