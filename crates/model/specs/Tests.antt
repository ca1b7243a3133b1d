-- The tests by which calls are refused. Assumes nothing.
use Rattle.std.specs.Prelude.{ℕ, suc, ◌+◌, Bool, false, cond, not, ◌&&◌, ◌||◌, List, [], ◌∷◌, map, length, Some, None, Option, ◌==◌, nat_le, nat_lt}
use Rattle.std.specs.Option.{is_none}
use Rattle.rules.specs.Limits.{most_disks, most_holds, most_slots, area_room, moment_end, name_end}
use Rattle.model.specs.Calls.{Stream}
use Rattle.model.specs.Maps.{rising}
use Rattle.model.specs.Steps.{Change}
use Rattle.model.specs.Sums.{sum}
use Rattle.model.specs.Volume.{Disk, Volume, place_of, holder_of, area_bytes}
use Rattle.model.specs.declared.types.Mark.{Mark}

-- no such disk, hold or slot
abbrev pub no_disk : ℕ → Volume → Bool
no_disk d v = nat_le (length v.disks) (place_of d v.disks)

abbrev pub no_holder : ℕ → Volume → Bool
no_holder h v = nat_le (length v.disks) (holder_of h v.disks)

abbrev pub no_slot : ℕ → Bool
no_slot s = nat_le most_slots s

-- after so many changes the moment, and after one more the next name, would pass its bytes
abbrev pub no_moment : ℕ → Volume → Bool
no_moment k v = nat_le moment_end (v.moment + k)

abbrev pub no_name : Volume → Bool
no_name v = nat_le name_end (v.names + 1)

-- an area hasn't the bytes for a volume
abbrev pub too_long : Volume → Bool
too_long v = nat_lt area_room (area_bytes v)

abbrev pub many_disks : Volume → Bool
many_disks v = nat_le most_disks (length v.disks)

abbrev pub many_holds : Disk → Bool
many_holds d = nat_le most_holds (length d.holds)

abbrev pub no_holds : Disk → Bool
no_holds d = length d.holds == 0

-- the changes of a stream up to the first whose slot doesn't rise, or is no slot
unfoldable pub front : ℕ → List Change → List Change
front n [] = []
front n (c ∷ cs) = cond (nat_le n c.slot && nat_lt c.slot most_slots) (c ∷ front (suc c.slot) cs) []

abbrev pub changes_rise : List Change → Bool
changes_rise cs = rising most_slots 0 (map (λ c. c.slot) cs)

-- how many blocks they write
abbrev pub written : Option (List ℕ) → ℕ
written None = 0
written (Some bs) = 1

abbrev pub writes : List Change → ℕ
writes cs = sum (λ c. written c.bytes) cs

-- a stream goes onto a disk that was last written by taking a stream to the older hold; one from nothing onto a disk that was copied from
-- nothing, has no mark and no holds, and shows nothing
abbrev pub same_mark : Mark → Mark → Bool
same_mark a b = a.number == b.number && a.moment == b.moment

abbrev pub has_mark : Option Mark → Mark → Bool
has_mark None m = false
has_mark (Some n) m = same_mark n m

abbrev pub is_new : Disk → Bool
is_new d = is_none d.from && (is_none d.mark && (no_holds d && length d.shows == 0))

abbrev pub follows : Option Mark → Disk → Bool
follows None d = is_new d
follows (Some m) d = has_mark d.mark m

abbrev pub unfit : Stream → Disk → Bool
unfit st d = not st.whole || (not (changes_rise st.changes) || not (follows st.older d))
