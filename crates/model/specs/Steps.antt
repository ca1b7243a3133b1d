-- What each call does, where nothing refuses it. Assumes nothing.
use Rattle.std.specs.Prelude.{ℕ, zero, suc, ◌+◌, List, [], ◌∷◌, ◌++◌, map, Some, None, Option, slice_set}
use Rattle.std.specs.List.{remove}
use Rattle.model.specs.Blocks.{frees, keeps, lowest_in, free_all, used_by, renew, unused}
use Rattle.model.specs.Maps.{Map, look_in, set_in, shown_in, shown_by}
use Rattle.model.specs.Volume.{Hold, Disk, Volume, disk_at, hold_at, since, moment_before, moment_last}
use Rattle.model.specs.declared.types.HoldHead.{HoldHead}
use Rattle.model.specs.declared.types.Mark.{Mark}
use Rattle.model.specs.declared.types.Ptr.{Ptr}
use Rattle.model.specs.declared.types.Slot.{Slot}
use Rattle.model.specs.declared.types.Slot.TheVariants.{Empty, At}
use Rattle.model.specs.declared.types.Use.{Use}

-- A disk as it is made: without holds.
abbrev pub fresh : ℕ → Option HoldHead → Map → Disk
fresh n f m = record { name = n; from = f; mark = None; holds = []; shows = m; gone = [] }

-- A volume as it is formatted: an empty disk 0.
abbrev pub start : (blocks number : ℕ) → Volume
start n number = record { number = number; moment = 1; names = 1; disks = fresh 0 None [] ∷ []; uses = unused n }

-- A change of one disk; it takes a moment.
abbrev pub changed : ℕ → Disk → (names : ℕ) → List Use → Volume → Volume
changed i d names us v = record { number = v.number; moment = v.moment + 1; names = names; disks = slice_set v.disks i d; uses = us }

-- WRITE AND CLEAR. A slot shows a block, or nothing. What it showed before is free if it was born after the moment of the hold before, and
-- else it is gone. The disk is no longer as a stream left it.
abbrev pub leaving : ℕ → Disk → List Ptr
leaving s d = shown_in (look_in s d.shows)

abbrev pub showing : ℕ → Slot → Disk → Disk
showing s x d =
    record { name = d.name; from = d.from; mark = None; holds = d.holds; shows = set_in s x d.shows; gone = d.gone ++ keeps (moment_last d) (leaving s d) }

abbrev pub show_at : ℕ → ℕ → Slot → Volume → Volume
show_at i s x v =
    let d = disk_at i v.disks in
    changed i (showing s x d) v.names (used_by x (free_all (frees (moment_last d) (leaving s d)) v.uses)) v

-- A change of a slot: the bytes that it has afterwards, or that it is empty.
pub record Change : Type 0 where
  pub slot : ℕ
  pub bytes : Option (List ℕ)

abbrev pub change : ℕ → Option (List ℕ) → Change
change s bs = record { slot = s; bytes = bs }

-- what the slot shows: the lowest block that may be used, born at this moment, or nothing
abbrev pub slot_for : Option (List ℕ) → Volume → Slot
slot_for None v = Empty
slot_for (Some bs) v = At (record { block = lowest_in v.uses; birth = v.moment })

abbrev pub change_at : ℕ → Change → Volume → Volume
change_at i c v = show_at i c.slot (slot_for c.bytes v) v

-- one change after the other
abbrev pub changes_at : ℕ → List Change → Volume → Volume
changes_at i [] v = v
changes_at i (c ∷ cs) v = changes_at i cs (change_at i c v)

-- the blocks that become free by them
abbrev pub freed_at : ℕ → List Change → Volume → List Ptr
freed_at i [] v = []
freed_at i (c ∷ cs) v = let d = disk_at i v.disks in frees (moment_last d) (leaving c.slot d) ++ freed_at i cs (change_at i c v)

-- the blocks that are written by them
pub record Put : Type 0 where
  pub block : ℕ
  pub bytes : List ℕ

abbrev pub put_for : Option (List ℕ) → Volume → List Put
put_for None v = []
put_for (Some bs) v = record { block = lowest_in v.uses; bytes = bs } ∷ []

abbrev pub puts_at : ℕ → List Change → Volume → List Put
puts_at i [] v = []
puts_at i (c ∷ cs) v = put_for c.bytes v ++ puts_at i cs (change_at i c v)

-- HOLD. The hold shows what the disk shows, and takes over the disk's gone.
abbrev pub hold_of : HoldHead → Disk → Hold
hold_of h d = record { name = h.name; moment = h.moment; shows = d.shows; gone = d.gone }

abbrev pub held : HoldHead → Option Mark → Disk → Disk
held h m d = record { name = d.name; from = d.from; mark = m; holds = d.holds ++ hold_of h d ∷ []; shows = d.shows; gone = [] }

abbrev pub holds_at : ℕ → Option Mark → Volume → Volume
holds_at i m v = changed i (held (record { name = v.names; moment = v.moment }) m (disk_at i v.disks)) (v.names + 1) v.uses v

-- RELEASE. Look at gone of the one after the hold: the next newer hold, or the disk's present.
abbrev pub gone_at : ℕ → List Hold → List Ptr → List Ptr
gone_at k [] g = g
gone_at zero (h ∷ hs) g = h.gone
gone_at (suc k) (h ∷ hs) g = gone_at k hs g

abbrev pub gone_after : ℕ → Disk → List Ptr
gone_after k d = gone_at (suc k) d.holds d.gone

-- another list in the place of the one at k: among the holds, or the present's
abbrev pub regone : List Ptr → Hold → Hold
regone g h = record { name = h.name; moment = h.moment; shows = h.shows; gone = g }

abbrev pub with_gone : ℕ → List Ptr → List Hold → List Hold
with_gone k x [] = []
with_gone zero x (h ∷ hs) = regone x h ∷ hs
with_gone (suc k) x (h ∷ hs) = h ∷ with_gone k x hs

abbrev pub present_gone : ℕ → List Ptr → List Hold → List Ptr → List Ptr
present_gone k x [] g = x
present_gone zero x (h ∷ hs) g = g
present_gone (suc k) x (h ∷ hs) g = present_gone k x hs g

-- What was born after the moment of the hold before the released one becomes free; the others stay in that list, and the released hold's
-- gone is added.
abbrev pub freed_by : ℕ → Disk → List Ptr
freed_by k d = frees (moment_before k d) (gone_after k d)

abbrev pub joined : ℕ → Disk → List Ptr
joined k d = keeps (moment_before k d) (gone_after k d) ++ (hold_at k d.holds).gone

-- the hold goes, and the one after it, which now stands at its place, has the list
abbrev pub released : ℕ → Disk → Disk
released k d =
    let hs = remove d.holds k in
    record { name = d.name; from = d.from; mark = d.mark; holds = with_gone k (joined k d) hs; shows = d.shows; gone = present_gone k (joined k d) hs d.gone }

abbrev pub release_at : ℕ → ℕ → Volume → Volume
release_at i k v = let d = disk_at i v.disks in changed i (released k d) v.names (free_all (freed_by k d) v.uses) v

-- COPY AND NEW. One disk more, with the next name, behind the others.
abbrev pub grown : Option HoldHead → Map → Volume → Volume
grown f m v = record { number = v.number; moment = v.moment + 1; names = v.names + 1; disks = v.disks ++ fresh v.names f m ∷ []; uses = v.uses }

abbrev pub origin_of : Hold → Option HoldHead
origin_of h = Some (record { name = h.name; moment = h.moment })

-- DROP. What the disk shows and was born after the moment of the hold that it was copied from becomes free.
abbrev pub freed_with : Disk → List Ptr
freed_with d = frees (since d.from) (shown_by d.shows)

abbrev pub drop_at : ℕ → Volume → Volume
drop_at i v = record { number = v.number; moment = v.moment + 1; names = v.names; disks = remove v.disks i; uses = free_all (freed_with (disk_at i v.disks)) v.uses }

-- SYNC. It takes no moment.
abbrev pub synced : Volume → Volume
synced v = record { number = v.number; moment = v.moment; names = v.names; disks = v.disks; uses = map renew v.uses }
