-- What a volume is made of. Assumes nothing.
use Rattle.std.specs.Prelude.{ℕ, zero, suc, ◌+◌, ◌*◌, Bool, false, cond, not, List, [], ◌∷◌, length, Some, None, Option, ◌==◌, nat_lt, slice_index_or}
use Rattle.std.specs.List.{list_any, prefix_len}
use Rattle.model.specs.Maps.{Map}
use Rattle.model.specs.Sums.{sum}
use Rattle.model.specs.declared.types.HoldHead.{HoldHead}
use Rattle.model.specs.declared.types.Mark.{Mark}
use Rattle.model.specs.declared.types.Ptr.{Ptr}
use Rattle.model.specs.declared.types.Use.{Use}

-- A hold (a snapshot): its name, the moment (the transaction number) at which it was made, what the disk showed then, and gone (the dead
-- list): the blocks that the hold before it shows and it doesn't.
pub record Hold : Type 0 where
  pub name : ℕ
  pub moment : ℕ
  pub shows : Map
  pub gone : List Ptr

-- A disk: its name; the hold that it was copied from (the origin of a clone), or none; the mark of the stream that it took last, or none if
-- it was written since; its holds, the oldest first; what it shows at present, and the blocks that its newest hold shows and its present
-- doesn't.
pub record Disk : Type 0 where
  pub name : ℕ
  pub from : Option HoldHead
  pub mark : Option Mark
  pub holds : List Hold
  pub shows : Map
  pub gone : List Ptr

-- A volume: its number; the moment that the next change gets; the next name; its disks, by rising name; and what each block of the device
-- is for, those that became free since the last sync among them.
pub record Volume : Type 0 where
  pub number : ℕ
  pub moment : ℕ
  pub names : ℕ
  pub disks : List Disk
  pub uses : List Use

-- what stands for a disk or a hold that isn't there
abbrev pub blank : Disk
blank = record { name = 0; from = None; mark = None; holds = []; shows = []; gone = [] }

abbrev pub no_hold : Hold
no_hold = record { name = 0; moment = 0; shows = []; gone = [] }

abbrev pub disk_at : ℕ → List Disk → Disk
disk_at i ds = slice_index_or ds i blank

abbrev pub hold_at : ℕ → List Hold → Hold
hold_at k hs = slice_index_or hs k no_hold

-- the place of the disk of a name, or how many disks there are
abbrev pub place_of : ℕ → List Disk → ℕ
place_of n ds = prefix_len (λ d. not (d.name == n)) ds

-- something of the disk of a name, if there is one
unfoldable pub of_disk : {X : Type 0} → (Disk → X) → ℕ → List Disk → Option X
of_disk f y [] = None
of_disk f y (d ∷ ds) = cond (d.name == y) (Some (f d)) (of_disk f y ds)

-- the place of a hold in its disk, or how many holds that has
abbrev pub hold_place : ℕ → List Hold → ℕ
hold_place n hs = prefix_len (λ h. not (h.name == n)) hs

-- does a disk have a hold of a name, and the place of the first disk that does, or how many disks there are
abbrev pub has_hold : ℕ → Disk → Bool
has_hold n d = nat_lt (hold_place n d.holds) (length d.holds)

abbrev pub holder_of : ℕ → List Disk → ℕ
holder_of n ds = prefix_len (λ d. not (has_hold n d)) ds

-- the hold of a name, wherever it is
abbrev pub hold_named : ℕ → List Disk → Hold
hold_named n ds = let hs = (disk_at (holder_of n ds) ds).holds in hold_at (hold_place n hs) hs

-- is a disk a copy of a hold, and is one of these
abbrev pub copy_of : ℕ → Option HoldHead → Bool
copy_of n None = false
copy_of n (Some o) = o.name == n

abbrev pub is_copied : ℕ → List Disk → Bool
is_copied n ds = list_any (λ d. copy_of n d.from) ds

-- The hold before a hold, or before a disk's present, is the next older one of that disk; before its oldest comes the hold that the disk
-- was copied from, or nothing, with the moment 0.
abbrev pub since : Option HoldHead → ℕ
since None = 0
since (Some o) = o.moment

-- the moment of the hold before the one at a place of these, which come after a moment
abbrev pub before : ℕ → ℕ → List Hold → ℕ
before m zero hs = m
before m (suc k) [] = m
before m (suc k) (h ∷ hs) = before h.moment k hs

-- the moment of the last of these
abbrev pub last_of : ℕ → List Hold → ℕ
last_of m [] = m
last_of m (h ∷ hs) = last_of h.moment hs

abbrev pub moment_before : ℕ → Disk → ℕ
moment_before k d = before (since d.from) k d.holds

abbrev pub moment_last : Disk → ℕ
moment_last d = last_of (since d.from) d.holds

-- how many bytes a map, a list of gone blocks, a hold, a disk and a volume take in an area
abbrev pub map_bytes : Map → ℕ
map_bytes m = 2 + 14 * length m

abbrev pub gone_bytes : List Ptr → ℕ
gone_bytes g = 4 + 12 * length g

abbrev pub hold_bytes : Hold → ℕ
hold_bytes h = 12 + map_bytes h.shows + gone_bytes h.gone

abbrev pub disk_bytes : Disk → ℕ
disk_bytes d = 33 + sum hold_bytes d.holds + map_bytes d.shows + gone_bytes d.gone

abbrev pub area_bytes : Volume → ℕ
area_bytes v = 13 + sum disk_bytes v.disks
