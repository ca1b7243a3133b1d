-- What holds of a volume at every moment. Assumes nothing.
use Rattle.std.specs.Prelude.{◌≡◌, ℕ, ◌+◌, ◌<◌, ◌≤◌, true, cond, ◌||◌, List, [], ◌∷◌, map, length, Some, None, Option, nat_le, nat_lt}
use Rattle.std.specs.List.{AllByRecursion}
use Rattle.rules.specs.Limits.{first_block, most_disks, most_holds, area_room, moment_end, name_end, least_blocks, most_blocks}
use Rattle.model.specs.Blocks.{is, is_reserved, use_at, used_at}
use Rattle.model.specs.Holds.{Past, base, names_in}
use Rattle.model.specs.Maps.{Map, look_in, shown_by, rising, slots_rise}
use Rattle.model.specs.Sums.{bit, sum}
use Rattle.model.specs.Volume.{Hold, Disk, Volume, since, area_bytes}
use Rattle.model.specs.declared.types.HoldHead.{HoldHead}
use Rattle.model.specs.declared.types.Ptr.{Ptr}
use Rattle.model.specs.declared.types.Slot.TheVariants.{At}

-- a weight that counts only blocks born after a moment, or only the others
abbrev pub young : ℕ → (Ptr → ℕ) → Ptr → ℕ
young m w p = cond (nat_lt m p.birth) (w p) 0

abbrev pub old : ℕ → (Ptr → ℕ) → Ptr → ℕ
old m w p = cond (nat_lt m p.birth) 0 (w p)

-- A map m with its list of gone blocks, after a map q that was held at the moment k: what q shows is what m shows that was born up to then,
-- and what is gone; each block as often.
abbrev pub Link : ℕ → Map → Map → List Ptr → Type 0
Link k q m g = (w : Ptr → ℕ) → sum w (shown_by q) ≡ sum (old k w) (shown_by m) + sum w g

-- What m shows that was born up to then, q shows in the same slot.
abbrev pub Agree : ℕ → Map → Map → Type 0
Agree k q m = (s : ℕ) (p : Ptr) → look_in s m ≡ At p → p.birth ≤ k → look_in s q ≡ At p

-- Every block of a map was born at a moment before t; moments count from 1.
abbrev pub Early : ℕ → Map → Type 0
Early t m = AllByRecursion (λ p. (0 < p.birth) × (p.birth < t)) (shown_by m)

-- a map that a disk showed before a moment, with its list, after a map q held at the moment k
pub record Version (t k : ℕ) (q m : Map) (g : List Ptr) : Type 0 where
  pub later : k < t
  pub link : Link k q m g
  pub agree : Agree k q m
  pub early : Early t m
  pub rises : slots_rise m ≡ true

-- a hold after a map q held at the moment k
pub record HoldOk (now names k : ℕ) (q : Map) (h : Hold) : Type 0 where
  pub some : 0 < h.name
  pub name : h.name < names
  pub past : h.moment < now
  pub version : Version h.moment k q h.shows h.gone

-- The holds of a disk and its present, each after the one before it. q: what comes before the oldest, held at the moment k.
abbrev pub Line : (now names k : ℕ) → Map → List Hold → Map → List Ptr → Type 0
Line now names k q [] m g = Version now k q m g
Line now names k q (h ∷ hs) m g = HoldOk now names k q h × Line now names h.moment h.shows hs m g

-- A copy knows the name and the moment of the hold that it was copied from.
abbrev pub Known : (names : ℕ) → Option HoldHead → Past → Type 0
Known names None q = Unit {0}
Known names (Some o) q = (o.name < names) × (0 < o.moment) × (o.moment ≡ q.moment)

pub record DiskOk (now names : ℕ) (q : Past) (d : Disk) : Type 0 where
  pub origin : Known names d.from q
  pub line : Line now names (since d.from) q.shows d.holds d.shows d.gone

-- The blocks that a disk's versions show and the version before each can't have seen.
abbrev pub own_in : (Ptr → ℕ) → ℕ → List Hold → Map → ℕ
own_in w k [] m = sum (young k w) (shown_by m)
own_in w k (h ∷ hs) m = sum (young k w) (shown_by h.shows) + own_in w h.moment hs m

abbrev pub own : (Ptr → ℕ) → Disk → ℕ
own w d = own_in w (since d.from) d.holds d.shows

abbrev pub total : (Ptr → ℕ) → List Disk → ℕ
total w ds = sum (own w) ds

-- WHAT HOLDS: each disk's versions hang together; disks stand by rising name; no name is there twice, of disks and holds together; each
-- block in use is some version's own, once; and the first blocks, which hold roots and areas, are used for nothing else.
pub record Sound (v : Volume) : Type 0 where
  pub each : AllByRecursion (λ d. DiskOk v.moment v.names (base v.disks d.from) d) v.disks
  pub begun : 0 < v.names
  pub order : rising v.names 0 (map (λ d. d.name) v.disks) ≡ true
  pub once : (x : ℕ) → sum (names_in x) v.disks ≤ 1
  pub counts : (b : ℕ) → total (is b) v.disks ≡ bit (used_at b v.uses)
  pub reserved : (b : ℕ) → is_reserved (use_at b v.uses) ≡ (nat_lt b first_block || nat_le (length v.uses) b)

-- WITHIN THE LIMITS: everything fits its bytes.
pub record Within (v : Volume) : Type 0 where
  pub number : v.number < moment_end
  pub moment : v.moment < moment_end
  pub names : v.names < name_end
  pub disks : length v.disks ≤ most_disks
  pub holds : AllByRecursion (λ d. length d.holds ≤ most_holds) v.disks
  pub room : area_bytes v ≤ area_room
  pub least : least_blocks ≤ length v.uses
  pub most : length v.uses ≤ most_blocks
