-- Holds by their names, and what comes before a disk. Assumes nothing.
use Rattle.std.specs.Prelude.{ℕ, ◌+◌, cond, List, [], ◌∷◌, Some, None, Option, ◌==◌}
use Rattle.std.specs.Option.{option_or}
use Rattle.model.specs.Maps.{Map}
use Rattle.model.specs.Sums.{bit, sum}
use Rattle.model.specs.Volume.{Hold, Disk}
use Rattle.model.specs.declared.types.HoldHead.{HoldHead}

-- the hold of a name: when it was made, and what it shows
pub record Past : Type 0 where
  pub moment : ℕ
  pub shows : Map

abbrev pub nothing : Past
nothing = record { moment = 0; shows = [] }

abbrev pub past : Hold → Past
past h = record { moment = h.moment; shows = h.shows }

abbrev pub find_hold : ℕ → List Hold → Option Past
find_hold x [] = None
find_hold x (h ∷ hs) = cond (h.name == x) (Some (past h)) (find_hold x hs)

abbrev pub find : ℕ → List Disk → Option Past
find x [] = None
find x (d ∷ ds) = option_or (find_hold x d.holds) (find x ds)

abbrev pub past_of : Option Past → Past
past_of None = nothing
past_of (Some p) = p

-- what comes before a disk's oldest version: the hold that it was copied from, or nothing
abbrev pub base : List Disk → Option HoldHead → Past
base ds None = nothing
base ds (Some o) = past_of (find o.name ds)

-- how many disks and holds have a name
abbrev pub named : ℕ → ℕ → ℕ
named x n = bit (n == x)

abbrev pub names_in : ℕ → Disk → ℕ
names_in x d = named x d.name + sum (λ h. named x h.name) d.holds
