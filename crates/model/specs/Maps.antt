-- A map: the slots that aren't empty, rising, each with the block that it shows. Assumes nothing.
use Rattle.std.specs.Prelude.{ℕ, suc, Bool, true, cond, ◌&&◌, List, [], ◌∷◌, map, ◌==◌, nat_le, nat_lt}
use Rattle.rules.specs.Limits.{most_slots}
use Rattle.model.specs.declared.types.Entry.{Entry}
use Rattle.model.specs.declared.types.Ptr.{Ptr}
use Rattle.model.specs.declared.types.Slot.{Slot}
use Rattle.model.specs.declared.types.Slot.TheVariants.{Empty, At}

abbrev pub Map : Type 0
Map = List Entry

-- what a slot shows
unfoldable pub look_in : ℕ → Map → Slot
look_in s [] = Empty
look_in s (e ∷ es) = cond (nat_lt e.slot s) (look_in s es) (cond (e.slot == s) (At e.at) Empty)

abbrev pub entry : ℕ → Ptr → Entry
entry s p = record { slot = s; at = p }

-- a slot shows a block
unfoldable pub put_in : ℕ → Ptr → Map → Map
put_in s p [] = entry s p ∷ []
put_in s p (e ∷ es) = cond (nat_lt e.slot s) (e ∷ put_in s p es) (cond (e.slot == s) (entry s p ∷ es) (entry s p ∷ (e ∷ es)))

-- a slot is empty
unfoldable pub remove_in : ℕ → Map → Map
remove_in s [] = []
remove_in s (e ∷ es) = cond (nat_lt e.slot s) (e ∷ remove_in s es) (cond (e.slot == s) es (e ∷ es))

abbrev pub set_in : ℕ → Slot → Map → Map
set_in s Empty es = remove_in s es
set_in s (At p) es = put_in s p es

-- the blocks that a slot shows, and those that a map shows
abbrev pub shown_in : Slot → List Ptr
shown_in Empty = []
shown_in (At p) = p ∷ []

abbrev pub shown_by : Map → List Ptr
shown_by es = map (λ e. e.at) es

-- do numbers rise, from one on, and stay below an end
unfoldable pub rising : (end from : ℕ) → List ℕ → Bool
rising end n [] = true
rising end n (x ∷ xs) = nat_le n x && (nat_lt x end && rising end (suc x) xs)

-- are these slots of a disk, rising
abbrev pub slots_rise : Map → Bool
slots_rise es = rising most_slots 0 (map (λ e. e.slot) es)
