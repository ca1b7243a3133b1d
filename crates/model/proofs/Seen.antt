-- The map of a disk by its name, and the one of a hold, before a step and after it.
use Rattle.std.proofs.lemmas.Bool.Decides.{nat_tests}
use Rattle.std.proofs.Common.{◌≡◌, ℕ, zero, suc, ◌+◌, ◌<◌, ◌≤◌, Bool, true, false, cond, not, eqb, List, [], ◌∷◌, ◌++◌, length, set, Some, None, Ok, Err, Option, sym, refl, ap, ◌∙◌, arith}
use Rattle.std.specs.List.{remove}
use Rattle.std.specs.Option.{option_map}
use Rattle.std.proofs.lemmas.Option.{none-some}
use Rattle.std.proofs.lemmas.Bool.{eqb-true, eq-eqb, ne_eqb, le-leb, lt-leb}
use Rattle.rules.specs.declared.refusal.Refusal.TheVariants.{Missing}
use Rattle.model.specs.Calls.{read, readhold, slot, Answer, ask}
use Rattle.model.specs.Holds.{Past, past, find, find_hold, names_in, named}
use Rattle.model.specs.Maps.{Map, look_in}
use Rattle.model.specs.Runs.{step}
use Rattle.model.specs.Sums.{sum}
use Rattle.model.specs.Tests.{no_slot}
use Rattle.model.specs.Volume.{of_disk, Hold, Disk, Volume, disk_at, place_of}
use Rattle.model.proofs.Disks.{find-named, find-missing}

pub place_set : (y : ℕ) (ds : List Disk) (i : ℕ) (d : Disk) → d.name ≡ (disk_at i ds).name → place_of y (set ds i d) ≡ place_of y ds
place_set y [] i d n = refl
place_set y (c ∷ ds) zero d n = rw n
place_set y (c ∷ ds) (suc i) d n = let again = place_set y ds i d n in grind (arith, nat_tests)

-- SOMETHING OF THE DISK of a name
module _ {X : Type 0} (f : Disk → X) where
  pub seen-there : (y : ℕ) (ds : List Disk) → place_of y ds < length ds → of_disk f y ds ≡ Some (f (disk_at (place_of y ds) ds))
  unfolding of_disk
  seen-there y [] lt = absurd (omega arith)
  seen-there y (d ∷ ds) lt = let again = seen-there y ds in grind (arith, nat_tests)

  seen_none : (y : ℕ) (ds : List Disk) → length ds ≤ place_of y ds → of_disk f y ds ≡ None
  unfolding of_disk
  seen_none y [] le = refl
  seen_none y (d ∷ ds) le = let again = seen_none y ds in grind (arith, nat_tests)

  -- ONE DISK CHANGED
  pub seen_same : (y : ℕ) (ds : List Disk) (i : ℕ) (d : Disk) → d.name ≡ (disk_at i ds).name → f d ≡ f (disk_at i ds) → of_disk f y (set ds i d) ≡ of_disk f y ds
  unfolding of_disk
  seen_same y [] i d n m = refl
  seen_same y (c ∷ ds) zero d n m = grind (arith, nat_tests)
  seen_same y (c ∷ ds) (suc i) d n m = let again = seen_same y ds i d n m in grind (arith, nat_tests)

  pub seen_other : (y : ℕ) (ds : List Disk) (i : ℕ) (d : Disk) → d.name ≡ (disk_at i ds).name → (d.name ≡ y → ⊥) → of_disk f y (set ds i d) ≡ of_disk f y ds
  unfolding of_disk
  seen_other y [] i d n ne = refl
  seen_other y (c ∷ ds) zero d n ne = rw (ne_eqb d.name y ne, ne_eqb c.name y (λ e. ne (n ∙ e)))
  seen_other y (c ∷ ds) (suc i) d n ne = let again = seen_other y ds i d n ne in grind (arith, nat_tests)

  pub seen-set : (y : ℕ) (ds : List Disk) (d : Disk) → place_of y ds < length ds → d.name ≡ y → of_disk f y (set ds (place_of y ds) d) ≡ Some (f d)
  unfolding of_disk
  seen-set y [] d lt n = absurd (omega arith)
  seen-set y (c ∷ ds) d lt n = let again = seen-set y ds d in grind (arith, nat_tests)

  -- A DISK MORE, A DISK LESS
  pub seen-push : (y : ℕ) (ds : List Disk) (d : Disk) (m : X) → of_disk f y ds ≡ Some m → of_disk f y (ds ++ d ∷ []) ≡ Some m
  unfolding of_disk
  seen-push y [] d m e = absurd (none-some m e)
  seen-push y (c ∷ ds) d m e = let again = seen-push y ds d m in grind (arith, nat_tests)

  pub seen-new : (y : ℕ) (ds : List Disk) (d : Disk) → sum (names_in y) ds ≡ 0 → d.name ≡ y → of_disk f y (ds ++ d ∷ []) ≡ Some (f d)
  unfolding of_disk
  seen-new y [] d none n = rw (eq-eqb d.name y n)
  seen-new y (c ∷ ds) d none n = let again = seen-new y ds d (omega arith) n in grind (arith, nat_tests)

  pub seen-removed : (y x : ℕ) (ds : List Disk) → (x ≡ y → ⊥) → place_of x ds < length ds → of_disk f y (remove ds (place_of x ds)) ≡ of_disk f y ds
  unfolding of_disk
  seen-removed y x [] ne lt = absurd (omega arith)
  seen-removed y x (c ∷ ds) ne lt = go (eqb c.name x) refl (seen-removed y x ds ne) lt
    where
      go : (b : Bool) → eqb c.name x ≡ b → (place_of x ds < length ds → of_disk f y (remove ds (place_of x ds)) ≡ of_disk f y ds) → cond (not b) (1 + place_of x ds) 0 < suc (length ds) →
          of_disk f y (remove (c ∷ ds) (cond (not b) (1 + place_of x ds) 0)) ≡ cond (eqb c.name y) (Some (f c)) (of_disk f y ds)
      go true e again l = rw (ne_eqb c.name y (λ q. ne (sym (eqb-true c.name x e) ∙ q)))
      go false e again l = let k : 1 + place_of x ds ≡ suc (place_of x ds) = omega arith in rw k (ap (λ o. cond (eqb c.name y) (Some (f c)) o) (again (omega arith)))

abbrev pub map_in : Disk → Map
map_in d = d.shows

abbrev pub seen : ℕ → List Disk → Option Map
seen y ds = of_disk map_in y ds

-- what a read of such a map answers
abbrev pub answer_of : Option Map → ℕ → Answer
answer_of None j = Err Missing
answer_of (Some m) j = cond (no_slot j) (Err Missing) (Ok (slot (look_in j m)))

pub seen-map : (y : ℕ) (ds : List Disk) (m : Map) → seen y ds ≡ Some m → (place_of y ds < length ds) × ((disk_at (place_of y ds) ds).shows ≡ m)
seen-map y ds m e = grind (arith, nat_tests, none-some, seen-there, seen_none)

-- what reads answer
pub read-seen : (y j : ℕ) (v : Volume) → (step (ask (read y j)) v).answer ≡ answer_of (seen y v.disks) j
read-seen y j v = grind (arith, nat_tests, le-leb, lt-leb, seen-there, seen_none)

abbrev pub shown_of : Option Past → Option Map
shown_of f = option_map (λ (p : Past). p.shows) f

pub readhold-seen : (x j : ℕ) (v : Volume) → (step (ask (readhold x j)) v).answer ≡ answer_of (shown_of (find x v.disks)) j
readhold-seen x j v = grind (arith, nat_tests, find-missing, find-named, le-leb, lt-leb)

-- A HOLD MORE, under a name that no hold has
unnamed-hold : (x : ℕ) (hs : List Hold) → sum (λ h. named x h.name) hs ≡ 0 → find_hold x hs ≡ None
unnamed-hold x [] e = refl
unnamed-hold x (h ∷ hs) e = let again = unnamed-hold x hs (omega arith) in grind (arith, nat_tests)

pub unnamed-find : (x : ℕ) (ds : List Disk) → sum (names_in x) ds ≡ 0 → find x ds ≡ None
unnamed-find x [] e = refl
unnamed-find x (d ∷ ds) e = rw (unnamed-hold x d.holds (omega arith)) (unnamed-find x ds (omega arith))

find-last : (x : ℕ) (hs : List Hold) (h : Hold) → sum (λ k. named x k.name) hs ≡ 0 → h.name ≡ x → find_hold x (hs ++ h ∷ []) ≡ Some (past h)
find-last x [] h e n = rw (eq-eqb h.name x n)
find-last x (k ∷ hs) h e n = let again = find-last x hs h (omega arith) n in grind (arith, nat_tests)

pub find-new : (x : ℕ) (ds : List Disk) (i : ℕ) (d : Disk) (h : Hold) → i < length ds → sum (names_in x) ds ≡ 0 → d.holds ≡ (disk_at i ds).holds ++ h ∷ [] → h.name ≡ x → find x (set ds i d) ≡ Some (past h)
find-new x [] i d h lt e q n = absurd (omega arith)
find-new x (c ∷ ds) zero d h lt e q n = rw (q, find-last x c.holds h (omega arith) n)
find-new x (c ∷ ds) (suc i) d h lt e q n = rw (unnamed-hold x c.holds (omega arith)) (find-new x ds i d h (omega arith) (omega arith) q n)
