-- Lists of disks: where a disk or a hold is found, and what a change of one disk leaves of that.
use Rattle.std.proofs.Common.{◌≡◌, ℕ, zero, suc, ◌+◌, ◌<◌, ◌≤◌, true, false, not, eqb, leb, List, [], ◌∷◌, ◌++◌, map, length, get_or, set, take, drop, Some, None, Option, sym, refl, ap, ◌∙◌, subst, arith}
use mathlib.Core.List.{Memᴰ}
use Rattle.std.specs.List.{remove, AllByRecursion}
use Rattle.std.specs.Option.{option_or}
use Rattle.std.proofs.ByRecursion.{All-append, All-take, All-drop}
use Rattle.std.proofs.lemmas.Bool.{eqb-true, ltb-true, leb-false, not-false, or_parts}
use Rattle.std.proofs.lemmas.Bool.Decides.{nat_tests}
use Rattle.std.proofs.lemmas.List.Sums.{prefix_len_stops}
use Rattle.std.proofs.lemmas.Option.{none-some}
use Rattle.model.specs.Holds.{Past, past, find_hold, find, base}
use Rattle.model.specs.Maps.{rising}
use Rattle.model.specs.Volume.{Hold, Disk, blank, no_hold, disk_at, hold_at, place_of, hold_place, has_hold, holder_of, hold_named, copy_of, is_copied}
use Rattle.model.specs.declared.types.HoldHead.{HoldHead}
use Rattle.model.proofs.Maps.{rise-none, rise-parts, rise-from, rise-lower}

-- what holds of each
pub all-mem : {X : Type 0} (P : X → Type 0) (d : X) (ds : List X) → AllByRecursion P ds → Memᴰ d ds → P d
all-mem P d [] a m = elim m [ ]
all-mem P d (x ∷ ds) a (Memᴰ.head e) = subst P (sym e) a.0
all-mem P d (x ∷ ds) a (Memᴰ.tail m) = all-mem P d ds a.1 m

pub mem-at : {X : Type 0} (xs : List X) (i : ℕ) (z : X) → i < length xs → Memᴰ (get_or xs i z) xs
mem-at [] i z lt = absurd (omega arith)
mem-at (x ∷ xs) zero z lt = Memᴰ.head refl
mem-at (x ∷ xs) (suc i) z lt = Memᴰ.tail (mem-at xs i z (omega arith))

pub all_both : {X : Type 0} (P Q : X → Type 0) (xs : List X) → AllByRecursion P xs → AllByRecursion Q xs → AllByRecursion (λ x. P x × Q x) xs
all_both P Q [] a b = tt
all_both P Q (x ∷ xs) a b = ((a.0, b.0), all_both P Q xs a.1 b.1)

pub all-removed : {X : Type 0} (P : X → Type 0) (xs : List X) (i : ℕ) → AllByRecursion P xs → AllByRecursion P (remove xs i)
all-removed P xs i a = All-append P (take i xs) (drop (suc i) xs) (All-take P i xs a) (All-drop P (suc i) xs a)

-- names that rise
abbrev pub disk_names : List Disk → List ℕ
disk_names ds = map (λ d. d.name) ds

pub names-set : (ds : List Disk) (i : ℕ) (d : Disk) → d.name ≡ (disk_at i ds).name → disk_names (set ds i d) ≡ disk_names ds
names-set [] i d e = refl
names-set (c ∷ ds) zero d e = ap (λ n. n ∷ disk_names ds) e
names-set (c ∷ ds) (suc i) d e = ap (λ ns. c.name ∷ ns) (names-set ds i d e)

pub rise-end : (end end' n : ℕ) (xs : List ℕ) → end ≤ end' → rising end n xs ≡ true → rising end' n xs ≡ true
rise-end end end' n [] le h = rise-none end' n
rise-end end end' n (x ∷ xs) le h = let p = rise-parts end n x xs h in rise-from end' n x xs p.0 (omega (arith, p.1)) (rise-end end end' (suc x) xs le p.2)

pub rise-push : (end n : ℕ) (ds : List Disk) (d : Disk) → n ≤ end → d.name ≡ end → rising end n (disk_names ds) ≡ true → rising (end + 1) n (disk_names (ds ++ d ∷ [])) ≡ true
rise-push end n [] d le e h = rise-from (end + 1) n d.name [] (omega arith) (omega arith) (rise-none (end + 1) (suc d.name))
rise-push end n (c ∷ ds) d le e h =
    let p = rise-parts end n c.name (disk_names ds) h in
    rise-from (end + 1) n c.name (disk_names (ds ++ d ∷ [])) p.0 (omega (arith, p.1)) (rise-push end (suc c.name) ds d p.1 e p.2)

pub rise-removed : (end n : ℕ) (ds : List Disk) (i : ℕ) → rising end n (disk_names ds) ≡ true → rising end n (disk_names (remove ds i)) ≡ true
rise-removed end n [] zero h = h
rise-removed end n [] (suc i) h = h
rise-removed end n (c ∷ ds) zero h = let p = rise-parts end n c.name (disk_names ds) h in rise-lower end n (suc c.name) (disk_names ds) (omega (arith, p.0)) p.2
rise-removed end n (c ∷ ds) (suc i) h =
    let p = rise-parts end n c.name (disk_names ds) h in
    rise-from end n c.name (disk_names (remove ds i)) p.0 p.1 (rise-removed end (suc c.name) ds i p.2)

-- the hold of a name, after one disk is changed, added or left out
pub find-set : (x : ℕ) (ds : List Disk) (i : ℕ) (d : Disk) → find_hold x d.holds ≡ find_hold x (disk_at i ds).holds → find x (set ds i d) ≡ find x ds
find-set x [] i d e = refl
find-set x (c ∷ ds) zero d e = ap (λ f. option_or f (find x ds)) e
find-set x (c ∷ ds) (suc i) d e = ap (option_or (find_hold x c.holds)) (find-set x ds i d e)

pub find-push : (x : ℕ) (ds : List Disk) (d : Disk) → d.holds ≡ [] → find x (ds ++ d ∷ []) ≡ find x ds
find-push x [] d e = ap (λ hs. option_or (find_hold x hs) None) e
find-push x (c ∷ ds) d e = ap (option_or (find_hold x c.holds)) (find-push x ds d e)

pub find-removed : (x : ℕ) (ds : List Disk) (i : ℕ) → i < length ds → (disk_at i ds).holds ≡ [] → find x (remove ds i) ≡ find x ds
find-removed x [] i lt e = absurd (omega arith)
find-removed x (c ∷ ds) zero lt e = sym (ap (λ hs. option_or (find_hold x hs) (find x ds)) e)
find-removed x (c ∷ ds) (suc i) lt e = ap (option_or (find_hold x c.holds)) (find-removed x ds i (omega arith) e)

-- what comes before a disk, likewise
pub base_same : (ds es : List Disk) (K : Option HoldHead → Type 0) → ((o : HoldHead) → K (Some o) → find o.name es ≡ find o.name ds) → (f : Option HoldHead) → K f → base es f ≡ base ds f
base_same ds es K h f k = grind (arith, nat_tests)

-- a disk that is found has the name that was looked for
pub disk-there : (n : ℕ) (ds : List Disk) → leb (length ds) (place_of n ds) ≡ false → place_of n ds < length ds
disk-there n ds h = leb-false (length ds) (place_of n ds) h

pub disk-name : (n : ℕ) (ds : List Disk) → place_of n ds < length ds → (disk_at (place_of n ds) ds).name ≡ n
disk-name n ds lt = eqb-true _ _ (not-false _ (prefix_len_stops (λ d. not (eqb d.name n)) ds blank lt))

-- and a hold
pub holder-there : (n : ℕ) (ds : List Disk) → leb (length ds) (holder_of n ds) ≡ false → holder_of n ds < length ds
holder-there n ds h = leb-false (length ds) (holder_of n ds) h

module _ (n : ℕ) (ds : List Disk) (lt : holder_of n ds < length ds) where
  abbrev pub holds_there : List Hold
  holds_there = (disk_at (holder_of n ds) ds).holds

  pub hold-there : hold_place n holds_there < length holds_there
  hold-there = ltb-true _ _ (not-false _ (prefix_len_stops (λ d. not (has_hold n d)) ds blank lt))

  pub hold-name : (hold_named n ds).name ≡ n
  hold-name = eqb-true _ _ (not-false _ (prefix_len_stops (λ h. not (eqb h.name n)) holds_there no_hold hold-there))

find-place : (n : ℕ) (hs : List Hold) → hold_place n hs < length hs → find_hold n hs ≡ Some (past (hold_at (hold_place n hs) hs))
find-place n [] lt = absurd (omega arith)
find-place n (h ∷ hs) lt = let again = find-place n hs in grind (arith, nat_tests)

find_none : (n : ℕ) (hs : List Hold) → length hs ≤ hold_place n hs → find_hold n hs ≡ None
find_none n [] le = refl
find_none n (h ∷ hs) le = let again = find_none n hs in grind (arith, nat_tests)

find-holder : (n : ℕ) (ds : List Disk) → holder_of n ds < length ds → find n ds ≡ find_hold n (disk_at (holder_of n ds) ds).holds
find-holder n [] lt = absurd (omega arith)
find-holder n (d ∷ ds) lt = let again = find-holder n ds in grind (arith, nat_tests, find-place, find_none, ltb-true)

pub find-named : (n : ℕ) (ds : List Disk) → holder_of n ds < length ds → find n ds ≡ Some (past (hold_named n ds))
find-named n ds lt = find-holder n ds lt ∙ find-place n (disk_at (holder_of n ds) ds).holds (hold-there n ds lt)

pub find-missing : (n : ℕ) (ds : List Disk) → length ds ≤ holder_of n ds → find n ds ≡ None
find-missing n [] le = refl
find-missing n (d ∷ ds) le = let again = find-missing n ds in grind (arith, nat_tests, find_none)

-- no disk is a copy of a hold
pub none-copied : (n : ℕ) (ds : List Disk) → is_copied n ds ≡ false → AllByRecursion (λ d. copy_of n d.from ≡ false) ds
none-copied n [] h = tt
none-copied n (d ∷ ds) h = let p = or_parts (copy_of n d.from) (is_copied n ds) h in (p.0, none-copied n ds p.1)

-- a hold that is found is a hold of some disk
pub find-mem : (x : ℕ) (ds : List Disk) (p : Past) → find x ds ≡ Some p → (d : Disk) × Memᴰ d ds × (find_hold x d.holds ≡ Some p)
find-mem x [] p e = absurd (none-some p e)
find-mem x (d ∷ ds) p e = go (find_hold x d.holds) refl (find-mem x ds p) e
  where
    go : (f : Option Past) → find_hold x d.holds ≡ f → (find x ds ≡ Some p → (k : Disk) × Memᴰ k ds × (find_hold x k.holds ≡ Some p)) → option_or f (find x ds) ≡ Some p →
        (k : Disk) × Memᴰ k (d ∷ ds) × (find_hold x k.holds ≡ Some p)
    go None q again e = let r = again e in (r.0, Memᴰ.tail r.1, r.2)
    go (Some p') q again e = (d, Memᴰ.head refl, q ∙ e)
