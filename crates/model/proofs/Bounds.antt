-- Every call keeps within the limits.
use Rattle.std.proofs.lemmas.Bool.Decides.{nat_tests}
use Rattle.std.proofs.Common.{◌≡◌, ℕ, zero, suc, ◌+◌, ◌<◌, ◌≤◌, Bool, false, not, ltb, leb, List, [], ◌∷◌, ◌++◌, length, Some, None, Option, refl, ap, ◌∙◌, arith}
use Rattle.std.specs.List.{remove, AllByRecursion}
use Rattle.std.proofs.ByRecursion.{All-set, All-push, All-get_or}
use Rattle.std.proofs.lemmas.List.{length-set, length-map, length-append, length_push, get_or-set_same}
use Rattle.std.proofs.lemmas.List.Edits.{length-remove}
use Rattle.std.proofs.lemmas.List.Sums.{length-filter, count_by-le-length}
use Rattle.std.proofs.lemmas.Bool.{or_parts, leb-false, ltb-false}
use Rattle.rules.specs.Limits.{volume_of, least_blocks, most_blocks, most_holds, most_disks, area_room, moment_end, name_end}
use Rattle.model.specs.Blocks.{keeps, renew}
use Rattle.model.specs.Calls.{Call, write, clear, hold, release, copy, new, drop, take, sync, ask}
use Rattle.model.specs.Maps.{Map, look_in, remove_in, shown_in, shown_by}
use Rattle.model.specs.Runs.{reasons, does, step, run}
use Rattle.model.specs.Sound.{Within}
use Rattle.model.specs.Steps.{change}
use Rattle.model.specs.Steps.{Change, showing, slot_for, change_at, changes_at, holds_at, gone_at, with_gone, present_gone, released, start}
use Rattle.model.specs.Sums.{sum}
use Rattle.model.specs.Tests.{front, no_slot, too_long, no_moment, no_name}
use Rattle.model.specs.Volume.{Hold, Disk, Volume, blank, disk_at, hold_at, place_of, hold_bytes, gone_bytes, disk_bytes, area_bytes}
use Rattle.model.specs.declared.types.Mark.{Mark}
use Rattle.model.specs.declared.types.Ptr.{Ptr}
use Rattle.model.specs.declared.types.Slot.TheVariants.{Empty}
use Rattle.model.proofs.Blocks.{length-free, length-unused}
use Rattle.model.proofs.Disks.{disk-there, holder-there, hold-there, all-removed}
use Rattle.model.proofs.Maps.{sum-remove}
use Rattle.model.proofs.Steps.{NoneApplies, by-step}
use Rattle.model.proofs.Sums.{sum-set, sum-removed, one, sum_one}
use Rattle.model.proofs.Tables.{length-table}

-- BYTES
keeps-few : (k : ℕ) (l : List Ptr) → length (keeps k l) ≤ length l
keeps-few k l = let young : Ptr → Bool = λ p. not (ltb k p.birth) in omega (arith, length-filter young l, count_by-le-length young l)

length_removed : (s : ℕ) (m : Map) → length (remove_in s m) + length (shown_in (look_in s m)) ≡ length m
length_removed s m = omega (arith, sum-remove one s m, sum_one (shown_by (remove_in s m)), sum_one (shown_in (look_in s m)), sum_one (shown_by m), length-map m (λ e. e.at), length-map (remove_in s m) (λ e. e.at))

clear-bytes : (s : ℕ) (d : Disk) → disk_bytes (showing s Empty d) ≤ disk_bytes d
clear-bytes s d = grind (arith, nat_tests, keeps-few, length-append, length_removed)

-- the lists of a line without a hold are no longer than with it
line-bytes : (j : ℕ) (x : List Ptr) (hs : List Hold) (g : List Ptr) → j < length hs → length x ≤ length (gone_at (suc j) hs g) + length (hold_at j hs).gone →
    sum hold_bytes (with_gone j x (remove hs j)) + gone_bytes (present_gone j x (remove hs j) g) ≤ sum hold_bytes hs + gone_bytes g
line-bytes j x [] g lt le = absurd (omega arith)
line-bytes zero x (h ∷ []) g lt le = omega arith
line-bytes zero x (h ∷ n ∷ hs) g lt le = omega arith
line-bytes (suc j) x (h ∷ hs) g lt le = omega (arith, line-bytes j x hs g (omega arith) le)

release-bytes : (j : ℕ) (d : Disk) → j < length d.holds → disk_bytes (released j d) ≤ disk_bytes d
release-bytes j d lt = grind (arith, nat_tests, keeps-few, length-append, line-bytes)

-- HOLDS of each disk
abbrev FewHolds : Disk → Type 0
FewHolds d = length d.holds ≤ most_holds

length-gone : (j : ℕ) (x : List Ptr) (hs : List Hold) → length (with_gone j x hs) ≡ length hs
length-gone j x [] = refl
length-gone zero x (h ∷ hs) = refl
length-gone (suc j) x (h ∷ hs) = ap suc (length-gone j x hs)

-- CHANGES, without their bytes
pub record Like (v w : Volume) (i k : ℕ) : Type 0 where
  pub number : w.number ≡ v.number
  pub moment : w.moment ≡ v.moment + k
  pub names : w.names ≡ v.names
  pub disks : length w.disks ≡ length v.disks
  pub holds : AllByRecursion FewHolds v.disks → AllByRecursion FewHolds w.disks
  pub here : length (disk_at i w.disks).holds ≡ length (disk_at i v.disks).holds
  pub uses : length w.uses ≡ length v.uses

pub changes-like : (i : ℕ) (cs : List Change) (v : Volume) → i < length v.disks → Like v (changes_at i cs v) i (length cs)
changes-like i [] v lt = record { number = refl; moment = omega arith; names = refl; disks = refl; holds = λ a. a; here = refl; uses = refl }
changes-like i (c ∷ cs) v lt =
    let d = disk_at i v.disks in
    let x = slot_for c.bytes v in
    let e = showing c.slot x d in
    let r = changes-like i cs (change_at i c v) (rw (length-set v.disks i e) lt) in
    record {
      number = r.number;
      moment = omega (arith, r.moment);
      names = r.names;
      disks = r.disks ∙ length-set v.disks i e;
      holds = λ a. r.holds (All-set FewHolds v.disks i e (All-get_or FewHolds v.disks i blank lt a) a);
      here = r.here ∙ ap (λ (y : Disk). length y.holds) (get_or-set_same v.disks i e blank lt);
      uses = r.uses ∙ length-table x _ v.uses;
    }

-- EACH CALL that nothing refuses
room : (v : Volume) → too_long v ≡ false → area_bytes v ≤ area_room
room v h = ltb-false area_room (area_bytes v) h

moment-left : (k : ℕ) (v : Volume) → no_moment k v ≡ false → v.moment + k < moment_end
moment-left k v h = leb-false moment_end (v.moment + k) h

name-left : (v : Volume) → no_name v ≡ false → v.names + 1 < name_end
name-left v h = leb-false name_end (v.names + 1) h

hold-within : (i : ℕ) (m : Option Mark) (v : Volume) → i < length v.disks → AllByRecursion FewHolds v.disks → length (disk_at i v.disks).holds < most_holds → AllByRecursion FewHolds (holds_at i m v).disks
hold-within i m v lt few less = grind (arith, nat_tests, All-set, length_push)

one_more : (ds : List Disk) (d : Disk) → leb most_disks (length ds) ≡ false → length (ds ++ d ∷ []) ≤ most_disks
one_more ds d h = omega (arith, length_push ds d, leb-false most_disks (length ds) h)

-- A volume's number, and how many blocks its device has, stay.
pub does-same : (c : Call) (v : Volume) → NoneApplies (reasons c v) → ((does c v).leaves.number ≡ v.number) × (length (does c v).leaves.uses ≡ length v.uses)
does-same (write d s bs) v no' = let r = changes-like (place_of d v.disks) (change s (Some bs) ∷ []) v (disk-there d v.disks (or_parts _ (no_slot s) no'.0).0) in (r.number, r.uses)
does-same (clear d s) v no' = let r = changes-like (place_of d v.disks) (change s None ∷ []) v (disk-there d v.disks (or_parts _ (no_slot s) no'.0).0) in (r.number, r.uses)
does-same (hold d) v no' = (refl, refl)
does-same (release h) v no' = (refl, length-free _ v.uses)
does-same (copy h) v no' = (refl, refl)
does-same new v no' = (refl, refl)
does-same (drop d) v no' = (refl, length-free _ v.uses)
does-same (take d st) v no' = let r = changes-like (place_of d v.disks) (front 0 st.changes) v (disk-there d v.disks no'.0) in (r.number, r.uses)
does-same sync v no' = (refl, length-map v.uses renew)
does-same (ask q) v no' = (refl, refl)

module _ (c : Call) (v : Volume) (no' : NoneApplies (reasons c v)) (ok : Within v) where
  still : (does c v).leaves.moment < moment_end → (does c v).leaves.names < name_end → length (does c v).leaves.disks ≤ most_disks → AllByRecursion FewHolds (does c v).leaves.disks → area_bytes (does c v).leaves ≤ area_room → Within (does c v).leaves
  still moment names disks holds space = grind (arith, nat_tests, does-same, room)

does-within : (c : Call) (v : Volume) → NoneApplies (reasons c v) → Within v → Within (does c v).leaves
does-within c v no' ok = grind (arith, nat_tests, All-get_or, All-push, All-set, all-removed, changes-like, clear-bytes, disk-there, hold-there, hold-within, holder-there, leb-false, length-gone, length-remove, length-set, moment-left, name-left, one_more, or_parts, release-bytes, room, still, sum-removed, sum-set)

pub step-within : (c : Call) (v : Volume) → Within v → Within (step c v).leaves
step-within c v ok = by-step (λ x. Within x.leaves) c v (λ r _. ok) (λ no'. does-within c v no' ok)

pub step_same : (c : Call) (v : Volume) → ((step c v).leaves.number ≡ v.number) × (length (step c v).leaves.uses ≡ length v.uses)
step_same c v = by-step (λ x. (x.leaves.number ≡ v.number) × (length x.leaves.uses ≡ length v.uses)) c v (λ r _. (refl, refl)) (does-same c v)

pub run-same : (cs : List Call) (v : Volume) → ((run cs v).number ≡ v.number) × (length (run cs v).uses ≡ length v.uses)
run-same [] v = (refl, refl)
run-same (c ∷ cs) v =
    let a = step_same c v in
    let b = run-same cs (step c v).leaves in
    (b.0 ∙ a.0, b.1 ∙ a.1)

pub run-within : (cs : List Call) (v : Volume) → Within v → Within (run cs v)
run-within [] v ok = ok
run-within (c ∷ cs) v ok = run-within cs (step c v).leaves (step-within c v ok)

-- as it is formatted
pub in-range : (n : ℕ) → volume_of n ≡ Some n → (least_blocks ≤ n) × (n ≤ most_blocks)
in-range n e = grind (arith, nat_tests)

pub start-within : (n number : ℕ) → volume_of n ≡ Some n → number < moment_end → Within (start n number)
start-within n number e lt = grind (arith, nat_tests, in-range, length-unused, room)
