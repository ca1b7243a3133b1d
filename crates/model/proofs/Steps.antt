-- Every call keeps what holds of a volume.
use Rattle.std.proofs.lemmas.Bool.Decides.{nat_tests}
use Rattle.std.proofs.Common.{◌≡◌, ℕ, suc, ◌+◌, ◌<◌, ◌≤◌, false, List, [], ◌∷◌, map, length, Some, None, Option, refl, ◌∙◌, arith}
use Rattle.std.specs.List.{AllByRecursion}
use Rattle.std.proofs.lemmas.List.{length-set, nil_from_length}
use Rattle.std.proofs.lemmas.Bool.{or_parts, leb-false, ltb-false, eqb-true, not-false}
use Rattle.rules.specs.Limits.{most_slots}
use Rattle.rules.specs.declared.refusal.Refusal.{Refusal}
use Rattle.model.specs.Blocks.{frees, is_full, usable}
use Rattle.model.specs.Calls.{Call, write, clear, hold, release, copy, new, drop, take, sync, ask, Done}
use Rattle.model.specs.Maps.{shown_in}
use Rattle.model.specs.Runs.{Reason, reasons, refusal, does, decided, step, run}
use Rattle.model.specs.Sound.{Sound}
use Rattle.model.specs.Steps.{showing}
use Rattle.model.specs.Steps.{Change, slot_for, change_at, changes_at, leaving, start}
use Rattle.model.specs.Tests.{front, written, writes, no_slot}
use Rattle.model.specs.Volume.{Volume, disk_at, moment_last, place_of, holder_of}
use Rattle.model.specs.declared.types.Slot.TheVariants.{Empty}
use Rattle.model.proofs.Blocks.{lowest-free}
use Rattle.model.proofs.Counts.{usable-table, some-usable}
use Rattle.model.proofs.Disks.{disk-there, holder-there, hold-there, hold-name, none-copied}
use Rattle.model.proofs.Lines.{Born, show-within}
use Rattle.model.proofs.Tables.{Usable, InUse}
use Rattle.model.proofs.Volumes.{own-used, show-sound, hold-sound, release-sound, drop-sound, new-sound, copy-sound, sync-sound, start-sound}

-- REFUSALS: what is known where none applies, and where one does.
abbrev pub NoneApplies : List Reason → Type 0
NoneApplies [] = Unit {0}
NoneApplies (r ∷ rs) = (r.1 ≡ false) × NoneApplies rs

pub none-applies : (rs : List Reason) → refusal rs ≡ None → NoneApplies rs
none-applies [] e = tt
none-applies (r ∷ rs) e = let again = none-applies rs in grind (arith, nat_tests)

-- to show something of a call, show it where the call is refused and where it is done
pub by-step : (P : Done → Type 0) (c : Call) (v : Volume) → ((r : Refusal) → refusal (reasons c v) ≡ Some r → P (decided v (Some r) (does c v))) → (NoneApplies (reasons c v) → P (does c v)) → P (step c v)
by-step P c v refused done = grind (arith, nat_tests)

-- a slot below the end
pub slot_small : (s : ℕ) → no_slot s ≡ false → s < most_slots
slot_small s h = leb-false most_slots s h

-- THE BLOCK that a change takes
pub born : (bs : Option (List ℕ)) (v : Volume) → Born v.moment (slot_for bs v)
born bs v = grind (arith, nat_tests)

pub lowest-usable : (bs : Option (List ℕ)) (v : Volume) → (0 < written bs → is_full v.uses ≡ false) → Usable (slot_for bs v) v.uses
lowest-usable bs v h = grind (arith, nat_tests, lowest-free)

length-written : (bs : Option (List ℕ)) (v : Volume) → length (shown_in (slot_for bs v)) ≡ written bs
length-written bs v = grind (arith, nat_tests)

-- CHANGES, one after the other: each slot is one, and there are blocks for all that are written
abbrev pub Small : List Change → Type 0
Small cs = AllByRecursion (λ c. c.slot < most_slots) cs

abbrev pub slots_of : List Change → List ℕ
slots_of cs = map (λ c. c.slot) cs

module _ (i : ℕ) (c : Change) (v : Volume) (inv : Sound v) (lt : i < length v.disks) (enough : written c.bytes ≤ usable v.uses) where
  pub change-usable : Usable (slot_for c.bytes v) v.uses
  change-usable = lowest-usable c.bytes v (λ l. some-usable v.uses (omega arith))

  pub change-used : InUse (frees (moment_last (disk_at i v.disks)) (leaving c.slot (disk_at i v.disks))) v.uses
  change-used =
      let d = disk_at i v.disks in
      own-used v inv i lt (frees (moment_last d) (leaving c.slot d)) (λ w. show-within w c.slot _ d.holds d.shows)

  pub change-sound : c.slot < most_slots → Sound (change_at i c v)
  change-sound small = show-sound v inv i c.slot (slot_for c.bytes v) lt small (born c.bytes v) change-usable

  -- as many fewer may be used as it writes
  pub change-leaves : usable (change_at i c v).uses + written c.bytes ≡ usable v.uses
  change-leaves = grind (arith, nat_tests, change-usable, change-used, length-written, usable-table)

  pub change-there : i < length (change_at i c v).disks
  change-there = rw (length-set v.disks i (showing c.slot (slot_for c.bytes v) (disk_at i v.disks))) lt

pub changes-sound : (i : ℕ) (cs : List Change) (v : Volume) → Sound v → i < length v.disks → Small cs → writes cs ≤ usable v.uses → Sound (changes_at i cs v)
changes-sound i [] v inv lt small enough = inv
changes-sound i (c ∷ cs) v inv lt small enough =
    let here : written c.bytes ≤ usable v.uses = omega arith in
    changes-sound i cs (change_at i c v) (change-sound i c v inv lt here small.0) (change-there i c v inv lt here) small.1 (omega (arith, change-leaves i c v inv lt here))

pub changes-there : (i : ℕ) (cs : List Change) (v : Volume) → length (changes_at i cs v).disks ≡ length v.disks
changes-there i [] v = refl
changes-there i (c ∷ cs) v = changes-there i cs (change_at i c v) ∙ length-set v.disks i _

pub front-small : (n : ℕ) (cs : List Change) → Small (front n cs)
unfolding front
front-small n [] = tt
front-small n (c ∷ cs) = let again = front-small (suc c.slot) cs in grind (arith, nat_tests)

-- EACH CALL that nothing refuses
pub does-sound : (c : Call) (v : Volume) → Sound v → NoneApplies (reasons c v) → Sound (does c v).leaves
does-sound (write d s bs) v inv no' =
    let a = or_parts _ (no_slot s) no'.0 in
    show-sound v inv (place_of d v.disks) s (slot_for (Some bs) v) (disk-there d v.disks a.0) (slot_small s a.1) (born (Some bs) v) (lowest-usable (Some bs) v (λ _. no'.1.0))
does-sound (clear d s) v inv no' =
    let a = or_parts _ (no_slot s) no'.0 in
    show-sound v inv (place_of d v.disks) s Empty (disk-there d v.disks a.0) (slot_small s a.1) tt tt
does-sound (hold d) v inv no' = hold-sound v inv (place_of d v.disks) _ (disk-there d v.disks no'.0)
does-sound (release h) v inv no' =
    let lt = holder-there h v.disks no'.0 in
    release-sound v inv (holder_of h v.disks) _ lt (hold-there h v.disks lt) (rw (hold-name h v.disks lt) (none-copied h v.disks no'.1.0))
does-sound (copy h) v inv no' = copy-sound v inv h (holder-there h v.disks no'.0)
does-sound new v inv no' = new-sound v inv
does-sound (drop d) v inv no' =
    drop-sound v inv (place_of d v.disks) (disk-there d v.disks no'.0) (nil_from_length _ (eqb-true _ 0 (not-false _ no'.1.0)))
does-sound (take d st) v inv no' =
    let i = place_of d v.disks in
    let cs = front 0 st.changes in
    let lt = disk-there d v.disks no'.0 in
    hold-sound (changes_at i cs v) (changes-sound i cs v inv lt (front-small 0 st.changes) (ltb-false (usable v.uses) (writes cs) no'.1.0)) i (Some st.newer) (rw (changes-there i cs v) lt)
does-sound sync v inv no' = sync-sound v inv
does-sound (ask q) v inv no' = inv

pub step-sound : (c : Call) (v : Volume) → Sound v → Sound (step c v).leaves
step-sound c v inv = by-step (λ x. Sound x.leaves) c v (λ r _. inv) (does-sound c v inv)

pub run_sound : (cs : List Call) (v : Volume) → Sound v → Sound (run cs v)
run_sound [] v inv = inv
run_sound (c ∷ cs) v inv = run_sound cs (step c v).leaves (step-sound c v inv)

pub reached-sound : (n number : ℕ) (calls : List Call) → Sound (run calls (start n number))
reached-sound n number calls = run_sound calls (start n number) (start-sound n number)
