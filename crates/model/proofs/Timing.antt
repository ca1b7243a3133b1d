-- Moments count the changes, and marks are set by taking and cleared by writing.
use Rattle.std.proofs.Common.{◌≡◌, ℕ, ◌+◌, ◌<◌, List, [], ◌∷◌, length, set, Some, Ok, Option, sym, refl, ap, ◌∙◌, arith}
use Rattle.std.proofs.lemmas.Bool.Decides.{nat_tests}
use Rattle.std.proofs.lemmas.Bool.{or_parts, lt-leb}
use Rattle.rules.specs.Limits.{most_slots}
use Rattle.model.specs.Blocks.{lowest_in}
use Rattle.model.specs.Calls.{Stream, read, Call, write, clear, hold, copy, new, take, ask, Value, name, slot, Done}
use Rattle.model.specs.Holds.{find}
use Rattle.model.specs.Maps.{Map}
use Rattle.model.specs.Moments.{moments, Timing, mark_in, Spares, Marked, Marking}
use Rattle.model.specs.Runs.{reasons, does, step, reached}
use Rattle.model.specs.Sound.{Sound}
use Rattle.model.specs.Steps.{Change, slot_for, showing, change_at, changes_at, holds_at}
use Rattle.model.specs.Tests.{no_slot}
use Rattle.model.specs.Volume.{Disk, Volume, disk_at, place_of, of_disk}
use Rattle.model.specs.declared.types.Mark.{Mark}
use Rattle.model.specs.declared.types.Slot.TheVariants.{At}
use Rattle.model.proofs.Bounds.{changes-like}
use Rattle.model.proofs.Disks.{disk-there, disk-name}
use Rattle.model.proofs.Lines.{present-rises}
use Rattle.model.proofs.Maps.{look-set}
use Rattle.model.proofs.Names.{named-next}
use Rattle.model.proofs.Seen.{map_in, seen_same, seen_other, seen-set, place_set, seen-push, seen-new, seen-removed, seen-map, answer_of, read-seen, find-new}
use Rattle.model.proofs.Steps.{NoneApplies, none-applies, by-step, slot_small, changes-there, reached-sound}
use Rattle.model.proofs.Taking.{changes-place}
use Rattle.model.proofs.Told.{was-done, done-step}
use Rattle.model.proofs.Volumes.{unnamed, disk-ok}

does-moments : (c : Call) (v : Volume) → NoneApplies (reasons c v) → (does c v).leaves.moment ≡ v.moment + moments c
does-moments c v no' = grind (arith, nat_tests, changes-like, disk-there)

module _ (v : Volume) (inv : Sound v) where
  born : (d s : ℕ) (bs : List ℕ) (a : Value) → (step (write d s bs) v).answer ≡ Ok a →
      (step (ask (read d s)) (step (write d s bs) v).leaves).answer ≡ Ok (slot (At (record { block = lowest_in v.uses; birth = v.moment })))
  born d s bs a h =
      let none = was-done (write d s bs) v a h in
      let p = or_parts _ (no_slot s) (none-applies (reasons (write d s bs) v) none).0 in
      let i = place_of d v.disks in
      let lt = disk-there d v.disks p.0 in
      let e = disk_at i v.disks in
      let x = slot_for (Some bs) v in
      let rises = present-rises v.moment v.names _ _ e.holds e.shows e.gone (disk-ok v inv i lt).line in
      ap (λ (y : Done). (step (ask (read d s)) y.leaves).answer) (done-step (write d s bs) v none)
      ∙ read-seen d s (does (write d s bs) v).leaves ∙ ap (λ m. answer_of m s) (seen-set map_in d v.disks (showing s x e) lt (disk-name d v.disks lt))
      ∙ rw (lt-leb most_slots s (slot_small s p.1)) (ap (λ y. Ok (slot y)) (look-set s x e.shows rises))

  made : (d n : ℕ) (m : Map) → (step (hold d) v).answer ≡ Ok (name n) → of_disk (λ e. e.shows) d v.disks ≡ Some m →
      find n (step (hold d) v).leaves.disks ≡ Some (record { moment = v.moment; shows = m })
  made d n m h q = grind (arith, nat_tests, done-step, find-new, named-next, seen-map, unnamed, was-done)

pub timing : Timing
timing n number calls =
    let v = reached n number calls in
    let inv = reached-sound n number calls in
    record {
      counted = λ c a h. let none = was-done c v a h in ap (λ (y : Done). y.leaves.moment) (done-step c v none) ∙ does-moments c v (none-applies (reasons c v) none);
      born = born v inv;
      made = made v inv;
    }

-- MARKS
abbrev mark : Disk → Option Mark
mark d = d.mark

-- the disk that a call writes
marked-at : (x : ℕ) (v : Volume) (d : Disk) (i : ℕ) → i ≡ place_of x v.disks → i < length v.disks → d.name ≡ (disk_at i v.disks).name → of_disk mark x (set v.disks i d) ≡ Some d.mark
marked-at x v d i e lt n = grind (arith, nat_tests, disk-name, seen-set)

changes-spare : (x y : ℕ) (cs : List Change) (v : Volume) (i : ℕ) → i ≡ place_of x v.disks → i < length v.disks → (x ≡ y → ⊥) → of_disk mark y (changes_at i cs v).disks ≡ of_disk mark y v.disks
changes-spare x y [] v i e lt ne = refl
changes-spare x y (c ∷ cs) v i e lt ne =
    let d = disk_at i v.disks in
    let d' = showing c.slot (slot_for c.bytes v) d in
    let n : d.name ≡ x = ap (λ k. (disk_at k v.disks).name) e ∙ disk-name x v.disks (rw (← e) lt) in
    changes-spare x y cs (change_at i c v) i (e ∙ sym (place_set x v.disks i d' refl)) (rw (changes-there i (c ∷ []) v) lt) ne ∙ seen_other mark y v.disks i d' refl (λ q. ne (sym n ∙ q))

hold-spare : (i : ℕ) (v : Volume) (y : ℕ) → of_disk mark y (holds_at i (disk_at i v.disks).mark v).disks ≡ of_disk mark y v.disks
hold-spare i v y = seen_same mark y v.disks i _ refl refl

does-spares : (c : Call) (v : Volume) (y : ℕ) (m : Option Mark) → NoneApplies (reasons c v) → Spares c y → mark_in y v ≡ Some m → mark_in y (does c v).leaves ≡ Some m
does-spares c v y m no' ne e = grind (arith, nat_tests, changes-place, changes-spare, changes-there, disk-name, disk-there, hold-spare, or_parts, seen-push, seen-removed, seen_other, seen_same)

module _ (v : Volume) (inv : Sound v) where
  -- what a call that was answered left of a mark
  by-done : (c : Call) (a : Value) (y : ℕ) (m : Option (Option Mark)) → (step c v).answer ≡ Ok a → (NoneApplies (reasons c v) → mark_in y (does c v).leaves ≡ m) → mark_in y (step c v).leaves ≡ m
  by-done c a y m h f = grind (arith, nat_tests)

  take-marks : (d : ℕ) (st : Stream) → NoneApplies (reasons (take d st) v) → mark_in d (does (take d st) v).leaves ≡ Some (Some st.newer)
  take-marks d st no' = grind (arith, nat_tests, changes-place, changes-there, disk-there, marked-at)

  marked-in : Marked v
  marked-in =
      record {
        taken = λ d st a h. by-done (take d st) a d _ h (take-marks d st);
        written = λ d s bs a h. by-done (write d s bs) a d _ h (λ no'. marked-at d v _ (place_of d v.disks) refl (disk-there d v.disks (or_parts _ (no_slot s) no'.0).0) refl);
        cleared = λ d s a h. by-done (clear d s) a d _ h (λ no'. marked-at d v _ (place_of d v.disks) refl (disk-there d v.disks (or_parts _ (no_slot s) no'.0).0) refl);
        copied = λ h n e. by-done (copy h) (name n) n _ e (λ no'. seen-new mark n v.disks _ (unnamed v inv n (omega (arith, named-next (copy h) v n refl e (was-done (copy h) v (name n) e)))) (sym (named-next (copy h) v n refl e (was-done (copy h) v (name n) e))));
        new = λ n e. by-done new (name n) n _ e (λ no'. seen-new mark n v.disks _ (unnamed v inv n (omega (arith, named-next new v n refl e (was-done new v (name n) e)))) (sym (named-next new v n refl e (was-done new v (name n) e))));
        left = λ c y m s e. by-step (λ z. mark_in y z.leaves ≡ Some m) c v (λ r _. e) (λ no'. does-spares c v y m no' s e);
      }

pub marking : Marking
marking n number calls = marked-in (reached n number calls) (reached-sound n number calls)
