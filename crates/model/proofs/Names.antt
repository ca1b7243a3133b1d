-- No name is given twice.
use Rattle.std.proofs.Common.{◌≡◌, ℕ, ◌+◌, ◌<◌, ◌≤◌, Bool, true, false, ◌⊎◌, List, [], ◌∷◌, length, Some, None, Ok, Option, Result, sym, refl, ap, ◌∙◌, inl, inr, ⊎_elim, arith}
use Rattle.std.proofs.lemmas.Bool.Decides.{nat_tests}
use Rattle.model.specs.Calls.{Query, Call, write, clear, hold, release, copy, new, drop, take, sync, Value, done, name, count, slot, Done, ask}
use Rattle.model.specs.Holds.{named, names_in}
use Rattle.std.proofs.lemmas.Bool.{eq-eqb, ne_eqb, cases_eq, cases_lt, or_parts}
use Rattle.rules.specs.declared.refusal.Refusal.{Refusal}
use Rattle.model.specs.Runs.{told, refusal, reasons, does, step, run, reached}
use Rattle.model.specs.Sound.{Sound}
use Rattle.model.specs.Stays.{times, NamesOnce}
use Rattle.model.specs.Steps.{change, showing, slot_for}
use Rattle.model.specs.Steps.{Change, change_at, changes_at, holds_at}
use Rattle.model.specs.Sums.{bit}
use Rattle.model.specs.Tests.{no_slot}
use Rattle.model.specs.Volume.{Volume, blank, disk_at, place_of, holder_of}
use Rattle.model.specs.declared.types.Mark.{Mark}
use Rattle.model.proofs.Disks.{disk-there, disk-name, holder-there, hold-there, hold-name}
use Rattle.model.proofs.Lines.{sum-gone}
use Rattle.model.proofs.Stays.{changes-names}
use Rattle.model.proofs.Steps.{NoneApplies, none-applies, by-step, changes-there, reached-sound}
use Rattle.model.proofs.Sums.{sum-push, sum-set, sum-removed}
use Rattle.model.proofs.Told.{was-done, done-step}
use Rattle.model.proofs.Volumes.{unnamed}

-- NAMES: at most the next name is new
abbrev More : (c : Call) → Volume → ℕ → Volume → Type 0
More c v x w = (times x w ≤ times x v) ⊎ ((times x w ≡ times x v + named x v.names) × (w.names ≡ v.names + 1))

changes-times : (i : ℕ) (cs : List Change) (v : Volume) (x : ℕ) → i < length v.disks → times x (changes_at i cs v) ≡ times x v
changes-times i [] v x lt = refl
changes-times i (c ∷ cs) v x lt =
    omega (arith, changes-times i cs (change_at i c v) x (rw (changes-there i (c ∷ []) v) lt), sum-set (names_in x) v.disks i (showing c.slot (slot_for c.bytes v) (disk_at i v.disks)) blank lt)

hold-times : (i : ℕ) (m : Option Mark) (v : Volume) (x : ℕ) → i < length v.disks → times x (holds_at i m v) ≡ times x v + named x v.names
hold-times i m v x lt = grind (arith, nat_tests, sum-push, sum-set)

release-times : (v : Volume) (h x : ℕ) → holder_of h v.disks < length v.disks → times x (does (release h) v).leaves + named x h ≡ times x v
release-times v h x lt = grind (arith, nat_tests, hold-name, hold-there, sum-gone, sum-removed, sum-set)

new-named : (x n t : ℕ) → t + (named x n + 0) ≡ t + named x n
new-named x n t = omega arith

does-more : (c : Call) (v : Volume) (x : ℕ) → NoneApplies (reasons c v) → More c v x (does c v).leaves
does-more (write d s bs) v x no' = inl (omega (arith, changes-times (place_of d v.disks) (change s (Some bs) ∷ []) v x (disk-there d v.disks (or_parts _ (no_slot s) no'.0).0)))
does-more (clear d s) v x no' = inl (omega (arith, changes-times (place_of d v.disks) (change s None ∷ []) v x (disk-there d v.disks (or_parts _ (no_slot s) no'.0).0)))
does-more (hold d) v x no' = inr (hold-times (place_of d v.disks) _ v x (disk-there d v.disks no'.0), refl)
does-more (release h) v x no' = inl (omega (arith, release-times v h x (holder-there h v.disks no'.0)))
does-more (copy h) v x no' = inr (sum-push (names_in x) v.disks _ ∙ new-named x v.names (times x v), refl)
does-more new v x no' = inr (sum-push (names_in x) v.disks _ ∙ new-named x v.names (times x v), refl)
does-more (drop d) v x no' = inl (omega (arith, sum-removed (names_in x) v.disks (place_of d v.disks) blank (disk-there d v.disks no'.0)))
does-more (take d st) v x no' = grind (arith, nat_tests, changes-names, changes-there, changes-times, disk-there, hold-times)
does-more sync v x no' = inl (omega arith)
does-more (ask q) v x no' = inl (omega arith)

step-more : (c : Call) (v : Volume) (x : ℕ) → More c v x (step c v).leaves
step-more c v x = by-step (λ y. More c v x y.leaves) c v (λ r _. inl (omega arith)) (does-more c v x)

does-names : (c : Call) (v : Volume) → v.names ≤ (does c v).leaves.names
does-names c v = grind (arith, nat_tests, changes-names)

step-names : (c : Call) (v : Volume) → v.names ≤ (step c v).leaves.names
step-names c v = by-step (λ y. v.names ≤ y.leaves.names) c v (λ r _. omega arith) (λ _. does-names c v)

other_name : (x n : ℕ) → (x ≡ n → ⊥) → named x n ≡ 0
other_name x n ne = ap bit (ne_eqb n x (λ e. ne (sym e)))

never-again : (more : List Call) (v : Volume) (x : ℕ) → x < v.names → times x v ≡ 0 → times x (run more v) ≡ 0
never-again [] v x lt e = e
never-again (c ∷ more) v x lt e =
    never-again more (step c v).leaves x (omega (arith, step-names c v))
    (⊎_elim (λ le. omega arith) (λ r. omega (arith, r.0, other_name x v.names (λ q. omega arith))) (step-more c v x))

-- every name is below the next
names-below : (v : Volume) → Sound v → (x : ℕ) → 0 < times x v → x < v.names
names-below v inv x l = ⊎_elim (λ lt. lt) (λ le. absurd (omega (arith, unnamed v inv x le))) (cases_lt x v.names)

-- an answer that is a name
abbrev is_name : Value → Bool
is_name done = false
is_name (name n) = true
is_name (count n) = false
is_name (slot x) = false

told_none : (q : Query) (v : Volume) → is_name (told q v) ≡ false
told_none q v = grind (arith, nat_tests)

not-name : (a : Value) (x : ℕ) → is_name a ≡ false → ◌≡◌ {A = Result Value Refusal} (Ok a) (Ok (name x)) → ⊥
not-name a x e h = grind (arith, nat_tests)

-- the answer tells the new name
told-name : (c : Call) (v : Volume) → Sound v → (x : ℕ) → NoneApplies (reasons c v) → (does c v).answer ≡ Ok (name x) → (x ≡ v.names) × (times x (does c v).leaves ≡ 1)
told-name c v inv x no' e = grind (arith, nat_tests, NoneApplies, disk-there, eq-eqb, hold-times, new-named, not-name, sum-push, told_none, unnamed)

-- the name that was answered is the next one
pub named-next : (c : Call) (v : Volume) (n : ℕ) → (does c v).answer ≡ Ok (name v.names) → (step c v).answer ≡ Ok (name n) → refusal (reasons c v) ≡ None → n ≡ v.names
named-next c v n a h none = grind (arith, nat_tests)

-- the disk that is dropped has its name
drop-times : (v : Volume) (d x : ℕ) → place_of d v.disks < length v.disks → times x (does (drop d) v).leaves + named x d ≤ times x v
drop-times v d x lt =
    let e = disk_at (place_of d v.disks) v.disks in
    omega (arith, sum-removed (names_in x) v.disks (place_of d v.disks) blank lt, ap (named x) (disk-name d v.disks lt))

pub names-once : NamesOnce
names-once n number calls =
    let v = reached n number calls in
    let inv = reached-sound n number calls in
    record {
      once = inv.once;
      below = names-below v inv;
      fresh = λ c x none some. ⊎_elim (λ le. absurd (omega arith)) (λ r. (by-named x v.names (omega (arith, r.0)), r.1)) (step-more c v x);
      told = λ c x e. let none = was-done c v (name x) e in rw (done-step c v none) (told-name c v inv x (none-applies (reasons c v) none) (sym (ap (λ (y : Done). y.answer) (done-step c v none)) ∙ e));
      released = λ x e.
          let none = was-done (release x) v done e in
          rw (done-step (release x) v none) (omega (arith, release-times v x x (holder-there x v.disks (none-applies (reasons (release x) v) none).0), ap bit (eq-eqb x x refl), inv.once x));
      dropped = λ x e.
          let none = was-done (drop x) v done e in
          rw (done-step (drop x) v none) (omega (arith, drop-times v x x (disk-there x v.disks (none-applies (reasons (drop x) v) none).0), ap bit (eq-eqb x x refl), inv.once x));
      never = λ more x. never-again more v x;
    }
  where
    by-named : (x y : ℕ) → 0 < named x y → x ≡ y
    by-named x y l = ⊎_elim (λ e. e) (λ ne. absurd (omega (arith, other_name x y ne))) (cases_eq x y)
