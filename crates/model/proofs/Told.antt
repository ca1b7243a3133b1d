-- What becomes free by a call, when it may be used again, and that a release tells it beforehand from one list.
use Rattle.std.proofs.lemmas.Bool.Decides.{nat_tests}
use Rattle.std.proofs.Common.{◌≡◌, ℕ, suc, ◌<◌, ◌≤◌, Bool, true, false, ◌⊎◌, List, [], ◌∷◌, ◌++◌, length, Some, None, Ok, Err, Option, Result, sym, refl, ap, ◌∙◌, subst, ⊎_elim, arith}
use mathlib.Core.List.{Memᴰ}
use Rattle.std.proofs.lemmas.List.{nil_from_length}
use Rattle.std.proofs.lemmas.Bool.{false_from_ne_true, or_parts, true≢false, ltb-true, ltb-false, eqb-true, eq-eqb, not-false}
use Rattle.rules.specs.Limits.{most_slots}
use Rattle.rules.specs.declared.refusal.Refusal.{Refusal}
use Rattle.rules.specs.declared.refusal.Refusal.TheVariants.{Missing, Copied, Spent}
use Rattle.model.specs.Blocks.{is, has, use_at, used_at, is_used, is_spare, usable, lowest_in, renew}
use Rattle.model.specs.Calls.{Call, write, clear, hold, release, copy, new, drop, take, sync, would, Value, done, count, Done, ask}
use Rattle.model.specs.Exactly.{Shown, by_disk, by_hold}
use Rattle.model.specs.Freed.{freed_in, Frees, FreedRight, may, Turning, Told, ToldBefore, OneList}
use Rattle.model.specs.Maps.{rising, shown_in}
use Rattle.model.specs.Runs.{reasons, refusal, does, decided, step, reached, told}
use Rattle.model.specs.Sound.{Sound}
use Rattle.model.specs.Steps.{change}
use Rattle.model.specs.Steps.{Change, Put, slot_for, put_for, puts_at, change_at, synced}
use Rattle.model.specs.Sums.{bit, sum}
use Rattle.model.specs.Tests.{front, writes, no_slot, no_holder, no_moment}
use Rattle.model.specs.Volume.{Volume, holder_of, place_of, is_copied}
use Rattle.model.specs.declared.types.Ptr.{Ptr}
use Rattle.model.specs.declared.types.Slot.TheVariants.{Empty}
use Rattle.model.specs.declared.types.Use.{Use}
use Rattle.model.specs.declared.types.Use.TheVariants.{Free, Used, Freed}
use Rattle.model.proofs.Blocks.{use-renew}
use Rattle.model.proofs.Counts.{not_full, passing-free}
use Rattle.model.proofs.Disks.{disk-there, holder-there, hold-there}
use Rattle.model.proofs.Frees.{changes-moved, taken_by, front-rises}
use Rattle.model.proofs.Maps.{rise-from, rise-none}
use Rattle.model.proofs.Moves.{Moved, not-moved, table-moved}
use Rattle.model.proofs.Shows.{shown-used, used-shown}
use Rattle.model.proofs.Steps.{NoneApplies, none-applies, by-step, slot_small, does-sound, reached-sound}
use Rattle.model.proofs.Sums.{bit-most, sum_one}
use Rattle.model.proofs.Volumes.{release-used, drop-used}

-- the blocks that a call takes into use
abbrev taken_in : Call → Volume → List Ptr
taken_in (write d s bs) v = taken_by (place_of d v.disks) (change s (Some bs) ∷ []) v
taken_in (clear d s) v = taken_by (place_of d v.disks) (change s None ∷ []) v
taken_in (hold d) v = []
taken_in (release h) v = []
taken_in (copy h) v = []
taken_in new v = []
taken_in (drop d) v = []
taken_in (take d st) v = taken_by (place_of d v.disks) (front 0 st.changes) v
taken_in sync v = []
taken_in (ask q) v = []

one-rises : (s : ℕ) → s < most_slots → rising most_slots 0 (s ∷ []) ≡ true
one-rises s lt = rise-from most_slots 0 s [] (omega arith) lt (rise-none most_slots (suc s))

-- each call but a sync
does-moved : (c : Call) (v : Volume) → Sound v → NoneApplies (reasons c v) → (c ≡ sync → ⊥) → Moved v.uses (does c v).leaves.uses (freed_in c v) (taken_in c v)
does-moved (write d s bs) v inv no' ne =
    let a = or_parts _ (no_slot s) no'.0 in
    changes-moved (place_of d v.disks) 0 (change s (Some bs) ∷ []) v inv (disk-there d v.disks a.0) (one-rises s (slot_small s a.1)) (omega (arith, not_full v.uses no'.1.0))
does-moved (clear d s) v inv no' ne =
    let a = or_parts _ (no_slot s) no'.0 in
    changes-moved (place_of d v.disks) 0 (change s None ∷ []) v inv (disk-there d v.disks a.0) (one-rises s (slot_small s a.1)) (omega arith)
does-moved (hold d) v inv no' ne = not-moved v.uses
does-moved (release h) v inv no' ne =
    let lt = holder-there h v.disks no'.0 in
    table-moved Empty (freed_in (release h) v) v.uses tt (release-used v inv (holder_of h v.disks) _ lt (hold-there h v.disks lt))
does-moved (copy h) v inv no' ne = not-moved v.uses
does-moved new v inv no' ne = not-moved v.uses
does-moved (drop d) v inv no' ne =
    table-moved Empty (freed_in (drop d) v) v.uses tt (drop-used v inv (place_of d v.disks) (disk-there d v.disks no'.0) (nil_from_length _ (eqb-true _ 0 (not-false _ no'.1.0))))
does-moved (take d st) v inv no' ne =
    let cs = front 0 st.changes in
    changes-moved (place_of d v.disks) 0 cs v inv (disk-there d v.disks no'.0) (front-rises 0 st.changes) (ltb-false (usable v.uses) (writes cs) no'.1.0)
does-moved sync v inv no' ne = absurd (ne refl)
does-moved (ask q) v inv no' ne = not-moved v.uses

-- WHAT BECOMES FREE was shown before, and isn't after
some_in : (b : ℕ) (fs : List Ptr) → has b fs ≡ true → 0 < sum (is b) fs
some_in b fs h = ltb-true 0 (sum (is b) fs) h

module _ (v w : Volume) (iv : Sound v) (iw : Sound w) (fs ts : List Ptr) (m : Moved v.uses w.uses fs ts) (b : ℕ) where
  gone-after : has b fs ≡ true → Shown w b → ⊥
  gone-after h s = true≢false (sym (shown-used w iw b s) ∙ ap is_used (m.freed b (some_in b fs h)))

  lost : Shown v b → (Shown w b → ⊥) → has b fs ≡ true
  lost s never =
      let was = shown-used v iv b s in
      let not' : used_at b w.uses ≡ false = false_from_ne_true _ (λ e. never (used-shown w iw b e)) in
      let l = m.counts b in
      grind (arith, nat_tests)

  pub frees_of : (sum (is b) fs ≤ 1) × (has b fs ≡ true → Shown v b) × (has b fs ≡ true → Shown w b → ⊥) × (Shown v b → (Shown w b → ⊥) → has b fs ≡ true) × (has b fs ≡ true → use_at b w.uses ≡ Freed)
  frees_of = (
    omega (arith, m.used b, bit-most (used_at b v.uses)),
    (λ h. used-shown v iv b (let l = m.used b in let k = some_in b fs h in grind (arith, nat_tests))),
    gone-after,
    lost,
    (λ h. m.freed b (some_in b fs h)),
  )

-- a sync changes nothing of what is shown
sync-shown : (v : Volume) (b : ℕ) → Shown v b → Shown (synced v) b
sync-shown v b (by_disk d s p m h e) = by_disk d s p m h e
sync-shown v b (by_hold d k s p m mk h e) = by_hold d k s p m mk h e

-- is a call a sync
by-sync : (c : Call) → (c ≡ sync) ⊎ (c ≡ sync → ⊥)
by-sync c = grind (arith, nat_tests)

sync-frees : (v : Volume) (b : ℕ) → Frees sync v b
sync-frees v b =
    record { once = omega arith; shown = λ h. absurd cc; gone = λ h _. true≢false (sym h); every = λ s never. absurd (never (sync-shown v b s)); waits = λ h. absurd cc }

-- a call that was answered was done
pub was-done : (c : Call) (v : Volume) (a : Value) → (step c v).answer ≡ Ok a → refusal (reasons c v) ≡ None
was-done c v a h = grind (arith, nat_tests)

pub done-step : (c : Call) (v : Volume) → refusal (reasons c v) ≡ None → step c v ≡ does c v
done-step c v e = ap (λ f. decided v f (does c v)) e

frees-in : (c : Call) (v : Volume) → Sound v → refusal (reasons c v) ≡ None → (b : ℕ) → Frees c v b
frees-in c v inv none b = ⊎_elim (λ e. subst (λ x. Frees x v b) (sym e) (sync-frees v b)) other (by-sync c)
  where
    other : (c ≡ sync → ⊥) → Frees c v b
    other ne =
        let m = does-moved c v inv (none-applies (reasons c v) none) ne in
        let iw = does-sound c v inv (none-applies (reasons c v) none) in
        let r = frees_of v (does c v).leaves inv iw (freed_in c v) (taken_in c v) m b in
        let e = done-step c v none in
        record { once = r.0; shown = r.1; gone = rw e r.2; every = rw e r.3; waits = rw e r.4 }

pub freed-right : FreedRight
freed-right n number calls c a h b = let v = reached n number calls in frees-in c v (reached-sound n number calls) (was-done c v a h) b

-- WHEN a block may be used again
turns-in : (c : Call) (v : Volume) → Sound v → (c ≡ sync → ⊥) → (b : ℕ) → may (use_at b v.uses) (use_at b (step c v).leaves.uses) ≡ true
turns-in c v inv ne b =
    by-step (λ x. may (use_at b v.uses) (use_at b x.leaves.uses) ≡ true) c v (λ r _. (not-moved v.uses).turns b) (λ no'. (does-moved c v inv no' ne).turns b)

-- a block that is written is one of those that are taken
put-taken : (i : ℕ) (cs : List Change) (v : Volume) (p : Put) → Memᴰ p (puts_at i cs v) → 0 < sum (is p.block) (taken_by i cs v)
put-taken i [] v p m = elim m [ ]
put-taken i (c ∷ cs) v p m = go c.bytes (put-taken i cs (change_at i c v) p) m
  where
    go : (bs : Option (List ℕ)) → (Memᴰ p (puts_at i cs (change_at i c v)) → 0 < sum (is p.block) (taken_by i cs (change_at i c v))) → Memᴰ p (put_for bs v ++ puts_at i cs (change_at i c v)) →
        0 < sum (is p.block) (shown_in (slot_for bs v) ++ taken_by i cs (change_at i c v))
    go None again k = again k
    go (Some bs) again (Memᴰ.head e) = let z : is p.block (record { block = lowest_in v.uses; birth = v.moment }) ≡ 1 = ap bit (eq-eqb (lowest_in v.uses) p.block (sym (ap (λ (q : Put). q.block) e))) in omega arith
    go (Some bs) again (Memᴰ.tail k) = omega (arith, again k)

does-puts : (c : Call) (v : Volume) (p : Put) → Memᴰ p (does c v).puts → 0 < sum (is p.block) (taken_in c v)
does-puts c v p m = grind (arith, nat_tests, put-taken)

moved-used : (us us' : List Use) (fs ts : List Ptr) → Moved us us' fs ts → (b : ℕ) → 0 < sum (is b) ts → (use_at b us ≡ Free) × (use_at b us' ≡ Used)
moved-used us us' fs ts m b l = grind (arith, nat_tests)

pub puts-in : (c : Call) (v : Volume) → Sound v → (p : Put) → Memᴰ p (step c v).puts → (use_at p.block v.uses ≡ Free) × (use_at p.block (step c v).leaves.uses ≡ Used)
puts-in c v inv p =
    by-step (λ x. Memᴰ p x.puts → (use_at p.block v.uses ≡ Free) × (use_at p.block x.leaves.uses ≡ Used)) c v (λ r _ m. elim m [ ])
    (λ no' m. moved-used v.uses (does c v).leaves.uses (freed_in c v) (taken_in c v) (does-moved c v inv no' (λ e. omega (arith, subst (λ (x : Call). 0 < sum (is p.block) (taken_in x v)) e (does-puts c v p m)))) p.block (does-puts c v p m))

pub turning : Turning
turning n number calls c =
    let v = reached n number calls in
    let inv = reached-sound n number calls in
    record {
      calls = turns-in c v inv;
      syncs = λ b e. use-renew b v.uses ∙ ap renew e;
      rests = λ b ne. use-renew b v.uses ∙ renew-other (use_at b v.uses) ne;
      puts = puts-in c v inv;
    }
  where
    renew-other : (u : Use) → (u ≡ Freed → ⊥) → renew u ≡ u
    renew-other u ne = grind (arith, nat_tests)

-- A RELEASE tells beforehand what it frees
told_in : (v : Volume) → Sound v → (h : ℕ) → Told v h
told_in v inv h =
    record {
      counted = λ n e. let q : Ok (count (length (freed_in (release h) v))) ≡ Ok (count n) = sym (ap (λ (x : Done). x.answer) (done-step (ask (would h)) v (was-done (ask (would h)) v (count n) e))) ∙ e in sym (same_count _ n q);
      freed = λ n e r.
          let q : Ok (count (length (freed_in (release h) v))) ≡ Ok (count n) = sym (ap (λ (x : Done). x.answer) (done-step (ask (would h)) v (was-done (ask (would h)) v (count n) e))) ∙ e in
          let none = was-done (release h) v done r in
          let no' = none-applies (reasons (release h) v) none in
          let lt = holder-there h v.disks no'.0 in
          let fs = freed_in (release h) v in
          let more = passing-free is_spare refl fs v.uses (release-used v inv (holder_of h v.disks) _ lt (hold-there h v.disks lt)) in
          rw (done-step (release h) v none) (omega (arith, more, sum_one fs, same_count (length fs) n q));
      refused = λ r. alike (no_holder h v) (is_copied h v.disks) (no_moment 1 v) (does (ask (would h)) v) (does (release h) v) refl r;
      else = λ n r. spent-only (no_holder h v) (is_copied h v.disks) (no_moment 1 v) (does (ask (would h)) v) (does (release h) v) refl n r;
    }
  where
    -- by the tests of both: no hold, a copy, and no moment
    alike : (a b c : Bool) (x y : Done) → x.answer ≡ Ok (told (would h) v) → (r : Refusal) → (decided v (refusal ((Missing, a) ∷ (Copied, b) ∷ [])) x).answer ≡ Err r → (decided v (refusal ((Missing, a) ∷ (Copied, b) ∷ (Spent, c) ∷ [])) y).answer ≡ Err r
    alike a b c x y k r e = grind (arith, nat_tests)

    spent-only : (a b c : Bool) (x y : Done) → y.answer ≡ Ok done → (n : ℕ) (r : Refusal) → (decided v (refusal ((Missing, a) ∷ (Copied, b) ∷ [])) x).answer ≡ Ok (count n) → (decided v (refusal ((Missing, a) ∷ (Copied, b) ∷ (Spent, c) ∷ [])) y).answer ≡ Err r → r ≡ Spent
    spent-only a b c x y k n r e f = grind (arith, nat_tests)

    same_count : (a b : ℕ) → ◌≡◌ {A = Result Value Refusal} (Ok (count a)) (Ok (count b)) → a ≡ b
    same_count a b e = cc

pub told-before : ToldBefore
told-before n number calls h = told_in (reached n number calls) (reached-sound n number calls) h

pub one_list : OneList
one_list v w h k e t = grind (arith, nat_tests)
