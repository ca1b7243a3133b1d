-- A stream, taken by a disk that has what the older hold has, leaves what the newer has.
use Rattle.std.proofs.lemmas.Bool.Decides.{nat_tests}
use Rattle.std.proofs.Common.{◌≡◌, ℕ, zero, suc, ◌+◌, ◌<◌, ◌≤◌, Bool, true, false, cond, not, eqb, ltb, leb, List, [], ◌∷◌, ◌++◌, length, Some, None, Ok, Err, Option, Result, sym, refl, ap, ◌∙◌, subst, ⊎_elim, arith}
use mathlib.Core.List.Memᴰ
use Rattle.model.specs.declared.types.Mark.{Mark}
use Rattle.model.specs.Blocks.{usable, lowest_in, use_at, used_at, is_full}
use Rattle.std.proofs.lemmas.List.{get_or-set_same}
use Rattle.std.proofs.lemmas.Bool.{true≢false, ltb-false, lt-leb, eq-eqb, ne_eqb, cases_eq, and_from, le-leb, lt-ltb, or_right, not_from_false}
use Rattle.rules.specs.Limits.{most_slots}
use Rattle.rules.specs.declared.refusal.Refusal.{Refusal}
use Rattle.rules.specs.declared.refusal.Refusal.TheVariants.{Unfit}
use Rattle.model.specs.Calls.{take, Value, Done, Stream, count}
use Rattle.model.specs.Exactly.{by_disk}
use Rattle.model.specs.Holds.{Past, past_of}
use Rattle.model.specs.Maps.{Map, look_in, set_in, rising}
use Rattle.model.specs.Refusals.{Applies}
use Rattle.model.specs.Runs.{reasons, step, taken_at}
use Rattle.model.specs.Sound.{Sound}
use Rattle.model.specs.Steps.{change}
use Rattle.model.specs.Steps.{Change, Put, slot_for, showing, change_at, changes_at, put_for, puts_at, held}
use Rattle.model.specs.Store.{Bytes, laid, Store, play, stored}
use Rattle.model.specs.Streams.{content, differs, changes_from, mark_of, older_mark, stream_of, found_by, finds, Takes, StreamsTaken}
use Rattle.model.specs.Tests.{front, written, writes, follows, unfit, changes_rise, is_new}
use Rattle.model.specs.Volume.{Disk, Volume, blank, disk_at, place_of}
use Rattle.model.specs.declared.types.Ptr.{Ptr}
use Rattle.model.specs.declared.types.Slot.{Slot}
use Rattle.model.specs.declared.types.Slot.TheVariants.{Empty, At}
use Rattle.model.proofs.Blocks.{lowest-free, free-unused}
use Rattle.model.proofs.Counts.{some-usable}
use Rattle.model.proofs.Disks.{disk-there, mem-at}
use Rattle.model.proofs.Lines.{present-rises}
use Rattle.model.proofs.Maps.{rise-parts, look-set, look-other, look_none}
use Rattle.model.proofs.Means.{meaning}
use Rattle.model.proofs.Refused.{judgement}
use Rattle.model.proofs.Seen.{map_in, seen, answer_of, read-seen, seen-there, seen_same, place_set}
use Rattle.model.proofs.Shows.{shown-used}
use Rattle.model.proofs.Stays.{stored-sound}
use Rattle.model.proofs.Steps.{none-applies, Small, front-small, change-sound, change-there, change-leaves, changes-there, slots_of}
use Rattle.model.proofs.Streaming.{Apart, changes-rise, ordered-apart, same-slot}
use Rattle.model.proofs.Told.{was-done, done-step}
use Rattle.model.proofs.Volumes.{disk-ok}

-- TAKING: what a slot has after changes, one after the other
taken : List Change → ℕ → Option (List ℕ) → Option (List ℕ)
taken [] s o = o
taken (c ∷ cs) s o = taken cs s (cond (eqb c.slot s) c.bytes o)

laid-append : (ps qs : List Put) (f : Bytes) (b : ℕ) → laid (ps ++ qs) f b ≡ laid qs (laid ps f) b
laid-append [] qs f b = refl
laid-append (p ∷ ps) qs f b = laid-append ps qs (λ c. cond (eqb p.block c) p.bytes (f c)) b

same-content : (f g : Bytes) (x : Slot) → ((p : Ptr) → x ≡ At p → g p.block ≡ f p.block) → content g x ≡ content f x
same-content f g Empty h = refl
same-content f g (At p) h = ap Some (h p refl)

module _ (i : ℕ) where
  -- one change
  change-content : (c : Change) (v : Volume) (f : Bytes) → Sound v → i < length v.disks → (0 < written c.bytes → is_full v.uses ≡ false) → (s : ℕ) →
      content (laid (put_for c.bytes v) f) (look_in s (disk_at i (change_at i c v).disks).shows) ≡ cond (eqb c.slot s) c.bytes (content f (look_in s (disk_at i v.disks).shows))
  change-content c v f inv lt room s =
      let d = disk_at i v.disks in
      let x = slot_for c.bytes v in
      let rises = present-rises v.moment v.names _ _ d.holds d.shows d.gone (disk-ok v inv i lt).line in
      let g = laid (put_for c.bytes v) f in
      ap (λ (e : Disk). content g (look_in s e.shows)) (get_or-set_same v.disks i (showing c.slot x d) blank lt)
      ∙ ⊎_elim
      (λ (e : s ≡ c.slot). ap (λ z. content g (look_in z (set_in c.slot x d.shows))) e ∙ ap (content g) (look-set c.slot x d.shows rises) ∙ new-content c.bytes ∙ sym (ap (λ b. cond b c.bytes (content f (look_in s d.shows))) (eq-eqb c.slot s (sym e))))
      (λ (ne : s ≡ c.slot → ⊥). ap (content g) (look-other s c.slot x d.shows ne rises) ∙ same-content f g (look_in s d.shows) (λ p q. old-bytes c.bytes room p q) ∙ sym (ap (λ b. cond b c.bytes (content f (look_in s d.shows))) (ne_eqb c.slot s (λ e. ne (sym e)))))
      (cases_eq s c.slot)
    where
      new-content : (bs : Option (List ℕ)) → content (laid (put_for bs v) f) (slot_for bs v) ≡ bs
      new-content None = refl
      new-content (Some bs) = ap (λ b. Some (cond b bs (f (lowest_in v.uses)))) (eq-eqb (lowest_in v.uses) (lowest_in v.uses) refl)

      old-bytes : (bs : Option (List ℕ)) → (0 < written bs → is_full v.uses ≡ false) → (p : Ptr) → look_in s (disk_at i v.disks).shows ≡ At p → laid (put_for bs v) f p.block ≡ f p.block
      old-bytes None r p q = refl
      old-bytes (Some bs) r p q =
          let used = shown-used v inv p.block (by_disk (disk_at i v.disks) s p (mem-at v.disks i blank lt) q refl) in
          let free' = free-unused (use_at (lowest_in v.uses) v.uses) (lowest-free v.uses (r (omega arith))) in
          ap (λ b. cond b bs (f p.block)) (ne_eqb (lowest_in v.uses) p.block (λ e. true≢false (sym used ∙ ap (λ b. used_at b v.uses) (sym e) ∙ free')))

  changes-content : (cs : List Change) (v : Volume) (f : Bytes) → Sound v → i < length v.disks → Small cs → writes cs ≤ usable v.uses → (s : ℕ) →
      content (laid (puts_at i cs v) f) (look_in s (disk_at i (changes_at i cs v).disks).shows) ≡ taken cs s (content f (look_in s (disk_at i v.disks).shows))
  unfolding taken
  changes-content [] v f inv lt small enough s = refl
  changes-content (c ∷ cs) v f inv lt small enough s =
      let here : written c.bytes ≤ usable v.uses = omega arith in
      let v1 = change_at i c v in
      let ps = put_for c.bytes v in
      let x = look_in s (disk_at i (changes_at i cs v1).disks).shows in
      same-content (laid (puts_at i cs v1) (laid ps f)) (laid (ps ++ puts_at i cs v1) f) x (λ p _. laid-append ps (puts_at i cs v1) f p.block)
      ∙ changes-content cs v1 (laid ps f) (change-sound i c v inv lt here small.0) (change-there i c v inv lt here) small.1 (omega (arith, change-leaves i c v inv lt here)) s
      ∙ ap (taken cs s) (change-content c v f inv lt (λ l. some-usable v.uses (omega arith)) s)

  pub changes-place : (y : ℕ) (cs : List Change) (v : Volume) → place_of y (changes_at i cs v).disks ≡ place_of y v.disks
  changes-place y [] v = refl
  changes-place y (c ∷ cs) v = changes-place y cs (change_at i c v) ∙ place_set y v.disks i _ refl

-- what a stream's changes make of a slot
module _ (f : Bytes) (k : ℕ) (old new : Map) where
  taken-other : (s n j : ℕ) (o : Option (List ℕ)) → j < s → taken (changes_from s n f k old new) j o ≡ o
  unfolding changes_from taken
  taken-other s zero j o lt = refl
  taken-other s (suc n) j o lt = go (differs k (look_in s old) (look_in s new)) (λ x. taken-other (suc s) n j x (omega arith))
    where
      go : (b : Bool) → ((x : Option (List ℕ)) → taken (changes_from (suc s) n f k old new) j x ≡ x) → taken (cond b (change s (content f (look_in s new)) ∷ changes_from (suc s) n f k old new) (changes_from (suc s) n f k old new)) j o ≡ o
      go true again = again _ ∙ ap (λ b. cond b (content f (look_in s new)) o) (ne_eqb s j (λ e. omega arith))
      go false again = again o

  taken-slot : (s n j : ℕ) → s ≤ j → j < s + n → taken (changes_from s n f k old new) j (content f (look_in j old)) ≡ cond (differs k (look_in j old) (look_in j new)) (content f (look_in j new)) (content f (look_in j old))
  unfolding changes_from taken
  taken-slot s zero j lo hi = absurd (omega arith)
  taken-slot s (suc n) j lo hi =
      ⊎_elim (λ (e : j ≡ s). subst (λ z. taken (changes_from s (suc n) f k old new) z (content f (look_in z old)) ≡ cond (differs k (look_in z old) (look_in z new)) (content f (look_in z new)) (content f (look_in z old))) (sym e) (here (differs k (look_in s old) (look_in s new))))
      (λ (ne : j ≡ s → ⊥). there ne (differs k (look_in s old) (look_in s new)) (taken-slot (suc s) n j (omega arith) (omega arith))) (cases_eq j s)
    where
      rest : List Change
      rest = changes_from (suc s) n f k old new

      here : (b : Bool) → taken (cond b (change s (content f (look_in s new)) ∷ rest) rest) s (content f (look_in s old)) ≡ cond b (content f (look_in s new)) (content f (look_in s old))
      here true = taken-other (suc s) n s _ (omega arith) ∙ ap (λ b. cond b (content f (look_in s new)) (content f (look_in s old))) (eq-eqb s s refl)
      here false = taken-other (suc s) n s (content f (look_in s old)) (omega arith)

      there : (j ≡ s → ⊥) → (b : Bool) → taken rest j (content f (look_in j old)) ≡ cond (differs k (look_in j old) (look_in j new)) (content f (look_in j new)) (content f (look_in j old)) →
          taken (cond b (change s (content f (look_in s new)) ∷ rest) rest) j (content f (look_in j old)) ≡ cond (differs k (look_in j old) (look_in j new)) (content f (look_in j new)) (content f (look_in j old))
      there ne true again = ap (λ b. taken rest j (cond b (content f (look_in s new)) (content f (look_in j old)))) (ne_eqb s j (λ e. ne (sym e))) ∙ again
      there ne false again = again

-- a front that rises is all of it
front-all : (n : ℕ) (cs : List Change) → rising most_slots n (slots_of cs) ≡ true → front n cs ≡ cs
unfolding front
front-all n [] h = refl
front-all n (c ∷ cs) h =
    let p = rise-parts most_slots n c.slot (slots_of cs) h in
    rw (and_from (leb n c.slot) (ltb c.slot most_slots) (le-leb n c.slot p.0) (lt-ltb c.slot most_slots p.1), front-all (suc c.slot) cs p.2)

-- what is found in a slot
finds-in : (y s : ℕ) (u : Store) (m : Map) → seen y u.volume.disks ≡ Some m → s < most_slots → finds y s u ≡ Ok (content u.bytes (look_in s m))
finds-in y s u m e lt = ap (found_by u.bytes) (read-seen y s u.volume ∙ ap (λ n. answer_of n s) e) ∙ rw (lt-leb most_slots s lt)

-- THE SAME STREAM isn't taken twice
never-new : (d : Disk) (m : Mark) → d.mark ≡ Some m → is_new d ≡ false
never-new d m e = grind (arith, nat_tests)

no-follow : (t : Store) (older : Option Past) (newer : Past) (d : Disk) → (past_of older).moment < newer.moment → d.mark ≡ Some (mark_of t newer) → follows (older_mark t older) d ≡ false
no-follow t older newer d lt e = grind (arith, nat_tests)

unfit-applies : (y : ℕ) (st : Stream) (v : Volume) → unfit st (disk_at (place_of y v.disks) v.disks) ≡ true → Applies Unfit (take y st) v
unfit-applies y st v e = Memᴰ.tail (Memᴰ.tail (Memᴰ.tail (Memᴰ.head (λ i. (Unfit, sym e i)))))

takes-in : (t u : Store) → Sound u.volume → (older : Option Past) (newer : Past) (y : ℕ) (a : Value) → Apart (past_of older) newer → (step (take y (stream_of t older newer)) u.volume).answer ≡ Ok a → Takes t u older newer y a
takes-in t u inv older newer y a apart h =
    let st = stream_of t older newer in
    let v = u.volume in
    let o = past_of older in
    let none = was-done (take y st) v a h in
    let no' = none-applies (reasons (take y st) v) none in
    let i = place_of y v.disks in
    let cs = front 0 st.changes in
    let lt = disk-there y v.disks no'.0 in
    let w = changes_at i cs v in
    let g = laid (puts_at i cs v) u.bytes in
    let after : Store = record { volume = taken_at i st v; bytes = g } in
    let same : play (take y st) u ≡ after = ap (λ (x : Done). record { volume = x.leaves; bytes = laid x.puts u.bytes }) (done-step (take y st) v none) in
    let all : cs ≡ st.changes = front-all 0 st.changes (changes-rise t.bytes o.moment o.shows newer.shows 0 most_slots refl) in
    let place : place_of y w.disks ≡ i = changes-place i y cs v in
    let ltw : i < length w.disks = rw (changes-there i cs v) lt in
    let last = held (record { name = w.names; moment = w.moment }) (Some st.newer) (disk_at i w.disks) in
    let seen-after : seen y (taken_at i st v).disks ≡ Some (disk_at i w.disks).shows =
    seen_same map_in y w.disks i last refl refl ∙ seen-there map_in y w.disks (rw place ltw) ∙ ap (λ k. Some (disk_at k w.disks).shows) place in
    let place_after : place_of y (taken_at i st v).disks ≡ i = place_set y w.disks i last refl ∙ place in
    let marked : (disk_at (place_of y (taken_at i st v).disks) (taken_at i st v).disks).mark ≡ Some (mark_of t newer) =
    ap (λ k. (disk_at k (taken_at i st v).disks).mark) place_after ∙ ap (λ (x : Disk). x.mark) (get_or-set_same w.disks i last blank ltw) in
    record {
      right = λ like s small.
          let m = (disk_at i v.disks).shows in
          let was : ◌≡◌ {A = Result (Option (List ℕ)) Refusal} (Ok (content u.bytes (look_in s m))) (Ok (content t.bytes (look_in s o.shows))) = sym (finds-in y s u m (seen-there map_in y v.disks lt) small) ∙ like s small in
          let was' : content u.bytes (look_in s m) ≡ content t.bytes (look_in s o.shows) = cc in
          ap (finds y s) same ∙ finds-in y s after (disk_at i w.disks).shows seen-after small
          ∙ ap Ok (changes-content i cs v u.bytes inv lt (front-small 0 st.changes) (ltb-false (usable v.uses) (writes cs) no'.1.0) s
          ∙ ap (λ zs. taken zs s (content u.bytes (look_in s m))) all ∙ ap (taken st.changes s) was'
          ∙ taken-slot t.bytes o.moment o.shows newer.shows 0 most_slots s (omega arith) (omega arith)
          ∙ by-test s (differs o.moment (look_in s o.shows) (look_in s newer.shows)) refl);
      mark = ap (λ (x : Store). (disk_at (place_of y x.volume.disks) x.volume.disks).mark) same ∙ marked;
      told = let q : Ok (count (length cs)) ≡ Ok a = sym (ap (λ (x : Done). x.answer) (done-step (take y st) v none)) ∙ h in let r : count (length cs) ≡ a = cc in sym r ∙ ap (λ zs. count (length zs)) all;
      begun = λ e s small.
          let d = disk_at i v.disks in
          let ok = ((meaning v).fit st d).0 (not_from_false _ no'.1.1.1.0) in
          let bare = ((meaning v).begun d).0 (ap (λ m. follows (older_mark t m) d) (sym e) ∙ ok.2) in
          finds-in y s u d.shows (seen-there map_in y v.disks lt) small ∙ ap (λ m. Ok (content u.bytes (look_in s m))) bare.3 ∙ ap (λ x. Ok (content u.bytes x)) (look_none s);
      twice =
          let again = unfit-applies y st (taken_at i st v) (or_right false _ (or_right (not (changes_rise st.changes)) _ (not_from_false _ (no-follow t older newer _ apart.2 marked)))) in
          subst (λ (x : Store). Applies Unfit (take y st) x.volume × ((r : Refusal) × ((step (take y st) x.volume).answer ≡ Err r))) (sym same) (again, (judgement (take y st) (taken_at i st v)).refused Unfit again);
    }
  where
    by-test : (s : ℕ) (b : Bool) → differs (past_of older).moment (look_in s (past_of older).shows) (look_in s newer.shows) ≡ b →
        cond b (content t.bytes (look_in s newer.shows)) (content t.bytes (look_in s (past_of older).shows)) ≡ content t.bytes (look_in s newer.shows)
    by-test s true e = refl
    by-test s false e = ap (content t.bytes) (same-slot (past_of older).moment (look_in s (past_of older).shows) (look_in s newer.shows) (apart.0 s) e)

pub streams-taken : StreamsTaken
streams-taken n number n' number' f f' calls calls' d older newer y a m o h =
    let t = stored n number f calls in
    let u = stored n' number' f' calls' in
    takes-in t u (stored-sound n' number' f' calls') older newer y a (ordered-apart t.volume (stored-sound n number f calls) d m newer older o) h
