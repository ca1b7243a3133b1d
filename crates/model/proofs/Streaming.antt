-- A stream has what changed between two holds of one disk, and nothing else.
use Rattle.std.proofs.Common.{◌≡◌, ℕ, zero, suc, ◌+◌, ◌<◌, ◌≤◌, Bool, true, false, cond, List, [], ◌∷◌, length, Option, sym, refl, ap, ◌∙◌, subst, ⊎_elim, arith}
use Rattle.std.proofs.lemmas.Bool.Decides.{nat_tests}
use mathlib.Core.List.{Memᴰ}
use Rattle.std.specs.List.{AllByRecursion}
use Rattle.std.proofs.lemmas.Bool.{cases_eq, ltb-false}
use Rattle.rules.specs.Limits.{most_slots}
use Rattle.model.specs.Holds.{Past, past, past_of, nothing, base}
use Rattle.model.specs.Maps.{Map, look_in, shown_in, rising}
use Rattle.model.specs.Sound.{Agree, Early, Line, Sound}
use Rattle.model.specs.Steps.{change}
use Rattle.model.specs.Steps.{Change}
use Rattle.model.specs.Store.{Bytes, Store, stored}
use Rattle.model.specs.Streams.{content, differs, changes_from, stream_of, Ordered, from_nothing, from_hold, Carries, StreamsCarry}
use Rattle.model.specs.Volume.{Hold, Disk, Volume, hold_at, since}
use Rattle.model.specs.declared.types.Ptr.{Ptr}
use Rattle.model.specs.declared.types.Slot.{Slot}
use Rattle.model.specs.declared.types.Slot.TheVariants.{Empty, At}
use Rattle.model.proofs.Steps.{slots_of}
use Rattle.model.proofs.Lines.{hold-in}
use Rattle.model.proofs.Maps.{rise-none, rise-from, rise-lower, look-all}
use Rattle.model.proofs.Shows.{line_of}
use Rattle.model.proofs.Stays.{stored-sound}

-- TWO HOLDS of one disk
after-agree : (now names k : ℕ) (q : Map) (b : ℕ) (hs : List Hold) (m : Map) (g : List Ptr) → b < length hs → Line now names k q hs m g → Agree k q (hold_at b hs).shows
after-agree now names k q b [] m g lt ok = absurd (omega arith)
after-agree now names k q zero (h ∷ hs) m g lt ok = ok.0.version.agree
after-agree now names k q (suc b) (h ∷ hs) m g lt ok = let again = after-agree now names h.moment h.shows b hs m g (omega arith) ok.1 in grind (arith, nat_tests)

abbrev pub Apart : Past → Past → Type 0
Apart o n = Agree o.moment o.shows n.shows × Early o.moment o.shows × (o.moment < n.moment)

both-agree : (now names k : ℕ) (q : Map) (a b : ℕ) (hs : List Hold) (m : Map) (g : List Ptr) → a < b → b < length hs → Line now names k q hs m g → Apart (past (hold_at a hs)) (past (hold_at b hs))
both-agree now names k q a b [] m g less lt ok = absurd (omega arith)
both-agree now names k q a zero (h ∷ hs) m g less lt ok = absurd (omega arith)
both-agree now names k q zero (suc b) (h ∷ hs) m g less lt ok = grind (arith, nat_tests, after-agree, hold-in)
both-agree now names k q (suc a) (suc b) (h ∷ hs) m g less lt ok = both-agree now names h.moment h.shows a b hs m g (omega arith) (omega arith) ok.1

-- from nothing: everything was born after it
from_nothing_lem : (t : ℕ) (m : Map) → Early t m → Agree 0 [] m
from_nothing_lem t m early s p e le =
    let all : AllByRecursion (λ (r : Ptr). (0 < r.birth) × (r.birth < t)) (shown_in (At p)) = subst (λ x. AllByRecursion (λ (r : Ptr). (0 < r.birth) × (r.birth < t)) (shown_in x)) e (look-all (λ r. (0 < r.birth) × (r.birth < t)) s m early) in
    absurd (omega (arith, all.0.0))

pub ordered-apart : (v : Volume) → Sound v → (d : Disk) → Memᴰ d v.disks → (newer : Past) (older : Option Past) → Ordered d newer older → Apart (past_of older) newer
ordered-apart v inv d m newer older (from_nothing b lt e) =
    let l = line_of v inv d m in
    let h = hold-in v.moment v.names (since d.from) (base v.disks d.from).shows b d.holds d.shows d.gone lt l in
    subst (Apart nothing) (sym e) (from_nothing_lem (hold_at b d.holds).moment (hold_at b d.holds).shows h.4, tt, omega (arith, h.2))
ordered-apart v inv d m newer older (from_hold a b o less lt e f) =
    subst (λ o. Apart o newer) (sym e) (subst (Apart (past (hold_at a d.holds))) (sym f) (both-agree v.moment v.names (since d.from) (base v.disks d.from).shows a b d.holds d.shows d.gone less lt (line_of v inv d m)))

-- THE CHANGES
-- a slot that isn't in the stream shows the same
pub same-slot : (k : ℕ) (o n : Slot) → ((p : Ptr) → n ≡ At p → p.birth ≤ k → o ≡ At p) → differs k o n ≡ false → o ≡ n
same-slot k o (At p) a e = a p refl (ltb-false k p.birth e)
same-slot k Empty Empty a e = refl
same-slot k (At q) Empty a e = absurd cc

-- one that is in it doesn't
apart-slot : (k : ℕ) (o n : Slot) → AllByRecursion (λ p. (0 < p.birth) × (p.birth < k)) (shown_in o) → differs k o n ≡ true → o ≡ n → ⊥
apart-slot k o n early e q = grind (arith, nat_tests)

module _ (f : Bytes) (k : ℕ) (old new : Map) where
  pub changes-rise : (s n : ℕ) → s + n ≡ most_slots → rising most_slots s (slots_of (changes_from s n f k old new)) ≡ true
  unfolding changes_from
  changes-rise s zero e = rise-none most_slots s
  changes-rise s (suc n) e = let again = changes-rise (suc s) n (omega arith) in grind (arith, nat_tests, rise-from, rise-lower)

  change-in : (s n : ℕ) (c : Change) → Memᴰ c (changes_from s n f k old new) → (c.bytes ≡ content f (look_in c.slot new)) × (differs k (look_in c.slot old) (look_in c.slot new) ≡ true)
  unfolding changes_from
  change-in s zero c m = elim m [ ]
  change-in s (suc n) c m = go (differs k (look_in s old) (look_in s new)) refl (change-in (suc s) n c) m
    where
      go : (b : Bool) → differs k (look_in s old) (look_in s new) ≡ b → (Memᴰ c (changes_from (suc s) n f k old new) → (c.bytes ≡ content f (look_in c.slot new)) × (differs k (look_in c.slot old) (look_in c.slot new) ≡ true)) →
          Memᴰ c (cond b (change s (content f (look_in s new)) ∷ changes_from (suc s) n f k old new) (changes_from (suc s) n f k old new)) → (c.bytes ≡ content f (look_in c.slot new)) × (differs k (look_in c.slot old) (look_in c.slot new) ≡ true)
      go true e again (Memᴰ.head q) = subst (λ (x : Change). (x.bytes ≡ content f (look_in x.slot new)) × (differs k (look_in x.slot old) (look_in x.slot new) ≡ true)) (sym q) (refl, e)
      go true e again (Memᴰ.tail r) = again r
      go false e again r = again r

  -- a slot that differs is in it
  change-for : (s n j : ℕ) → s ≤ j → j < s + n → differs k (look_in j old) (look_in j new) ≡ true → Memᴰ (change j (content f (look_in j new))) (changes_from s n f k old new)
  unfolding changes_from
  change-for s zero j lo hi e = absurd (omega arith)
  change-for s (suc n) j lo hi e =
      ⊎_elim (λ (q : j ≡ s). here q) (λ (q : j ≡ s → ⊥). there (differs k (look_in s old) (look_in s new)) (change-for (suc s) n j (omega arith) (omega arith) e)) (cases_eq j s)
    where
      here : j ≡ s → Memᴰ (change j (content f (look_in j new))) (cond (differs k (look_in s old) (look_in s new)) (change s (content f (look_in s new)) ∷ changes_from (suc s) n f k old new) (changes_from (suc s) n f k old new))
      here q = rw (ap (λ i. differs k (look_in i old) (look_in i new)) (sym q) ∙ e) (Memᴰ.head (ap (λ i. change i (content f (look_in i new))) q))

      there : (b : Bool) → Memᴰ (change j (content f (look_in j new))) (changes_from (suc s) n f k old new) →
          Memᴰ (change j (content f (look_in j new))) (cond b (change s (content f (look_in s new)) ∷ changes_from (suc s) n f k old new) (changes_from (suc s) n f k old new))
      there true m = Memᴰ.tail m
      there false m = m

carries-in : (t : Store) (older : Option Past) (newer : Past) → Apart (past_of older) newer → Carries t older newer
carries-in t older newer apart =
    let o = past_of older in
    let f = t.bytes in
    record {
      rises = changes-rise f o.moment o.shows newer.shows 0 most_slots refl;
      bytes = λ c m. (change-in f o.moment o.shows newer.shows 0 most_slots c m).0;
      least = λ c m e. apart-slot o.moment (look_in c.slot o.shows) (look_in c.slot newer.shows) (look-all (λ p. (0 < p.birth) × (p.birth < o.moment)) c.slot o.shows apart.1) (change-in f o.moment o.shows newer.shows 0 most_slots c m).1 e;
      every = λ s lt none. by-test s lt none (differs o.moment (look_in s o.shows) (look_in s newer.shows)) refl;
    }
  where
    by-test : (s : ℕ) → s < most_slots → ((c : Change) → Memᴰ c (stream_of t older newer).changes → c.slot ≡ s → ⊥) → (b : Bool) →
        differs (past_of older).moment (look_in s (past_of older).shows) (look_in s newer.shows) ≡ b → look_in s (past_of older).shows ≡ look_in s newer.shows
    by-test s lt none true e = absurd (none _ (change-for t.bytes (past_of older).moment (past_of older).shows newer.shows 0 most_slots s (omega arith) (omega arith) e) refl)
    by-test s lt none false e = same-slot (past_of older).moment (look_in s (past_of older).shows) (look_in s newer.shows) (apart.0 s) e

pub streams-carry : StreamsCarry
streams-carry n number f calls d older newer m o = let t = stored n number f calls in carries-in t older newer (ordered-apart t.volume (stored-sound n number f calls) d m newer older o)
