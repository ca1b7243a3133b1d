-- What holds of a disk's versions, one after the other, and why it holds again after each step.
use Rattle.std.proofs.Common.{◌≡◌, ℕ, zero, suc, ◌+◌, ◌<◌, ◌≤◌, true, List, [], ◌∷◌, ◌++◌, length, refl, ◌∙◌, arith}
use Rattle.std.specs.List.{remove, AllByRecursion}
use Rattle.std.proofs.ByRecursion.{All-weaker}
use Rattle.std.proofs.lemmas.List.{length-map}
use Rattle.std.proofs.lemmas.Bool.Decides.{nat_tests}
use Rattle.rules.specs.Limits.{most_slots}
use Rattle.model.specs.Blocks.{frees, keeps}
use Rattle.model.specs.Holds.{find_hold}
use Rattle.model.specs.Maps.{Map, look_in, set_in, shown_in, shown_by, slots_rise}
use Rattle.model.specs.Sound.{young, old, Link, Agree, Early, Version, HoldOk, Line, own_in}
use Rattle.model.specs.Steps.{gone_at, with_gone, present_gone, regone}
use Rattle.model.specs.Sums.{sum}
use Rattle.model.specs.Volume.{Hold, hold_at, before, last_of}
use Rattle.model.specs.declared.types.Ptr.{Ptr}
use Rattle.model.specs.declared.types.Slot.{Slot}
use Rattle.model.specs.declared.types.Slot.TheVariants.{At}
use Rattle.model.proofs.Maps.{rise-none, rise-set, look-set, look-other, sum-set_in, sum-remove, all-set_in, few-entries}
use Rattle.model.proofs.Sums.{sum-append, sum-frees, sum-keeps, young-old, old-old, split, young-none, one, sum_one}

-- the moment and the names grow
pub early-later : (t t' : ℕ) (m : Map) → t ≤ t' → Early t m → Early t' m
early-later t t' m le e = All-weaker (λ p. (0 < p.birth) × (p.birth < t)) (λ p. (0 < p.birth) × (p.birth < t')) (λ p lt. omega arith) (shown_by m) e

version-later : (t t' k : ℕ) (q m : Map) (g : List Ptr) → t ≤ t' → Version t k q m g → Version t' k q m g
version-later t t' k q m g le ok = record { later = omega (arith, ok.later); link = ok.link; agree = ok.agree; early = early-later t t' m le ok.early; rises = ok.rises }

hold-later : (now now' names names' k : ℕ) (q : Map) (h : Hold) → now ≤ now' → names ≤ names' → HoldOk now names k q h → HoldOk now' names' k q h
hold-later now now' names names' k q h a b ok = grind (arith, nat_tests)

pub line-later : (now now' names names' k : ℕ) (q : Map) (hs : List Hold) (m : Map) (g : List Ptr) → now ≤ now' → names ≤ names' → Line now names k q hs m g → Line now' names' k q hs m g
line-later now now' names names' k q [] m g a b ok = version-later now now' k q m g a ok
line-later now now' names names' k q (h ∷ hs) m g a b ok = (hold-later now now' names names' k q h a b ok.0, line-later now now' names names' h.moment h.shows hs m g a b ok.1)

-- the present's own part of a line
pub present-rises : (now names k : ℕ) (q : Map) (hs : List Hold) (m : Map) (g : List Ptr) → Line now names k q hs m g → slots_rise m ≡ true
present-rises now names k q [] m g ok = ok.rises
present-rises now names k q (h ∷ hs) m g ok = present-rises now names h.moment h.shows hs m g ok.1

-- A SLOT shows a block born at this moment, or nothing.
abbrev pub Born : ℕ → Slot → Type 0
Born now x = AllByRecursion (λ p. p.birth ≡ now) (shown_in x)

module _ (now names s : ℕ) (x : Slot) (lt : s < most_slots) (born : Born now x) where
  slot-young : (k : ℕ) → k < now → (w : Ptr → ℕ) (y : Slot) → Born now y → (sum (young k w) (shown_in y) ≡ sum w (shown_in y)) × (sum (old k w) (shown_in y) ≡ 0)
  slot-young k less w y b = grind (arith, nat_tests)

  slot-early : 0 < now → (y : Slot) → Born now y → AllByRecursion (λ p. (0 < p.birth) × (p.birth < now + 1)) (shown_in y)
  slot-early begun y b = grind (arith, nat_tests)

  slot-agree : (k : ℕ) → k < now → (y : Slot) → Born now y → (p : Ptr) → y ≡ At p → p.birth ≤ k → ⊥
  slot-agree k less y b p e le = grind (arith, nat_tests)

  show-agree : (k : ℕ) (q m : Map) → k < now → slots_rise m ≡ true → Agree k q m → Agree k q (set_in s x m)
  show-agree k q m less rises agree j p e le = grind (arith, nat_tests, look-other, look-set, slot-agree)

  pub show-line : (k : ℕ) (q : Map) (hs : List Hold) (m : Map) (g : List Ptr) → Line now names k q hs m g →
      Line (now + 1) names k q hs (set_in s x m) (g ++ keeps (last_of k hs) (shown_in (look_in s m)))
  show-line k q [] m g ok =
      let l = shown_in (look_in s m) in
      record {
        later = omega (arith, ok.later);
        link = λ w. omega (arith, ok.link w, sum-set_in (old k w) s x m, (slot-young k ok.later w x born).1, sum-append w g (keeps k l), sum-keeps w k l);
        agree = show-agree k q m ok.later ok.rises ok.agree;
        early = all-set_in (λ p. (0 < p.birth) × (p.birth < now + 1)) s x m (slot-early (omega (arith, ok.later)) x born) (early-later now (now + 1) m (omega arith) ok.early);
        rises = rise-set s x m lt ok.rises;
      }
  show-line k q (h ∷ hs) m g ok = (hold-later now (now + 1) names names k q h (omega arith) (omega arith) ok.0, show-line h.moment h.shows hs m g ok.1)

  pub show-own : (w : Ptr → ℕ) (k : ℕ) (q : Map) (hs : List Hold) (m : Map) (g : List Ptr) → Line now names k q hs m g →
      own_in w k hs (set_in s x m) + sum w (frees (last_of k hs) (shown_in (look_in s m))) ≡ own_in w k hs m + sum w (shown_in x)
  show-own w k q [] m g ok = omega (arith, sum-set_in (young k w) s x m, (slot-young k ok.later w x born).0, sum-frees w k (shown_in (look_in s m)))
  show-own w k q (h ∷ hs) m g ok = omega (arith, show-own w h.moment h.shows hs m g ok.1)

-- what becomes free is the disk's own
pub show-within : (w : Ptr → ℕ) (s k : ℕ) (hs : List Hold) (m : Map) → sum w (frees (last_of k hs) (shown_in (look_in s m))) ≤ own_in w k hs m
show-within w s k [] m = omega (arith, sum-remove (young k w) s m, sum-frees w k (shown_in (look_in s m)))
show-within w s k (h ∷ hs) m = omega (arith, show-within w s h.moment hs m)

-- A DISK IS HELD.
pub link-self : (t : ℕ) (m : Map) → Early t m → Link t m m []
link-self t m e w = omega (arith, split t w (shown_by m), young-none t (shown_by m) e w)

pub self-version : (t now : ℕ) (m : Map) → t < now → Early t m → slots_rise m ≡ true → Version now t m m []
self-version t now m lt early rises = record { later = lt; link = link-self t m early; agree = λ s p e _. e; early = early-later t now m (omega arith) early; rises = rises }

abbrev pub held_as : (now names : ℕ) → Map → List Ptr → Hold
held_as now names m g = record { name = names; moment = now; shows = m; gone = g }

pub held-line : (now names k : ℕ) (q : Map) (hs : List Hold) (m : Map) (g : List Ptr) → 0 < names → Line now names k q hs m g → Line (now + 1) (names + 1) k q (hs ++ held_as now names m g ∷ []) m []
held-line now names k q [] m g some ok = (
  record { some = some; name = omega arith; past = omega arith; version = ok },
  self-version now (now + 1) m (omega arith) ok.early ok.rises,
)
held-line now names k q (h ∷ hs) m g some ok = (hold-later now (now + 1) names (names + 1) k q h (omega arith) (omega arith) ok.0, held-line now names h.moment h.shows hs m g some ok.1)

pub held-own : (w : Ptr → ℕ) (now names k : ℕ) (q : Map) (hs : List Hold) (m : Map) (g : List Ptr) → Line now names k q hs m g → own_in w k (hs ++ held_as now names m g ∷ []) m ≡ own_in w k hs m
held-own w now names k q [] m g ok = omega (arith, young-none now (shown_by m) ok.early w)
held-own w now names k q (h ∷ hs) m g ok = omega (arith, held-own w now names h.moment h.shows hs m g ok.1)

pub held-finds : (x now names : ℕ) (hs : List Hold) (m : Map) (g : List Ptr) → (x ≡ names → ⊥) → find_hold x (hs ++ held_as now names m g ∷ []) ≡ find_hold x hs
held-finds x now names [] m g ne = grind (arith, nat_tests)
held-finds x now names (h ∷ hs) m g ne = rw (held-finds x now names hs m g ne)

-- A HOLD IS RELEASED: one version between two is left out.
pub join-link : (k t : ℕ) (q h m : Map) (gh gm : List Ptr) → k ≤ t → Link k q h gh → Link t h m gm → Link k q m (keeps k gm ++ gh)
join-link k t q h m gh gm le a b w = omega (arith, a w, b (old k w), old-old k t le w (shown_by m), sum-keeps w k gm, sum-append w (keeps k gm) gh)

pub join-agree : (k t : ℕ) (q h m : Map) → k ≤ t → Agree k q h → Agree t h m → Agree k q m
join-agree k t q h m le a b s p e l = a s p (b s p e (omega arith)) l

pub join-own : (k t : ℕ) (h m : Map) (gm : List Ptr) → k ≤ t → Link t h m gm → (w : Ptr → ℕ) →
    sum (young t w) (shown_by m) + sum (young k w) (shown_by h) ≡ sum (young k w) (shown_by m) + sum w (frees k gm)
join-own k t h m gm le b w = omega (arith, b (young k w), young-old k t le w (shown_by m), sum-frees w k gm)

join : (t u k : ℕ) (q h m : Map) (gh gm : List Ptr) → Version t k q h gh → Version u t h m gm → Version u k q m (keeps k gm ++ gh)
join t u k q h m gh gm a b =
    let le : k ≤ t = omega (arith, a.later) in
    record {
      later = omega (arith, a.later, b.later);
      link = join-link k t q h m gh gm le a.link b.link;
      agree = join-agree k t q h m le a.agree b.agree;
      early = b.early;
      rises = b.rises;
    }

-- the list that the one after it has then
abbrev pub joined_at : (k j : ℕ) → List Hold → List Ptr → List Ptr
joined_at k j hs g = keeps (before k j hs) (gone_at (suc j) hs g) ++ (hold_at j hs).gone

pub release-line : (now names k : ℕ) (q : Map) (j : ℕ) (hs : List Hold) (m : Map) (g : List Ptr) → j < length hs → Line now names k q hs m g →
    Line now names k q (with_gone j (joined_at k j hs g) (remove hs j)) m (present_gone j (joined_at k j hs g) (remove hs j) g)
release-line now names k q j [] m g lt ok = absurd (omega arith)
release-line now names k q zero (h ∷ []) m g lt ok = join h.moment now k q h.shows m h.gone g ok.0.version ok.1
release-line now names k q zero (h ∷ n ∷ hs) m g lt ok =
    let b = ok.1.0 in
    (record { some = b.some; name = b.name; past = b.past; version = join h.moment n.moment k q h.shows n.shows h.gone n.gone ok.0.version b.version }, ok.1.1)
release-line now names k q (suc j) (h ∷ hs) m g lt ok = (ok.0, release-line now names h.moment h.shows j hs m g (omega arith) ok.1)

pub release-own : (w : Ptr → ℕ) (now names k : ℕ) (q : Map) (j : ℕ) (hs : List Hold) (m : Map) (g x : List Ptr) → j < length hs → Line now names k q hs m g →
    own_in w k (with_gone j x (remove hs j)) m + sum w (frees (before k j hs) (gone_at (suc j) hs g)) ≡ own_in w k hs m
release-own w now names k q j [] m g x lt ok = absurd (omega arith)
release-own w now names k q zero (h ∷ []) m g x lt ok = omega (arith, join-own k h.moment h.shows m g (omega (arith, ok.0.version.later)) ok.1.link w)
release-own w now names k q zero (h ∷ n ∷ hs) m g x lt ok = omega (arith, join-own k h.moment h.shows n.shows n.gone (omega (arith, ok.0.version.later)) ok.1.0.version.link w)
release-own w now names k q (suc j) (h ∷ hs) m g x lt ok = omega (arith, release-own w now names h.moment h.shows j hs m g x (omega arith) ok.1)

-- which holds are found then
finds-gone : (y j : ℕ) (x : List Ptr) (hs : List Hold) → find_hold y (with_gone j x hs) ≡ find_hold y hs
finds-gone y j x [] = refl
finds-gone y zero x (h ∷ hs) = refl
finds-gone y (suc j) x (h ∷ hs) = rw (finds-gone y j x hs)

finds-removed : (y j : ℕ) (hs : List Hold) → j < length hs → (y ≡ (hold_at j hs).name → ⊥) → find_hold y (remove hs j) ≡ find_hold y hs
finds-removed y j [] lt ne = absurd (omega arith)
finds-removed y zero (h ∷ hs) lt ne = grind (arith, nat_tests)
finds-removed y (suc j) (h ∷ hs) lt ne = rw (finds-removed y j hs (omega arith) ne)

pub release-finds : (y j : ℕ) (x : List Ptr) (hs : List Hold) → j < length hs → (y ≡ (hold_at j hs).name → ⊥) → find_hold y (with_gone j x (remove hs j)) ≡ find_hold y hs
release-finds y j x hs lt ne = finds-gone y j x (remove hs j) ∙ finds-removed y j hs lt ne

pub sum-gone : (w : Hold → ℕ) → ((g : List Ptr) (h : Hold) → w (regone g h) ≡ w h) → (j : ℕ) (x : List Ptr) (hs : List Hold) → sum w (with_gone j x hs) ≡ sum w hs
sum-gone w same j x [] = refl
sum-gone w same zero x (h ∷ hs) = omega (arith, same x h)
sum-gone w same (suc j) x (h ∷ hs) = omega (arith, sum-gone w same j x hs)

-- NO LIST is longer than the map before it.
link-few : (k : ℕ) (q m : Map) (g : List Ptr) → Link k q m g → length q ≤ most_slots → length g ≤ most_slots
link-few k q m g link few = omega (arith, link one, sum_one (shown_by q), sum_one g, length-map q (λ e. e.at))

pub gone-few : (now names k : ℕ) (q : Map) (j : ℕ) (hs : List Hold) (m : Map) (g : List Ptr) → length q ≤ most_slots → Line now names k q hs m g → length (gone_at j hs g) ≤ most_slots
gone-few now names k q j [] m g few ok = link-few k q m g ok.link few
gone-few now names k q zero (h ∷ hs) m g few ok = link-few k q h.shows h.gone ok.0.version.link few
gone-few now names k q (suc j) (h ∷ hs) m g few ok = gone-few now names h.moment h.shows j hs m g (few-entries h.shows ok.0.version.rises) ok.1

-- A hold of a line.
pub hold-in : (now names k : ℕ) (q : Map) (j : ℕ) (hs : List Hold) (m : Map) (g : List Ptr) → j < length hs → Line now names k q hs m g →
    ((hold_at j hs).name < names) × (0 < (hold_at j hs).name) × (k < (hold_at j hs).moment) × ((hold_at j hs).moment < now) × Early (hold_at j hs).moment (hold_at j hs).shows × (slots_rise (hold_at j hs).shows ≡ true)
hold-in now names k q j [] m g lt ok = absurd (omega arith)
hold-in now names k q zero (h ∷ hs) m g lt ok = (ok.0.name, ok.0.some, ok.0.version.later, ok.0.past, ok.0.version.early, ok.0.version.rises)
hold-in now names k q (suc j) (h ∷ hs) m g lt ok =
    let r = hold-in now names h.moment h.shows j hs m g (omega arith) ok.1 in
    (r.0, r.1, omega (arith, r.2, ok.0.version.later), r.3, r.4, r.5)

-- An empty disk.
pub new_line : (now names : ℕ) → 0 < now → Line now names 0 [] [] [] []
new_line now names lt = grind (arith, nat_tests, rise-none)
