-- What holds of a volume says that exactly the blocks are in use that some version shows.
use Rattle.std.proofs.Common.{◌≡◌, ℕ, zero, suc, ◌+◌, ◌<◌, ◌≤◌, Bool, true, false, cond, ◌||◌, eqb, ltb, ◌⊎◌, List, [], ◌∷◌, map, length, Some, None, Option, sym, refl, ap, ◌∙◌, subst, inl, inr, ⊎_elim, arith}
use mathlib.Core.List.{Memᴰ}
use Rattle.model.specs.Blocks.{is, has, used_at}
use Rattle.std.specs.List.{AllByRecursion}
use Rattle.std.proofs.lemmas.Option.{none-some}
use Rattle.std.proofs.lemmas.Bool.{cases_lt, ltb-true, lt-ltb, or_cases, or_left, or_right, eq-eqb, eqb-true}
use Rattle.std.proofs.lemmas.Bool.Decides.{nat_tests, same_from_decides}
use Rattle.rules.specs.Limits.{first_block, most_slots}
use Rattle.model.specs.Exactly.{Shown, by_disk, by_hold, in_holds, recount, Exact}
use Rattle.model.specs.Gone.{Shows}
use Rattle.model.specs.Holds.{Past, past, find, find_hold, past_of, base}
use Rattle.model.specs.Maps.{Map, look_in, shown_by, rising, slots_rise}
use Rattle.model.specs.Sound.{young, Link, Line, own, own_in, total, DiskOk, Sound, Known}
use Rattle.model.specs.Sums.{bit, sum}
use Rattle.model.specs.Volume.{Hold, Disk, Volume, since}
use Rattle.model.specs.declared.types.HoldHead.{HoldHead}
use Rattle.model.specs.declared.types.Ptr.{Ptr}
use Rattle.model.specs.declared.types.Slot.TheVariants.{Empty, At}
use Rattle.model.proofs.Disks.{all-mem, find-mem}
use Rattle.model.proofs.Lines.{present-rises as line-rises}
use Rattle.model.proofs.Maps.{rise-parts, look-past, look-here, look-above, look_none, by_order}
use Rattle.model.proofs.Sums.{split}

-- A MAP shows a block, counted and by slots: a slot that shows something shows an entry of the map
pub look-sum : (w : Ptr → ℕ) (s : ℕ) (p : Ptr) (m : Map) → look_in s m ≡ At p → w p ≤ sum w (shown_by m)
look-sum w s p [] e = let z : Empty ≡ At p = sym (look_none s) ∙ e in absurd cc
look-sum w s p (e ∷ m) h =
    by_order s e m _
    (λ x. let q : At e.at ≡ At p = sym (look-here s e m x) ∙ h in let r : e.at ≡ p = cc in omega (arith, ap w r))
    (λ x. omega (arith, look-sum w s p m (sym (look-past s e m x) ∙ h)))
    (λ x. let z : Empty ≡ At p = sym (look-above s e m x) ∙ h in absurd cc)

pub in-map-sum : (b : ℕ) (m : Map) → Shows m b → 1 ≤ sum (is b) (shown_by m)
in-map-sum b m (s, p, h, e) = omega (arith, look-sum (is b) s p m h, ap bit (eq-eqb p.block b e))

sum-in-map-from : (n b : ℕ) (m : Map) → rising most_slots n (map (λ e. e.slot) m) ≡ true → 1 ≤ sum (is b) (shown_by m) → (s : ℕ) × (p : Ptr) × (look_in s m ≡ At p) × (p.block ≡ b) × (n ≤ s)
sum-in-map-from n b [] h l = absurd (omega arith)
sum-in-map-from n b (e ∷ m) h l =
    let q = rise-parts most_slots n e.slot (map (λ f. f.slot) m) h in
    go (eqb e.at.block b) refl q (sum-in-map-from (suc e.slot) b m q.2) l
  where
    go : (t : Bool) → eqb e.at.block b ≡ t → (n ≤ e.slot) × (e.slot < most_slots) × (rising most_slots (suc e.slot) (map (λ f. f.slot) m) ≡ true) →
        (1 ≤ sum (is b) (shown_by m) → (s : ℕ) × (p : Ptr) × (look_in s m ≡ At p) × (p.block ≡ b) × (suc e.slot ≤ s)) → 1 ≤ bit t + sum (is b) (shown_by m) →
        (s : ℕ) × (p : Ptr) × (look_in s (e ∷ m) ≡ At p) × (p.block ≡ b) × (n ≤ s)
    go true x q again l = (e.slot, e.at, look-here e.slot e m refl, eqb-true e.at.block b x, q.0)
    go false x q again l = let r = again (omega arith) in (r.0, r.1, look-past r.0 e m r.4 ∙ r.2, r.3, omega (arith, r.4, q.0))

pub sum-in-map : (b : ℕ) (m : Map) → slots_rise m ≡ true → 1 ≤ sum (is b) (shown_by m) → Shows m b
sum-in-map b m h l = let r = sum-in-map-from 0 b m h l in (r.0, r.1, r.2, r.3)

-- WHAT A VERSION SHOWS is its own or shown by the version before.
bound : (k : ℕ) (q m : Map) (g : List Ptr) → Link k q m g → (w : Ptr → ℕ) → sum w (shown_by m) ≤ sum (young k w) (shown_by m) + sum w (shown_by q)
bound k q m g link w = omega (arith, link w, split k w (shown_by m))

module _ (now names : ℕ) (w : Ptr → ℕ) where
  pub line-bound : (k : ℕ) (q : Map) (hs : List Hold) (m : Map) (g : List Ptr) → Line now names k q hs m g → sum w (shown_by m) ≤ own_in w k hs m + sum w (shown_by q)
  line-bound k q [] m g ok = bound k q m g ok.link w
  line-bound k q (h ∷ hs) m g ok = omega (arith, line-bound h.moment h.shows hs m g ok.1, bound k q h.shows h.gone ok.0.version.link w)

  -- so is what a hold shows
  pub hold-bound : (k : ℕ) (q : Map) (hs : List Hold) (m : Map) (g : List Ptr) (h : Hold) → Line now names k q hs m g → Memᴰ h hs →
      (k < h.moment) × (sum w (shown_by h.shows) ≤ own_in w k hs m + sum w (shown_by q)) × (slots_rise h.shows ≡ true)
  hold-bound k q [] m g h ok x = elim x [ ]
  hold-bound k q (c ∷ hs) m g h ok (Memᴰ.head e) =
      subst (λ (y : Hold). (k < y.moment) × (sum w (shown_by y.shows) ≤ own_in w k (c ∷ hs) m + sum w (shown_by q)) × (slots_rise y.shows ≡ true)) (sym e)
      (ok.0.version.later, omega (arith, bound k q c.shows c.gone ok.0.version.link w), ok.0.version.rises)
  hold-bound k q (c ∷ hs) m g h ok (Memᴰ.tail x) =
      let r = hold-bound c.moment c.shows hs m g h ok.1 x in
      (omega (arith, r.0, ok.0.version.later), omega (arith, r.1, bound k q c.shows c.gone ok.0.version.link w), r.2)

-- a hold that is found is one of the holds
pub found-hold : (x : ℕ) (hs : List Hold) (p : Past) → find_hold x hs ≡ Some p → (h : Hold) × Memᴰ h hs × (past h ≡ p) × (h.name ≡ x)
found-hold x [] p e = absurd (none-some p e)
found-hold x (h ∷ hs) p e = go (eqb h.name x) refl (found-hold x hs p) e
  where
    go : (t : Bool) → eqb h.name x ≡ t → (find_hold x hs ≡ Some p → (k : Hold) × Memᴰ k hs × (past k ≡ p) × (k.name ≡ x)) → cond t (Some (past h)) (find_hold x hs) ≡ Some p →
        (k : Hold) × Memᴰ k (h ∷ hs) × (past k ≡ p) × (k.name ≡ x)
    go true q again f = (h, Memᴰ.head refl, cc, eqb-true h.name x q)
    go false q again f = let r = again f in (r.0, Memᴰ.tail r.1, r.2, r.3)

-- THE DISKS BEFORE: the own blocks of the disks whose origin was held before a moment.
abbrev below : ℕ → (Ptr → ℕ) → List Disk → ℕ
below t w ds = sum (λ d. cond (ltb (since d.from) t) (own w d) 0) ds

below_total : (t : ℕ) (w : Ptr → ℕ) (ds : List Disk) → below t w ds ≤ total w ds
below_total t w [] = omega arith
below_total t w (d ∷ ds) = let again = below_total t w ds in grind (arith, nat_tests)

below-mono : (s t : ℕ) (w : Ptr → ℕ) (ds : List Disk) → s ≤ t → below s w ds ≤ below t w ds
below-mono s t w [] h = omega arith
below-mono s t w (d ∷ ds) h = let again = below-mono s t w ds h in grind (arith, nat_tests)

below_step : (t : ℕ) (w : Ptr → ℕ) (d : Disk) (ds : List Disk) → Memᴰ d ds → since d.from < t → own w d + below (since d.from) w ds ≤ below t w ds
below_step t w d [] m h = elim m [ ]
below_step t w d (x ∷ ds) (Memᴰ.head e) h = grind (arith, nat_tests, below-mono)
below_step t w d (x ∷ ds) (Memᴰ.tail m) h = let again = below_step t w d ds m h in grind (arith, nat_tests)

abbrev Ok : (now names : ℕ) → List Disk → Disk → Type 0
Ok now names ds d = DiskOk now names (base ds d.from) d

-- what comes before a disk's oldest version is among the own blocks of the disks before
base-bound : (now names : ℕ) (ds : List Disk) → AllByRecursion (Ok now names ds) ds → (w : Ptr → ℕ) (n : ℕ) (d : Disk) → Memᴰ d ds → since d.from < n →
    sum w (shown_by (base ds d.from).shows) ≤ below (since d.from) w ds
base-bound now names ds all w zero d m lt = absurd (omega arith)
base-bound now names ds all w (suc n) d m lt = go d.from (all-mem _ d ds all m).origin (λ e. base-bound now names ds all w n e) lt
  where
    go : (f : Option HoldHead) → Known names f (base ds f) → ((e : Disk) → Memᴰ e ds → since e.from < n → sum w (shown_by (base ds e.from).shows) ≤ below (since e.from) w ds) →
        since f < suc n → sum w (shown_by (base ds f).shows) ≤ below (since f) w ds
    go None known again l = omega arith
    go (Some o) known again l = in-disk (find o.name ds) refl known.2
      where
        in-disk : (f : Option Past) → find o.name ds ≡ f → o.moment ≡ (past_of f).moment → sum w (shown_by (past_of f).shows) ≤ below o.moment w ds
        in-disk None q mo = omega arith
        in-disk (Some p) q mo =
            let r = find-mem o.name ds p q in
            let e = r.0 in
            let h = found-hold o.name e.holds p r.2 in
            let b = hold-bound now names w (since e.from) (base ds e.from).shows e.holds e.shows e.gone h.0 (all-mem _ e ds all r.1).line h.1 in
            let t : h.0.moment ≡ p.moment = ap (λ (x : Past). x.moment) h.2 in
            let s : sum w (shown_by h.0.shows) ≡ sum w (shown_by p.shows) = ap (λ (x : Past). sum w (shown_by x.shows)) h.2 in
            omega (arith, b.0, b.1, s, again e r.1 (omega (arith, b.0, mo, t)), below_step o.moment w e ds r.1 (omega (arith, b.0, mo, t)))

module _ (v : Volume) (inv : Sound v) where
  -- what a disk's versions show is among all own blocks
  pub disk-within : (d : Disk) → Memᴰ d v.disks → (w : Ptr → ℕ) → own w d + sum w (shown_by (base v.disks d.from).shows) ≤ total w v.disks
  disk-within d m w =
      omega (arith, base-bound v.moment v.names v.disks inv.each w (suc (since d.from)) d m (omega arith), below_step (suc (since d.from)) w d v.disks m (omega arith), below_total (suc (since d.from)) w v.disks)

  pub line_of : (d : Disk) → Memᴰ d v.disks → Line v.moment v.names (since d.from) (base v.disks d.from).shows d.holds d.shows d.gone
  line_of d m = (all-mem _ d v.disks inv.each m).line

  pub present-within : (d : Disk) → Memᴰ d v.disks → (w : Ptr → ℕ) → sum w (shown_by d.shows) ≤ total w v.disks
  present-within d m w = omega (arith, disk-within d m w, line-bound v.moment v.names w (since d.from) (base v.disks d.from).shows d.holds d.shows d.gone (line_of d m))

  pub hold-within : (d : Disk) (h : Hold) → Memᴰ d v.disks → Memᴰ h d.holds → (w : Ptr → ℕ) → sum w (shown_by h.shows) ≤ total w v.disks
  hold-within d h m mh w = omega (arith, disk-within d m w, (hold-bound v.moment v.names w (since d.from) (base v.disks d.from).shows d.holds d.shows d.gone h (line_of d m) mh).1)

  counted-used : (b : ℕ) → 1 ≤ total (is b) v.disks → used_at b v.uses ≡ true
  counted-used b l = grind (arith, nat_tests)

  pub shown-used : (b : ℕ) → Shown v b → used_at b v.uses ≡ true
  shown-used b (by_disk d s p m h e) = counted-used b (omega (arith, present-within d m (is b), in-map-sum b d.shows (s, p, h, e)))
  shown-used b (by_hold d k s p m mk h e) = counted-used b (omega (arith, hold-within d k m mk (is b), in-map-sum b k.shows (s, p, h, e)))

  -- a block that is some version's own is shown by it
  own-shown : (b k : ℕ) (q : Map) (hs : List Hold) (m : Map) (g : List Ptr) → Line v.moment v.names k q hs m g → 1 ≤ own_in (is b) k hs m → Shows m b ⊎ ((h : Hold) × Memᴰ h hs × Shows h.shows b)
  own-shown b k q [] m g ok l = inl (sum-in-map b m ok.rises (omega (arith, split k (is b) (shown_by m))))
  own-shown b k q (h ∷ hs) m g ok l = go (own-shown b h.moment h.shows hs m g ok.1) (cases_lt 0 (sum (young k (is b)) (shown_by h.shows)))
    where
      go : (1 ≤ own_in (is b) h.moment hs m → Shows m b ⊎ ((c : Hold) × Memᴰ c hs × Shows c.shows b)) → (0 < sum (young k (is b)) (shown_by h.shows)) ⊎ (sum (young k (is b)) (shown_by h.shows) ≤ 0) →
          Shows m b ⊎ ((c : Hold) × Memᴰ c (h ∷ hs) × Shows c.shows b)
      go again (inl lt) = inr (h, Memᴰ.head refl, sum-in-map b h.shows ok.0.version.rises (omega (arith, split k (is b) (shown_by h.shows))))
      go again (inr le) = ⊎_elim (λ x. inl x) (λ (c, mc, x). inr (c, Memᴰ.tail mc, x)) (again (omega arith))

  own_of : (b : ℕ) (ds : List Disk) → 1 ≤ total (is b) ds → (d : Disk) × Memᴰ d ds × (1 ≤ own (is b) d)
  own_of b [] l = absurd (omega arith)
  own_of b (d ∷ ds) l = go (own_of b ds) (cases_lt 0 (own (is b) d))
    where
      go : (1 ≤ total (is b) ds → (e : Disk) × Memᴰ e ds × (1 ≤ own (is b) e)) → (0 < own (is b) d) ⊎ (own (is b) d ≤ 0) → (e : Disk) × Memᴰ e (d ∷ ds) × (1 ≤ own (is b) e)
      go again (inl lt) = (d, Memᴰ.head refl, lt)
      go again (inr le) = let r = again (omega arith) in (r.0, Memᴰ.tail r.1, r.2)

  pub used-shown : (b : ℕ) → used_at b v.uses ≡ true → Shown v b
  used-shown b u =
      let one : bit (used_at b v.uses) ≡ 1 = ap bit u in
      let r = own_of b v.disks (omega (arith, inv.counts b, one)) in
      let d = r.0 in
      ⊎_elim (λ (s, p, h, e). by_disk d s p r.1 h e) (λ (c, mc, (s, p, h, e)). by_hold d c s p r.1 mc h e)
      (own-shown b (since d.from) (base v.disks d.from).shows d.holds d.shows d.gone (line_of d r.1) r.2)

  -- COUNTED from nothing
  has_in : (b : ℕ) (m : Map) → slots_rise m ≡ true → has b (shown_by m) ≡ true → Shows m b
  has_in b m rises h = sum-in-map b m rises (ltb-true 0 (sum (is b) (shown_by m)) h)

  in-has : (b : ℕ) (m : Map) → Shows m b → has b (shown_by m) ≡ true
  in-has b m x = lt-ltb 0 (sum (is b) (shown_by m)) (in-map-sum b m x)

  present-rises : (d : Disk) → Memᴰ d v.disks → slots_rise d.shows ≡ true
  present-rises d m = line-rises v.moment v.names (since d.from) (base v.disks d.from).shows d.holds d.shows d.gone (line_of d m)

  pub hold-rises : (d : Disk) (h : Hold) → Memᴰ d v.disks → Memᴰ h d.holds → slots_rise h.shows ≡ true
  hold-rises d h m mh = (hold-bound v.moment v.names (λ _. 0) (since d.from) (base v.disks d.from).shows d.holds d.shows d.gone h (line_of d m) mh).2

  holds-shown : (b : ℕ) (d : Disk) → Memᴰ d v.disks → (hs : List Hold) → ((h : Hold) → Memᴰ h hs → Memᴰ h d.holds) → in_holds b hs ≡ true → Shown v b
  holds-shown b d m [] f e = absurd cc
  holds-shown b d m (h ∷ hs) f e =
      ⊎_elim (λ x. let (s, p, l, q) = has_in b h.shows (hold-rises d h m (f h (Memᴰ.head refl))) x in by_hold d h s p m (f h (Memᴰ.head refl)) l q)
      (λ x. holds-shown b d m hs (λ k n. f k (Memᴰ.tail n)) x) (or_cases (has b (shown_by h.shows)) (in_holds b hs) e)

  recount-shown : (b : ℕ) (ds : List Disk) → ((d : Disk) → Memᴰ d ds → Memᴰ d v.disks) → recount b ds ≡ true → Shown v b
  recount-shown b [] f e = absurd cc
  recount-shown b (d ∷ ds) f e =
      let m = f d (Memᴰ.head refl) in
      ⊎_elim
      (λ x. ⊎_elim (λ y. let (s, p, l, q) = has_in b d.shows (present-rises d m) y in by_disk d s p m l q) (λ y. holds-shown b d m d.holds (λ _ n. n) y) (or_cases (has b (shown_by d.shows)) (in_holds b d.holds) x))
      (λ x. recount-shown b ds (λ k n. f k (Memᴰ.tail n)) x) (or_cases (has b (shown_by d.shows) || in_holds b d.holds) (recount b ds) e)

  in-holds : (b : ℕ) (h : Hold) (hs : List Hold) → Memᴰ h hs → has b (shown_by h.shows) ≡ true → in_holds b hs ≡ true
  in-holds b h [] m e = elim m [ ]
  in-holds b h (x ∷ hs) (Memᴰ.head q) e = or_left _ _ (rw q at e)
  in-holds b h (x ∷ hs) (Memᴰ.tail m) e = or_right _ _ (in-holds b h hs m e)

  in-disks : (b : ℕ) (d : Disk) (ds : List Disk) → Memᴰ d ds → (has b (shown_by d.shows) || in_holds b d.holds) ≡ true → recount b ds ≡ true
  in-disks b d [] m e = elim m [ ]
  in-disks b d (x ∷ ds) (Memᴰ.head q) e = or_left _ _ (rw q at e)
  in-disks b d (x ∷ ds) (Memᴰ.tail m) e = or_right _ _ (in-disks b d ds m e)

  shown-recount : (b : ℕ) → Shown v b → recount b v.disks ≡ true
  shown-recount b h = grind (arith, nat_tests, in-disks, in-has, in-holds, or_left, or_right)

  inside : (b : ℕ) → used_at b v.uses ≡ true → (first_block ≤ b) × (b < length v.uses)
  inside b u = grind (arith, nat_tests)

  pub exact : (b : ℕ) → Exact v b
  exact b =
      record {
        shown = used-shown b;
        used = shown-used b;
        counted = same_from_decides (used_at b v.uses) (recount b v.disks) (used-shown b, shown-used b) (recount-shown b v.disks (λ _ n. n), shown-recount b);
        inside = inside b;
      }
