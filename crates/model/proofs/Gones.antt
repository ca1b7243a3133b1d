-- The lists of gone blocks are right.
use Rattle.std.proofs.lemmas.Bool.Decides.{nat_tests}
use Rattle.std.proofs.Common.{◌≡◌, ℕ, zero, suc, ◌+◌, ◌≤◌, Bool, true, false, eqb, List, [], ◌∷◌, length, Some, Option, refl, subst, arith}
use mathlib.Core.List.Memᴰ
use Rattle.std.proofs.lemmas.Bool.{eqb-true}
use Rattle.model.specs.Blocks.{is, used_at}
use Rattle.model.specs.Gone.{Has, Lists, map_at, map_before, GoneRight}
use Rattle.model.specs.Holds.{Past, find, base}
use Rattle.model.specs.Maps.{Map, shown_by, slots_rise}
use Rattle.model.specs.Runs.{reached}
use Rattle.model.specs.Sound.{young, Link, Line, own_in, Known, Sound}
use Rattle.model.specs.Steps.{gone_at}
use Rattle.model.specs.Sums.{bit, sum}
use Rattle.model.specs.Volume.{Hold, Volume, since}
use Rattle.model.specs.declared.types.HoldHead.{HoldHead}
use Rattle.model.specs.declared.types.Ptr.{Ptr}
use Rattle.model.proofs.Disks.{all-mem}
use Rattle.model.proofs.Maps.{rise-none}
use Rattle.model.proofs.Shows.{in-map-sum, sum-in-map, disk-within, line_of}
use Rattle.model.proofs.Shows.{hold-rises}
use Rattle.model.proofs.Stays.{found_in}
use Rattle.model.proofs.Steps.{reached-sound}
use Rattle.model.proofs.Sums.{split, bit-most}

-- a list has a block, counted
has-sum : (b : ℕ) (g : List Ptr) → Has g b → 1 ≤ sum (is b) g
has-sum b [] (p, m, e) = elim m [ ]
has-sum b (x ∷ g) (p, Memᴰ.head q, e) = grind (arith, nat_tests)
has-sum b (x ∷ g) (p, Memᴰ.tail m, e) = omega (arith, has-sum b g (p, m, e))

sum-has : (b : ℕ) (g : List Ptr) → 1 ≤ sum (is b) g → Has g b
sum-has b [] l = absurd (omega arith)
sum-has b (x ∷ g) l = go (eqb x.block b) refl (sum-has b g) l
  where
    go : (t : Bool) → eqb x.block b ≡ t → (1 ≤ sum (is b) g → Has g b) → 1 ≤ bit t + sum (is b) g → Has (x ∷ g) b
    go true e again k = (x, Memᴰ.head refl, eqb-true x.block b e)
    go false e again k = let r = again (omega arith) in (r.0, Memᴰ.tail r.1, r.2)

-- a link, where a block is one version's own or the version before's, once
link-lists : (k : ℕ) (q m : Map) (g : List Ptr) (b : ℕ) → slots_rise q ≡ true → slots_rise m ≡ true → Link k q m g → sum (young k (is b)) (shown_by m) + sum (is b) (shown_by q) ≤ 1 → Lists q m g b
link-lists k q m g b rq rm link one = grind (arith, nat_tests, has-sum, in-map-sum, split, sum-has, sum-in-map)

-- a version of a line: its link, and what it and the one before come to
pub record Placed (w : Ptr → ℕ) (k : ℕ) (q : Map) (hs : List Hold) (m : Map) (g : List Ptr) (j : ℕ) : Type 0 where
  pub moment : ℕ
  pub link : Link moment (map_before q j hs) (map_at j hs m) (gone_at j hs g)
  pub before : slots_rise (map_before q j hs) ≡ true
  pub here : slots_rise (map_at j hs m) ≡ true
  pub within : sum (young moment w) (shown_by (map_at j hs m)) + sum w (shown_by (map_before q j hs)) ≤ own_in w k hs m + sum w (shown_by q)

placed : (now names : ℕ) (w : Ptr → ℕ) (k : ℕ) (q : Map) (hs : List Hold) (m : Map) (g : List Ptr) (j : ℕ) → slots_rise q ≡ true → j ≤ length hs → Line now names k q hs m g → Placed w k q hs m g j
placed now names w k q [] m g zero rq le ok = record { moment = k; link = ok.link; before = rq; here = ok.rises; within = omega arith }
placed now names w k q [] m g (suc j) rq le ok = absurd (omega arith)
placed now names w k q (h ∷ hs) m g zero rq le ok = record { moment = k; link = ok.0.version.link; before = rq; here = ok.0.version.rises; within = omega arith }
placed now names w k q (h ∷ hs) m g (suc j) rq le ok =
    let r = placed now names w h.moment h.shows hs m g j ok.0.version.rises (omega arith) ok.1 in
    let l = ok.0.version.link w in
    let s = split k w (shown_by h.shows) in
    record { moment = r.moment; link = r.link; before = r.before; here = r.here; within = omega (arith, r.within) }

-- the hold that a disk was copied from is there
origin-found : (v : Volume) → Sound v → (o : HoldHead) → Known v.names (Some o) (base v.disks (Some o)) → (p : Past) × (find o.name v.disks ≡ Some p) × (p.moment ≡ o.moment)
origin-found v inv o known = grind (arith, nat_tests)

pub base-rises : (v : Volume) → Sound v → (f : Option HoldHead) → slots_rise (base v.disks f).shows ≡ true
base-rises v inv f = grind (arith, nat_tests, found_in, hold-rises, rise-none)

pub gone-right : GoneRight
gone-right n number calls d m =
    let v = reached n number calls in
    let inv = reached-sound n number calls in
    let q = (base v.disks d.from).shows in
    record {
      lists = λ j b le.
          let r = placed v.moment v.names (is b) (since d.from) q d.holds d.shows d.gone j (base-rises v inv d.from) le (line_of v inv d m) in
          link-lists r.moment (map_before q j d.holds) (map_at j d.holds d.shows) (gone_at j d.holds d.gone) b r.before r.here r.link
          (omega (arith, r.within, disk-within v inv d m (is b), inv.counts b, bit-most (used_at b v.uses)));
      origin = λ o e. origin-found v inv o (subst (λ f. Known v.names f (base v.disks f)) e (all-mem _ d v.disks inv.each m).origin);
    }
