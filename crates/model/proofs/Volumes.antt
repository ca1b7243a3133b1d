-- Each step keeps what holds of a volume.
use Rattle.std.proofs.Common.{◌≡◌, ℕ, suc, ◌+◌, ◌-◌, ◌<◌, ◌≤◌, true, false, ◌||◌, ltb, leb, List, [], ◌∷◌, ◌++◌, length, set, Some, None, Option, sym, refl, ap, ◌∙◌, arith}
use Rattle.std.specs.List.{remove, AllByRecursion}
use Rattle.std.proofs.ByRecursion.{All-weaker, All-set, All-get_or, All-push}
use Rattle.std.proofs.lemmas.List.{length-map}
use Rattle.std.proofs.lemmas.Bool.{eqb-false, ne_eqb}
use Rattle.std.proofs.lemmas.Bool.Decides.{nat_tests}
use Rattle.rules.specs.Limits.{first_block, most_slots}
use Rattle.model.specs.Blocks.{frees, is, free_all, used_by}
use Rattle.model.specs.Holds.{Past, past, find, find_hold, past_of, base, named, names_in}
use Rattle.model.specs.Maps.{Map, shown_in, shown_by, rising}
use Rattle.model.specs.Sound.{Line, own, own_in, Known, DiskOk, Sound}
use Rattle.model.specs.Steps.{changed, leaving, showing, show_at, hold_of, held, holds_at, freed_by, joined, released, release_at, fresh, grown, origin_of, freed_with, drop_at, synced, start}
use Rattle.model.specs.Sums.{bit, sum}
use Rattle.model.specs.Volume.{Hold, Disk, Volume, blank, no_hold, disk_at, hold_at, hold_named, holder_of, copy_of, since, moment_last}
use Rattle.model.specs.declared.types.HoldHead.{HoldHead}
use Rattle.model.specs.declared.types.Mark.{Mark}
use Rattle.model.specs.declared.types.Ptr.{Ptr}
use Rattle.model.specs.declared.types.Slot.{Slot}
use Rattle.model.specs.declared.types.Slot.TheVariants.{Empty}
use Rattle.model.proofs.Blocks.{use-renew, used-renew, reserved-renew, length-unused, nothing-used, first-reserved}
use Rattle.model.proofs.Disks.{all_both, all-removed, disk_names, names-set, rise-end, rise-push, rise-removed, find-set, find-push, find-removed, find-named, base_same, hold-name, hold-there}
use Rattle.model.proofs.Lines.{line-later, Born, show-line, show-own, show-within, held-line, held-own, held-finds, release-line, release-own, release-finds, sum-gone, hold-in, self-version, new_line}
use Rattle.model.proofs.Maps.{rise-none, rise-parts, rise-from}
use Rattle.model.proofs.Sums.{sum-push, sum-set, sum-removed, sum-at, sum-frees, young-none}
use Rattle.model.proofs.Tables.{Usable, InUse, length-table, table-counts, table-reserved}

-- the moment and the names grow
known-later : (names names' : ℕ) (f : Option HoldHead) (q : Past) → names ≤ names' → Known names f q → Known names' f q
known-later names names' f q le k = grind (arith, nat_tests)

pub disk-later : (now now' names names' : ℕ) (q : Past) (d : Disk) → now ≤ now' → names ≤ names' → DiskOk now names q d → DiskOk now' names' q d
disk-later now now' names names' q d a b ok = grind (arith, nat_tests, known-later, line-later)

-- names that were given are below the next
hold-names : (names x : ℕ) (hs : List Hold) → names ≤ x → AllByRecursion (λ h. h.name < names) hs → sum (λ h. named x h.name) hs ≡ 0
hold-names names x [] le a = refl
hold-names names x (h ∷ hs) le a = let here : named x h.name ≡ 0 = ap bit (ne_eqb h.name x (λ e. omega (arith, a.0))) in omega (arith, here, hold-names names x hs le a.1)

line-names : (now names k : ℕ) (q : Map) (hs : List Hold) (m : Map) (g : List Ptr) → Line now names k q hs m g → AllByRecursion (λ h. h.name < names) hs
line-names now names k q [] m g ok = tt
line-names now names k q (h ∷ hs) m g ok = (ok.0.name, line-names now names h.moment h.shows hs m g ok.1)

no_name : (now names n x : ℕ) (base' : Option HoldHead → Past) (ds : List Disk) → names ≤ x → AllByRecursion (λ d. DiskOk now names (base' d.from) d) ds → rising names n (disk_names ds) ≡ true → sum (names_in x) ds ≡ 0
no_name now names n x base' [] le all h = refl
no_name now names n x base' (d ∷ ds) le all h =
    let p = rise-parts names n d.name (disk_names ds) h in
    let here : named x d.name ≡ 0 = ap bit (ne_eqb d.name x (λ e. omega (arith, p.1))) in
    let there = line-names now names (since d.from) (base' d.from).shows d.holds d.shows d.gone all.0.line in
    omega (arith, here, hold-names names x d.holds le there, no_name now names (suc d.name) x base' ds le all.1 p.2)

-- one name more, or a name less
more-once : (names x a b : ℕ) → a ≤ 1 → (x ≡ names → a ≡ 0) → b ≡ a + named x names → b ≤ 1
more-once names x a b one none e = grind (arith, nat_tests)

-- ONE DISK is changed: fs becomes free, and the block of x is taken into use. K: the origins that are found as before.
pub record Turn (v : Volume) (i : ℕ) (d : Disk) (names : ℕ) (x : Slot) (fs : List Ptr) (K : Option HoldHead → Type 0) : Type 0 where
  pub name : d.name ≡ (disk_at i v.disks).name
  pub more : v.names ≤ names
  pub kept : AllByRecursion (λ e. K e.from) v.disks
  pub here : K d.from
  pub finds : (o : HoldHead) → K (Some o) → find_hold o.name d.holds ≡ find_hold o.name (disk_at i v.disks).holds
  pub ok : DiskOk (v.moment + 1) names (base v.disks d.from) d
  pub once : (y : ℕ) → sum (names_in y) (set v.disks i d) ≤ 1
  pub owns : (w : Ptr → ℕ) → own w d + sum w fs ≡ own w (disk_at i v.disks) + sum w (shown_in x)
  pub within : (w : Ptr → ℕ) → sum w fs ≤ own w (disk_at i v.disks)
  pub usable : Usable x v.uses

module _ (v : Volume) (inv : Sound v) where
  -- what a disk's own blocks are, is in use
  pub own-used : (i : ℕ) → i < length v.disks → (fs : List Ptr) → ((w : Ptr → ℕ) → sum w fs ≤ own w (disk_at i v.disks)) → InUse fs v.uses
  own-used i lt fs within c = omega (arith, within (is c), sum-at (own (is c)) v.disks i blank lt, inv.counts c)

  pub turn-sound : (i : ℕ) → i < length v.disks → (d : Disk) (names : ℕ) (x : Slot) (fs : List Ptr) (K : Option HoldHead → Type 0) → Turn v i d names x fs K →
      Sound (changed i d names (used_by x (free_all fs v.uses)) v)
  turn-sound i lt d names x fs K t =
      let ds = v.disks in
      let P : Disk → Type 0 = λ e. K e.from × DiskOk (v.moment + 1) names (base ds e.from) e in
      let used = own-used i lt fs t.within in
      record {
        each = All-weaker P _ (λ e p. rw (base_same ds (set ds i d) K (λ o k. find-set o.name ds i d (t.finds o k)) e.from p.0) p.1) (set ds i d)
            (All-set P ds i d (t.here, t.ok)
            (All-weaker _ P (λ e p. (p.0, disk-later v.moment (v.moment + 1) v.names names (base ds e.from) e (omega arith) t.more p.1)) ds (all_both _ _ ds t.kept inv.each)));
        begun = omega (arith, inv.begun, t.more);
        order = rw (names-set ds i d t.name) (rise-end v.names names 0 (disk_names ds) t.more inv.order);
        once = t.once;
        counts = λ c. omega (arith, t.owns (is c), sum-set (own (is c)) ds i d blank lt, table-counts c x fs v.uses t.usable used, inv.counts c);
        reserved = λ c. rw (length-table x fs v.uses) (table-reserved x fs v.uses t.usable used c ∙ inv.reserved c);
      }

  -- names that are as before
  same_names : (i : ℕ) → i < length v.disks → (d : Disk) → ((y : ℕ) → names_in y d ≤ names_in y (disk_at i v.disks)) → (y : ℕ) → sum (names_in y) (set v.disks i d) ≤ 1
  same_names i lt d h y = omega (arith, h y, sum-set (names_in y) v.disks i d blank lt, inv.once y)

  pub disk-ok : (i : ℕ) → i < length v.disks → DiskOk v.moment v.names (base v.disks (disk_at i v.disks).from) (disk_at i v.disks)
  disk-ok i lt = All-get_or _ v.disks i blank lt inv.each

  abbrev Any : Option HoldHead → Type 0
  Any f = Unit {0}

  all_any : AllByRecursion (λ e. Any e.from) v.disks
  all_any = All-weaker _ _ (λ e _. tt) v.disks inv.each

  -- a slot shows a block that may be used, born at this moment, or nothing
  pub show-sound : (i s : ℕ) (x : Slot) → i < length v.disks → s < most_slots → Born v.moment x → Usable x v.uses → Sound (show_at i s x v)
  show-sound i s x lt small born usable =
      let d = disk_at i v.disks in
      let k = since d.from in
      let q = (base v.disks d.from).shows in
      let ok = disk-ok i lt in
      turn-sound i lt (showing s x d) v.names x (frees (moment_last d) (leaving s d)) Any
      (record {
        name = refl;
        more = omega arith;
        kept = all_any;
        here = tt;
        finds = λ o _. refl;
        ok = record { origin = ok.origin; line = show-line v.moment v.names s x small born k q d.holds d.shows d.gone ok.line };
        once = same_names i lt (showing s x d) (λ y. omega arith);
        owns = λ w. show-own v.moment v.names s x small born w k q d.holds d.shows d.gone ok.line;
        within = λ w. show-within w s k d.holds d.shows;
        usable = usable;
      })

  -- a disk is held
  abbrev Below : Option HoldHead → Type 0
  Below None = Unit {0}
  Below (Some o) = o.name < v.names

  below : (f : Option HoldHead) (q : Past) → Known v.names f q → Below f
  below f q k = grind (arith, nat_tests)

  pub unnamed : (y : ℕ) → v.names ≤ y → sum (names_in y) v.disks ≡ 0
  unnamed y le = no_name v.moment v.names 0 y (base v.disks) v.disks le inv.each inv.order

  pub hold-sound : (i : ℕ) (m : Option Mark) → i < length v.disks → Sound (holds_at i m v)
  unfolding free_all
  hold-sound i m lt =
      let d = disk_at i v.disks in
      let h : HoldHead = record { name = v.names; moment = v.moment } in
      let k = since d.from in
      let q = (base v.disks d.from).shows in
      let ok = disk-ok i lt in
      turn-sound i lt (held h m d) (v.names + 1) Empty [] Below
      (record {
        name = refl;
        more = omega arith;
        kept = All-weaker _ _ (λ e p. below e.from (base v.disks e.from) p.origin) v.disks inv.each;
        here = below d.from (base v.disks d.from) ok.origin;
        finds = λ o less. held-finds o.name v.moment v.names d.holds d.shows d.gone (λ e. omega (arith, less));
        ok = record {
          origin = known-later v.names (v.names + 1) d.from (base v.disks d.from) (omega arith) ok.origin;
          line = held-line v.moment v.names k q d.holds d.shows d.gone inv.begun ok.line;
        };
        once = λ y. more-once v.names y (sum (names_in y) v.disks) _ (inv.once y) (λ e. unnamed y (omega arith))
            (omega (arith, sum-set (names_in y) v.disks i (held h m d) blank lt, sum-push (λ (g : Hold). named y g.name) d.holds (hold_of h d)));
        owns = λ w. omega (arith, held-own w v.moment v.names k q d.holds d.shows d.gone ok.line);
        within = λ w. omega arith;
        usable = tt;
      })

  -- what becomes free by a release is the disk's own
  pub release-own-in : (i j : ℕ) → i < length v.disks → j < length (disk_at i v.disks).holds → (w : Ptr → ℕ) →
      own w (released j (disk_at i v.disks)) + sum w (freed_by j (disk_at i v.disks)) ≡ own w (disk_at i v.disks)
  release-own-in i j lt within w =
      let d = disk_at i v.disks in
      release-own w v.moment v.names (since d.from) (base v.disks d.from).shows j d.holds d.shows d.gone (joined j d) within (disk-ok i lt).line

  pub release-used : (i j : ℕ) → i < length v.disks → j < length (disk_at i v.disks).holds → InUse (freed_by j (disk_at i v.disks)) v.uses
  release-used i j lt within = own-used i lt (freed_by j (disk_at i v.disks)) (λ w. omega (arith, release-own-in i j lt within w))

  -- a hold is released, of which no disk is a copy
  pub release-sound : (i j : ℕ) → i < length v.disks → j < length (disk_at i v.disks).holds → AllByRecursion (λ e. copy_of (hold_at j (disk_at i v.disks).holds).name e.from ≡ false) v.disks → Sound (release_at i j v)
  release-sound i j lt within alone =
      let d = disk_at i v.disks in
      let n = (hold_at j d.holds).name in
      let k = since d.from in
      let q = (base v.disks d.from).shows in
      let ok = disk-ok i lt in
      let own' = release-own-in i j lt within in
      turn-sound i lt (released j d) v.names Empty (freed_by j d) (λ f. copy_of n f ≡ false)
      (record {
        name = refl;
        more = omega arith;
        kept = alone;
        here = All-get_or _ v.disks i blank lt alone;
        finds = λ o c. release-finds o.name j (joined j d) d.holds within (eqb-false o.name n c);
        ok = record {
          origin = ok.origin;
          line = line-later v.moment (v.moment + 1) v.names v.names k q (released j d).holds d.shows (released j d).gone (omega arith) (omega arith)
              (release-line v.moment v.names k q j d.holds d.shows d.gone within ok.line);
        };
        once = same_names i lt (released j d)
            (λ y. omega (arith, sum-gone (λ (h : Hold). named y h.name) (λ g h. refl) j (joined j d) (remove d.holds j), sum-removed (λ (h : Hold). named y h.name) d.holds j no_hold within));
        owns = λ w. omega (arith, own' w);
        within = λ w. omega (arith, own' w);
        usable = tt;
      })

  -- a disk without holds is dropped
  drop_own : (i : ℕ) → i < length v.disks → (disk_at i v.disks).holds ≡ [] → (w : Ptr → ℕ) → own w (disk_at i v.disks) ≡ sum w (freed_with (disk_at i v.disks))
  drop_own i lt bare w = grind (arith, nat_tests, sum-frees)

  pub drop-used : (i : ℕ) → i < length v.disks → (disk_at i v.disks).holds ≡ [] → InUse (freed_with (disk_at i v.disks)) v.uses
  drop-used i lt bare = own-used i lt (freed_with (disk_at i v.disks)) (λ w. omega (arith, drop_own i lt bare w))

  pub drop-sound : (i : ℕ) → i < length v.disks → (disk_at i v.disks).holds ≡ [] → Sound (drop_at i v)
  drop-sound i lt bare =
      let ds = v.disks in
      let d = disk_at i ds in
      let own' = drop_own i lt bare in
      let used = drop-used i lt bare in
      record {
        each = All-weaker _ _ (λ e ok. rw (base_same ds (remove ds i) Any (λ o _. find-removed o.name ds i lt bare) e.from tt) (disk-later v.moment (v.moment + 1) v.names v.names (base ds e.from) e (omega arith) (omega arith) ok)) (remove ds i)
            (all-removed _ ds i inv.each);
        begun = inv.begun;
        order = rise-removed v.names 0 ds i inv.order;
        once = λ y. omega (arith, sum-removed (names_in y) ds i blank lt, inv.once y);
        counts = λ c. omega (arith, own' (is c), inv.counts c, sum-removed (own (is c)) ds i blank lt, table-counts c Empty (freed_with d) v.uses tt used);
        reserved = λ c. rw (length-table Empty (freed_with d) v.uses) (table-reserved Empty (freed_with d) v.uses tt used c ∙ inv.reserved c);
      }

  -- one disk more
  grow-sound : (f : Option HoldHead) (m : Map) → Known v.names f (base v.disks f) → Line (v.moment + 1) (v.names + 1) (since f) (base v.disks f).shows [] m [] → ((w : Ptr → ℕ) → own_in w (since f) [] m ≡ 0) → Sound (grown f m v)
  grow-sound f m known line none =
      let ds = v.disks in
      let d = fresh v.names f m in
      record {
        each = All-weaker (λ e. DiskOk (v.moment + 1) (v.names + 1) (base ds e.from) e) _ (λ e ok. rw (base_same ds (ds ++ d ∷ []) Any (λ o _. find-push o.name ds d refl) e.from tt) ok) (ds ++ d ∷ [])
            (All-push _ ds d (All-weaker _ _ (λ e ok. disk-later v.moment (v.moment + 1) v.names (v.names + 1) (base ds e.from) e (omega arith) (omega arith) ok) ds inv.each)
            (record { origin = known-later v.names (v.names + 1) f (base ds f) (omega arith) known; line = line }));
        begun = omega arith;
        order = rise-push v.names 0 ds d (omega arith) refl inv.order;
        once = λ y. more-once v.names y (sum (names_in y) ds) _ (inv.once y) (λ e. unnamed y (omega arith)) (omega (arith, sum-push (names_in y) ds d));
        counts = λ c. omega (arith, inv.counts c, sum-push (own (is c)) ds d, none (is c));
        reserved = inv.reserved;
      }

  pub new-sound : Sound (grown None [] v)
  new-sound = grow-sound None [] tt (new_line (v.moment + 1) (v.names + 1) (omega arith)) (λ w. refl)

  pub copy-sound : (n : ℕ) → holder_of n v.disks < length v.disks → Sound (grown (origin_of (hold_named n v.disks)) (hold_named n v.disks).shows v)
  copy-sound n lt =
      let ds = v.disks in
      let d = disk_at (holder_of n ds) ds in
      let h = hold_named n ds in
      let ok = disk-ok (holder_of n ds) lt in
      let a = hold-in v.moment v.names (since d.from) (base ds d.from).shows _ d.holds d.shows d.gone (hold-there n ds lt) ok.line in
      let q : base ds (origin_of h) ≡ past h = ap (λ (x : ℕ). past_of (find x ds)) (hold-name n ds lt) ∙ ap past_of (find-named n ds lt) in
      grow-sound (origin_of h) h.shows (rw q (a.0, omega (arith, a.2), refl)) (rw q (self-version h.moment (v.moment + 1) h.shows (omega (arith, a.3)) a.4 a.5)) (λ w. young-none h.moment (shown_by h.shows) a.4 w)

  -- a sync
  pub sync-sound : Sound (synced v)
  sync-sound = grind (arith, nat_tests, length-map, reserved-renew, use-renew, used-renew)

-- as it is formatted
pub start-sound : (n number : ℕ) → Sound (start n number)
start-sound n number =
    record {
      each = (record { origin = tt; line = new_line 1 1 (omega arith) }, tt);
      begun = omega arith;
      order = rise-from 1 0 0 [] (omega arith) (omega arith) (rise-none 1 1);
      once = λ y. grind (arith, nat_tests);
      counts = λ b. sym (ap bit (nothing-used first_block (n - first_block) b));
      reserved = λ b. first-reserved first_block (n - first_block) b ∙ ap (λ k. ltb b first_block || leb k b) (sym (length-unused n));
    }
