-- Holds stay.
use Rattle.std.proofs.lemmas.Bool.Decides.{nat_tests}
use Rattle.std.proofs.Common.{◌≡◌, ℕ, ◌<◌, true, cond, eqb, List, [], ◌∷◌, length, Some, Option, sym, refl, ap, ◌∙◌, subst, arith}
use mathlib.Core.List.{Memᴰ}
use Rattle.model.specs.Blocks.{used_at, is_used}
use Rattle.std.specs.List.{AllByRecursion}
use Rattle.std.proofs.lemmas.List.{nil_from_length}
use Rattle.std.proofs.lemmas.Bool.{eqb-true, ne_eqb, not-false, true≢false}
use Rattle.model.specs.Calls.{Call, release}
use Rattle.model.specs.Exactly.{by_hold}
use Rattle.model.specs.Holds.{Past, past, find}
use Rattle.model.specs.Maps.{look_in, Map}
use Rattle.model.specs.Runs.{reasons, does, step, run}
use Rattle.model.specs.Sound.{Sound, Line}
use Rattle.model.specs.Stays.{HoldsStay}
use Rattle.model.specs.Steps.{showing, slot_for}
use Rattle.model.specs.Steps.{Change, Put, change_at, changes_at, holds_at, start}
use Rattle.model.specs.Store.{Bytes, laid, Store, play, plays, stored}
use Rattle.model.specs.Volume.{Hold, Disk, Volume, disk_at}
use Rattle.model.specs.declared.types.Mark.{Mark}
use Rattle.model.specs.declared.types.Ptr.{Ptr}
use Rattle.model.specs.declared.types.Slot.TheVariants.{At}
use Rattle.model.proofs.Disks.{disk-there, holder-there, hold-there, hold-name, find-set, find-push, find-removed, find-mem}
use Rattle.model.proofs.Lines.{held-finds, release-finds}
use Rattle.model.proofs.Shows.{found-hold, shown-used, line_of}
use Rattle.model.proofs.Steps.{NoneApplies, by-step, changes-there, step-sound, reached-sound}
use Rattle.model.proofs.Told.{puts-in}

-- THE HOLD OF A NAME, after each call but its release
changes-find : (i : ℕ) (cs : List Change) (v : Volume) (x : ℕ) → i < length v.disks → find x (changes_at i cs v).disks ≡ find x v.disks
changes-find i [] v x lt = refl
changes-find i (c ∷ cs) v x lt =
    changes-find i cs (change_at i c v) x (rw (changes-there i (c ∷ []) v) lt) ∙ find-set x v.disks i (showing c.slot (slot_for c.bytes v) (disk_at i v.disks)) refl

pub changes-names : (i : ℕ) (cs : List Change) (v : Volume) → (changes_at i cs v).names ≡ v.names
changes-names i [] v = refl
changes-names i (c ∷ cs) v = changes-names i cs (change_at i c v)

hold-finds : (i : ℕ) (v : Volume) (m : Option Mark) (x : ℕ) → (x ≡ v.names → ⊥) → find x (holds_at i m v).disks ≡ find x v.disks
hold-finds i v m x ne = grind (arith, nat_tests, find-set, held-finds)

does-finds : (c : Call) (v : Volume) (x : ℕ) → NoneApplies (reasons c v) → x < v.names → (c ≡ release x → ⊥) → find x (does c v).leaves.disks ≡ find x v.disks
does-finds c v x no' lt ne = grind (arith, nat_tests, changes-find, changes-names, disk-there, eqb-true, find-push, find-removed, find-set, hold-finds, hold-name, hold-there, holder-there, nil_from_length, not-false, release-finds)

pub step-finds : (c : Call) (v : Volume) (x : ℕ) → x < v.names → (c ≡ release x → ⊥) → find x (step c v).leaves.disks ≡ find x v.disks
step-finds c v x lt ne = by-step (λ y. find x y.leaves.disks ≡ find x v.disks) c v (λ r _. refl) (λ no'. does-finds c v x no' lt ne)

-- a name that is found was given
pub found_in : (v : Volume) → Sound v → (x : ℕ) (p : Past) → find x v.disks ≡ Some p → (d : Disk) × (h : Hold) × Memᴰ d v.disks × Memᴰ h d.holds × (past h ≡ p) × (h.name ≡ x)
found_in v inv x p e = grind (arith, nat_tests, find-mem, found-hold)

holds-below : (now names k : ℕ) (q : Map) (hs : List Hold) (m : Map) (g : List Ptr) (h : Hold) → Line now names k q hs m g → Memᴰ h hs → h.name < names
holds-below now names k q [] m g h ok x = elim x [ ]
holds-below now names k q (c ∷ hs) m g h ok (Memᴰ.head e) = omega (arith, ok.0.name, ap (λ (y : Hold). y.name) e)
holds-below now names k q (c ∷ hs) m g h ok (Memᴰ.tail x) = holds-below now names c.moment c.shows hs m g h ok.1 x

pub found_below : (v : Volume) → Sound v → (x : ℕ) (p : Past) → find x v.disks ≡ Some p → x < v.names
found_below v inv x p e = grind (arith, nat_tests, found_in, holds-below, line_of)

-- THE BYTES of a block that isn't written
pub laid-other : (ps : List Put) (f : Bytes) (b : ℕ) → ((p : Put) → Memᴰ p ps → p.block ≡ b → ⊥) → laid ps f b ≡ f b
laid-other [] f b h = refl
laid-other (p ∷ ps) f b h = laid-other ps (λ c. cond (eqb p.block c) p.bytes (f c)) b (λ q m. h q (Memᴰ.tail m)) ∙ ap (λ t. cond t p.bytes (f b)) (ne_eqb p.block b (h p (Memᴰ.head refl)))

pub used-bytes : (c : Call) (s : Store) → Sound s.volume → (b : ℕ) → used_at b s.volume.uses ≡ true → (play c s).bytes b ≡ s.bytes b
used-bytes c s inv b u = laid-other (step c s.volume).puts s.bytes b (λ p m e. true≢false (sym u ∙ ap (λ n. used_at n s.volume.uses) (sym e) ∙ ap is_used (puts-in c s.volume inv p m).0))

shown-by-hold : (v : Volume) → Sound v → (x : ℕ) (p : Past) → find x v.disks ≡ Some p → (j : ℕ) (r : Ptr) → look_in j p.shows ≡ At r → used_at r.block v.uses ≡ true
shown-by-hold v inv x p e j r l =
    let (d, h, m, mh, q, n) = found_in v inv x p e in
    shown-used v inv r.block (by_hold d h j r m mh (ap (λ (y : Past). look_in j y.shows) q ∙ l) refl)

stays : (more : List Call) (s : Store) → Sound s.volume → (x : ℕ) (p : Past) → find x s.volume.disks ≡ Some p → AllByRecursion (λ c. c ≡ release x → ⊥) more →
    (find x (plays more s).volume.disks ≡ Some p) × ((j : ℕ) (r : Ptr) → look_in j p.shows ≡ At r → (plays more s).bytes r.block ≡ s.bytes r.block)
stays [] s inv x p e others = (e, λ j r l. refl)
stays (c ∷ more) s inv x p e others =
    let v = s.volume in
    let e' = step-finds c v x (found_below v inv x p e) others.0 ∙ e in
    let again = stays more (play c s) (step-sound c v inv) x p e' others.1 in
    (again.0, λ j r l. again.1 j r l ∙ used-bytes c s inv r.block (shown-by-hold v inv x p e j r l))

-- a store's volume is what calls lead to
pub plays-volume : (cs : List Call) (s : Store) → (plays cs s).volume ≡ run cs s.volume
plays-volume [] s = refl
plays-volume (c ∷ cs) s = plays-volume cs (play c s)

pub stored-sound : (n number : ℕ) (f : Bytes) (calls : List Call) → Sound (stored n number f calls).volume
stored-sound n number f calls = subst Sound (sym (plays-volume calls (record { volume = start n number; bytes = f }))) (reached-sound n number calls)

pub holds-stay : HoldsStay
holds-stay n number f calls more x p e others = stays more (stored n number f calls) (stored-sound n number f calls) x p e others
