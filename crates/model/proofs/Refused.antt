-- A call is refused by the lowest number that applies, and changes nothing then.
use Rattle.std.proofs.Common.{◌≡◌, ℕ, suc, ◌<◌, ◌≤◌, Bool, true, false, cond, List, [], ◌∷◌, map, Some, None, Ok, Err, Option, Result, sym, refl, ap, ◌∙◌, arith}
use Rattle.std.proofs.lemmas.Bool.Decides.{nat_tests}
use mathlib.Core.List.{Memᴰ}
use Rattle.std.proofs.lemmas.Bool.{true≢false}
use Rattle.rules.specs.Refusals.{number_of}
use Rattle.rules.specs.declared.refusal.Refusal.{Refusal}
use Rattle.model.specs.Calls.{Call, write, clear, hold, release, copy, new, drop, take, sync, Value, done, name, ask}
use Rattle.model.specs.Maps.{rising}
use Rattle.model.specs.Refusals.{Applies, Judgement}
use Rattle.model.specs.Runs.{Reason, told, reasons, refusal, does, decided}
use Rattle.model.specs.Volume.{Volume}
use Rattle.model.proofs.Maps.{rise-parts}

ok≢err : {X Y : Type 0} (a : X) (r : Y) → ◌≡◌ {A = Result X Y} (Ok a) (Err r) → ⊥
ok≢err a r e = cc

-- the numbers of each call's reasons rise
abbrev numbers : List Reason → List ℕ
numbers rs = map (λ (r : Reason). number_of r.0) rs

numbers-rise : (c : Call) (v : Volume) → rising 10 0 (numbers (reasons c v)) ≡ true
unfolding rising
numbers-rise c v = grind (arith, nat_tests)

-- each call that isn't refused has a value for an answer
pub answers : (c : Call) (v : Volume) → (a : Value) × ((does c v).answer ≡ Ok a)
answers (write d s bs) v = (done, refl)
answers (clear d s) v = (done, refl)
answers (hold d) v = (name v.names, refl)
answers (release h) v = (done, refl)
answers (copy h) v = (name v.names, refl)
answers new v = (name v.names, refl)
answers (drop d) v = (done, refl)
answers (take d st) v = (_, refl)
answers sync v = (done, refl)
answers (ask q) v = (told q v, refl)

-- the first that applies
abbrev pub In : Refusal → List Reason → Type 0
In r rs = Memᴰ (r, true) rs

first-applies : (rs : List Reason) (r : Refusal) → refusal rs ≡ Some r → In r rs
first-applies [] r e = absurd cc
first-applies (x ∷ rs) r e = go x.1 refl (first-applies rs r) e
  where
    go : (b : Bool) → x.1 ≡ b → (refusal rs ≡ Some r → In r rs) → cond b (Some x.0) (refusal rs) ≡ Some r → In r (x ∷ rs)
    go true q again h = let y : x.0 ≡ r = cc in Memᴰ.head (λ i. (sym y i, sym q i))
    go false q again h = Memᴰ.tail (again h)

above : (end n : ℕ) (rs : List Reason) (s : Refusal) → rising end n (numbers rs) ≡ true → In s rs → n ≤ number_of s
above end n [] s h m = elim m [ ]
above end n (x ∷ rs) s h (Memᴰ.head e) = omega (arith, (rise-parts end n (number_of x.0) (numbers rs) h).0, ap (λ (y : Reason). number_of y.0) e)
above end n (x ∷ rs) s h (Memᴰ.tail m) =
    let p = rise-parts end n (number_of x.0) (numbers rs) h in omega (arith, above end (suc (number_of x.0)) rs s p.2 m, p.0)

first-lowest : (end n : ℕ) (rs : List Reason) (r s : Refusal) → rising end n (numbers rs) ≡ true → refusal rs ≡ Some r → In s rs → number_of r ≤ number_of s
first-lowest end n [] r s h e m = elim m [ ]
first-lowest end n (x ∷ rs) r s h e m = go x.1 refl (rise-parts end n (number_of x.0) (numbers rs) h) (λ p. first-lowest end (suc (number_of x.0)) rs r s p) e m
  where
    go : (b : Bool) → x.1 ≡ b → (n ≤ number_of x.0) × (number_of x.0 < end) × (rising end (suc (number_of x.0)) (numbers rs) ≡ true) →
        (rising end (suc (number_of x.0)) (numbers rs) ≡ true → refusal rs ≡ Some r → In s rs → number_of r ≤ number_of s) → cond b (Some x.0) (refusal rs) ≡ Some r → In s (x ∷ rs) → number_of r ≤ number_of s
    go true q p again e m = let y : x.0 ≡ r = cc in let w : number_of x.0 ≡ number_of r = ap number_of y in here m w
      where
        here : In s (x ∷ rs) → number_of x.0 ≡ number_of r → number_of r ≤ number_of s
        here (Memᴰ.head f) w = omega (arith, w, ap (λ (y : Reason). number_of y.0) f)
        here (Memᴰ.tail k) w = omega (arith, w, above end (suc (number_of x.0)) rs s p.2 k)
    go false q p again e (Memᴰ.head f) = absurd (true≢false (ap (λ (y : Reason). y.1) f ∙ q))
    go false q p again e (Memᴰ.tail k) = again p.2 e k

none_in : (rs : List Reason) (s : Refusal) → refusal rs ≡ None → In s rs → ⊥
none_in [] s e m = elim m [ ]
none_in (x ∷ rs) s e m = go x.1 refl (none_in rs s) e m
  where
    go : (b : Bool) → x.1 ≡ b → (refusal rs ≡ None → In s rs → ⊥) → cond b (Some x.0) (refusal rs) ≡ None → In s (x ∷ rs) → ⊥
    go true q again e m = cc
    go false q again e (Memᴰ.head f) = true≢false (ap (λ (y : Reason). y.1) f ∙ q)
    go false q again e (Memᴰ.tail k) = again e k

-- what was answered tells which it was
judged-by : (c : Call) (v : Volume) (f : Option Refusal) → refusal (reasons c v) ≡ f → (r : Refusal) → (decided v f (does c v)).answer ≡ Err r → f ≡ Some r
judged-by c v f e r h = grind (arith, nat_tests)

abbrev Given : (c : Call) (v : Volume) → Option Refusal → Type 0
Given c v f = refusal (reasons c v) ≡ f

pub judgement : Judgement
judgement c v =
    record {
      unchanged = λ r h. let e = judged-by c v (refusal (reasons c v)) refl r h in (ap (λ f. (decided v f (does c v)).leaves) e, ap (λ f. (decided v f (does c v)).puts) e);
      applies = λ r h. first-applies (reasons c v) r (judged-by c v (refusal (reasons c v)) refl r h);
      lowest = λ r s h m. first-lowest 10 0 (reasons c v) r s (numbers-rise c v) (judged-by c v (refusal (reasons c v)) refl r h) m;
      refused = λ s m. by-some s m (refusal (reasons c v)) refl;
      done = λ none. by-none none (refusal (reasons c v)) refl;
    }
  where
    by-some : (s : Refusal) → Applies s c v → (f : Option Refusal) → Given c v f → (r : Refusal) × ((decided v f (does c v)).answer ≡ Err r)
    by-some s m None e = absurd (none_in (reasons c v) s e m)
    by-some s m (Some r) e = (r, refl)

    by-none : ((s : Refusal) → Applies s c v → ⊥) → (f : Option Refusal) → Given c v f → (decided v f (does c v) ≡ does c v) × ((a : Value) × ((decided v f (does c v)).answer ≡ Ok a))
    by-none none None e = (refl, answers c v)
    by-none none (Some r) e = absurd (none r (first-applies (reasons c v) r e))
