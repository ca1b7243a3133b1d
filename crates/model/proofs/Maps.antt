-- Maps: what a slot shows after another was set, that slots go on rising, and what the blocks come to.
use Rattle.std.proofs.Common.{◌≡◌, ℕ, suc, ◌+◌, ◌<◌, ◌≤◌, true, List, [], ◌∷◌, map, length, sym, refl, ◌∙◌, ⊎_elim, arith}
use Rattle.std.proofs.lemmas.Bool.Decides.{nat_tests}
use Rattle.std.specs.List.{AllByRecursion}
use Rattle.std.proofs.lemmas.List.{length-map}
use Rattle.std.proofs.lemmas.Bool.{lt-ltb, le-ltb, eq-eqb, cases_order}
use Rattle.rules.specs.Limits.{most_slots}
use Rattle.model.specs.Maps.{Map, look_in, put_in, remove_in, set_in, shown_in, shown_by, entry, rising, slots_rise}
use Rattle.model.specs.Sums.{sum}
use Rattle.model.specs.declared.types.Entry.{Entry}
use Rattle.model.specs.declared.types.Ptr.{Ptr}
use Rattle.model.specs.declared.types.Slot.{Slot}
use Rattle.model.specs.declared.types.Slot.TheVariants.{Empty, At}

-- rising numbers
module _ (end n x : ℕ) (xs : List ℕ) where
  pub rise-parts : rising end n (x ∷ xs) ≡ true → (n ≤ x) × (x < end) × (rising end (suc x) xs ≡ true)
  unfolding rising
  rise-parts h = grind (arith, nat_tests)

  pub rise-from : n ≤ x → x < end → rising end (suc x) xs ≡ true → rising end n (x ∷ xs) ≡ true
  unfolding rising
  rise-from lo hi h = grind (arith, nat_tests)

pub rise-none : (end n : ℕ) → rising end n [] ≡ true
unfolding rising
rise-none end n = refl

pub rise-lower : (end n m : ℕ) (xs : List ℕ) → n ≤ m → rising end m xs ≡ true → rising end n xs ≡ true
rise-lower end n m [] le h = rise-none end n
rise-lower end n m (x ∷ xs) le h = let p = rise-parts end m x xs h in rise-from end n x xs (omega (arith, p.0)) p.1 p.2

pub rise-length : (end n : ℕ) (xs : List ℕ) → n ≤ end → rising end n xs ≡ true → n + length xs ≤ end
rise-length end n [] le h = omega arith
rise-length end n (x ∷ xs) le h = let p = rise-parts end n x xs h in omega (arith, rise-length end (suc x) xs (omega (arith, p.1)) p.2, p.0)

abbrev slots : Map → List ℕ
slots es = map (λ e. e.slot) es

-- there are no more entries than slots
pub few-entries : (es : Map) → slots_rise es ≡ true → length es ≤ most_slots
few-entries es h = omega (arith, rise-length most_slots 0 (slots es) (omega arith) h, length-map es (λ e. e.slot))

-- the three orders in which an entry's slot and another can stand, and what a look, a put and a remove do then
module _ (s : ℕ) (e : Entry) (es : Map) where
  pub look-past : e.slot < s → look_in s (e ∷ es) ≡ look_in s es
  unfolding look_in
  look-past h = rw (lt-ltb e.slot s h)

  pub look-here : e.slot ≡ s → look_in s (e ∷ es) ≡ At e.at
  unfolding look_in
  look-here h = rw (le-ltb e.slot s (omega arith), eq-eqb e.slot s h)

  pub look-above : s < e.slot → look_in s (e ∷ es) ≡ Empty
  unfolding look_in
  look-above h = grind (arith, nat_tests)

  pub put-past : (p : Ptr) → e.slot < s → put_in s p (e ∷ es) ≡ e ∷ put_in s p es
  unfolding put_in
  put-past p h = rw (lt-ltb e.slot s h)

  pub put-here : (p : Ptr) → e.slot ≡ s → put_in s p (e ∷ es) ≡ entry s p ∷ es
  unfolding put_in
  put-here p h = rw (le-ltb e.slot s (omega arith), eq-eqb e.slot s h)

  pub put-above : (p : Ptr) → s < e.slot → put_in s p (e ∷ es) ≡ entry s p ∷ (e ∷ es)
  unfolding put_in
  put-above p h = grind (arith, nat_tests)

  pub remove-past : e.slot < s → remove_in s (e ∷ es) ≡ e ∷ remove_in s es
  unfolding remove_in
  remove-past h = rw (lt-ltb e.slot s h)

  pub remove-here : e.slot ≡ s → remove_in s (e ∷ es) ≡ es
  unfolding remove_in
  remove-here h = rw (le-ltb e.slot s (omega arith), eq-eqb e.slot s h)

  pub remove-above : s < e.slot → remove_in s (e ∷ es) ≡ e ∷ es
  unfolding remove_in
  remove-above h = grind (arith, nat_tests)

  -- to show something of a map with this entry, show it for each order
  pub by_order : (P : Type 0) → (e.slot ≡ s → P) → (e.slot < s → P) → (s < e.slot → P) → P
  by_order P here past above = ⊎_elim here (⊎_elim past above) (cases_order e.slot s)

pub look_none : (s : ℕ) → look_in s [] ≡ Empty
unfolding look_in
look_none s = refl

-- slots from n on: none below
pub look-below : (n s : ℕ) (es : Map) → s < n → rising most_slots n (slots es) ≡ true → look_in s es ≡ Empty
look-below n s [] lt h = look_none s
look-below n s (e ∷ es) lt h = look-above s e es (omega (arith, (rise-parts most_slots n e.slot (slots es) h).0))

rise-put : (n s : ℕ) (p : Ptr) (es : Map) → n ≤ s → s < most_slots → rising most_slots n (slots es) ≡ true → rising most_slots n (slots (put_in s p es)) ≡ true
unfolding put_in
rise-put n s p [] lo hi h = rise-from most_slots n s [] lo hi (rise-none most_slots (suc s))
rise-put n s p (e ∷ es) lo hi h =
    let q = rise-parts most_slots n e.slot (slots es) h in
    by_order s e es _
    (λ x. rw (put-here s e es p x) (rise-from most_slots n s (slots es) lo hi (rw (← x) q.2)))
    (λ x. rw (put-past s e es p x) (rise-from most_slots n e.slot (slots (put_in s p es)) q.0 q.1 (rise-put (suc e.slot) s p es (omega arith) hi q.2)))
    (λ x. rw (put-above s e es p x) (rise-from most_slots n s (slots (e ∷ es)) lo hi (rise-from most_slots (suc s) e.slot (slots es) (omega arith) q.1 q.2)))

rise-remove : (n s : ℕ) (es : Map) → rising most_slots n (slots es) ≡ true → rising most_slots n (slots (remove_in s es)) ≡ true
unfolding remove_in
rise-remove n s [] h = h
rise-remove n s (e ∷ es) h =
    let q = rise-parts most_slots n e.slot (slots es) h in
    by_order s e es _
    (λ x. rw (remove-here s e es x) (rise-lower most_slots n (suc e.slot) (slots es) (omega (arith, q.0)) q.2))
    (λ x. rw (remove-past s e es x) (rise-from most_slots n e.slot (slots (remove_in s es)) q.0 q.1 (rise-remove (suc e.slot) s es q.2)))
    (λ x. rw (remove-above s e es x) h)

pub rise-set : (s : ℕ) (x : Slot) (es : Map) → s < most_slots → slots_rise es ≡ true → slots_rise (set_in s x es) ≡ true
rise-set s x es lt h = grind (arith, nat_tests, rise-put, rise-remove)

-- the slot that was set shows it
put_same : (s : ℕ) (p : Ptr) (es : Map) → look_in s (put_in s p es) ≡ At p
unfolding put_in
put_same s p [] = look-here s (entry s p) [] refl
put_same s p (e ∷ es) =
    by_order s e es _ (λ x. rw (put-here s e es p x) (look-here s (entry s p) es refl))
    (λ x. rw (put-past s e es p x) (look-past s e (put_in s p es) x ∙ put_same s p es))
    (λ x. rw (put-above s e es p x) (look-here s (entry s p) (e ∷ es) refl))

remove-same : (n s : ℕ) (es : Map) → rising most_slots n (slots es) ≡ true → look_in s (remove_in s es) ≡ Empty
unfolding remove_in
remove-same n s [] h = look_none s
remove-same n s (e ∷ es) h =
    let q = rise-parts most_slots n e.slot (slots es) h in
    by_order s e es _ (λ x. rw (remove-here s e es x) (look-below (suc e.slot) s es (omega arith) q.2))
    (λ x. rw (remove-past s e es x) (look-past s e (remove_in s es) x ∙ remove-same (suc e.slot) s es q.2))
    (λ x. rw (remove-above s e es x) (look-above s e es x))

pub look-set : (s : ℕ) (x : Slot) (es : Map) → slots_rise es ≡ true → look_in s (set_in s x es) ≡ x
look-set s x es h = grind (arith, nat_tests, put_same, remove-same)

-- and another shows what it showed
look-cons : (j : ℕ) (e : Entry) (es fs : Map) → look_in j es ≡ look_in j fs → look_in j (e ∷ es) ≡ look_in j (e ∷ fs)
look-cons j e es fs h = grind (arith, nat_tests, by_order, look-above, look-here, look-past)

-- an entry of another slot in front is not seen, if what is behind it has no lower slot
look_skip : (j s : ℕ) (p : Ptr) (es : Map) → (j ≡ s → ⊥) → rising most_slots s (slots es) ≡ true → look_in j (entry s p ∷ es) ≡ look_in j es
look_skip j s p es ne h = grind (arith, nat_tests, by_order, look-above, look-below, look-past)

put_other : (n j s : ℕ) (p : Ptr) (es : Map) → (j ≡ s → ⊥) → rising most_slots n (slots es) ≡ true → look_in j (put_in s p es) ≡ look_in j es
unfolding put_in
put_other n j s p [] ne h = look_skip j s p [] ne (rise-none most_slots s)
put_other n j s p (e ∷ es) ne h =
    let q = rise-parts most_slots n e.slot (slots es) h in
    let skip : e.slot ≡ s → look_in j (e ∷ es) ≡ look_in j es =
    λ x. by_order j e es _ (λ y. absurd (ne (omega arith))) (λ y. look-past j e es y) (λ y. look-above j e es y ∙ sym (look-below (suc e.slot) j es (omega arith) q.2)) in
    by_order s e es _
    (λ x. rw (put-here s e es p x) (look_skip j s p es ne (rise-lower most_slots s (suc e.slot) (slots es) (omega arith) q.2) ∙ sym (skip x)))
    (λ x. rw (put-past s e es p x) (look-cons j e (put_in s p es) es (put_other (suc e.slot) j s p es ne q.2)))
    (λ x. rw (put-above s e es p x) (look_skip j s p (e ∷ es) ne (rise-from most_slots s e.slot (slots es) (omega arith) q.1 q.2)))

remove-other : (n j s : ℕ) (es : Map) → (j ≡ s → ⊥) → rising most_slots n (slots es) ≡ true → look_in j (remove_in s es) ≡ look_in j es
unfolding remove_in
remove-other n j s [] ne h = refl
remove-other n j s (e ∷ es) ne h =
    let q = rise-parts most_slots n e.slot (slots es) h in
    by_order s e es _
    (λ x. rw (remove-here s e es x) (by_order j e es _ (λ y. absurd (ne (omega arith))) (λ y. sym (look-past j e es y)) (λ y. look-below (suc e.slot) j es (omega arith) q.2 ∙ sym (look-above j e es y))))
    (λ x. rw (remove-past s e es x) (look-cons j e (remove_in s es) es (remove-other (suc e.slot) j s es ne q.2)))
    (λ x. rw (remove-above s e es x))

pub look-other : (j s : ℕ) (x : Slot) (es : Map) → (j ≡ s → ⊥) → slots_rise es ≡ true → look_in j (set_in s x es) ≡ look_in j es
look-other j s x es ne h = grind (arith, nat_tests, put_other, remove-other)

-- what the blocks of a map come to
sum-put : (w : Ptr → ℕ) (s : ℕ) (p : Ptr) (es : Map) → sum w (shown_by (put_in s p es)) + sum w (shown_in (look_in s es)) ≡ sum w (shown_by es) + w p
unfolding put_in
sum-put w s p [] = rw (look_none s) (omega arith)
sum-put w s p (e ∷ es) =
    by_order s e es _ (λ x. rw (put-here s e es p x, look-here s e es x) (omega arith))
    (λ x. let again = sum-put w s p es in rw (put-past s e es p x, look-past s e es x) (omega arith))
    (λ x. rw (put-above s e es p x, look-above s e es x) (omega arith))

pub sum-remove : (w : Ptr → ℕ) (s : ℕ) (es : Map) → sum w (shown_by (remove_in s es)) + sum w (shown_in (look_in s es)) ≡ sum w (shown_by es)
unfolding remove_in
sum-remove w s [] = rw (look_none s) refl
sum-remove w s (e ∷ es) =
    by_order s e es _ (λ x. rw (remove-here s e es x, look-here s e es x) (omega arith))
    (λ x. let again = sum-remove w s es in rw (remove-past s e es x, look-past s e es x) (omega arith))
    (λ x. rw (remove-above s e es x, look-above s e es x) (omega arith))

pub sum-set_in : (w : Ptr → ℕ) (s : ℕ) (x : Slot) (es : Map) → sum w (shown_by (set_in s x es)) + sum w (shown_in (look_in s es)) ≡ sum w (shown_by es) + sum w (shown_in x)
sum-set_in w s x es = grind (arith, nat_tests, sum-put, sum-remove)

-- what holds of each block of a map
all-put : (P : Ptr → Type 0) (s : ℕ) (p : Ptr) (es : Map) → P p → AllByRecursion P (shown_by es) → AllByRecursion P (shown_by (put_in s p es))
unfolding put_in
all-put P s p [] y a = (y, tt)
all-put P s p (e ∷ es) y a =
    by_order s e es _ (λ x. rw (put-here s e es p x) (y, a.1)) (λ x. rw (put-past s e es p x) (a.0, all-put P s p es y a.1)) (λ x. rw (put-above s e es p x) (y, a))

all_remove : (P : Ptr → Type 0) (s : ℕ) (es : Map) → AllByRecursion P (shown_by es) → AllByRecursion P (shown_by (remove_in s es))
unfolding remove_in
all_remove P s [] a = tt
all_remove P s (e ∷ es) a =
    by_order s e es _ (λ x. rw (remove-here s e es x) a.1) (λ x. rw (remove-past s e es x) (a.0, all_remove P s es a.1)) (λ x. rw (remove-above s e es x) a)

pub all-set_in : (P : Ptr → Type 0) (s : ℕ) (x : Slot) (es : Map) → AllByRecursion P (shown_in x) → AllByRecursion P (shown_by es) → AllByRecursion P (shown_by (set_in s x es))
all-set_in P s Empty es y a = all_remove P s es a
all-set_in P s (At p) es y a = all-put P s p es y.0 a

pub look-all : (P : Ptr → Type 0) (s : ℕ) (es : Map) → AllByRecursion P (shown_by es) → AllByRecursion P (shown_in (look_in s es))
look-all P s [] a = rw (look_none s) tt
look-all P s (e ∷ es) a = by_order s e es _ (λ x. rw (look-here s e es x) (a.0, tt)) (λ x. rw (look-past s e es x) (look-all P s es a.1)) (λ x. rw (look-above s e es x) tt)
