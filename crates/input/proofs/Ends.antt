-- Where a line ends in a chunk, from what a search for its end answers. Assumes nothing.
use Rattle.std.proofs.Common.{◌≡◌, ℕ, List, length, Option, Some, None, true, false, subst, ap, take, ◌≤◌, ◌<◌, ◌∙◌, arith}
use Rattle.std.specs.List.{prefix_len}
use Rattle.std.proofs.lemmas.Bool.Decides.{nat_tests}
use Rattle.std.proofs.lemmas.List.{get_or-take, length-take-le}
use Rattle.std.proofs.lemmas.List.Sums.{prefix_len_is, prefix_len_passes, prefix_len_stops}
use Rattle.memchr.specs.Find.{IsFirstByte, is_byte}
use Rattle.input.specs.Pieces.{inside, whole}

pub ends : (bs : List ℕ) (r : Option ℕ) (n : ℕ) → IsFirstByte (is_byte 10) bs r → r ≡ Some n → (whole bs ≡ true) × (prefix_len inside bs ≡ n)
ends bs r n h e = (grind (arith, nat_tests, is, first.0.high), is)
  where
    first : IsFirstByte (is_byte 10) bs (Some n)
    first = subst (λ o. IsFirstByte (is_byte 10) bs o) e h

    is : prefix_len inside bs ≡ n
    is = prefix_len_is inside bs n 0 (omega (arith, first.0.high)) (λ k b. grind (arith, nat_tests, first.0.before k (omega arith) b)) (λ _. grind (arith, nat_tests, first.1))

pub goes_on : (bs : List ℕ) (r : Option ℕ) → IsFirstByte (is_byte 10) bs r → r ≡ None → (whole bs ≡ false) × (prefix_len inside bs ≡ length bs)
goes_on bs r h e = (grind (arith, nat_tests, is), is)
  where
    none : IsFirstByte (is_byte 10) bs None
    none = subst (λ o. IsFirstByte (is_byte 10) bs o) e h

    is : prefix_len inside bs ≡ length bs
    is = prefix_len_is inside bs (length bs) 0 (omega arith) (λ k b. grind (arith, nat_tests, none k (omega arith) b)) (λ b. absurd (omega arith))

-- an end that stands among the first bytes is the first of all
pub near_end : (bs front : List ℕ) (n : ℕ) → 16 ≤ length bs → front ≡ take 16 bs → n ≡ prefix_len inside front → n < 16 → IsFirstByte (is_byte 10) bs (Some n)
near_end bs front n long same is less =
    let m : ℕ = prefix_len inside (take 16 bs) in
    let here : n ≡ m = is ∙ ap (prefix_len inside) same in
    let room = length-take-le 16 bs long in
    let end = prefix_len_stops inside (take 16 bs) 0 (omega (arith, here, room)) in (
      record {
        low = omega arith;
        high = omega arith;
        before = λ k _ b p. let past = prefix_len_passes inside (take 16 bs) k 0 (omega (arith, here)) in grind (arith, nat_tests, get_or-take 16 bs k 0);
      },
      grind (arith, nat_tests, here, get_or-take 16 bs m 0),
    )
