use Rattle.std.proofs.Common.{◌≡◌, ℕ, ◌+◌, ◌-◌, ◌≤◌, ◌++◌, min, List, length, take, vec_items, vec_len, vec_capacity, ap, ◌∙◌, arith}
use Rattle.std.proofs.Math.Seq.{take-append-add}
use Rattle.std.proofs.lemmas.List.{length-take, take_min}
use Rattle.std.proofs.lemmas.Bool.{cond-true}
use Rattle.input.specs.Pieces.{most}
use Rattle.input.proofs.buffer.LineBuffer.keep.Goals as goal

pub returns : goal.returns
returns c =
    let xs : List ℕ = vec_items c.args.self.now.bytes in
    let ys : List ℕ = c.args.part.now in
    let room : ℕ = most - length xs in
    let part : c.min-n.result ≡ min room (length ys) = omega arith in
    let fits : vec_len c.args.self.now.bytes + length (take c.min-n.result ys) ≤ vec_capacity c.args.self.now.bytes = omega (arith, length-take c.min-n.result ys, c.args.self.now.room, c.args.self.now.few) in
    let all : length xs + room ≡ most = omega (arith, c.args.self.now.few) in
    let kept : xs ++ take c.min-n.result ys ≡ take most (xs ++ ys) = rw (part, take_min, ← take-append-add) (ap (λ n. take n (xs ++ ys)) all) in
    c.extend_from_slice.ensures.items ∙ cond-true _ _ _ (c.extend_from_slice.ensures.succeeds fits) ∙ kept
