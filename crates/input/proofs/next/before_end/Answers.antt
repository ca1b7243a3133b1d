use Rattle.std.proofs.Common.{eqb, sym, ap, ◌∙◌, arith, w8}
use lib.Count.{count_trailing_zeros}
use Rattle.std.proofs.lemmas.Simd.{bitmask_splat, leading_from_mask_l, trailing_mask_l}
use Rattle.input.proofs.next.before_end.Goals as goal

pub returns-then-ends-eq0 : goal.returns-then-ends-eq0
returns-then-ends-eq0 c =
    let v = c.args.bytes in
    let ends = bitmask_splat w8 eqb v 16 10 c.fits-bytes.0 (omega arith) in
    sym (leading_from_mask_l (λ x. eqb x 10) v (sym ends ∙ c.if-ends-eq0.true) ∙ c.fits-bytes.0)

pub returns-else-ends-eq0 : goal.returns-else-ends-eq0
returns-else-ends-eq0 c =
    let v = c.args.bytes in
    let ends = bitmask_splat w8 eqb v 16 10 c.fits-bytes.0 (omega arith) in
    ap (count_trailing_zeros 64) ends ∙ trailing_mask_l (λ x. eqb x 10) 64 v (omega (arith, c.fits-bytes.0)) (omega arith)
