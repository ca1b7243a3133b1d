use Rattle.input.proofs.Ends.{near_end}
use Rattle.input.proofs.next.line_end.Goals as goal

pub returns-then-n-lt16 : goal.returns-then-n-lt16
returns-then-n-lt16 c =
    let front = (c.in-Some.ensures).cases in
    near_end c.args.chunk.now c.in-Some.front.now _ front.enough front.same c.before_end-n.ensures c.if-n-lt16.true
