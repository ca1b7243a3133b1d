use Rattle.std.proofs.Common.{rules, arith}
use Rattle.std.proofs.Math.Seq.{take-length}
use Rattle.input.proofs.Ends.{ends, goes_on}
use Rattle.input.proofs.buffer.LineBuffer.add.Goals as goal

pub returns-in-Some : goal.returns-in-Some
returns-in-Some c =
    let end = ends c.args.chunk.now _ _ c.line_end.ensures c.in-Some.is in
    record {
      bytes = cc end.1;
      used = rw end.0 (omega (arith, end.1));
      next = rw end.0;
    }

pub returns-in-None : goal.returns-in-None
returns-in-None c =
    let all = goes_on c.args.chunk.now _ c.line_end.ensures c.in-None.is in
    record {
      bytes = cc (all.1, take-length c.args.chunk.now);
      used = rw all.0 (omega (arith, all.1));
      next = rw all.0 (search rules);
    }
