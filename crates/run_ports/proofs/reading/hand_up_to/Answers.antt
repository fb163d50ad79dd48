use Rattle.std.proofs.Common.{rules, ◌+◌, ◌≤◌, ◌++◌, length, take, drop, length-append, length-take, arith}
use Rattle.std.proofs.lemmas.List.{take-append-le}
use Rattle.run_ports.proofs.Pieces.{Hands-more}
use Rattle.run_ports.proofs.reading.hand_up_to.Goals as goal

-- what was read before memory was wanted was handed out too
pub returns-in_err-take-clause-taken : goal.returns-in_err-take-clause-taken
returns-in_err-take-clause-taken g c =
    let before = c.pieces.invariant.came in
    let piece = take c.in-Ok.count c.read.new.buffer in
    let few = simp length-take at c.in-Ok.ensures.count in
    let most : length (before.0 ++ piece) ≤ c.args.limit + 1 = simp (length-append, length-take) (omega (arith, before.1)) in
    (before.0 ++ piece, most, Hands-more _ _ _ before.0 piece before.3 c.in-Ok.ensures.bytes)

pub returns-then-count-left-clause-taken : goal.returns-then-count-left-clause-taken
returns-then-count-left-clause-taken g c =
    let before = c.pieces.invariant.came in
    let piece = take c.in-Ok.count c.read.new.buffer in
    let few = simp length-take at c.in-Ok.ensures.count in
    let most : length (before.0 ++ piece) ≤ c.args.limit + 1 = simp (length-append, length-take) (omega (arith, before.1)) in
    (before.0 ++ piece, most, Hands-more _ _ _ before.0 piece before.3 c.in-Ok.ensures.bytes)

pub pieces-preserved : goal.pieces-preserved
pieces-preserved g c =
    let before = c.pieces.invariant.came in
    let buffer = c.read.new.buffer in
    let piece = take c.in-Ok.count buffer in
    let within : c.in-Ok.count ≤ length buffer = omega (arith, c.in-Ok.ensures.count, c.read.auto.buffer) in
    record {
      came = (
        before.0 ++ piece,
        simp (length-append, length-take) (let below = c.if-count-left.false in omega (arith, before.1, within)),
        rw (← take-append-le c.in-Ok.count buffer (drop (c.min-room.result + 1) c.pieces.buffer) within) (c.in_ok-take.ensures before.0 before.2),
        Hands-more _ _ _ before.0 piece before.3 c.in-Ok.ensures.bytes,
      );
      buffer = search rules;
      can = search rules;
      sound = search rules;
    }
