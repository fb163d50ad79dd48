use Rattle.std.proofs.Common.{◌≡◌, ◌+◌, ◌-◌, ◌%◌, arith}
use Rattle.std.proofs.lemmas.List.{drop-set}
use Rattle.script_text.proofs.HexDigits.{hex_one, length_one, hex_two, length_two, pair_at}
use Rattle.script_text.proofs.print.numbers.write_first.Goals as goal

pub overflow_sub-room : goal.overflow_sub-room
overflow_sub-room c = omega (arith, length_one c.args.byte c.if-byte-lt16.true)

pub bounds-room-end : goal.bounds-room-end
bounds-room-end c = omega (arith, length_one c.args.byte c.if-byte-lt16.true)

pub overflow_sub-result : goal.overflow_sub-result
overflow_sub-result c = omega (arith, length_one c.args.byte c.if-byte-lt16.true)

pub returns-then-byte-lt16-clause-start : goal.returns-then-byte-lt16-clause-start
returns-then-byte-lt16-clause-start c = omega (arith, length_one c.args.byte c.if-byte-lt16.true)

pub returns-then-byte-lt16-clause-written : goal.returns-then-byte-lt16-clause-written
returns-then-byte-lt16-clause-written c =
    let long = length_one c.args.byte c.if-byte-lt16.true in
    let e : c.args.end - 1 + 1 ≡ c.args.end = omega arith in
    let small : c.args.byte % 16 ≡ c.args.byte = omega (arith, c.if-byte-lt16.true) in
    rw (drop-set c.args.room.now (c.args.end - 1) _ (omega arith), e, (pair_at c.args.byte (omega arith)).1, small, hex_one c.args.byte c.if-byte-lt16.true)

pub overflow_sub-end : goal.overflow_sub-end
overflow_sub-end c = omega (arith, length_two c.args.byte c.if-byte-lt16.false (omega arith))

pub write_pair-requires : goal.write_pair-requires
write_pair-requires c = omega (arith, length_two c.args.byte c.if-byte-lt16.false (omega arith))

pub overflow_sub-result-2 : goal.overflow_sub-result-2
overflow_sub-result-2 c = omega (arith, length_two c.args.byte c.if-byte-lt16.false (omega arith))

pub returns-clause-start : goal.returns-clause-start
returns-clause-start c = omega (arith, length_two c.args.byte c.if-byte-lt16.false (omega arith))

pub returns-clause-written : goal.returns-clause-written
returns-clause-written c =
    let long = length_two c.args.byte c.if-byte-lt16.false (omega arith) in
    let e : c.args.end - 2 + 2 ≡ c.args.end = omega arith in
    rw (c.write_pair.ensures, e, hex_two c.args.byte c.if-byte-lt16.false (omega arith))
