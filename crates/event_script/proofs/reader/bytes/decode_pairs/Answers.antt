use Rattle.std.proofs.Common.{◌≡◌, take, sym, ◌∙◌, take_all, arith}
use Rattle.event_script.proofs.LowerDigits.{pairs_end}
use Rattle.event_script.proofs.reader.bytes.decode_pairs.Goals as goal

pub returns : goal.returns
returns c =
    let l = c.loop-left in
    let i = l.invariant in
    let few = c.in_default.len_below in
    let whole = pairs_end c.args.field.now (take l.index l.bytes) l.left.now l.lower few (omega (arith, few, i.room)) i.so_far i.digits in
    let all : take l.index l.bytes ≡ l.bytes = take_all l.index l.bytes (omega (arith, few, i.room)) in
    record { lower = whole.1; bytes = sym all ∙ whole.0 }
