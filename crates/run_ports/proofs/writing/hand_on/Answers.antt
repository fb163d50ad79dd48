use Rattle.std.proofs.Common.{◌≡◌, ◌+◌, ◌-◌, List, ℕ, Option, Err, length, take, drop, length-drop, ap, subst, sym, ◌∙◌, arith}
use Rattle.std.proofs.lemmas.List.{take_rest}
use Rattle.run_ports.specs.Ports.{Rose, with_bytes}
use Rattle.run_ports.specs.declared.ports.SinkFault.TheVariants.{Failed}
use Rattle.run_ports.proofs.Bytes.{drop-more}
use Rattle.run_ports.proofs.Pieces.{with_bytes-moved}
use Rattle.run_ports.proofs.writing.hand_on.Goals as goal

pub loop-at-preserved : goal.loop-at-preserved
loop-at-preserved g c =
    let bytes = c.args.bytes.now in
    let at = c.loop-at.at in
    let before = c.loop-at.invariant in
    let rest : take (length bytes - at) (drop at bytes) ≡ drop at bytes = take_rest bytes at in
    let taken = rw rest at c.in-Ok.ensures.bytes in
    let within = rw (rest, length-drop) at c.in-Ok.ensures.count in
    let here = c.loop-at-test.true in
    let had = g.K.Sink.written c.loop-at.sink in
    let moved = with_bytes-moved had (g.K.Sink.written c.write.new.self) (take c.in-Ok.count (drop at bytes)) (drop (at + c.in-Ok.count) bytes) taken in
    record {
      within = omega arith;
      kept = moved ∙ ap (λ (left : List ℕ). with_bytes had left) (sym (drop-more at c.in-Ok.count bytes)) ∙ before.kept;
      writable = c.in-Ok.ensures.goes_on;
      sound = c.in-Ok.ensures.sound (λ is. cc) ∙ before.sound;
    }

pub returns-in-Err-clause-handed : goal.returns-in-Err-clause-handed
returns-in-Err-clause-handed g c =
    let before = c.loop-at.invariant in
    record {
      kept = ap (λ (had : Option (List ℕ)). with_bytes had (drop c.loop-at.at c.args.bytes.now)) c.in-Err.ensures.err ∙ before.kept;
      failed = λ is. subst (λ (n : ℕ). Rose n (g.K.Sink.faults c.write.new.self)) before.sound (c.in-Err.ensures.failed (let same : c.in-Err.fault ≡ Failed = cc in ap Err same));
      sound = λ other. c.in-Err.ensures.sound (λ is. other (let same : c.in-Err.fault ≡ Failed = cc in ap Err same)) ∙ before.sound;
      counted = omega (arith, c.in-Err.ensures.counted, before.sound);
    }
