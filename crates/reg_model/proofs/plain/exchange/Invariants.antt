use Rattle.std.proofs.Common.{◌≡◌, ◌++◌, take, drop}
use Rattle.reg_model.specs.State.{at_span}
use Rattle.reg_model.specs.History.{with_payload}
use Rattle.reg_model.proofs.plain.exchange.Given as goal

-- the members that were passed have their payloads, and the others are as they were
abbrev pub invariant-loop-place : goal.invariant-loop-place
invariant-loop-place l =
    let passed = take l.place-index l.fn.members in
    (l.before ≡ at_span l.member.span passed)
    × (l.members ≡ with_payload l.member passed ++ drop l.place-index l.fn.members)
