use Rattle.std.proofs.Common.{◌≡◌, ◌-◌, ◌≤◌, length, IfSome}
use Rattle.raise_phases.specs.declared.outcome.Verdict.TheVariants.{Continue}
use Rattle.raise_phases.specs.Actions.{chain_verdict}
use Rattle.raise_phases.specs.Verdicts.{most_records}
use Rattle.raise_phases.proofs.actions.Actions.chain.Given as goal

abbrev pub invariant-loop : goal.invariant-loop
invariant-loop l = record {
  within : IfSome l.next (λ p. p ≤ length l.self.bytes);
  chain : chain_verdict l.fn.self l.fn.pad most_records l.fn.before l.fn.place Continue
      ≡ chain_verdict l.self l.pad (most_records - l.counter) l.before l.next l.otherwise;
}
