use Rattle.trace_check.proofs.Following.{only_next}
use Rattle.trace_check.proofs.next_line.next_line.Goals as goal

pub returns-in-Some-step_at : goal.returns-in-Some-step_at
returns-in-Some-step_at c =
    let found = c.in-Some-step_at.found in
    let both = only_next c.args.sections.now c.args.memory.now c.args.count c.args.frame.now c.args.line.now c.hit_of.result c.in-Some.member c.in_ok-section.section.now _ found.outcome found.signal c.next_of.result (record {
      is_hit = c.hit_of.ensures;
      found = c.in-Some.is;
      inside = c.in_ok-section.ensures.lookup.0;
      read = c.in_ok-section.ensures.lookup.1;
      steps = c.in-Some-step_at.ensures.outcome;
      made = c.next_of.ensures;
    }) c.if-not-shows.ensures c.in-Some-step_at.ensures.only in
    record { next = both.0; only = both.1 }
