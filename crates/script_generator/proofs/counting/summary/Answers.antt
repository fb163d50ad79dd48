use Rattle.std.proofs.Common.{◌∙◌, sym, refl}
use Rattle.script_generator.specs.declared.counting.Counted.TheVariants.{Events, Hits, Misses, Frames}
use Rattle.script_generator.proofs.Totals.{few, hit_or_miss_once, total_is, threads_are, summary_is}
use Rattle.script_generator.proofs.counting.summary.Goals as goal

pub count_in-requires-2 : goal.count_in-requires-2
count_in-requires-2 c =
    rw c.as_slice-rounds.ensures.value (few (λ threads. threads.items) (λ answers. answers.items) Hits c.journal.inside.rounds.items (λ a. (hit_or_miss_once a).0) (rw (← c.journal.view_is) at c.requires))

pub count_in-requires-3 : goal.count_in-requires-3
count_in-requires-3 c =
    rw c.as_slice-rounds.ensures.value (few (λ threads. threads.items) (λ answers. answers.items) Misses c.journal.inside.rounds.items (λ a. (hit_or_miss_once a).1) (rw (← c.journal.view_is) at c.requires))

pub returns : goal.returns
returns c =
    let rounds = c.journal.inside.rounds.items in
    let now = c.as_slice-rounds.ensures.value in
    let events = rw now at c.count_in.ensures in
    let hits = rw now at c.count_in-2.ensures in
    let misses = rw now at c.count_in-3.ensures in
    let frames = rw now at c.count_in-4.ensures in
    let threads = rw now at c.threads_in.ensures in
    rw (← c.journal.view_is) (summary_is _ _ _ _ _ _ _ _ _ _ _ _ (threads ∙ sym (threads_are (λ threads. threads.items) (λ answers. answers.items) rounds))
    (events ∙ sym (total_is (λ threads. threads.items) (λ answers. answers.items) Events rounds)) refl
    (hits ∙ sym (total_is (λ threads. threads.items) (λ answers. answers.items) Hits rounds))
    (misses ∙ sym (total_is (λ threads. threads.items) (λ answers. answers.items) Misses rounds))
    (frames ∙ sym (total_is (λ threads. threads.items) (λ answers. answers.items) Frames rounds)))
