use Rattle.std.proofs.Common.{ℕ, List, ◌++◌, ap, ◌∙◌}
use Rattle.std.specs.Global.{Vec}
use Rattle.script_text.specs.Text.{updates_text}
use Rattle.script_text.proofs.Numbered.{rounds_text_is}
use Rattle.script_text.proofs.Answered.{printable_is}
use Rattle.script_text.proofs.print.journal.print_journal.Goals as goal

pub put_rounds-requires : goal.put_rounds-requires
put_rounds-requires c =
    rw c.deref.ensures.value (printable_is (λ answers. answers.items) (λ threads. threads.items) c.journal.inside.rounds.items (rw (← c.journal.view_is) at c.requires))

pub returns : goal.returns
returns c =
    let first = rw (c.deref.ensures.value, ← rounds_text_is (λ answers. answers.items) (λ threads. threads.items) c.journal.inside.rounds.items, c.new-text.ensures.bytes) at c.in_ok-put_rounds.ensures in
    rw (← c.journal.view_is) (record { text = ap (λ (v : Vec ℕ). v.items) c.into_bytes.ensures.value ∙ c.in_ok-put_updates.ensures ∙ ap (λ (front : List ℕ). front ++ updates_text c.journal.inside.updates) first })
