use Rattle.std.proofs.Common.{[]}
use Rattle.std.proofs.lemmas.List.Elements.{All-nil}
use Rattle.script_text.specs.Lawful.{thread_receipts}
use Rattle.receipt_check.specs.Flaws.{ComesInRound}
use Rattle.journal_check.proofs.Each.{rounds_each}
use Rattle.journal_check.proofs.Sides.{InRound, rounds_between}
use Rattle.journal_check.proofs.laws.rounds_are_judged.Goals as goal

pub returns : goal.returns
returns c script journal =
    let each = rounds_each InRound script.images 1 0 (record { told = []; line = 1; seen = 0 }) journal.rounds in
    let are = rounds_between 1 0 (thread_receipts script.images journal) in
    (λ all. are.0 (each.0 all).1, λ rounds. each.1 (All-nil ComesInRound, are.1 rounds))
