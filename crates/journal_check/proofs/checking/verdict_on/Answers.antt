use Rattle.std.proofs.Common.{sym, subst, ap}
use Rattle.script_text.specs.JournalData.{JournalData}
use Rattle.journal_check.specs.TextFlaws.{IsLawfulText}
use Rattle.journal_check.proofs.TextVerdicts.{found_lawful}
use Rattle.journal_check.proofs.checking.verdict_on.Goals as goal

pub returns-in-None : goal.returns-in-None
returns-in-None c = λ text tells.
    let script = c.args.script.now in
    let journal = c.args.journal.now in
    let free = rw (c.in_ok-found.was, c.in_default.is) at c.judge.ensures in
    let unfolded = rw (c.in_ok-line.was, c.in-None.is) at c.first_departure.ensures in
    let updates = ap (λ (j : JournalData). j.updates) c.journal.view_is in
    subst (IsLawfulText script text) (sym updates) (found_lawful script journal text free unfolded tells)
