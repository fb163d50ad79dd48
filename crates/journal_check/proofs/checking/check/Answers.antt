use Rattle.journal_check.proofs.TextVerdicts.{exactly_lawful, exactly_flawed}
use Rattle.journal_check.proofs.checking.check.Goals as goal

pub returns-clause-lawful : goal.returns-clause-lawful
returns-clause-lawful c =
    let script = c.args.script.now in
    let text = c.args.text.now in
    exactly_lawful script text c.verdict_of.result (λ one other. c.texts_have_one_verdict.ensures script text one other c.know_runnable.ensures) c.verdict_of.ensures

pub returns-clause-flaw : goal.returns-clause-flaw
returns-clause-flaw c =
    let script = c.args.script.now in
    let text = c.args.text.now in
    exactly_flawed script text c.verdict_of.result (λ one other. c.texts_have_one_verdict.ensures script text one other c.know_runnable.ensures) c.verdict_of.ensures
