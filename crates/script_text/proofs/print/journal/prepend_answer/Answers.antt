use Rattle.std.proofs.Common.{◌++◌, codes}
use Rattle.script_text.specs.Digits.{hex}
use Rattle.script_text.specs.Text.{place_text}
use Rattle.script_text.proofs.LineEnds.{three_before}
use Rattle.script_text.proofs.print.journal.prepend_answer.Goals as goal

pub returns-in-Find-clause-text : goal.returns-in-Find-clause-text
returns-in-Find-clause-text c =
    rw c.in-Find.is (three_before (codes "find " ++ hex c.in-Find.pc) (codes " ") (place_text c.in-Find.place) _ _ _ _ c.prepend_place.ensures.text c.prepend-in-Find.ensures c.prepend_address-in-Find.ensures.text)
