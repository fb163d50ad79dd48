-- The lines that tell of a verdict.
use Rattle.std.specs.Prelude.{ℕ, List, ◌++◌, codes}
use Rattle.std.specs.Fmt.{decimal}
use Rattle.journal_check.specs.declared.verdict.Flaw.{Flaw}
use Rattle.journal_check.specs.declared.verdict.Flaw.TheVariants as flaw
use Rattle.journal_check.specs.declared.verdict.Verdict.{Verdict}
use Rattle.journal_check.specs.declared.verdict.Verdict.TheVariants.{Lawful, Line}

abbrev pub flaw_word : Flaw → List ℕ
flaw_word flaw.Form = codes "form"
flaw_word flaw.Number = codes "number"
flaw_word flaw.Count = codes "count"
flaw_word flaw.History = codes "history"
flaw_word flaw.Answer = codes "answer"
flaw_word flaw.Order = codes "order"
flaw_word flaw.Round = codes "round"
flaw_word flaw.Trace = codes "trace"

abbrev pub verdict_line : Verdict → List ℕ
verdict_line (Lawful updates) = codes "lawful " ++ decimal updates ++ codes "\n"
verdict_line (Line line which) =
    codes "line " ++ decimal line ++ codes ": " ++ flaw_word which ++ codes "\n"
