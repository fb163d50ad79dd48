use Rattle.std.proofs.Common.{◌≡◌, [], map, refl, sym, ◌∙◌}
use Rattle.std.specs.String.{string_bytes}
use Rattle.run_ports.proofs.Endings.{ends_concluded}
use Rattle.check_run.specs.CheckOutcome.{IsCheckDue}
use Rattle.check_run.specs.CheckStatuses.{check_ending_of}
use Rattle.check_run.specs.declared.status.CheckStatus.TheVariants as status
use Rattle.check_run.proofs.Endings.{ends_for, no_words, some_words}
use Rattle.check_run.proofs.running.end_of.Goals as goal

pub returns-then-is_empty-clause-ends : goal.returns-then-is_empty-clause-ends
returns-then-is_empty-clause-ends g c =
    let none = no_words string_bytes c.args.words.now (sym c.is_empty.ensures ∙ c.if-is_empty.true) in
    ends_for (map string_bytes c.args.words.now) _ none _ c.check_source.result c.check_source.ensures.ends

pub returns-then-is_empty-clause-unread : goal.returns-then-is_empty-clause-unread
returns-then-is_empty-clause-unread g c = λ some. absurd (some (no_words string_bytes c.args.words.now (sym c.is_empty.ensures ∙ c.if-is_empty.true)))

pub returns-else-is_empty-clause-ends : goal.returns-else-is_empty-clause-ends
returns-else-is_empty-clause-ends g c =
    let words = map string_bytes c.args.words.now in
    ends_concluded check_ending_of (IsCheckDue words _) (words ≡ []) _ _ status.Usage _ refl
    (some_words string_bytes c.args.words.now (sym c.is_empty.ensures ∙ c.if-is_empty.false), refl) c.conclude.ensures.concludes
