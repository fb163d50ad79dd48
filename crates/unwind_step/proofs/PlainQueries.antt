-- Queries to a registry over plain lists, one after another.
use Rattle.std.proofs.Common.{◌≡◌, List, [], ◌∷◌, All, sym, ◌∙◌, subst, arith}
use Rattle.std.proofs.lemmas.List.Elements.{All-cons}
use Rattle.unwind_step.specs.declared.backtrace.FrameLine.{FrameLine}
use Rattle.unwind_step.specs.Finders.{AnswersPlainly, GoesThrough, IsPlainPlace, PlainFinderData}

pub stands_still : (before end : PlainFinderData) (lines : List FrameLine) → GoesThrough AnswersPlainly before lines end → end ≡ before
stands_still before end [] goes = sym goes
stands_still before end (line ∷ lines) goes = stands_still goes.0 end lines goes.2 ∙ goes.1.0

abbrev Right : PlainFinderData → FrameLine → Type 0
Right finder line = IsPlainPlace finder.registry line.look line.place

pub are_right : (before end : PlainFinderData) (lines : List FrameLine) → GoesThrough AnswersPlainly before lines end → All (λ line. IsPlainPlace before.registry line.look line.place) lines
are_right before end [] goes = λ k d below. absurd (omega arith)
are_right before end (line ∷ lines) goes =
    All-cons (Right before) line lines goes.1.1 (subst (λ finder. All (Right finder) lines) goes.1.0 (are_right goes.0 end lines goes.2))
