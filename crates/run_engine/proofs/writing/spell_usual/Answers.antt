use Rattle.std.proofs.Common.{◌≡◌, ℕ, List, [], ◌++◌, append-nil, ap, refl, sym, ◌∙◌}
use Rattle.script_text.specs.ScriptData.{span_of}
use Rattle.script_text.specs.Text.{answer_line, answer_text, event_line}
use Rattle.script_text.specs.declared.journal.Answer.{Answer}
use Rattle.script_text.specs.declared.script.Event.TheVariants.{Deregister, Find}
use Rattle.run_engine.specs.Kept.{told}
use Rattle.run_engine.specs.declared.kept.KeptAnswer.TheVariants.{DoneWith, Registered}
use Rattle.run_engine.proofs.writing.spell_usual.Goals as goal

-- the line of an answer that has no more is the text of what tells it
line_alone : (round thread event : ℕ) (answer tells : Answer) → answer_text round thread event answer ≡ event_line round thread event (answer_line answer) ++ [] → tells ≡ answer → (line : List ℕ) → line ≡ event_line round thread event (answer_line answer) → line ≡ answer_text round thread event tells
line_alone round thread event answer tells alone same line is =
    is ∙ sym (append-nil _) ∙ sym alone ∙ ap (answer_text round thread event) (sym same)

pub returns-in-Find-Registered : goal.returns-in-Find-Registered
returns-in-Find-Registered c =
    let images = c.args.event.now.images.now in
    let found = c.in-Find-Registered in
    λ _. line_alone _ _ _ (told images (Find found.pc) (Registered found.image found.stamp)) _ refl (rw (found.is-0, found.is-1) refl) _
    (c.spell_registered.ensures.text (span_of images found.image))

pub returns-in-Deregister-DoneWith : goal.returns-in-Deregister-DoneWith
returns-in-Deregister-DoneWith c =
    let images = c.args.event.now.images.now in
    let removed = c.in-Deregister-DoneWith in
    λ _. line_alone _ _ _ (told images (Deregister removed.base) (DoneWith removed.number removed.image)) _ refl (rw (removed.is-0, removed.is-1) refl) _
    (c.spell_removal.ensures.text (span_of images removed.image))
