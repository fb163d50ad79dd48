use Rattle.std.proofs.Common.{◌≡◌, ◌+◌, ◌≤◌, ◌∙◌, drop, length, length-drop, sym, subst, arith}
use Rattle.std.specs.Str.{IsUtf8}
use Rattle.std.proofs.lemmas.Str.{IsUtf8-append}
use Rattle.script_text.proofs.LineEnds.{word_before, size_kept}
use Rattle.script_text.proofs.print.line.LineEnd.prepend.Goals as goal

pub invariant_of-self : goal.invariant_of-self
invariant_of-self c =
    let start = c.self.inside.start in
    let room = c.self.inside.room in
    let word = c.args.word.now in
    let i = c.self.invariant in
    let put = c.copy_from_slice.new.self in
    let is : put ≡ word = c.copy_from_slice.ensures.after ∙ c.as_bytes.ensures.value in
    let left : length word + length (drop start room) ≤ 272 = rw (← c.self.view_is) at c.requires in
    let fits : length word ≤ start = omega (arith, left, length-drop start room, i.0, i.1) in
    let within : start ≤ length room = omega (arith, i.0, i.1) in
    (size_kept start room word put is fits within ∙ i.0, omega (arith, i.1), subst IsUtf8 (sym (word_before start room word put is fits within)) (IsUtf8-append word (drop start room) c.utf8.word i.2))
