use Rattle.std.proofs.Common.{◌≡◌, ◌/◌, false, sym, subst, ◌∙◌, get_or, arith}
use Rattle.frames_c.specs.declared.table.FramesEntry.{FramesEntry}
use Rattle.frames_c.specs.TableEntries.{entry_has}
use Rattle.std.proofs.lemmas.List.{get_or_default}
use Rattle.frames_c.proofs.Tables.{half_left, found_here, found_none}
use Rattle.frames_c.proofs.table.searched.Goals as goal
use Rattle.frames_c.proofs.table.searched.Goals.{else-base-entries-via-then-base-entries+else-has, else-base-entries-via-else-base-entries}

abbrev nothing : FramesEntry
nothing = record { first = 0; range = 0; place = 0 }

pub loop-size-preserved : goal.loop-size-preserved
loop-size-preserved c =
    let was = c.loop-size in
    rw c.where_begun-base.ensures (half_left c.args.entries.now c.args.pc was.base was.size (was.size / 2) nothing was.invariant (omega arith) (omega arith))

pub returns-then-has : goal.returns-then-has
returns-then-has c =
    let was = c.loop-size in
    let e = get_or c.args.entries.now was.base nothing in
    found_here c.args.entries.now c.args.pc was.base was.size e was.invariant (omega arith) (omega arith) (get_or_default c.args.entries.now was.base e nothing (omega arith)) (sym c.has.ensures ∙ c.if-has.true)

pub returns-else-base-entries : goal.returns-else-base-entries
returns-else-base-entries c =
    let was = c.loop-size in
    found_none c.args.entries.now c.args.pc was.base was.size was.invariant (omega arith) (λ d lt.
    elim c.else-base-entries.branch [
      | else-base-entries-via-then-base-entries+else-has w ↦
          subst (λ (e : FramesEntry). entry_has c.args.pc e ≡ false) (get_or_default c.args.entries.now was.base nothing d lt) (sym w.has.ensures ∙ w.if-has.false)
      | else-base-entries-via-else-base-entries w ↦ let beyond = w.if-base-entries in absurd (omega (arith, beyond, lt))
    ])
