use Rattle.std.proofs.Common.{◌≡◌, ◌+◌, ◌++◌, ◌∷◌, [], take, sym, ◌∙◌, ap}
use Rattle.std.proofs.lemmas.List.{take_more, take_all}
use Rattle.std.proofs.lemmas.Bool.{false≢true}
use Rattle.reg_model.proofs.Members.{taken, passed_over}
use Rattle.reg_model.proofs.plain.lowest_overlap.Goals as goal
use Rattle.reg_model.proofs.plain.lowest_overlap.Goals.{then-overlaps+then-begins_below, else-overlaps, else-overlaps-via-then-overlaps+else-begins_below, else-overlaps-via-else-overlaps}

pub loop-member-preserved : goal.loop-member-preserved
loop-member-preserved c =
    let members = c.args.members.now in
    let passed = take c.loop-member.member-index members in
    let grown : take (c.loop-member.member-index + 1) members ≡ passed ++ c.member-item.result ∷ [] = take_more members c.loop-member.member-index c.member-item.result c.loop-member-test.true ∙ ap (λ m. passed ++ m ∷ []) (sym c.member-item.is) in
    elim c.if-overlaps.branch [
      | then-overlaps+then-begins_below w ↦ rw (grown, w.lowest-is) (taken _ passed c.loop-member.lowest _ c.loop-member.invariant (c.overlaps.ensures.0 w.if-overlaps.true) (w.begins_below.ensures.0 w.if-begins_below.true))
      | else-overlaps w ↦ rw (grown, w.lowest-is) (elim w.else-overlaps.branch [
        | else-overlaps-via-then-overlaps+else-begins_below w' ↦ passed_over _ passed c.loop-member.lowest _ c.loop-member.invariant (λ _ below. false≢true (sym w'.if-begins_below.false ∙ w'.begins_below.ensures.1 below))
        | else-overlaps-via-else-overlaps w' ↦ passed_over _ passed c.loop-member.lowest _ c.loop-member.invariant (λ overlaps _. false≢true (sym w'.if-overlaps.false ∙ c.overlaps.ensures.1 overlaps))
      ])
    ]

pub returns : goal.returns
returns c =
    let all : take c.loop-member.member-index c.args.members.now ≡ c.args.members.now = take_all _ _ c.loop-member-test.false in
    rw all at c.loop-member.invariant
