use Rattle.std.proofs.Common.{List, ◌≡◌, [], get_or, drop, sym, subst}
use Rattle.std.proofs.lemmas.Bool.{eqb-true, eqb-false}
use Rattle.std.proofs.lemmas.List.{nil_from_length}
use Rattle.frame_parse.specs.declared.cover_pieces.CoverPiece.{CoverPiece}
use Rattle.frame_parse.specs.Lookups.{IsOverlay}
use Rattle.frame_parse.proofs.Pieces.{IsOverlaid, IsHigher, no_piece, heads, nothing_done, left_on, right_on, both_on, left_alone, right_alone}
use Rattle.frame_parse.proofs.cover_pieces.overlaid.Goals as goal

pub loop-left-init : goal.loop-left-init
loop-left-init c = subst (λ (l : List CoverPiece). IsOverlaid c.args.earlier.now c.args.later.now l c.args.earlier.now c.args.later.now) (sym c.in_ok-pieces.ensures.items) (nothing_done c.args.earlier.now c.args.later.now c.requires.earlier c.requires.later)

pub returns-then-is_empty : goal.returns-then-is_empty
returns-then-is_empty c =
    let was = c.loop-left in
    let none : was.right.now ≡ [] = nil_from_length was.right.now (eqb-true _ _ (sym c.if-is_empty.ensures)) in
    let here = subst (λ (l : List CoverPiece). IsOverlaid c.args.earlier.now c.args.later.now was.pieces.items was.left.now l) none was.invariant in
    subst (λ (l : List CoverPiece). IsOverlay c.args.earlier.now c.args.later.now l) (sym c.in_ok-extend_from_slice.ensures.items) (left_alone c.args.earlier.now c.args.later.now was.pieces.items was.left.now here)

pub loop-left-preserved-then-x-y : goal.loop-left-preserved-then-x-y
loop-left-preserved-then-x-y c =
    let was = c.loop-left in
    let first = heads was.left.now no_piece (eqb-false _ _ (sym c.loop-left-test.ensures)) in
    let second = heads was.right.now no_piece (eqb-false _ _ (sym c.if-is_empty.ensures)) in
    let is : IsHigher (get_or was.left.now 0 no_piece) (get_or was.right.now 0 no_piece) c.higher.result = record { first = c.higher.ensures.first; fde = c.higher.ensures.fde } in
    rw (c.in_ok-push.ensures.items, c.behind_first-left.ensures)
    (left_on c.args.earlier.now c.args.later.now was.pieces.items was.left.now was.right.now (drop 1 was.left.now) (drop 1 was.right.now) (get_or was.left.now 0 no_piece) (get_or was.right.now 0 no_piece) c.higher.result was.invariant first second is c.if-x-y.true)

pub loop-left-preserved-then-x-y-2 : goal.loop-left-preserved-then-x-y-2
loop-left-preserved-then-x-y-2 c =
    let was = c.loop-left in
    let first = heads was.left.now no_piece (eqb-false _ _ (sym c.loop-left-test.ensures)) in
    let second = heads was.right.now no_piece (eqb-false _ _ (sym c.if-is_empty.ensures)) in
    let is : IsHigher (get_or was.left.now 0 no_piece) (get_or was.right.now 0 no_piece) c.higher.result = record { first = c.higher.ensures.first; fde = c.higher.ensures.fde } in
    rw (c.in_ok-push.ensures.items, c.behind_first-right.ensures)
    (right_on c.args.earlier.now c.args.later.now was.pieces.items was.left.now was.right.now (drop 1 was.left.now) (drop 1 was.right.now) (get_or was.left.now 0 no_piece) (get_or was.right.now 0 no_piece) c.higher.result was.invariant first second is c.if-x-y-2.true)

pub loop-left-preserved : goal.loop-left-preserved
loop-left-preserved c =
    let was = c.loop-left in
    let first = heads was.left.now no_piece (eqb-false _ _ (sym c.loop-left-test.ensures)) in
    let second = heads was.right.now no_piece (eqb-false _ _ (sym c.if-is_empty.ensures)) in
    let is : IsHigher (get_or was.left.now 0 no_piece) (get_or was.right.now 0 no_piece) c.higher.result = record { first = c.higher.ensures.first; fde = c.higher.ensures.fde } in
    rw (c.in_ok-push.ensures.items, c.behind_first-left-else-x-y-2.ensures, c.behind_first-right-else-x-y-2.ensures)
    (both_on c.args.earlier.now c.args.later.now was.pieces.items was.left.now was.right.now (drop 1 was.left.now) (drop 1 was.right.now) (get_or was.left.now 0 no_piece) (get_or was.right.now 0 no_piece) c.higher.result was.invariant first second is c.if-x-y.false c.if-x-y-2.false)

pub returns : goal.returns
returns c =
    let was = c.loop-left in
    let none : was.left.now ≡ [] = nil_from_length was.left.now (eqb-true _ _ (sym c.loop-left-test.ensures)) in
    let here = subst (λ (l : List CoverPiece). IsOverlaid c.args.earlier.now c.args.later.now was.pieces.items l was.right.now) none was.invariant in
    subst (λ (l : List CoverPiece). IsOverlay c.args.earlier.now c.args.later.now l) (sym c.in_ok-extend_from_slice-2.ensures.items) (right_alone c.args.earlier.now c.args.later.now was.pieces.items was.right.now here)
