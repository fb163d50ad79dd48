use Rattle.std.proofs.Common.{rules, ◌≡◌, List, ℕ, [], ◌+◌, ◌++◌, drop, refl, sym, subst, arith}
use Rattle.std.proofs.lemmas.Result.{err_from_is_err_and}
use Rattle.event_script.specs.Reading.{after_line}
use Rattle.event_script.specs.Taken.{LinesData, AreLinesOf}
use Rattle.event_script.proofs.Taken.{GoOn, piece_begun, piece_ended, line_good, line_bad, few_so_far}
use Rattle.event_script.proofs.reader.good_lines.GoodLines.take.Goals as goal

pub loop-end-init : goal.loop-end-init
loop-end-init c = record {
  so_far = λ bytes are. piece_begun bytes c.args.piece.now _ (subst (λ (l : LinesData). AreLinesOf bytes l) (sym c.self.view_is) are);
  within = c.place_of-end.ensures.within;
  before = c.place_of-end.ensures.before;
  found = c.place_of-end.ensures.found;
}

pub returns-in_err-numbered : goal.returns-in_err-numbered
returns-in_err-numbered c = λ bytes are.
    let l = c.loop-end in let i = l.invariant in
    let text = c.split_at.result.0.now in
    let e = err_from_is_err_and c.from_residual.result c.from_residual.ensures.1 in
    rw (e.1, e.2) (line_bad (bytes ++ c.args.piece.now) l.rest.now l.draft l.number l.kept.items (i.so_far bytes are) l.end i.within i.before i.found text (drop (l.end + 1) l.rest.now) c.loop-end-test.true c.split_at.ensures.front refl c.in_err-numbered.field-0.0
    (c.in_err-numbered.ensures.line c.read_line.new.draft (after_line l.draft (l.kept.items ++ text)) c.read_line.ensures.known))

pub overflow_add-number : goal.overflow_add-number
overflow_add-number c =
    let l = c.loop-end in let i = l.invariant in
    let line = l.kept.items ++ c.split_at.result.0.now in
    let next = c.read_line.new.draft in
    let bytes = c.self.invariant.0 in
    let are : AreLinesOf bytes c.args.self = subst (λ (x : LinesData). AreLinesOf bytes x) c.self.view_is c.self.invariant.1 in
    let good = c.in_ok-numbered.ensures.line next (after_line l.draft line) c.read_line.ensures.known in
    omega (arith, few_so_far (bytes ++ c.args.piece.now) l.rest.now l.draft l.number l.kept.items (i.so_far bytes are) l.end i.within i.before line next good)

pub loop-end-preserved : goal.loop-end-preserved
loop-end-preserved c =
    let l = c.loop-end in let i = l.invariant in
    let text = c.split_at.result.0.now in
    let next = c.read_line.new.draft in
    let others = c.split_at-in-loop-end.result.1.now in
    let good = c.in_ok-numbered.ensures.line next (after_line l.draft (l.kept.items ++ text)) c.read_line.ensures.known in
    let none : c.read_line.new.kept.items ≡ [] = rw c.in_ok-numbered.ensures.ok at c.read_line.ensures.kept in
    record {
      so_far = λ bytes are. subst (λ (k : List ℕ). GoOn (bytes ++ c.args.piece.now) others next (l.number + 1) k) (sym none)
          (line_good (bytes ++ c.args.piece.now) l.rest.now l.draft l.number l.kept.items (i.so_far bytes are) l.end i.within i.before i.found text others c.loop-end-test.true c.split_at.ensures.front c.split_at-in-loop-end.ensures.back next good);
      within = c.place_of-end-in-loop-end.ensures.within;
      before = c.place_of-end-in-loop-end.ensures.before;
      found = c.place_of-end-in-loop-end.ensures.found;
    }

pub invariant_of-result : goal.invariant_of-result
invariant_of-result c =
    let l = c.loop-end in let i = l.invariant in
    let bytes = c.self.invariant.0 in
    let are : AreLinesOf bytes c.args.self = subst (λ (x : LinesData). AreLinesOf bytes x) c.self.view_is c.self.invariant.1 in
    let grown : c.extend_from_slice.new.self.items ≡ l.kept.items ++ l.rest.now = search rules in
    (bytes ++ c.args.piece.now, rw grown (piece_ended (bytes ++ c.args.piece.now) l.rest.now l.draft l.number l.kept.items (i.so_far bytes are) l.end i.within i.before c.loop-end-test.false))

pub returns : goal.returns
returns c = λ bytes are.
    let l = c.loop-end in let i = l.invariant in
    let grown : c.extend_from_slice.new.self.items ≡ l.kept.items ++ l.rest.now = search rules in
    rw grown (piece_ended (bytes ++ c.args.piece.now) l.rest.now l.draft l.number l.kept.items (i.so_far bytes are) l.end i.within i.before c.loop-end-test.false)
