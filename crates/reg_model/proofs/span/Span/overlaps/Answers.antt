use Rattle.std.proofs.lemmas.Bool.{leb-true, le-leb}
use Rattle.reg_model.proofs.Spans.{overlap_from, overlap_bounds}
use Rattle.reg_model.proofs.span.Span.overlaps.Goals as goal

pub returns-then-self-other : goal.returns-then-self-other
returns-then-self-other c =
    rw (← c.self.view_is, ← c.other.view_is) (
      (λ begins. overlap_from _ _ c.self.invariant c.other.invariant c.if-self-other.true (leb-true _ _ begins)),
      (λ overlap. le-leb _ _ (overlap_bounds _ _ overlap).1),
    )
