use Rattle.std.proofs.Common.{sym}
use Rattle.unwind_c.proofs.readers.unwind_c_find.Goals as goal

pub returns : goal.returns
returns c = rw (c.open-open.ensures, c.of-2.ensures, sym c.deref_mut.ensures.value) (
  c.find.result,
  (record { found = c.find.ensures.found; again = c.find.ensures.again; same = c.find.ensures.same }, c.of.ensures),
)
