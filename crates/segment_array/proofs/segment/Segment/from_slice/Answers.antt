use Rattle.std.proofs.Common.{◌∙◌, ◌++◌, [], sym, subst, append-nil}
use Rattle.segment_array.specs.Ascending.{AscendFrom}
use Rattle.segment_array.proofs.segment.Segment.from_slice.Goals as goal

pub of-requires-clause-ascending : goal.of-requires-clause-ascending
of-requires-clause-ascending c = subst (AscendFrom 0) (sym (append-nil (c.args.members.now ++ []) ∙ append-nil c.args.members.now)) c.requires.ascending

pub returns : goal.returns
returns c = c.of.ensures ∙ (append-nil (c.args.members.now ++ []) ∙ append-nil c.args.members.now)
