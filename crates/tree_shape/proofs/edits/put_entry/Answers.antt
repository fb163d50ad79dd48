use Rattle.tree_shape.proofs.Parts.{put_in}
use Rattle.tree_shape.proofs.edits.put_entry.Goals as goal

pub returns : goal.returns
returns c = let e = put_in c.args.member.now c.entries-entries.result.now c.place-place.result (cc) in cc
