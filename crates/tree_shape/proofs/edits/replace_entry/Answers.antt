use Rattle.std.proofs.Common.{◌∙◌, ap, sym, subst, length, arith, IsSome}
use Rattle.reg_model.specs.State.{at_base}
use Rattle.reg_model.specs.History.{without}
use Rattle.tree_shape.specs.Changes.{with_entry}
use Rattle.tree_shape.specs.NodeData.{NodeData, Entries, entries_of}
use Rattle.tree_shape.proofs.Slots.{put_length}
use Rattle.tree_shape.proofs.Orders.{leaf_order}
use Rattle.tree_shape.proofs.Payloads.{payload_length, span_begins, taken_and_put}
use Rattle.tree_shape.proofs.edits.replace_entry.Goals as goal

pub take_entry-others-requires-clause-held : goal.take_entry-others-requires-clause-held
take_entry-others-requires-clause-held c = subst (λ b. IsSome (at_base b (entries_of c.args.node.now))) (sym c.first.ensures.value) (span_begins c.args.member.now.span (entries_of c.args.node.now) c.requires.held)

pub put_entry-requires-clause-room : goal.put_entry-requires-clause-room
put_entry-requires-clause-room c =
    let s = c.args.node.now in let m = c.args.member.now in
    let left = ap (λ (z : NodeData). length (entries_of z)) c.take_entry-others.ensures.left ∙ ap (λ b. length (without b (entries_of s))) c.first.ensures.value in
    let same = ap length (taken_and_put m s.low s.high (entries_of s) (leaf_order s c.requires.leaf c.requires.ordered) c.requires.held) in
    omega (arith, left, same, put_length (without m.span.first (entries_of s)) m, payload_length m (entries_of s), c.entries-few.ensures.count)

pub returns : goal.returns
returns c =
    let s = c.args.node.now in let m = c.args.member.now in
    c.put_entry.ensures
    ∙ ap (λ (z : NodeData). record z { body = Entries (with_entry m (entries_of z)) }) c.take_entry-others.ensures.left
    ∙ ap (λ b. record s { body = Entries (with_entry m (without b (entries_of s))) }) c.first.ensures.value
    ∙ ap (λ es. record s { body = Entries es }) (taken_and_put m s.low s.high (entries_of s) (leaf_order s c.requires.leaf c.requires.ordered) c.requires.held)
