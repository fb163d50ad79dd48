use Rattle.std.proofs.Common.{ap, sym, subst, arith, take}
use Rattle.tree_shape.specs.NodeData.{Pairs, Entries}
use Rattle.tree_shape.specs.Nodes.{body_of, node_data}
use Rattle.node_store.specs.Writing.{AreSpelledOver}
use Rattle.node_store.proofs.Overwritten.{few_as, spelled_as}
use Rattle.node_store.proofs.writing.spell.Goals as goal

pub spell_pairs-requires-clause-room : goal.spell_pairs-requires-clause-room
spell_pairs-requires-clause-room c =
    few_as (node_data c.node.inside) c.args.node.now (Pairs (take c.in-Inner.count c.in-Inner.pairs)) c.requires.fits c.node.view_is (ap body_of c.in-Inner.is)

pub spell_entries-requires-clause-room : goal.spell_entries-requires-clause-room
spell_entries-requires-clause-room c =
    few_as (node_data c.node.inside) c.args.node.now (Entries (take c.in-Leaf.count c.in-Leaf.entries)) c.requires.fits c.node.view_is (ap body_of c.in-Leaf.is)

pub returns-in-Inner-clause-spells : goal.returns-in-Inner-clause-spells
returns-in-Inner-clause-spells c =
    subst (λ ws. AreSpelledOver c.args.node.now c.args.words.now ws) (sym c.spell_pairs.ensures.words)
    (spelled_as (node_data c.node.inside) c.args.node.now (Pairs (take c.in-Inner.count c.in-Inner.pairs)) c.args.words.now c.requires.wide c.requires.fits c.node.view_is (ap body_of c.in-Inner.is))

pub returns-in-Leaf-clause-spells : goal.returns-in-Leaf-clause-spells
returns-in-Leaf-clause-spells c =
    subst (λ ws. AreSpelledOver c.args.node.now c.args.words.now ws) (sym c.spell_entries.ensures.words)
    (spelled_as (node_data c.node.inside) c.args.node.now (Entries (take c.in-Leaf.count c.in-Leaf.entries)) c.args.words.now c.requires.wide c.requires.fits c.node.view_is (ap body_of c.in-Leaf.is))

pub returns-in-Inner-clause-some : goal.returns-in-Inner-clause-some
returns-in-Inner-clause-some c =
    omega (arith, c.spell_pairs.ensures.count, few_as (node_data c.node.inside) c.args.node.now (Pairs (take c.in-Inner.count c.in-Inner.pairs)) c.requires.fits c.node.view_is (ap body_of c.in-Inner.is))

pub returns-in-Leaf-clause-some : goal.returns-in-Leaf-clause-some
returns-in-Leaf-clause-some c =
    omega (arith, c.spell_entries.ensures.count, few_as (node_data c.node.inside) c.args.node.now (Entries (take c.in-Leaf.count c.in-Leaf.entries)) c.requires.fits c.node.view_is (ap body_of c.in-Leaf.is))
