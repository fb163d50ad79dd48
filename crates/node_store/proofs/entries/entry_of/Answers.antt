use Rattle.std.proofs.Common.{◌∙◌, Some, ap, sym, arith}
use Rattle.node_store.proofs.LeafMoves.{entry_loaded}
use Rattle.node_store.proofs.LeafWords.{entries_few}
use Rattle.node_store.proofs.Outlined.{is_held}
use Rattle.node_store.proofs.entries.entry_of.Goals as goal

pub at_entry-requires : goal.at_entry-requires
at_entry-requires c = let few = entries_few c.args.node c.args.outline.now c.args.me.now.log c.requires.spells c.requires.leaf in omega (arith, few, c.requires.place)

pub load_entry-requires-clause-word : goal.load_entry-requires-clause-word
load_entry-requires-clause-word c =
    let few = entries_few c.args.node c.args.outline.now c.args.me.now.log c.requires.spells c.requires.leaf in
    (omega (arith, c.at_entry.ensures), omega (arith, c.at_entry.ensures, few, c.requires.place))

pub load_entry-requires-clause-held : goal.load_entry-requires-clause-held
load_entry-requires-clause-held c = is_held c.args.node c.args.outline.now c.args.me.now.log c.requires.spells

pub member-requires : goal.member-requires
member-requires c = (entry_loaded c.args.node c.args.place c.args.outline.now c.args.me.now.log c.load_entry.result c.requires.spells c.requires.leaf c.requires.place c.load_entry.ensures.words (c.load_entry.ensures.at ∙ c.at_entry.ensures)).0

pub returns-clause-entry : goal.returns-clause-entry
returns-clause-entry c = (entry_loaded c.args.node c.args.place c.args.outline.now c.args.me.now.log c.load_entry.result c.requires.spells c.requires.leaf c.requires.place c.load_entry.ensures.words (c.load_entry.ensures.at ∙ c.at_entry.ensures)).1 ∙ ap Some (sym c.member.ensures)
