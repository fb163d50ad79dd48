use Rattle.std.proofs.Common.{◌≡◌, ◌+◌, ◌*◌, ◌-◌, ◌∙◌, Some, length, ap, sym, subst, arith}
use Rattle.tree_shape.specs.NodeData.{entries_of}
use Rattle.word_rule.specs.CallerData.{CallerData}
use Rattle.node_store.specs.Entries.{leaf_without}
use Rattle.node_store.proofs.LeafMoves.{MadeUpto, cut_ends, cut_on, cut_starts, entry_loaded, may_held, may_loaded, same_table, wide_of}
use Rattle.node_store.proofs.LeafSearch.{few_entries}
use Rattle.node_store.proofs.LeafWords.{cut_fits, leaf_of}
use Rattle.node_store.proofs.Making.{written_by}
use Rattle.node_store.proofs.Outlined.{known}
use Rattle.node_store.proofs.entries.cut_in_place.Goals as goal

pub at_entry-first-requires : goal.at_entry-first-requires
at_entry-first-requires c = let few = few_entries c.args.node c.count-count.result c.args.outline.now c.args.me.now.log c.requires.spells c.requires.leaf c.count-count.ensures in omega (arith, few.0, few.1, c.requires.place)

pub at_entry-requires : goal.at_entry-requires
at_entry-requires c = let few = few_entries c.args.node c.count-count.result c.args.outline.now c.args.me.now.log c.requires.spells c.requires.leaf c.count-count.ensures in omega (arith, few.0, few.1)

pub load_entry-later-requires-clause-word : goal.load_entry-later-requires-clause-word
load_entry-later-requires-clause-word c =
    let most = (few_entries c.args.node c.count-count.result c.args.outline.now c.args.me.now.log c.requires.spells c.requires.leaf c.count-count.ensures).1 in
    (omega arith, omega (arith, most))

pub loop-later-init : goal.loop-later-init
loop-later-init c =
    let s = c.args.outline.now in
    let count = (few_entries c.args.node c.count-count.result c.args.outline.now c.args.me.now.log c.requires.spells c.requires.leaf c.count-count.ensures).0 in
    let last = length (entries_of s) - 1 in
    let at : 6 + 3 * last ≡ c.load_entry-later.result.at = omega (arith, c.load_entry-later.ensures.at, count) in
    record {
      moves = last - c.args.place;
      at = omega (arith, at, c.requires.place);
      inside = omega (arith, c.requires.place);
      words_are = c.load_entry-later.ensures.words;
      made = subst (λ j. MadeUpto c.args.node (leaf_without c.args.place s) (36 - j) c.args.me.now c.load_entry-later.new.me) at
          (cut_starts c.args.node s c.args.me.now c.requires.spells c.requires.leaf c.args.place c.requires.place last c.load_entry-later.new.me (omega (arith, c.requires.place)) c.load_entry-later.ensures.loads);
      may = may_loaded c.args.node c.args.me.now c.load_entry-later.new.me c.load_entry-later.ensures.loads c.requires.may;
    }

pub load_entry-old-requires-clause-table : goal.load_entry-old-requires-clause-table
load_entry-old-requires-clause-table c =
    same_table c.args.node (leaf_without c.args.place c.args.outline.now) (36 - c.loop-later.later.at) c.args.me.now c.loop-later.me c.loop-later.invariant.made ∙ c.requires.table

pub load_entry-old-requires-clause-word : goal.load_entry-old-requires-clause-word
load_entry-old-requires-clause-word c =
    let at = c.loop-later.invariant.at in
    let inside = c.loop-later.invariant.inside in
    let few = (few_entries c.args.node c.count-count.result c.args.outline.now c.args.me.now.log c.requires.spells c.requires.leaf c.count-count.ensures) in
    let same = few.0 in
    let most = few.1 in
    (omega (arith, at, c.loop-later-test.true), omega (arith, at, inside, same, most))

pub load_entry-old-requires-clause-held : goal.load_entry-old-requires-clause-held
load_entry-old-requires-clause-held c = may_held c.args.node c.loop-later.me.log c.loop-later.invariant.may

pub store_entry-requires-clause-table : goal.store_entry-requires-clause-table
store_entry-requires-clause-table c =
    ap (λ (z : CallerData). z.table) c.load_entry-old.ensures.loads.1
    ∙ (same_table c.args.node (leaf_without c.args.place c.args.outline.now) (36 - c.loop-later.later.at) c.args.me.now c.loop-later.me c.loop-later.invariant.made ∙ c.requires.table)

pub store_entry-requires-clause-word : goal.store_entry-requires-clause-word
store_entry-requires-clause-word c =
    let at = c.loop-later.invariant.at in
    let inside = c.loop-later.invariant.inside in
    let few = (few_entries c.args.node c.count-count.result c.args.outline.now c.args.me.now.log c.requires.spells c.requires.leaf c.count-count.ensures) in
    let same = few.0 in
    let most = few.1 in
    (omega (arith, at, c.loop-later-test.true, c.load_entry-old.ensures.at), omega (arith, at, inside, same, most, c.load_entry-old.ensures.at))

pub store_entry-requires-clause-may : goal.store_entry-requires-clause-may
store_entry-requires-clause-may c = may_loaded c.args.node c.loop-later.me c.load_entry-old.new.me c.load_entry-old.ensures.loads c.loop-later.invariant.may

pub loop-later-preserved : goal.loop-later-preserved
loop-later-preserved c =
    cut_on c.args.node c.args.outline.now c.args.me.now c.requires.spells c.requires.leaf c.args.place c.requires.place c.loop-later.later c.load_entry-old.result c.loop-later.me c.load_entry-old.new.me c.store_entry.new.me
    c.loop-later.invariant (omega (arith, c.at_entry-first.ensures, c.loop-later-test.true)) c.load_entry-old.ensures.at c.load_entry-old.ensures.words c.load_entry-old.ensures.loads c.store_entry.ensures.log c.store_entry.ensures.may

pub store_word-requires-clause-table : goal.store_word-requires-clause-table
store_word-requires-clause-table c =
    same_table c.args.node (leaf_without c.args.place c.args.outline.now) (36 - c.loop-later.later.at) c.args.me.now c.loop-later.me c.loop-later.invariant.made ∙ c.requires.table

pub store_word-requires-clause-may : goal.store_word-requires-clause-may
store_word-requires-clause-may c = c.loop-later.invariant.may

pub member-requires : goal.member-requires
member-requires c =
    let at = c.loop-later.invariant.at in
    (entry_loaded c.args.node c.args.place c.args.outline.now c.args.me.now.log c.loop-later.later c.requires.spells c.requires.leaf c.requires.place c.loop-later.invariant.words_are (omega (arith, at, c.at_entry-first.ensures, c.loop-later-test.false))).0

pub returns : goal.returns
returns c =
    let n = c.args.node in
    let s = c.args.outline.now in
    let k = c.args.me.now in
    let place = c.args.place in
    let x = known n s k.log c.requires.spells in
    let count = (few_entries n c.count-count.result s k.log c.requires.spells c.requires.leaf c.count-count.ensures).0 in
    let at = c.loop-later.invariant.at in
    let there = entry_loaded n place s k.log c.loop-later.later c.requires.spells c.requires.leaf c.requires.place c.loop-later.invariant.words_are (omega (arith, at, c.at_entry-first.ensures, c.loop-later-test.false)) in
    let made = cut_ends n s k c.requires.spells c.requires.leaf place c.requires.place c.count-count.result c.loop-later.later c.loop-later.me c.store_word.new.me
    c.loop-later.invariant (omega (arith, c.at_entry-first.ensures, c.loop-later-test.false)) count c.store_word.ensures.log in
    let write = c.writes.ensures (leaf_without place s) x.lock.words (wide_of n s k.log x c.load_entry-later.ensures.holder) (cut_fits x.lock.words s (leaf_of x.lock.words s x.spells c.requires.leaf) place c.requires.place) in
    let done = written_by n (leaf_without place s) x.lock k c.store_word.new.me x.found write made in
    record { entry = there.1 ∙ ap Some (sym c.member.ensures); stores = done.stores; order = done.order; spells = done.spells }
