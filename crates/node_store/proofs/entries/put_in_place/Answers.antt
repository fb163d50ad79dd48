use Rattle.std.proofs.Common.{◌≡◌, ◌+◌, ◌*◌, ◌-◌, ◌∙◌, length, ap, subst, arith}
use Rattle.tree_shape.specs.NodeData.{entries_of}
use Rattle.word_rule.specs.CallerData.{CallerData}
use Rattle.node_store.specs.Entries.{leaf_with, words_of_entry}
use Rattle.node_store.proofs.LeafMoves.{MadeUpto, may_held, may_loaded, put_ends, put_on, put_starts, same_table, wide_of}
use Rattle.node_store.proofs.LeafSearch.{few_entries}
use Rattle.node_store.proofs.LeafWords.{leaf_of, put_fits}
use Rattle.node_store.proofs.Making.{written_by}
use Rattle.node_store.proofs.Outlined.{known}
use Rattle.node_store.proofs.entries.put_in_place.Goals as goal

pub loop-old-init : goal.loop-old-init
loop-old-init c =
    let s = c.args.outline.now in
    let count = (few_entries c.args.node c.count-count.result c.args.outline.now c.args.me.now.log c.requires.spells c.requires.leaf c.count-count.ensures).0 in
    let at : 6 + 3 * length (entries_of s) ≡ c.load_entry-old.result.at = omega (arith, c.load_entry-old.ensures.at, count) in
    record {
      moves = length (entries_of s) - c.args.placed.now.place;
      at = omega (arith, at, c.requires.place);
      inside = omega (arith, c.requires.place);
      words_are = c.load_entry-old.ensures.words;
      made = subst (λ j. MadeUpto c.args.node (leaf_with c.args.placed.now.place c.args.placed.now.member s) (33 - j) c.args.me.now c.load_entry-old.new.me) at
          (put_starts c.args.node s c.args.me.now c.requires.spells c.requires.leaf c.args.placed.now.place c.args.placed.now.member c.requires.place c.load_entry-old.new.me c.requires.room c.load_entry-old.ensures.loads);
      may = may_loaded c.args.node c.args.me.now c.load_entry-old.new.me c.load_entry-old.ensures.loads c.requires.may;
    }

pub load_entry-moved-requires-clause-table : goal.load_entry-moved-requires-clause-table
load_entry-moved-requires-clause-table c =
    same_table c.args.node (leaf_with c.args.placed.now.place c.args.placed.now.member c.args.outline.now) (33 - c.loop-old.old.at) c.args.me.now c.loop-old.me c.loop-old.invariant.made ∙ c.requires.table

pub load_entry-moved-requires-clause-word : goal.load_entry-moved-requires-clause-word
load_entry-moved-requires-clause-word c =
    let at = c.loop-old.invariant.at in
    let inside = c.loop-old.invariant.inside in
    (omega (arith, at, c.loop-old-test.true), omega (arith, at, inside, c.requires.room))

pub load_entry-moved-requires-clause-held : goal.load_entry-moved-requires-clause-held
load_entry-moved-requires-clause-held c = may_held c.args.node c.loop-old.me.log c.loop-old.invariant.may

pub store_entry-requires-clause-table : goal.store_entry-requires-clause-table
store_entry-requires-clause-table c =
    ap (λ (z : CallerData). z.table) c.load_entry-moved.ensures.loads.1
    ∙ (same_table c.args.node (leaf_with c.args.placed.now.place c.args.placed.now.member c.args.outline.now) (33 - c.loop-old.old.at) c.args.me.now c.loop-old.me c.loop-old.invariant.made ∙ c.requires.table)

pub store_entry-requires-clause-word : goal.store_entry-requires-clause-word
store_entry-requires-clause-word c =
    let at = c.loop-old.invariant.at in
    let inside = c.loop-old.invariant.inside in
    (omega (arith, at), omega (arith, at, inside, c.requires.room))

pub store_entry-requires-clause-may : goal.store_entry-requires-clause-may
store_entry-requires-clause-may c = may_loaded c.args.node c.loop-old.me c.load_entry-moved.new.me c.load_entry-moved.ensures.loads c.loop-old.invariant.may

pub loop-old-preserved : goal.loop-old-preserved
loop-old-preserved c =
    put_on c.args.node c.args.outline.now c.args.me.now c.requires.spells c.requires.leaf c.args.placed.now.place c.args.placed.now.member c.requires.place c.loop-old.old c.load_entry-moved.result c.loop-old.me c.load_entry-moved.new.me c.store_entry.new.me
    c.requires.room c.loop-old.invariant (omega (arith, c.at_entry-first.ensures, c.loop-old-test.true)) c.load_entry-moved.ensures.at c.load_entry-moved.ensures.words c.load_entry-moved.ensures.loads c.store_entry.ensures.log c.store_entry.ensures.may

pub store_entry-requires-2-clause-table : goal.store_entry-requires-2-clause-table
store_entry-requires-2-clause-table c =
    same_table c.args.node (leaf_with c.args.placed.now.place c.args.placed.now.member c.args.outline.now) (33 - c.loop-old.old.at) c.args.me.now c.loop-old.me c.loop-old.invariant.made ∙ c.requires.table

pub store_entry-requires-2-clause-word : goal.store_entry-requires-2-clause-word
store_entry-requires-2-clause-word c =
    let at = c.loop-old.invariant.at in
    let inside = c.loop-old.invariant.inside in
    (omega (arith, at), omega (arith, at, inside, c.requires.room))

pub store_entry-requires-2-clause-may : goal.store_entry-requires-2-clause-may
store_entry-requires-2-clause-may c = c.loop-old.invariant.may

pub store_word-requires-clause-table : goal.store_word-requires-clause-table
store_word-requires-clause-table c =
    ap (λ (z : CallerData). z.table) c.store_entry-2.ensures.log
    ∙ (same_table c.args.node (leaf_with c.args.placed.now.place c.args.placed.now.member c.args.outline.now) (33 - c.loop-old.old.at) c.args.me.now c.loop-old.me c.loop-old.invariant.made ∙ c.requires.table)

pub returns : goal.returns
returns c =
    let n = c.args.node in
    let s = c.args.outline.now in
    let k = c.args.me.now in
    let place = c.args.placed.now.place in
    let m = c.args.placed.now.member in
    let x = known n s k.log c.requires.spells in
    let count = (few_entries n c.count-count.result s k.log c.requires.spells c.requires.leaf c.count-count.ensures).0 in
    let made = put_ends n s k c.requires.spells c.requires.leaf place m c.requires.place c.count-count.result c.loop-old.old c.of-put.result c.loop-old.me c.store_entry-2.new.me c.store_word.new.me
    c.requires.room c.loop-old.invariant (omega (arith, c.at_entry-first.ensures, c.loop-old-test.false)) (c.of-put.ensures.words ∙ ap (λ at. words_of_entry at m) c.at_entry-first.ensures) c.store_entry-2.ensures.log count c.store_word.ensures.log in
    let write = c.writes.ensures (leaf_with place m s) x.lock.words (wide_of n s k.log x c.load_entry-old.ensures.holder) (put_fits x.lock.words s (leaf_of x.lock.words s x.spells c.requires.leaf) place m c.requires.place c.requires.room (c.of-put.ensures.span, c.of-put.ensures.payload)) in
    let done = written_by n (leaf_with place m s) x.lock k c.store_word.new.me x.found write made in
    record { stores = done.stores; order = done.order; spells = done.spells }
