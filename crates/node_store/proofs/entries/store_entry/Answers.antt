use Rattle.std.proofs.Common.{◌+◌}
use Rattle.node_store.specs.Entries.{store_over}
use Rattle.node_store.proofs.Making.{stored_thrice}
use Rattle.node_store.proofs.entries.store_entry.Goals as goal

pub returns-clause-log : goal.returns-clause-log
returns-clause-log c =
    let old = c.args.old.now in
    let new = c.args.new.now in
    stored_thrice c.args.node
    (store_over old.payload (record { at = old.at + 2; value = new.payload }))
    (store_over old.size (record { at = old.at + 1; value = new.size }))
    (store_over old.base (record { at = old.at; value = new.base }))
    c.args.me.now c.store_word.new.me c.store_word-2.new.me c.store_word-3.new.me c.store_word.ensures.log c.store_word-2.ensures.log c.store_word-3.ensures.log
