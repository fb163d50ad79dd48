use Rattle.std.proofs.Common.{◌∙◌, ap}
use Rattle.word_rule.specs.CallerData.{CallerData}
use Rattle.node_store.proofs.HeldWords.{all_held, live_held, read, spells}
use Rattle.node_store.proofs.Sighted.{holdings_same}
use Rattle.node_store.proofs.held.read_held.Goals as goal

pub node_in-requires : goal.node_in-requires
node_in-requires c =
    let loaded = c.load_words.new.loaded in
    spells c.args.node loaded c.args.me.now.log (all_held c.args.node loaded c.args.me.now.log c.load_words.ensures.held c.requires.held)

pub returns-clause-reads : goal.returns-clause-reads
returns-clause-reads c =
    let loaded = c.load_words.new.loaded in
    read c.args.node loaded c.args.me.now c.load_words.new.me c.node_in.result (all_held c.args.node loaded c.args.me.now.log c.load_words.ensures.held c.requires.held) c.node_in.ensures c.load_words.ensures.log

pub returns-clause-holdings : goal.returns-clause-holdings
returns-clause-holdings c =
    ap (λ (k : CallerData). k.log.holdings) c.load_words.ensures.log ∙ holdings_same c.args.node c.load_words.new.loaded 35 c.args.me.now.log

pub returns-clause-live : goal.returns-clause-live
returns-clause-live c =
    live_held c.args.node c.load_words.new.loaded c.args.me.now.log c.node_in.result c.load_words.ensures.holder c.load_words.ensures.held c.node_in.ensures
