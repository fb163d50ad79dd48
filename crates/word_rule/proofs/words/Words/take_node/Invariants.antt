use Rattle.word_rule.specs.declared.log.Ask.TheVariants as ask
use Rattle.word_rule.proofs.words.Words.take_node.Given as goal

abbrev pub ghosts-take_node_for : goal.ghosts-take_node_for
ghosts-take_node_for a = record { node = a.node; at = 0; ask = ask.Nothing; terms = a.self.now.terms }
