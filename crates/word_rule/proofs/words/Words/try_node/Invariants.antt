use Rattle.word_rule.specs.declared.log.Ask.TheVariants as ask
use Rattle.word_rule.proofs.words.Words.try_node.Given as goal

abbrev pub ghosts-try_node_for : goal.ghosts-try_node_for
ghosts-try_node_for a = record { node = a.node; at = 0; ask = ask.Nothing; terms = a.self.now.terms }
