use Rattle.word_rule.specs.declared.log.Ask.TheVariants as ask
use Rattle.word_rule.proofs.words.Words.read_node.Given as goal

abbrev pub ghosts-load_node_for : goal.ghosts-load_node_for
ghosts-load_node_for a = record { node = a.node; at = a.at; ask = ask.Nothing; terms = a.self.now.terms }
