use Rattle.word_rule.specs.declared.log.Ask.TheVariants as ask
use Rattle.word_rule.proofs.words.Words.release_node.Given as goal

abbrev pub ghosts-release_for : goal.ghosts-release_for
ghosts-release_for a = record { node = a.node; at = 0; ask = ask.Nothing; terms = a.self.now.terms }
