use Rattle.std.proofs.Common.{sym, ap, ◌∙◌, arith}
use Rattle.word_rule.proofs.Peeking.{peeks_loader, loader_version}
use Rattle.word_rule.proofs.words.Words.loader_version.Goals as goal

pub load-found-requires : goal.load-found-requires
load-found-requires c = (c.requires.table ∙ sym (ap (λ k. k.table) c.self.view_is), omega (arith, c.self.invariant.1), peeks_loader _ _ _ _)

pub returns-clause-version : goal.returns-clause-version
returns-clause-version c = loader_version _ _ c.load-found.ensures.2.1
