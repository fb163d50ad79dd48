use Rattle.word_rule.proofs.Exchanges.{exchange_decides}
use Rattle.word_rule.proofs.exchange.exchange_decided.Goals as goal

pub returns : goal.returns
returns c = exchange_decides c.decided.ensures
