use Rattle.reg_model.proofs.Chains.{chain_leads, chain_holds, chain_rises}
use Rattle.reg_model.proofs.laws.chains_hold.Goals as goal

pub returns-clause-hold : goal.returns-clause-hold
returns-clause-hold c start history old new receipts leads chain = (chain_leads start history old new receipts leads chain, chain_holds start history old new receipts leads chain)

pub returns-clause-rise : goal.returns-clause-rise
returns-clause-rise c = chain_rises
