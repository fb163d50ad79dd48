use Rattle.journal_reader.proofs.LawfulSizes.{lawful_is_told}
use Rattle.journal_reader.proofs.laws.lawful_is_told.Goals as goal

pub returns : goal.returns
returns c = lawful_is_told
