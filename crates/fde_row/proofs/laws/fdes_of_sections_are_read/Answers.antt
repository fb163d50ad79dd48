use Rattle.fde_row.proofs.Alone.{section_alone}
use Rattle.fde_row.proofs.laws.fdes_of_sections_are_read.Goals as goal

pub returns : goal.returns
returns c = section_alone
