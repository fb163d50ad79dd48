-- A section as C's libraries have it.
use Rattle.std.specs.Prelude.{◌≡◌, ℕ, ◌<◌, ◌^◌, List, length}
use Rattle.frame_parse.specs.Sections.{SectionData, HasFdes}

-- the bytes at an address are this section, whose places are numbers of four bytes
pub record IsLoaded (address : ℕ) (bytes : List ℕ) (section : SectionData) : Type 0 where
  pub address_kept : section.address ≡ address
  pub bytes_kept : section.bytes ≡ bytes
  pub found : HasFdes address bytes section.fdes
  pub short : length bytes < 2 ^ 32
