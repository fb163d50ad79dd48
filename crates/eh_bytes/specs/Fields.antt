-- The parts that are read at once, as DWARF 5 (section 7.6) spells them: numbers of fixed width,
-- LEB128 numbers and texts.
use Rattle.std.specs.Prelude.{◌≡◌, ℕ, ◌^◌, ◌<◌, ◌≤◌, ◌⊎◌, ℤ, List, [], ◌∷◌, ◌++◌, length, true}
use Rattle.std.specs.Prelude.{false, None}
use Rattle.std.specs.Int.{Width, w8, w16, w32, w64, w128, cast_signed}
use Rattle.byteorder.specs.Endian.{little_number}
use Rattle.eh_bytes.specs.declared.fault.ByteFault.{ByteFault}
use Rattle.eh_bytes.specs.declared.fault.ByteFault.TheVariants.{Short, TooWide}
use Rattle.eh_bytes.specs.CursorData.{fixed_at, text_len, text_at}
use Rattle.eh_bytes.specs.Leb.{IsLeb, leb_len, uleb_value, sleb_value, fits_signed, uleb_at}
use Rattle.eh_bytes.specs.Leb.{sleb_at}
use Rattle.eh_bytes.specs.Grammar.{Part, ◌>>=◌, give}

-- a number of n bytes, the lowest first
abbrev pub fixed : ℕ → Part ByteFault ℕ
fixed n = record {
  Spells = λ p text x. (length text ≡ n) × (little_number n text ≡ x);
  Refuses = λ p bytes f. (length bytes < n) × (f ≡ Short p);
  read = fixed_at n;
}

abbrev pub bytes_in : Width → ℕ
bytes_in w8 = 1
bytes_in w16 = 2
bytes_in w32 = 4
bytes_in w64 = 8
bytes_in w128 = 16

-- a signed number of a width, in two's complement
abbrev pub signed_fixed : Width → Part ByteFault ℤ
signed_fixed w = fixed (bytes_in w) >>= λ x. give (cast_signed w x)

-- an unsigned LEB128 number
abbrev pub uleb : Part ByteFault ℕ
uleb = record {
  Spells = λ p text x. IsLeb text × (uleb_value text < 2 ^ 64) × (uleb_value text ≡ x);
  Refuses = λ p bytes f.
      ((leb_len bytes ≡ None) × (f ≡ Short p))
      ⊎ ((text : List ℕ) × (back : List ℕ) × (bytes ≡ text ++ back) × IsLeb text
      × (2 ^ 64 ≤ uleb_value text) × (f ≡ TooWide p));
  read = uleb_at;
}

-- a signed one
abbrev pub sleb : Part ByteFault ℤ
sleb = record {
  Spells = λ p text x. IsLeb text × (fits_signed (sleb_value text) ≡ true) × (sleb_value text ≡ x);
  Refuses = λ p bytes f.
      ((leb_len bytes ≡ None) × (f ≡ Short p))
      ⊎ ((text : List ℕ) × (back : List ℕ) × (bytes ≡ text ++ back) × IsLeb text
      × (fits_signed (sleb_value text) ≡ false) × (f ≡ TooWide p));
  read = sleb_at;
}

-- a text without a 0, and a 0
abbrev pub text : Part ByteFault (List ℕ)
text = record {
  Spells = λ p text x. (text_len x ≡ None) × (text ≡ x ++ 0 ∷ []);
  Refuses = λ p bytes f. (text_len bytes ≡ None) × (f ≡ Short p);
  read = text_at;
}
