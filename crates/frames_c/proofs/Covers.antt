-- An FDE that covers an address is one of the section's.
use Rattle.std.specs.Prelude.{IfSome}
use Rattle.std.specs.Option.{option_map}
use Rattle.std.proofs.Common.{◌≡◌, ◌<◌, ◌^◌, sym, arith, ℕ, List, [], ◌∷◌, Bool, true, false, cond, Option, Some, None, subst}
use Rattle.std.specs.List.{All}
use Rattle.std.proofs.lemmas.List.Elements.{All-head, All-tail}
use Rattle.frame_parse.specs.Entries.{FdeRecord}
use Rattle.frame_parse.specs.Sections.{FdeData, covers, first_cover}

chosen : (P : FdeRecord → Type 0) (b : Bool) (x f : FdeRecord) (rest : Option FdeRecord) → P x → (rest ≡ Some f → P f) → cond b (Some x) rest ≡ Some f → P f
chosen P true x f rest first more e = let same : x ≡ f = cc in subst P same first
chosen P false x f rest first more e = more e

pub cover_has : (P : FdeRecord → Type 0) (pc : ℕ) (fs : List FdeRecord) (f : FdeRecord) → All P fs → first_cover pc fs ≡ Some f → P f
cover_has P pc [] f all e = absurd cc
cover_has P pc (x ∷ xs) f all e =
    chosen P (covers pc x) x f (first_cover pc xs) (All-head P x xs all) (cover_has P pc xs f (All-tail P x xs all)) e

-- so its place is a number of four bytes where those of the section are
pub found_low : (pc n : ℕ) (fs : List FdeRecord) (r : Option FdeData) → All (λ f. f.start < n) fs → n < 2 ^ 32 → option_map (λ (f : FdeData). f.entry) r ≡ first_cover pc fs → IfSome r (λ f. f.entry.start < 2 ^ 32)
found_low pc n fs None all lt e = tt
found_low pc n fs (Some f) all lt e = let place = cover_has (λ f. f.start < n) pc fs f.entry all (sym e) in omega (arith, place, lt)
