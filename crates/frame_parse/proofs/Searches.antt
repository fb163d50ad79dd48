-- CIEs in order of their places, and the one that begins at a place.
use Rattle.std.proofs.Common.{◌≡◌, ◌≢◌, ℕ, zero, suc, ◌<◌, ◌≤◌, List, [], ◌∷◌, length, get_or, true, false, Some, None, nat_eq, refl, sym, ap, arith, inl, inr}
use Rattle.std.proofs.lemmas.Bool.{cases_lt, eq-eqb, ne_eqb}
use Rattle.frame_parse.specs.declared.records.CieRecord.{CieRecord}
use Rattle.frame_parse.specs.Records.{cie_from}
use Rattle.frame_parse.specs.Sections.{starts, IsAscending}

pub starts-at : (cs : List CieRecord) (k : ℕ) (d : CieRecord) → d.start ≡ 0 → get_or (starts cs) k 0 ≡ (get_or cs k d).start
starts-at [] k d e = sym e
starts-at (c ∷ cs) zero d e = refl
starts-at (c ∷ cs) (suc k) d e = starts-at cs k d e

pub starts-length : (cs : List CieRecord) → length (starts cs) ≡ length cs
starts-length [] = refl
starts-length (c ∷ cs) = ap suc (starts-length cs)

pub up_to : (ns : List ℕ) (i j : ℕ) → IsAscending ns → i ≤ j → j < length ns → get_or ns i 0 ≤ get_or ns j 0
up_to ns i j up le lt =
    elim (cases_lt i j) [
      | inl below ↦ let less = up i j below lt in omega arith
      | inr above ↦ let same : i ≡ j = omega arith in rw same (omega arith)
    ]

pub cie_from-at : (cs : List CieRecord) (k place : ℕ) (d : CieRecord) → k < length cs → ((i : ℕ) → i < k → get_or (starts cs) i 0 < place) → get_or (starts cs) k 0 ≡ place
    → cie_from cs place ≡ Some (get_or cs k d)
cie_from-at [] k place d lt below here = absurd (omega arith)
cie_from-at (c ∷ cs) zero place d lt below here = let yes : nat_eq c.start place ≡ true = eq-eqb c.start place here in rw yes refl
cie_from-at (c ∷ cs) (suc k) place d lt below here =
    let first = below 0 (omega arith) in
    let no : nat_eq c.start place ≡ false = ne_eqb c.start place (λ e. absurd (omega arith)) in
    rw no (cie_from-at cs k place d (omega arith) (λ i h. below (suc i) (omega arith)) here)

pub cie_from-none : (cs : List CieRecord) (place : ℕ) → ((i : ℕ) → i < length cs → get_or (starts cs) i 0 ≢ place) → cie_from cs place ≡ None
cie_from-none [] place other = refl
cie_from-none (c ∷ cs) place other =
    let no : nat_eq c.start place ≡ false = ne_eqb c.start place (other 0 (omega arith)) in
    rw no (cie_from-none cs place (λ i h. other (suc i) (omega arith)))
