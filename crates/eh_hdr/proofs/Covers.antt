-- The last entry up to an address is of the only FDE that may cover it.
use Rattle.std.proofs.Common.{◌≡◌, ℕ, zero, suc, ◌+◌, ◌<◌, List, [], ◌∷◌, Bool, true, false, cond, Option, Some, None, nat_le, nat_lt, refl, sym, ap, ◌∙◌, arith, inl, inr, slice_get, leb-true, ltb-true}
use Rattle.std.specs.List.{All}
use Rattle.std.specs.Prelude.{option_and_then}
use Rattle.std.proofs.lemmas.Bool.{and_parts, and_left, cases_lt, lt-leb}
use Rattle.std.proofs.lemmas.Option.{slice_get_within, get_or_from_slice_get}
use Rattle.frame_parse.specs.Entries.{FdeRecord}
use Rattle.frame_parse.specs.Sections.{covers, first_cover}
use Rattle.eh_hdr.specs.declared.table.TableEntry.{TableEntry}
use Rattle.eh_hdr.specs.Tables.{IsSortedTable, IsLastUpTo}
use Rattle.eh_hdr.proofs.Tables.{in_order, entry_fde, has_entry, no_entry_here}

-- ---- the first cover

choice : (b : Bool) (g f : FdeRecord) (o : Option FdeRecord) → (b ≡ true → g ≡ f) → (b ≡ false → Some f ≡ o) → Some f ≡ cond b (Some g) o
choice true g f o here later = ap (λ (k : FdeRecord). Some k) (sym (here refl))
choice false g f o here later = later refl

only_cover : (pc : ℕ) (fs : List FdeRecord) (k : ℕ) (f : FdeRecord) → slice_get fs k ≡ Some f → covers pc f ≡ true → ((j : ℕ) (g : FdeRecord) → slice_get fs j ≡ Some g → covers pc g ≡ true → g ≡ f) → Some f ≡ first_cover pc fs
only_cover pc [] k f at on one = absurd cc
only_cover pc (g ∷ fs) zero f at on one =
    let same : g ≡ f = cc in
    choice (covers pc g) g f (first_cover pc fs) (λ _. same) (λ no. absurd (let both = sym on ∙ ap (covers pc) (sym same) ∙ no in cc))
only_cover pc (g ∷ fs) (suc k) f at on one =
    choice (covers pc g) g f (first_cover pc fs) (one 0 g refl) (λ _. only_cover pc fs k f at on (λ j. one (suc j)))

no_cover : (pc : ℕ) (fs : List FdeRecord) → ((j : ℕ) (g : FdeRecord) → slice_get fs j ≡ Some g → covers pc g ≡ false) → None ≡ first_cover pc fs
no_cover pc [] never = refl
no_cover pc (g ∷ fs) never = rw (never 0 g refl) (no_cover pc fs (λ j. never (suc j)))

-- ---- a table and its section

fde_of_number : (fdes : List FdeRecord) (i k : ℕ) (f g : FdeRecord) → i ≡ k → slice_get fdes i ≡ Some f → slice_get fdes k ≡ Some g → f ≡ g
fde_of_number fdes i k f g same at_i at_k = let both = sym at_i ∙ ap (slice_get fdes) same ∙ at_k in cc

covered_by_one : (pc : ℕ) (fdes : List FdeRecord) (es : List TableEntry) (i : ℕ) (e : TableEntry) (f : FdeRecord) → IsSortedTable fdes (Some es) → IsLastUpTo pc es i → slice_get es i ≡ Some e → slice_get fdes e.fde ≡ Some f
    → (k : ℕ) (g : FdeRecord) → slice_get fdes k ≡ Some g → covers pc g ≡ true → g ≡ f
covered_by_one pc fdes es i e f table last at has k g at_k on =
    let a = table.1 in
    let d = has_entry fdes es k table.0 a (slice_get_within fdes k g at_k) in
    let own = entry_fde fdes None es d.0 d.1 a d.2 in
    let same : own.0 ≡ g = fde_of_number fdes d.1.fde k own.0 g d.3 own.1 at_k in
    let g_of : slice_get fdes d.1.fde ≡ Some g = ap (slice_get fdes) d.3 ∙ at_k in
    let first : g.first ≡ d.1.location = ap (λ (x : FdeRecord). x.first) (sym same) ∙ own.2 in
    let parts = and_parts (nat_le g.first pc) (nat_lt pc (g.first + g.range)) on in
    let low = leb-true _ _ parts.0 in
    let high = ltb-true _ _ parts.1 in
    elim (cases_lt d.0 i) [
      | inl before ↦
          let up = in_order fdes None es d.0 i d.1 e g a before d.2 at g_of in
          let reached = last.1 e at in
          absurd (omega (arith, up.1, reached, high))
      | inr behind ↦
          elim (cases_lt i d.0) [
            | inl after ↦ let above = last.2 d.0 d.1 after d.2 in absurd (omega (arith, above, first, low))
            | inr here ↦
                let place : d.0 ≡ i = omega arith in
                let one : d.1 ≡ e = let both = sym d.2 ∙ ap (slice_get es) place ∙ at in cc in
                let number : k ≡ e.fde = sym d.3 ∙ ap (λ (x : TableEntry). x.fde) one in
                fde_of_number fdes k e.fde g f number at_k has
          ]
    ]

by_choice : (pc : ℕ) (fdes : List FdeRecord) (k : ℕ) (f : FdeRecord) (b : Bool) → covers pc f ≡ b → slice_get fdes k ≡ Some f → ((j : ℕ) (g : FdeRecord) → slice_get fdes j ≡ Some g → covers pc g ≡ true → g ≡ f)
    → cond b (Some f) None ≡ first_cover pc fdes
by_choice pc fdes k f true is has one = only_cover pc fdes k f has is one
by_choice pc fdes k f false is has one =
    no_cover pc fdes (λ j g at. other (covers pc g) g refl (one j g at))
  where
    other : (b : Bool) (g : FdeRecord) → covers pc g ≡ b → (covers pc g ≡ true → g ≡ f) → covers pc g ≡ false
    other true g e same = absurd (let both = sym e ∙ ap (covers pc) (same e) ∙ is in cc)
    other false g e same = e

-- what the search in the table comes to is what the section finds
pub found_by_table : (pc : ℕ) (fdes : List FdeRecord) (es : List TableEntry) (i : ℕ) (e : TableEntry) → IsSortedTable fdes (Some es) → IsLastUpTo pc es i → slice_get es i ≡ Some e
    → option_and_then (λ f. cond (covers pc f) (Some f) None) (slice_get fdes e.fde) ≡ first_cover pc fdes
found_by_table pc fdes es i e table last at =
    let own = entry_fde fdes None es i e table.1 at in
    let f = own.0 in
    let whole = by_choice pc fdes e.fde f (covers pc f) refl own.1 (covered_by_one pc fdes es i e f table last at own.1) in
    ap (λ (o : Option FdeRecord). option_and_then (λ (k : FdeRecord). cond (covers pc k) (Some k) None) o) own.1 ∙ whole

pub none_by_table : (pc : ℕ) (fdes : List FdeRecord) (es : List TableEntry) → IsSortedTable fdes (Some es) → All (λ e. pc < e.location) es → None ≡ first_cover pc fdes
none_by_table pc fdes es table above =
    no_cover pc fdes (λ k g at.
    let d = has_entry fdes es k table.0 table.1 (slice_get_within fdes k g at) in
    let own = entry_fde fdes None es d.0 d.1 table.1 d.2 in
    let same : own.0 ≡ g = fde_of_number fdes d.1.fde k own.0 g d.3 own.1 at in
    let first : g.first ≡ d.1.location = ap (λ (x : FdeRecord). x.first) (sym same) ∙ own.2 in
    let high = above d.0 no_entry_here (slice_get_within es d.0 d.1 d.2) in
    let here = get_or_from_slice_get es d.0 d.1 no_entry_here d.2 in
    and_left _ _ (lt-leb g.first pc (omega (arith, high, ap (λ (x : TableEntry). x.location) here, first))))
