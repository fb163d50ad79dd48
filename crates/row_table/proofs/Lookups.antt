-- What a lookup finds among the rows of an FDE.
use Rattle.std.proofs.Common.{◌≡◌, ℕ, zero, suc, ◌+◌, ◌<◌, ◌≤◌, List, [], ◌∷◌, length, get_or, Option, Some, option_map, Bool, true, false, cond, nat_le, nat_lt, refl, sym, ap, subst, ◌∙◌, arith}
use Rattle.std.specs.Prelude.{slice_get}
use Rattle.std.proofs.lemmas.Bool.{leb-true, and_parts}
use Rattle.std.proofs.lemmas.Grind.{get_or_default_zero}
use Rattle.frame_parse.specs.Entries.{FdeRecord}
use Rattle.frame_parse.specs.Sections.{FdeData, SectionData, first_cover, covers}
use Rattle.frame_rows.specs.declared.placed_row.PlacedRow.{PlacedRow}
use Rattle.frame_rows.specs.Expressions.{HasExpressions}
use Rattle.frame_rows.specs.RowAt.{IsRowAt, IsPlacedRowAt}
use Rattle.frame_rows.specs.Rows.{unset}
use Rattle.frame_rows.specs.Rules.{RowData, lent_row}
use Rattle.unwind_step.specs.Backtrace.{fde_in}
use Rattle.unwind_step.specs.Sources.{IsFound}
use Rattle.unwind_step.proofs.OneStep.{fde_with}
use Rattle.row_table.specs.Tables.{RowsData, TableData, row_in, AreRowsOf, IsFdeOf, IsRowTableOf, HasRowsFrom, HasNumber}

chosen_covers : (pc : ℕ) (b : Bool) (f g : FdeRecord) (o : Option FdeRecord) → covers pc g ≡ b → cond b (Some g) o ≡ Some f → (o ≡ Some f → covers pc f ≡ true) → covers pc f ≡ true
chosen_covers pc true f g o here e later = let same : g ≡ f = cc in subst (λ (k : FdeRecord). covers pc k ≡ true) same here
chosen_covers pc false f g o here e later = later e

covers_it : (pc : ℕ) (fs : List FdeRecord) (f : FdeRecord) → first_cover pc fs ≡ Some f → covers pc f ≡ true
covers_it pc [] f e = absurd cc
covers_it pc (g ∷ gs) f e = chosen_covers pc (covers pc g) f g (first_cover pc gs) refl e (covers_it pc gs f)

pub has_rows : (s : SectionData) (t : TableData) (pc i : ℕ) (f : FdeData) → IsRowTableOf s t → slice_get s.fdes i ≡ first_cover pc s.fdes → i < length s.fdes → IsFdeOf s i f → HasRowsFrom t i f pc
has_rows s t pc i f table found within is =
    let cover : first_cover pc s.fdes ≡ Some f.entry = sym found ∙ is.entry in
    let parts = and_parts (nat_le f.entry.first pc) (nat_lt pc (f.entry.first + f.entry.range)) (covers_it pc s.fdes f.entry cover) in
    let count = table.begins in
    record {
      begins = omega arith;
      even = table.numbers;
      are = table.rows i f within is;
      reached = leb-true _ _ parts.0;
    }

-- between two places stand the rows of an FDE that begins up to the address
pub record IsThere (pc : ℕ) (f : FdeData) (r : RowsData) (from end : ℕ) : Type 0 where
  pub reached : f.entry.first ≤ pc
  pub even : length r.numbers ≡ length r.starts
  pub are : AreRowsOf f r from end

there : (t : TableData) (pc i from end : ℕ) (f : FdeData) → HasRowsFrom t i f pc → from ≡ get_or t.begins i from → end ≡ get_or t.begins (i + 1) end → IsThere pc f t.rows from end
there t pc i from end f has from_is end_is =
    let within = has.begins in
    let from_at : get_or t.begins i 0 ≡ from = sym (get_or_default_zero t.begins i from (omega arith)) ∙ sym from_is in
    let end_at : get_or t.begins (i + 1) 0 ≡ end = sym (get_or_default_zero t.begins (i + 1) end (omega arith)) ∙ sym end_is in
    let are = subst (λ (k : ℕ). AreRowsOf f t.rows k (get_or t.begins (i + 1) 0)) from_at has.are in
    record {
      reached = has.reached;
      even = has.even;
      are = subst (λ (k : ℕ). AreRowsOf f t.rows from k) end_at are;
    }

-- the same of a table as contracts see it
pub seen_there : (t : TableData) (pc i from end : ℕ) (f : FdeData) (seen : TableData) → t ≡ seen → HasRowsFrom seen i f pc → from ≡ get_or t.begins i from → end ≡ get_or t.begins (i + 1) end → IsThere pc f t.rows from end
seen_there t pc i from end f seen is has from_is end_is = there t pc i from end f (subst (λ (k : TableData). HasRowsFrom k i f pc) (sym is) has) from_is end_is

pub first_reached : (pc from end : ℕ) (f : FdeData) (r : RowsData) (starts : List ℕ) → IsThere pc f r from end → starts ≡ r.starts → get_or starts from 0 ≤ pc
first_reached pc from end f r starts is same = rw same (omega (arith, is.are.first, is.reached))

pub ascend : (pc from end : ℕ) (f : FdeData) (r : RowsData) (starts : List ℕ) → IsThere pc f r from end → starts ≡ r.starts → (j k : ℕ) → from ≤ j → j < k → k < end → get_or starts j 0 < get_or starts k 0
ascend pc from end f r starts is same = subst (λ (l : List ℕ). (j k : ℕ) → from ≤ j → j < k → k < end → get_or l j 0 < get_or l k 0) (sym same) is.are.ascending

pub some_there : (pc from end : ℕ) (f : FdeData) (r : RowsData) → IsThere pc f r from end → from < end
some_there pc from end f r is = is.are.some

pub within_there : (pc from end : ℕ) (f : FdeData) (r : RowsData) (starts : List ℕ) → IsThere pc f r from end → starts ≡ r.starts → end ≤ length starts
within_there pc from end f r starts is same = subst (λ (l : List ℕ). end ≤ length l) (sym same) is.are.within

pub place_within : (pc from end place : ℕ) (f : FdeData) (r : RowsData) → IsThere pc f r from end → place < end → place < length r.numbers
place_within pc from end place f r is below = let within = is.are.within in omega (arith, within, is.even)

number_is : (pc from end place number : ℕ) (f : FdeData) (r : RowsData) → IsThere pc f r from end → place < end → number ≡ get_or r.numbers place number → get_or r.numbers place 0 ≡ number
number_is pc from end place number f r is below at = sym (get_or_default_zero r.numbers place number (place_within pc from end place f r is below)) ∙ sym at

number_known : (pc from end place number : ℕ) (f : FdeData) (r : RowsData) → IsThere pc f r from end → from ≤ place → place < end → number ≡ get_or r.numbers place number → number < length r.distinct
number_known pc from end place number f r is ge below at = subst (λ (k : ℕ). k < length r.distinct) (number_is pc from end place number f r is below at) (is.are.known place ge below)

-- the row that was found is the one of the address
placed_there : (pc from end place number : ℕ) (f : FdeData) (r : RowsData) (starts : List ℕ) → IsThere pc f r from end → starts ≡ r.starts → from ≤ place → place < end → get_or starts place 0 ≤ pc
    → (place + 1 < end → pc < get_or starts (place + 1) 0) → number ≡ get_or r.numbers place number → IsPlacedRowAt f pc (get_or r.distinct number unset)
placed_there pc from end place number f r starts is same ge below reached last at =
    let holds = is.are.rows place pc ge below (subst (λ (l : List ℕ). get_or l place 0 ≤ pc) same reached) (subst (λ (l : List ℕ). place + 1 < end → pc < get_or l (place + 1) 0) same last) in
    let found : row_in r place ≡ get_or r.distinct number unset = ap (λ (k : ℕ). get_or r.distinct k unset) (number_is pc from end place number f r is below at) in
    subst (λ (w : PlacedRow). IsPlacedRowAt f pc w) found holds

pub numbered_there : (pc from end place number : ℕ) (f : FdeData) (r : RowsData) (starts : List ℕ) → IsThere pc f r from end → starts ≡ r.starts → from ≤ place → place < end → get_or starts place 0 ≤ pc
    → (place + 1 < end → pc < get_or starts (place + 1) 0) → number ≡ get_or r.numbers place number
    → ((pc : ℕ) (row : PlacedRow) → IsPlacedRowAt f pc row → IsRowAt f pc (lent_row f.bytes row)) → ((pc : ℕ) (row : PlacedRow) → IsPlacedRowAt f pc row → HasExpressions f.bytes row) → HasNumber f pc r.distinct number
numbered_there pc from end place number f r starts is same ge below reached last at lent_law stand_law =
    let placed : PlacedRow = get_or r.distinct number unset in
    let holds : IsPlacedRowAt f pc placed = placed_there pc from end place number f r starts is same ge below reached last at in
    record {
      within = number_known pc from end place number f r is ge below at;
      expressions = stand_law pc placed holds;
      row = lent_law pc placed holds;
    }

-- ---- the row of a number, lent

any_default : (xs : List PlacedRow) (k : ℕ) (d e : PlacedRow) → k < length xs → get_or xs k d ≡ get_or xs k e
any_default [] k d e lt = absurd (omega arith)
any_default (x ∷ xs) zero d e lt = refl
any_default (x ∷ xs) (suc k) d e lt = any_default xs k d e (omega arith)

row_is : (f : FdeData) (pc number : ℕ) (rows : List PlacedRow) (row : PlacedRow) → HasNumber f pc rows number → row ≡ get_or rows number row → get_or rows number unset ≡ row
row_is f pc number rows row has at = any_default rows number unset row has.within ∙ sym at

pub expressions_lent : (f : FdeData) (pc number : ℕ) (rows : List PlacedRow) (row : PlacedRow) (bytes : List ℕ) → HasNumber f pc rows number → row ≡ get_or rows number row → bytes ≡ f.bytes → HasExpressions bytes row
expressions_lent f pc number rows row bytes has at are =
    subst (λ (l : List ℕ). HasExpressions l row) (sym are) (subst (λ (w : PlacedRow). HasExpressions f.bytes w) (row_is f pc number rows row has at) has.expressions)

pub found_lent : (s : SectionData) (pc number : ℕ) (f : FdeData) (rows : List PlacedRow) (row : PlacedRow) (bytes : List ℕ) (told : RowData) → first_cover pc s.fdes ≡ Some f.entry → f.section ≡ s.address → f.bytes ≡ s.bytes
    → HasNumber f pc rows number → row ≡ get_or rows number row → bytes ≡ f.bytes → told ≡ lent_row bytes row → IsFound s pc f told
found_lent s pc number f rows row bytes told cover section_is bytes_are has at are lent = record {
  entry = cover;
  section = section_is;
  bytes = bytes_are;
  row =
      subst (λ (k : RowData). IsRowAt f pc k)
      (ap (λ (w : PlacedRow). lent_row f.bytes w) (row_is f pc number rows row has at) ∙ ap (λ (l : List ℕ). lent_row l row) (sym are) ∙ sym lent) has.row;
}

-- ---- the FDE of an address

pub fde_there : (s : SectionData) (pc : ℕ) (f : FdeData) → first_cover pc s.fdes ≡ Some f.entry → f.section ≡ s.address → f.bytes ≡ s.bytes → fde_in pc s ≡ Some f
fde_there s pc f cover section_is bytes_are =
    ap (λ (o : Option FdeRecord). option_map (λ (e : FdeRecord). fde_with s.address s.bytes e) o) cover
    ∙ ap (λ (a : ℕ). Some (fde_with a s.bytes f.entry)) (sym section_is)
    ∙ ap (λ (b : List ℕ). Some (fde_with f.section b f.entry)) (sym bytes_are)
