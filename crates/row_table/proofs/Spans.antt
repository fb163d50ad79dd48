-- The rows of an FDE, as they are added one after another.
use Rattle.std.proofs.Common.{◌≡◌, ◌⊎◌, ℕ, ◌+◌, ◌<◌, ◌≤◌, List, [], ◌∷◌, ◌++◌, length, get_or, sym, ap, subst, ◌∙◌, arith, append_assoc, length-append, inl, inr}
use Rattle.std.specs.Prelude.{All}
use Rattle.std.proofs.lemmas.List.{get_or_append_left, append-nil}
use Rattle.std.proofs.lemmas.List.Elements.{All-append, All-push}
use Rattle.std.proofs.lemmas.Bool.{cases_lt}
use Rattle.std.proofs.Math.Seq.{get_or-append_seam}
use Rattle.frame_parse.specs.Sections.{FdeData}
use Rattle.frame_rows.specs.declared.placed_row.PlacedRow.{PlacedRow}
use Rattle.frame_rows.specs.RowAt.{IsPlacedRowAt}
use Rattle.frame_rows.specs.Rows.{unset}
use Rattle.row_table.specs.declared.fault.TableFault.{TableFault}
use Rattle.row_table.specs.declared.fault.TableFault.TheVariants.{NoMemory}
use Rattle.row_table.specs.Tables.{RowsData, row_in, AreDifferent, HasRow, IsExtended, IsOneTooMany, IsPushed, IsAdded, HasRowsTooMany}

-- where a row begins, or the location behind the last one
abbrev bound : RowsData → ℕ → ℕ → ℕ
bound r l k = get_or (r.starts ++ l ∷ []) k 0

-- the rows that were added are those of the FDE's addresses below a location
pub record HasSpans (f : FdeData) (old new : RowsData) (l : ℕ) : Type 0 where
  pub extended : IsExtended old new
  pub reached : length old.starts ≤ length new.starts
  pub even : length new.numbers ≡ length new.starts
  pub first : bound new l (length old.starts) ≡ f.entry.first
  pub ascending : (j k : ℕ) → length old.starts ≤ j → j < k → k ≤ length new.starts → bound new l j < bound new l k
  pub known : (k : ℕ) → length old.starts ≤ k → k < length new.starts → get_or new.numbers k 0 < length new.distinct
  pub rows : (k pc : ℕ) → length old.starts ≤ k → k < length new.starts → bound new l k ≤ pc → pc < bound new l (k + 1) → IsPlacedRowAt f pc (row_in new k)
  pub come : All (HasRow f) extended.more_distinct

pub no_spans : (f : FdeData) (r : RowsData) (first : ℕ) → length r.numbers ≡ length r.starts → first ≡ f.entry.first → HasSpans f r r first
no_spans f r first even at = record {
  extended = record { more_starts = []; starts = sym (append-nil r.starts); more_numbers = []; numbers = sym (append-nil r.numbers); more_distinct = []; distinct = sym (append-nil r.distinct) };
  reached = omega arith;
  even = even;
  first = get_or-append_seam r.starts first [] 0 ∙ at;
  ascending = λ j k ge lt le. absurd (omega arith);
  known = λ k ge lt. absurd (omega arith);
  rows = λ k pc ge lt. absurd (omega arith);
  come = λ k d lt. absurd (omega arith);
}

-- ---- one row more

module _ (f : FdeData) (old r new : RowsData) (l : ℕ) (row : PlacedRow) (spans : HasSpans f old r l) (pushed : IsPushed r l row new) where
  longer : length new.starts ≡ length r.starts + 1
  longer = ap (λ (s : List ℕ). length s) pushed.starts ∙ length-append r.starts (l ∷ []) ∙ omega arith

  before : (m k : ℕ) → k ≤ length r.starts → bound new m k ≡ bound r l k
  before m k le =
      get_or_append_left new.starts (m ∷ []) 0 k (omega (arith, longer))
      ∙ ap (λ (s : List ℕ). get_or s k 0) pushed.starts

  here : bound r l (length r.starts) ≡ l
  here = get_or-append_seam r.starts l [] 0

  behind : (m : ℕ) → bound new m (length r.starts + 1) ≡ m
  behind m = ap (λ (k : ℕ). bound new m k) (sym longer) ∙ get_or-append_seam new.starts m [] 0

  up_here : (j : ℕ) → length old.starts ≤ j → j ≤ length r.starts → bound r l j ≤ l
  up_here j ge le =
      elim (cases_lt j (length r.starts)) [
        | inl lt ↦ let less = spans.ascending j (length r.starts) ge lt (omega arith) in omega (arith, less, here)
        | inr more ↦ let same : j ≡ length r.starts = omega arith in rw same (omega (arith, here))
      ]

  number_before : (k : ℕ) → k < length r.starts → get_or new.numbers k 0 ≡ get_or r.numbers k 0
  number_before k lt = ap (λ (s : List ℕ). get_or s k 0) pushed.numbers ∙ get_or_append_left r.numbers (pushed.number ∷ []) 0 k (omega (arith, spans.even))

  number_here : get_or new.numbers (length r.starts) 0 ≡ pushed.number
  number_here =
      ap (λ (k : ℕ). get_or new.numbers k 0) (sym spans.even)
      ∙ ap (λ (s : List ℕ). get_or s (length r.numbers) 0) pushed.numbers
      ∙ get_or-append_seam r.numbers pushed.number [] 0

  more_distinct : length r.distinct ≤ length new.distinct
  more_distinct = omega (arith, ap (λ (s : List PlacedRow). length s) pushed.numbered.are, length-append r.distinct pushed.numbered.more)

  row_before : (k : ℕ) → length old.starts ≤ k → k < length r.starts → row_in new k ≡ row_in r k
  row_before k ge lt =
      ap (λ (n : ℕ). get_or new.distinct n unset) (number_before k lt)
      ∙ ap (λ (s : List PlacedRow). get_or s (get_or r.numbers k 0) unset) pushed.numbered.are
      ∙ get_or_append_left r.distinct pushed.numbered.more unset (get_or r.numbers k 0) (spans.known k ge lt)

  row_last : row_in new (length r.starts) ≡ row
  row_last = ap (λ (n : ℕ). get_or new.distinct n unset) number_here ∙ pushed.numbered.is

  pub one_more : (m : ℕ) → l < m → ((pc : ℕ) → l ≤ pc → pc < m → IsPlacedRowAt f pc row) → HasSpans f old new m
  one_more m lt holds = record {
    extended = record {
      more_starts = spans.extended.more_starts ++ l ∷ [];
      starts = pushed.starts ∙ ap (λ (s : List ℕ). s ++ l ∷ []) spans.extended.starts ∙ append_assoc old.starts spans.extended.more_starts (l ∷ []);
      more_numbers = spans.extended.more_numbers ++ pushed.number ∷ [];
      numbers = pushed.numbers ∙ ap (λ (s : List ℕ). s ++ pushed.number ∷ []) spans.extended.numbers ∙ append_assoc old.numbers spans.extended.more_numbers (pushed.number ∷ []);
      more_distinct = spans.extended.more_distinct ++ pushed.numbered.more;
      distinct = pushed.numbered.are ∙ ap (λ (s : List PlacedRow). s ++ pushed.numbered.more) spans.extended.distinct ∙ append_assoc old.distinct spans.extended.more_distinct pushed.numbered.more;
    };
    reached = omega (arith, spans.reached, longer);
    even = ap (λ (s : List ℕ). length s) pushed.numbers ∙ length-append r.numbers (pushed.number ∷ []) ∙ omega (arith, spans.even, longer);
    first = before m (length old.starts) spans.reached ∙ spans.first;
    ascending = λ j k ge less le.
        elim (cases_lt k (length r.starts + 1)) [
          | inl inside ↦ let up = spans.ascending j k ge less (omega arith) in omega (arith, up, before m j (omega arith), before m k (omega arith))
          | inr past ↦
              let same : k ≡ length r.starts + 1 = omega (arith, longer) in
              let up = up_here j ge (omega arith) in
              rw same (omega (arith, up, before m j (omega arith), behind m))
        ];
    known = λ k ge less.
        elim (cases_lt k (length r.starts)) [
          | inl inside ↦ let known = spans.known k ge inside in omega (arith, known, number_before k inside, more_distinct)
          | inr past ↦
              let same : k ≡ length r.starts = omega (arith, longer) in
              rw same (omega (arith, number_here, pushed.numbered.within))
        ];
    rows = λ k pc ge less reached below.
        elim (cases_lt k (length r.starts)) [
          | inl inside ↦
              subst (λ (w : PlacedRow). IsPlacedRowAt f pc w) (sym (row_before k ge inside))
              (spans.rows k pc ge inside (omega (arith, reached, before m k (omega arith))) (omega (arith, below, before m (k + 1) (omega arith))))
          | inr past ↦
              let same : k ≡ length r.starts = omega (arith, longer) in
              let is : row_in new k ≡ row = ap (λ (n : ℕ). row_in new n) same ∙ row_last in
              let from_here : l ≤ pc = let le = rw same at reached in omega (arith, le, before m (length r.starts) (omega arith), here) in
              let up_to_there : pc < m = let lt = rw same at below in omega (arith, lt, behind m) in
              subst (λ (w : PlacedRow). IsPlacedRowAt f pc w) (sym is) (holds pc from_here up_to_there)
        ];
    come = All-append (HasRow f) spans.extended.more_distinct pushed.numbered.more spans.come (λ k d within. subst (HasRow f) (sym (pushed.numbered.alone k d within)) (l, holds l (omega arith) lt));
  }

  -- the last row of the FDE
  pub last_one : ((pc : ℕ) → l ≤ pc → IsPlacedRowAt f pc row) → IsAdded old f new
  last_one holds =
      let spans_up_to = λ (m : ℕ) (lt : l < m). one_more m lt (λ pc le below. holds pc le) in
      let done = spans_up_to (l + 1) (omega arith) in
      let inside : (m k : ℕ) → k < length new.starts → bound new m k ≡ get_or new.starts k 0 = λ m k lt. get_or_append_left new.starts (m ∷ []) 0 k lt in
      record {
        extended = done.extended;
        even = done.even;
        come = done.come;
        rows = record {
          some = omega (arith, spans.reached, longer);
          within = omega arith;
          first = sym (inside (l + 1) (length old.starts) (omega (arith, spans.reached, longer))) ∙ done.first;
          ascending = λ j k ge less lt.
              let up = done.ascending j k ge less (omega arith) in
              omega (arith, up, inside (l + 1) j (omega arith), inside (l + 1) k lt);
          known = done.known;
          rows = λ k pc ge lt reached next.
              let m = l + pc + 1 in
              let up_to_it = spans_up_to m (omega arith) in
              let below : pc < bound new m (k + 1) =
              elim (cases_lt (k + 1) (length new.starts)) [
                | inl more ↦ let less = next more in omega (arith, less, inside m (k + 1) more)
                | inr end ↦
                    let same : k + 1 ≡ length r.starts + 1 = omega (arith, longer) in
                    rw same (omega (arith, behind m))
              ] in
              up_to_it.rows k pc ge lt (omega (arith, reached, inside m k lt)) below;
        };
      }

-- a row more of the FDE than can be numbered
pub too_many : (f : FdeData) (old r : RowsData) (l : ℕ) (row : PlacedRow) → HasSpans f old r l → IsOneTooMany r.distinct row → HasRow f row → HasRowsTooMany old.distinct f
too_many f old r l row spans refused has =
    let all : r.distinct ++ row ∷ [] ≡ old.distinct ++ (spans.extended.more_distinct ++ row ∷ []) = ap (λ (s : List PlacedRow). s ++ row ∷ []) spans.extended.distinct ∙ append_assoc old.distinct spans.extended.more_distinct (row ∷ []) in
    record {
      more = spans.extended.more_distinct ++ row ∷ [];
      count = sym (ap (λ (s : List PlacedRow). length s) all) ∙ length-append r.distinct (row ∷ []) ∙ (let count = refused.count in omega arith);
      different = subst (λ (s : List PlacedRow). AreDifferent s) all refused.different;
      come = All-push (HasRow f) spans.extended.more_distinct row spans.come has;
    }

pub refused_push : (f : FdeData) (old r : RowsData) (l : ℕ) (row : PlacedRow) (fault : TableFault) → HasSpans f old r l → HasRow f row → (fault ≡ NoMemory) ⊎ IsOneTooMany r.distinct row → (fault ≡ NoMemory) ⊎ HasRowsTooMany old.distinct f
refused_push f old r l row fault spans has (inl memory) = inl memory
refused_push f old r l row fault spans has (inr refused) = inr (too_many f old r l row spans refused has)
