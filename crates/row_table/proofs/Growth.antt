-- A table, as the FDEs of a section come to it.
use Rattle.std.proofs.Common.{◌≡◌, ◌⊎◌, ℕ, ◌+◌, ◌<◌, ◌≤◌, List, [], ◌∷◌, ◌++◌, length, get_or, Some, sym, ap, subst, ◌∙◌, arith, length-append, inl, inr}
use Rattle.std.specs.Prelude.{All}
use Rattle.std.proofs.lemmas.List.{get_or_append_left}
use Rattle.std.proofs.lemmas.List.Elements.{All-append}
use Rattle.std.proofs.lemmas.Bool.{cases_lt}
use Rattle.std.proofs.Math.Seq.{get_or-append_seam}
use Rattle.frame_parse.specs.Entries.{FdeRecord}
use Rattle.frame_parse.specs.Sections.{FdeData, SectionData}
use Rattle.frame_rows.specs.declared.placed_row.PlacedRow.{PlacedRow}
use Rattle.frame_rows.specs.RowAt.{IsPlacedRowAt}
use Rattle.frame_rows.specs.Rows.{unset}
use Rattle.row_table.specs.declared.fault.TableFault.{TableFault}
use Rattle.row_table.specs.declared.fault.TableFault.TheVariants.{NoMemory}
use Rattle.row_table.specs.Tables.{RowsData, row_in, AreRowsOf, IsFdeOf, HasRowsOf, IsRowTableOf, HasRow, HasFdeWithRow, HasTooManyRows, IsExtended, IsAdded, HasRowsTooMany}

-- rows that come after those of an FDE leave them as they are
rows_stay : (f : FdeData) (old new : RowsData) (from end : ℕ) → length old.numbers ≡ length old.starts → IsExtended old new → AreRowsOf f old from end → AreRowsOf f new from end
rows_stay f old new from end even extended are =
    let within = are.within in
    let start : (k : ℕ) → k < end → get_or new.starts k 0 ≡ get_or old.starts k 0 =
    λ k lt. ap (λ (s : List ℕ). get_or s k 0) extended.starts ∙ get_or_append_left old.starts extended.more_starts 0 k (omega arith) in
    let number : (k : ℕ) → k < end → get_or new.numbers k 0 ≡ get_or old.numbers k 0 =
    λ k lt. ap (λ (s : List ℕ). get_or s k 0) extended.numbers ∙ get_or_append_left old.numbers extended.more_numbers 0 k (omega arith) in
    let more_starts : length old.starts ≤ length new.starts = omega (arith, ap (λ (s : List ℕ). length s) extended.starts, length-append old.starts extended.more_starts) in
    let more_distinct : length old.distinct ≤ length new.distinct = omega (arith, ap (λ (s : List PlacedRow). length s) extended.distinct, length-append old.distinct extended.more_distinct) in
    let row : (k : ℕ) → from ≤ k → k < end → row_in new k ≡ row_in old k =
    λ k ge lt.
    ap (λ (n : ℕ). get_or new.distinct n unset) (number k lt)
    ∙ ap (λ (s : List PlacedRow). get_or s (get_or old.numbers k 0) unset) extended.distinct
    ∙ get_or_append_left old.distinct extended.more_distinct unset (get_or old.numbers k 0) (are.known k ge lt) in
    record {
      some = are.some;
      within = omega arith;
      first = start from are.some ∙ are.first;
      ascending = λ j k ge less lt. let up = are.ascending j k ge less lt in omega (arith, up, start j (omega arith), start k lt);
      known = λ k ge lt. let known = are.known k ge lt in omega (arith, known, number k lt);
      rows = λ k pc ge lt reached next.
          subst (λ (w : PlacedRow). IsPlacedRowAt f pc w) (sym (row k ge lt))
          (are.rows k pc ge lt (omega (arith, reached, start k lt)) (λ more. let less = next more in omega (arith, less, start (k + 1) more)));
    }

abbrev fde_of : ℕ → List ℕ → FdeRecord → FdeData
fde_of section bytes entry = record { section = section; bytes = bytes; entry = entry }

-- a number has one FDE
same_fde : (s : SectionData) (i : ℕ) (f g : FdeData) → IsFdeOf s i f → IsFdeOf s i g → f ≡ g
same_fde s i f g a b =
    let entries : Some f.entry ≡ Some g.entry = sym a.entry ∙ b.entry in
    let entry : f.entry ≡ g.entry = cc in
    let section : f.section ≡ g.section = a.section ∙ sym b.section in
    let bytes : f.bytes ≡ g.bytes = a.bytes ∙ sym b.bytes in
    ap (λ (k : ℕ). fde_of k f.bytes f.entry) section ∙ ap (λ (k : List ℕ). fde_of g.section k f.entry) bytes ∙ ap (fde_of g.section g.bytes) entry

pub none_yet : (s : SectionData) (begins : List ℕ) (r : RowsData) → begins ≡ 0 ∷ [] → r ≡ record { starts = []; numbers = []; distinct = [] } → HasRowsOf s 0 (record { begins = begins; rows = r })
none_yet s begins r at are = record {
  begins = ap (λ (k : List ℕ). length k) at;
  end = ap (λ (k : List ℕ). get_or k 0 0) at ∙ ap (λ (k : RowsData). length k.starts) (sym are);
  numbers = ap (λ (k : RowsData). length k.numbers) are ∙ ap (λ (k : RowsData). length k.starts) (sym are);
  rows = λ i f lt. absurd (omega arith);
}

pub one_more_fde : (s : SectionData) (n : ℕ) (begins more : List ℕ) (old new : RowsData) (f : FdeData) → HasRowsOf s n (record { begins = begins; rows = old }) → IsAdded old f new → IsFdeOf s n f
    → more ≡ begins ++ length new.starts ∷ [] → HasRowsOf s (n + 1) (record { begins = more; rows = new })
one_more_fde s n begins more old new f has added is are =
    let count : length begins ≡ n + 1 = has.begins in
    let stays : (k : ℕ) → k ≤ n → get_or more k 0 ≡ get_or begins k 0 =
    λ k le. ap (λ (l : List ℕ). get_or l k 0) are ∙ get_or_append_left begins (length new.starts ∷ []) 0 k (omega arith) in
    let last : get_or more (n + 1) 0 ≡ length new.starts =
    ap (λ (l : List ℕ). get_or l (n + 1) 0) are ∙ ap (λ (k : ℕ). get_or (begins ++ length new.starts ∷ []) k 0) (sym count) ∙ get_or-append_seam begins (length new.starts) [] 0 in
    record {
      begins = ap (λ (l : List ℕ). length l) are ∙ length-append begins (length new.starts ∷ []) ∙ omega arith;
      end = last;
      numbers = added.even;
      rows = λ i g lt of.
          elim (cases_lt i n) [
            | inl less ↦
                let was = rows_stay g old new (get_or begins i 0) (get_or begins (i + 1) 0) has.numbers added.extended (has.rows i g less of) in
                let to : AreRowsOf g new (get_or begins i 0) (get_or more (i + 1) 0) = subst (λ (k : ℕ). AreRowsOf g new (get_or begins i 0) k) (sym (stays (i + 1) (omega arith))) was in
                subst (λ (k : ℕ). AreRowsOf g new k (get_or more (i + 1) 0)) (sym (stays i (omega arith))) to
            | inr ge ↦
                let here : n ≡ i = omega arith in
                let at_n : IsFdeOf s n g = subst (λ (k : ℕ). IsFdeOf s k g) (sym here) of in
                let mine : AreRowsOf g new (length old.starts) (length new.starts) = subst (λ (k : FdeData). AreRowsOf k new (length old.starts) (length new.starts)) (same_fde s n f g is at_n) added.rows in
                let from : get_or more n 0 ≡ length old.starts = stays n (omega arith) ∙ has.end in
                let begun : AreRowsOf g new (get_or more n 0) (length new.starts) = subst (λ (k : ℕ). AreRowsOf g new k (length new.starts)) (sym from) mine in
                let ended : AreRowsOf g new (get_or more n 0) (get_or more (n + 1) 0) = subst (λ (k : ℕ). AreRowsOf g new (get_or more n 0) k) (sym last) begun in
                subst (λ (k : ℕ). AreRowsOf g new (get_or more k 0) (get_or more (k + 1) 0)) here ended
          ];
    }

abbrev pub rows_of : List ℕ → List ℕ → List PlacedRow → RowsData
rows_of starts numbers distinct = record { starts = starts; numbers = numbers; distinct = distinct }

pub all_fdes : (s : SectionData) (n : ℕ) (begins starts numbers : List ℕ) (kept distinct : List PlacedRow) (r : RowsData) → HasRowsOf s n (record { begins = begins; rows = r }) → n ≡ length s.fdes
    → rows_of starts numbers kept ≡ r → distinct ≡ kept → IsRowTableOf s (record { begins = begins; rows = record { starts = starts; numbers = numbers; distinct = distinct } })
all_fdes s n begins starts numbers kept distinct r has count was are =
    let rows : r ≡ rows_of starts numbers distinct = sym was ∙ ap (rows_of starts numbers) (sym are) in
    let whole : HasRowsOf s n (record { begins = begins; rows = rows_of starts numbers distinct }) = subst (λ (k : RowsData). HasRowsOf s n (record { begins = begins; rows = k })) rows has in
    subst (λ (k : ℕ). HasRowsOf s k (record { begins = begins; rows = rows_of starts numbers distinct })) count whole

-- ---- where the rows come from

come_of : (s : SectionData) (n : ℕ) (f : FdeData) (more : List PlacedRow) → IsFdeOf s n f → All (HasRow f) more → All (HasFdeWithRow s) more
come_of s n f more is come = λ k d within. record { number = n; fde = f; is = is; has = come k d within }

pub one_more_comes : (s : SectionData) (n : ℕ) (old new : RowsData) (f : FdeData) → All (HasFdeWithRow s) old.distinct → IsAdded old f new → IsFdeOf s n f → All (HasFdeWithRow s) new.distinct
one_more_comes s n old new f come added is =
    subst (All (HasFdeWithRow s)) (sym added.extended.distinct)
    (All-append (HasFdeWithRow s) old.distinct added.extended.more_distinct come (come_of s n f added.extended.more_distinct is added.come))

section_has_too_many : (s : SectionData) (n : ℕ) (old : List PlacedRow) (f : FdeData) → All (HasFdeWithRow s) old → HasRowsTooMany old f → IsFdeOf s n f → HasTooManyRows s
section_has_too_many s n old f come many is = record {
  rows = old ++ many.more;
  count = many.count;
  different = many.different;
  come = All-append (HasFdeWithRow s) old many.more come (come_of s n f many.more is many.come);
}

pub refused_fde : (s : SectionData) (n : ℕ) (old : List PlacedRow) (f : FdeData) (fault : TableFault) → All (HasFdeWithRow s) old → IsFdeOf s n f → (fault ≡ NoMemory) ⊎ HasRowsTooMany old f → (fault ≡ NoMemory) ⊎ HasTooManyRows s
refused_fde s n old f fault come is (inl memory) = inl memory
refused_fde s n old f fault come is (inr many) = inr (section_has_too_many s n old f come many is)
