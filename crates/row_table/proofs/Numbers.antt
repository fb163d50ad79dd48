-- Rows told by their words, and numbered by a look at the first ones and a map from these.
use Rattle.std.proofs.Common.{◌≡◌, ◌≢◌, ℕ, zero, suc, ◌+◌, ◌<◌, List, [], ◌∷◌, ◌++◌, length, get_or, Some, None, Bool, true, false, cond, if◌then◌else◌, ◌==◌, refl, sym, ap, subst, ◌∙◌, arith, length-append, inl, inr}
use Rattle.std.proofs.lemmas.Bool.{cases_lt}
use Rattle.std.proofs.lemmas.Cmp.{tied_itself, nat_list_cmp_total}
use Rattle.std.proofs.lemmas.List.{get_or_append_left, append-nil}
use Rattle.std.proofs.lemmas.Map.Lookups.{exact_bytes}
use Rattle.std.proofs.Math.Seq.{get_or-append_seam}
use Rattle.std.specs.BTreeMap.{BTreeMap, get, is_at, IsEmpty, IsUnchanged, Updates}
use Rattle.std.specs.Cmp.Lexicographic.{slice_cmp}
use Rattle.std.specs.Map.{lookup}
use Rattle.std.specs.Ordering.{nat_cmp, is_eq}
use Rattle.std.specs.declared.cmp.Ordering.{Ordering}
use Rattle.std.specs.declared.cmp.Ordering.TheVariants.{Less, Equal, Greater}
use Rattle.frame_rows.specs.declared.placed_row.PlacedRow.{PlacedRow}
use Rattle.frame_rows.specs.declared.rule.RuleWith.TheVariants as rules
use Rattle.frame_rows.specs.declared.rule.CfaRuleWith.TheVariants as cfas
use Rattle.frame_rows.specs.Rows.{unset}
use Rattle.frame_rows.specs.Rules.{PlacedRule, PlacedCfaRule}
use Rattle.row_table.specs.Numbering.{first_rows, IsNoneOfTheFirst, kind_word, number_word, cfa_kind_word, cfa_column_word, cfa_number_word, columns_words, row_words, compare_words, IsIndexOf}
use Rattle.row_table.specs.Tables.{AreDifferent, IsNumbered, IsOneTooMany}

-- ---- a row is told by its words

rule_again : ℕ → ℕ → PlacedRule
rule_again k n =
    if k == 0 then rules.Unset else if k == 1 then rules.Undefined else if k == 2 then rules.Same else if k == 3 then rules.Offset n else if k == 4 then rules.ValOffset n else if k == 5 then rules.Register n else if k == 6 then rules.Expression n else rules.ValExpression n

rule_told_again : (rule : PlacedRule) → rule_again (kind_word rule) (number_word rule) ≡ rule
unfolding rule_again
rule_told_again rules.Unset = refl
rule_told_again rules.Undefined = refl
rule_told_again rules.Same = refl
rule_told_again (rules.Offset n) = refl
rule_told_again (rules.ValOffset n) = refl
rule_told_again (rules.Register q) = refl
rule_told_again (rules.Expression e) = refl
rule_told_again (rules.ValExpression e) = refl

cfa_again : ℕ → ℕ → ℕ → PlacedCfaRule
cfa_again k q n = if k == 0 then cfas.Missing else if k == 1 then cfas.Offset q n else cfas.Expression n

cfa_told_again : (rule : PlacedCfaRule) → cfa_again (cfa_kind_word rule) (cfa_column_word rule) (cfa_number_word rule) ≡ rule
unfolding cfa_again
cfa_told_again cfas.Missing = refl
cfa_told_again (cfas.Offset q n) = refl
cfa_told_again (cfas.Expression e) = refl

same_rule : (a b : PlacedRule) → kind_word a ≡ kind_word b → number_word a ≡ number_word b → a ≡ b
same_rule a b kind number = sym (rule_told_again a) ∙ ap (λ (k : ℕ). rule_again k (number_word a)) kind ∙ ap (λ (n : ℕ). rule_again (kind_word b) n) number ∙ rule_told_again b

same_columns : (a b : List PlacedRule) → columns_words a ≡ columns_words b → a ≡ b
same_columns [] [] same = refl
same_columns [] (y ∷ ys) same = absurd cc
same_columns (x ∷ xs) [] same = absurd cc
same_columns (x ∷ xs) (y ∷ ys) same =
    let kind : kind_word x ≡ kind_word y = cc in
    let number : number_word x ≡ number_word y = cc in
    let others : columns_words xs ≡ columns_words ys = cc in
    ap (λ (rule : PlacedRule). rule ∷ xs) (same_rule x y kind number) ∙ ap (λ (left : List PlacedRule). y ∷ left) (same_columns xs ys others)

abbrev row_with : PlacedCfaRule → List PlacedRule → PlacedRow
row_with cfa columns = record { cfa = cfa; columns = columns }

same_row : (a b : PlacedRow) → row_words a ≡ row_words b → a ≡ b
same_row a b same =
    let kind : cfa_kind_word a.cfa ≡ cfa_kind_word b.cfa = cc in
    let column : cfa_column_word a.cfa ≡ cfa_column_word b.cfa = cc in
    let number : cfa_number_word a.cfa ≡ cfa_number_word b.cfa = cc in
    let columns : columns_words a.columns ≡ columns_words b.columns = cc in
    let cfa : a.cfa ≡ b.cfa =
    sym (cfa_told_again a.cfa)
    ∙ ap (λ (k : ℕ). cfa_again k (cfa_column_word a.cfa) (cfa_number_word a.cfa)) kind
    ∙ ap (λ (k : ℕ). cfa_again (cfa_kind_word b.cfa) k (cfa_number_word a.cfa)) column
    ∙ ap (λ (k : ℕ). cfa_again (cfa_kind_word b.cfa) (cfa_column_word b.cfa) k) number
    ∙ cfa_told_again b.cfa in
    ap (λ (rule : PlacedCfaRule). row_with rule a.columns) cfa ∙ ap (λ (rules : List PlacedRule). row_with b.cfa rules) (same_columns a.columns b.columns columns)

-- ---- rows that differ

-- a row that isn't among them
abbrev pub IsNew : List PlacedRow → PlacedRow → Type 0
IsNew rows row = (i : ℕ) → i < length rows → get_or rows i unset ≢ row

pub one_more_different : (rows : List PlacedRow) (row : PlacedRow) → AreDifferent rows → IsNew rows row → AreDifferent (rows ++ row ∷ [])
one_more_different rows row different new = λ j k less within.
    let count = length-append rows (row ∷ []) in
    let left : (i : ℕ) → i < length rows → get_or (rows ++ row ∷ []) i unset ≡ get_or rows i unset = λ i lt. get_or_append_left rows (row ∷ []) unset i lt in
    elim (cases_lt k (length rows)) [
      | inl inside ↦ λ same. different j k less inside (sym (left j (omega arith)) ∙ same ∙ left k inside)
      | inr past ↦
          let last : k ≡ length rows = omega arith in
          λ same. new j (omega arith) (sym (left j (omega arith)) ∙ same ∙ ap (λ (i : ℕ). get_or (rows ++ row ∷ []) i unset) last ∙ get_or-append_seam rows row [] unset)
    ]

-- an element of a list of one
only_one : (row : PlacedRow) (j : ℕ) (d : PlacedRow) → j < length (row ∷ []) → get_or (row ∷ []) j d ≡ row
only_one row zero d within = refl
only_one row (suc j) d within = absurd (omega arith)

-- a row that was added
pub is_numbered_last : (rows more : List PlacedRow) (row : PlacedRow) (number : ℕ) → number ≡ length rows → more ≡ rows ++ row ∷ [] → IsNumbered rows row number more
is_numbered_last rows more row number at grown = record {
  more = row ∷ [];
  are = grown;
  alone = λ j d within. only_one row j d within;
  within = (let count : length more ≡ length rows + 1 = ap (λ (l : List PlacedRow). length l) grown ∙ length-append rows (row ∷ []) ∙ omega arith in omega arith);
  is = ap (λ (l : List PlacedRow). get_or l number unset) grown ∙ ap (λ (n : ℕ). get_or (rows ++ row ∷ []) n unset) at ∙ get_or-append_seam rows row [] unset;
}

-- ---- the map

module _ {K : Type 0} (words : K → List ℕ) where
  abbrev order : K → K → Ordering
  order = compare_words words

  pub no_index : (index : BTreeMap K ℕ) → IsEmpty index → IsIndexOf K words index []
  no_index index empty = record {
    different = λ j k less within. absurd (omega arith);
    known = λ i k later within same. absurd (omega arith);
    right = λ i k found. let none : get order index k ≡ None = ap (lookup (is_at (order k))) empty in absurd cc;
  }

  pub same_index : (old new : BTreeMap K ℕ) (rows : List PlacedRow) → IsUnchanged old new → IsIndexOf K words old rows → IsIndexOf K words new rows
  same_index old new rows same is =
      let stays : (k : K) → get order new k ≡ get order old k = λ k. ap (lookup (is_at (order k))) same in record {
        different = is.different;
        known = λ i k later within at. stays k ∙ is.known i k later within at;
        right = λ i k found. is.right i k (sym (stays k) ∙ found);
      }

  -- a row that is none of the first, and whose words the map hasn't
  pub is_new : (index : BTreeMap K ℕ) (rows : List PlacedRow) (row : PlacedRow) (k : K) → IsIndexOf K words index rows → IsNoneOfTheFirst rows row → words k ≡ row_words row → get order index k ≡ None → IsNew rows row
  is_new index rows row k is not are none = λ i within same.
      elim (cases_lt i first_rows) [
        | inl first ↦ not i first within same
        | inr later ↦
            let found : get order index k ≡ Some i = is.known i k later within (are ∙ ap row_words (sym same)) in
            absurd cc
      ]

  -- a row whose words it has
  pub is_numbered : (index : BTreeMap K ℕ) (rows : List PlacedRow) (row : PlacedRow) (k : K) (i : ℕ) → IsIndexOf K words index rows → words k ≡ row_words row → get order index k ≡ Some i → IsNumbered rows row i rows
  is_numbered index rows row k i is are found =
      let right = is.right i k found in record {
        more = [];
        are = sym (append-nil rows);
        alone = λ j d within. absurd (omega arith);
        within = right.0;
        is = same_row (get_or rows i unset) row (sym right.1 ∙ are);
      }

  tied : (a b : K) → words a ≡ words b → is_at (order a) b ≡ true
  tied a b same = ap is_eq (ap (λ (l : List ℕ). slice_cmp nat_cmp (words a) l) (sym same) ∙ tied_itself nat_list_cmp_total (words a))

  equal : (o : Ordering) → is_eq o ≡ true → o ≡ Equal
  equal Less is = absurd cc
  equal Equal is = refl
  equal Greater is = absurd cc

  not_tied : (a b : K) → (words a ≡ words b → ⊥) → is_at (order a) b ≡ false
  not_tied a b differ = by (is_at (order a) b) refl
    where
      by : (test : Bool) → is_at (order a) b ≡ test → is_at (order a) b ≡ false
      by true is = absurd (differ (exact_bytes (words a) (words b) (equal (order a b) is)))
      by false is = is

  -- the map with one more row
  pub longer_index : (old new : BTreeMap K ℕ) (rows more : List PlacedRow) (row : PlacedRow) (key : K) (number : ℕ) → IsIndexOf K words old rows → IsNoneOfTheFirst rows row → words key ≡ row_words row → get order old key ≡ None → number ≡ length rows → Updates order old new key (Some number)
      → more ≡ rows ++ row ∷ [] → IsIndexOf K words new more
  longer_index old new rows more row key number is not are none at updates grown =
      let fresh = is_new old rows row key is not are none in
      let count : length more ≡ length rows + 1 = ap (λ (l : List PlacedRow). length l) grown ∙ length-append rows (row ∷ []) ∙ omega arith in
      let before : (i : ℕ) → i < length rows → get_or more i unset ≡ get_or rows i unset = λ i lt. ap (λ (l : List PlacedRow). get_or l i unset) grown ∙ get_or_append_left rows (row ∷ []) unset i lt in
      let here : get_or more (length rows) unset ≡ row = ap (λ (l : List PlacedRow). get_or l (length rows) unset) grown ∙ get_or-append_seam rows row [] unset in
      record {
        different = subst (λ (l : List PlacedRow). AreDifferent l) (sym grown) (one_more_different rows row is.different fresh);
        known = λ i k later within same.
            elim (cases_lt i (length rows)) [
              | inl inside ↦
                  let its = same ∙ ap row_words (before i inside) in
                  let apart : words key ≡ words k → ⊥ = λ e. fresh i inside (same_row (get_or rows i unset) row (sym its ∙ sym e ∙ are)) in
                  updates.0 k ∙ ap (λ (b : Bool). cond b (Some number) (get order old k)) (not_tied key k apart) ∙ is.known i k later inside its
              | inr past ↦
                  let last : i ≡ length rows = omega arith in
                  let its : words k ≡ row_words row = same ∙ ap (λ (n : ℕ). row_words (get_or more n unset)) last ∙ ap row_words here in
                  updates.0 k ∙ ap (λ (b : Bool). cond b (Some number) (get order old k)) (tied key k (are ∙ sym its)) ∙ ap (λ (n : ℕ). Some n) (at ∙ sym last)
            ];
        right = λ i k found. by i k (is_at (order key) k) refl (sym (updates.0 k) ∙ found);
      }
    where
      by : (i : ℕ) (k : K) (test : Bool) → is_at (order key) k ≡ test → cond (is_at (order key) k) (Some number) (get order old k) ≡ Some i → (i < length more) × (words k ≡ row_words (get_or more i unset))
      by i k true is_tied found =
          let here : get_or more (length rows) unset ≡ row = ap (λ (l : List PlacedRow). get_or l (length rows) unset) grown ∙ get_or-append_seam rows row [] unset in
          let count : length more ≡ length rows + 1 = ap (λ (l : List PlacedRow). length l) grown ∙ length-append rows (row ∷ []) ∙ omega arith in
          let some : Some number ≡ Some i = ap (λ (b : Bool). cond b (Some number) (get order old k)) (sym is_tied) ∙ found in
          let same : number ≡ i = cc in
          let its : words key ≡ words k = exact_bytes (words key) (words k) (equal (order key k) is_tied) in
          (omega arith, sym its ∙ are ∙ ap row_words (sym here ∙ ap (λ (n : ℕ). get_or more n unset) (sym at ∙ same)))
      by i k false apart found =
          let before : (i : ℕ) → i < length rows → get_or more i unset ≡ get_or rows i unset = λ i lt. ap (λ (l : List PlacedRow). get_or l i unset) grown ∙ get_or_append_left rows (row ∷ []) unset i lt in
          let count : length more ≡ length rows + 1 = ap (λ (l : List PlacedRow). length l) grown ∙ length-append rows (row ∷ []) ∙ omega arith in
          let old_found : get order old k ≡ Some i = ap (λ (b : Bool). cond b (Some number) (get order old k)) (sym apart) ∙ found in
          let was = is.right i k old_found in
          (omega (arith, was.0), was.1 ∙ ap row_words (sym (before i was.0)))

  pub is_one_too_many : (index : BTreeMap K ℕ) (rows : List PlacedRow) (row : PlacedRow) (k : K) → IsIndexOf K words index rows → IsNoneOfTheFirst rows row → words k ≡ row_words row → get order index k ≡ None → length rows ≡ 65536 → IsOneTooMany rows row
  is_one_too_many index rows row k is not are none count = record {
    count = count;
    different = one_more_different rows row is.different (is_new index rows row k is not are none);
  }

  -- one of the first rows more, which the map needn't have
  pub longer_first : (index : BTreeMap K ℕ) (rows more : List PlacedRow) (row : PlacedRow) → IsIndexOf K words index rows → length rows < first_rows → IsNoneOfTheFirst rows row → more ≡ rows ++ row ∷ [] → IsIndexOf K words index more
  longer_first index rows more row is few not grown =
      let count : length more ≡ length rows + 1 = ap (λ (l : List PlacedRow). length l) grown ∙ length-append rows (row ∷ []) ∙ omega arith in
      let before : (i : ℕ) → i < length rows → get_or more i unset ≡ get_or rows i unset = λ i lt. ap (λ (l : List PlacedRow). get_or l i unset) grown ∙ get_or_append_left rows (row ∷ []) unset i lt in
      let fresh : IsNew rows row = λ i within. not i (omega arith) within in
      record {
        different = subst (λ (l : List PlacedRow). AreDifferent l) (sym grown) (one_more_different rows row is.different fresh);
        known = λ i k later within same. absurd (omega arith);
        right = λ i k found. let was = is.right i k found in (omega (arith, was.0), was.1 ∙ ap row_words (sym (before i was.0)));
      }
