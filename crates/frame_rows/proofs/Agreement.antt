-- Each column of the rows goes its own way.
use Rattle.std.proofs.Common.{◌≡◌, ℕ, ◌<◌, List, [], ◌∷◌, length, get_or, map, cond, nat_eq, nat_le, Bool, true, false, Some, refl, sym, ap, ◌∙◌, arith, length-set, get_or-set_same, get_or-set_other}
use Rattle.std.specs.Prelude.{slice_get}
use Rattle.std.specs.List.{fold}
use Rattle.std.proofs.Math.ListN.{set}
use Rattle.std.proofs.lemmas.Bool.{le-leb, eqb-true, eqb-false}
use Rattle.std.proofs.lemmas.Option.{slice_get-get_or}
use Rattle.std.proofs.lemmas.List.{get_or-replicate, length-replicate}
use Rattle.frame_parse.specs.Instructions.{PlacedInstruction, PlacedStep}
use Rattle.frame_rows.specs.Rules.{PlacedCfaRule, PlacedRule}
use Rattle.frame_parse.specs.declared.instructions.InstructionWith.TheVariants.{Nop, Advance, Set, Restore, Remember, RestoreState, Cfa, CfaColumn, CfaOffset, CfaExpression}
use Rattle.frame_parse.specs.Order.{AreAt}
use Rattle.frame_rows.specs.declared.rule.RuleWith.TheVariants as rules
use Rattle.frame_rows.specs.declared.rule.CfaRuleWith.TheVariants as cfas
use Rattle.frame_rows.specs.declared.placed_row.PlacedRow.{PlacedRow}
use Rattle.frame_rows.specs.Columns.{Column, new_column, restore_from, rule_of, register_step, cfa_step, instructions, up_to, initial_rule, rule_at, initial_cfa, cfa_at}
use Rattle.frame_rows.specs.Rows.{Rows, unset, beside, restored, rows_step, rows_after, base_row}

-- ---- all rows have seventeen columns

abbrev AreFull : List PlacedRow → Type 0
AreFull [] = Unit {0}
AreFull (row ∷ rows) = (length row.columns ≡ 17) × AreFull rows

abbrev IsFull : Rows → Type 0
IsFull s = (length s.row.columns ≡ 17) × AreFull s.remembered

full_back : (row : PlacedRow) (below : List PlacedRow) → length row.columns ≡ 17 → AreFull below → IsFull (restored row below)
full_back row [] full all = (full, tt)
full_back row (last ∷ others) full all = (all.0, all.1)

full_step : (base : PlacedRow) (s : Rows) (i : PlacedInstruction) → IsFull s → IsFull (rows_step base s i)
full_step base s (Set q rule) full = (length-set s.row.columns q (rule_of rule) ∙ full.0, full.1)
full_step base s (Restore q) full = (length-set s.row.columns q (get_or base.columns q rules.Unset) ∙ full.0, full.1)
full_step base s Remember full = (full.0, (full.0, full.1))
full_step base s RestoreState full = full_back s.row s.remembered full.0 full.1
full_step base s _ full = full

full_fold : (base : PlacedRow) (s : Rows) (is : List PlacedInstruction) → IsFull s → IsFull (fold (rows_step base) s is)
full_fold base s [] full = full
full_fold base s (i ∷ is) full = full_fold base (rows_step base s i) is (full_step base s i full)

-- ---- one column of them

abbrev rule_in : ℕ → PlacedRow → PlacedRule
rule_in r row = get_or row.columns r rules.Unset

abbrev column_in : ℕ → Rows → Column PlacedRule
column_in r s = record { rule = rule_in r s.row; remembered = map (rule_in r) s.remembered }

put : (columns : List PlacedRule) (q r : ℕ) (v : PlacedRule) (b : Bool) → nat_eq q r ≡ b → r < length columns → get_or (set columns q v) r rules.Unset ≡ cond b v (get_or columns r rules.Unset)
put columns q r v true e lt =
    let same : q ≡ r = eqb-true _ _ e in
    ap (λ (k : ℕ). get_or (set columns k v) r rules.Unset) same ∙ get_or-set_same columns r v rules.Unset lt
put columns q r v false e lt =
    let other : q ≡ r → ⊥ = eqb-false _ _ e in
    get_or-set_other columns q r v rules.Unset (λ f. other (sym f))

chosen : (b : Bool) (v : PlacedRule) (c : Column PlacedRule) → (let made : Column PlacedRule = record { rule = cond b v c.rule; remembered = c.remembered } in made ≡ cond b (record c { rule = v }) c)
chosen true v c = refl
chosen false v c = refl

column_back : (r : ℕ) (row : PlacedRow) (below : List PlacedRow) → column_in r (restored row below) ≡ restore_from (rule_in r row) (map (rule_in r) below)
column_back r row [] = refl
column_back r row (last ∷ others) = refl

base_rule : (base : PlacedRow) (q r : ℕ) (b : Bool) (old : PlacedRule) → nat_eq q r ≡ b → cond b (get_or base.columns q rules.Unset) old ≡ cond b (rule_in r base) old
base_rule base q r true old e = ap (λ (k : ℕ). get_or base.columns k rules.Unset) (eqb-true _ _ e)
base_rule base q r false old e = refl

column_step : (r : ℕ) (base : PlacedRow) (s : Rows) (i : PlacedInstruction) → r < 17 → IsFull s → column_in r (rows_step base s i) ≡ register_step r (rule_in r base) (column_in r s) i
column_step r base s (Set q rule) lt full =
    ap (λ (k : PlacedRule). record { rule = k; remembered = map (rule_in r) s.remembered }) (put s.row.columns q r (rule_of rule) (nat_eq q r) refl (omega (arith, full.0)))
    ∙ chosen (nat_eq q r) (rule_of rule) (column_in r s)
column_step r base s (Restore q) lt full =
    ap (λ (k : PlacedRule). record { rule = k; remembered = map (rule_in r) s.remembered }) (put s.row.columns q r (rule_in q base) (nat_eq q r) refl (omega (arith, full.0)) ∙ base_rule base q r (nat_eq q r) (rule_in r s.row) refl)
    ∙ chosen (nat_eq q r) (rule_in r base) (column_in r s)
column_step r base s Remember lt full = refl
column_step r base s RestoreState lt full = column_back r s.row s.remembered
column_step r base s Nop lt full = refl
column_step r base s Advance lt full = refl
column_step r base s (Cfa q n) lt full = refl
column_step r base s (CfaColumn q) lt full = refl
column_step r base s (CfaOffset n) lt full = refl
column_step r base s (CfaExpression e) lt full = refl

column_fold : (r : ℕ) (base : PlacedRow) (s : Rows) (is : List PlacedInstruction) → r < 17 → IsFull s → column_in r (fold (rows_step base) s is) ≡ fold (register_step r (rule_in r base)) (column_in r s) is
column_fold r base s [] lt full = refl
column_fold r base s (i ∷ is) lt full =
    column_fold r base (rows_step base s i) is lt (full_step base s i full)
    ∙ ap (λ (c : Column PlacedRule). fold (register_step r (rule_in r base)) c is) (column_step r base s i lt full)

-- ---- the CFA of them

abbrev cfa_in : Rows → Column PlacedCfaRule
cfa_in s = record { rule = s.row.cfa; remembered = map (λ (row : PlacedRow). row.cfa) s.remembered }

cfa_back : (row : PlacedRow) (below : List PlacedRow) → cfa_in (restored row below) ≡ restore_from row.cfa (map (λ (w : PlacedRow). w.cfa) below)
cfa_back row [] = refl
cfa_back row (last ∷ others) = refl

cfa_stepped : (base : PlacedRow) (s : Rows) (i : PlacedInstruction) → cfa_in (rows_step base s i) ≡ cfa_step (cfa_in s) i
cfa_stepped base s Remember = refl
cfa_stepped base s RestoreState = cfa_back s.row s.remembered
cfa_stepped base s (Cfa q n) = refl
cfa_stepped base s (CfaColumn q) = refl
cfa_stepped base s (CfaOffset n) = refl
cfa_stepped base s (CfaExpression e) = refl
cfa_stepped base s (Set q rule) = refl
cfa_stepped base s (Restore q) = refl
cfa_stepped base s Nop = refl
cfa_stepped base s Advance = refl

cfa_fold : (base : PlacedRow) (s : Rows) (is : List PlacedInstruction) → cfa_in (fold (rows_step base) s is) ≡ fold cfa_step (cfa_in s) is
cfa_fold base s [] = refl
cfa_fold base s (i ∷ is) = cfa_fold base (rows_step base s i) is ∙ ap (λ (c : Column PlacedCfaRule). fold cfa_step c is) (cfa_stepped base s i)

-- ---- both programs

pub all_up_to : (location : ℕ) (steps : List PlacedStep) → AreAt location steps → up_to location steps ≡ steps
all_up_to location [] a = refl
all_up_to location (x ∷ xs) a =
    let here : nat_le x.location location ≡ true = le-leb _ _ (omega (arith, a.0)) in
    rw here (ap (λ (l : List PlacedStep). x ∷ l) (all_up_to location xs a.1))

-- the row at an address
abbrev pub row_from : PlacedRow → ℕ → List PlacedStep → PlacedRow
row_from base pc steps = (rows_after base pc (beside base []) steps).row

unset_rule : (r : ℕ) → r < 17 → rule_in r unset ≡ rules.Unset
unset_rule r lt = let none : PlacedRule = rules.Unset in get_or-replicate 17 r none none lt

unset_full : IsFull (beside unset [])
unset_full = (let none : PlacedRule = rules.Unset in length-replicate 17 none, tt)

base_full : (first : ℕ) (initial : List PlacedStep) → length (base_row first initial).columns ≡ 17
base_full first initial = (full_fold unset (beside unset []) (instructions (up_to first initial)) unset_full).0

base_is : (r first : ℕ) (initial : List PlacedStep) → r < 17 → AreAt first initial → rule_in r (base_row first initial) ≡ initial_rule r initial
unfolding initial_rule
base_is r first initial lt at =
    let all : instructions (up_to first initial) ≡ instructions initial = ap instructions (all_up_to first initial at) in
    let folded = column_fold r unset (beside unset []) (instructions (up_to first initial)) lt unset_full in
    ap (λ (c : Column PlacedRule). c.rule) folded
    ∙ ap (λ (k : PlacedRule). (fold (register_step r k) (new_column k) (instructions (up_to first initial))).rule) (unset_rule r lt)
    ∙ ap (λ (is : List PlacedInstruction). (fold (register_step r rules.Unset) (new_column rules.Unset) is).rule) all

column_agrees : (r first pc : ℕ) (initial steps : List PlacedStep) → r < 17 → AreAt first initial → get_or (row_from (base_row first initial) pc steps).columns r rules.Unset ≡ rule_at r initial steps pc
unfolding rule_at
column_agrees r first pc initial steps lt at =
    let base = base_row first initial in
    let folded = column_fold r base (beside base []) (instructions (up_to pc steps)) lt (base_full first initial, tt) in
    ap (λ (c : Column PlacedRule). c.rule) folded
    ∙ ap (λ (k : PlacedRule). (fold (register_step r k) (new_column k) (instructions (up_to pc steps))).rule) (base_is r first initial lt at)

columns_full : (first pc : ℕ) (initial steps : List PlacedStep) → length (row_from (base_row first initial) pc steps).columns ≡ 17
columns_full first pc initial steps =
    let base = base_row first initial in
    (full_fold base (beside base []) (instructions (up_to pc steps)) (base_full first initial, tt)).0

base_cfa : (first : ℕ) (initial : List PlacedStep) → AreAt first initial → (base_row first initial).cfa ≡ initial_cfa initial
unfolding initial_cfa
base_cfa first initial at =
    let all : instructions (up_to first initial) ≡ instructions initial = ap instructions (all_up_to first initial at) in
    ap (λ (c : Column PlacedCfaRule). c.rule) (cfa_fold unset (beside unset []) (instructions (up_to first initial)))
    ∙ ap (λ (is : List PlacedInstruction). (fold cfa_step (new_column cfas.Missing) is).rule) all

cfa_agrees : (first pc : ℕ) (initial steps : List PlacedStep) → AreAt first initial → (row_from (base_row first initial) pc steps).cfa ≡ cfa_at initial steps pc
unfolding cfa_at
cfa_agrees first pc initial steps at =
    let base = base_row first initial in
    ap (λ (c : Column PlacedCfaRule). c.rule) (cfa_fold base (beside base []) (instructions (up_to pc steps)))
    ∙ ap (λ (k : PlacedCfaRule). (fold cfa_step (new_column k) (instructions (up_to pc steps))).rule) (base_cfa first initial at)

-- ---- put together

-- the row after both programs of an FDE
pub record IsBehind (first pc : ℕ) (initial steps : List PlacedStep) (row : PlacedRow) : Type 0 where
  pub at : AreAt first initial
  pub is : row ≡ row_from (base_row first initial) pc steps

pub cfa_of : (first pc : ℕ) (initial steps : List PlacedStep) (row : PlacedRow) → IsBehind first pc initial steps row → row.cfa ≡ cfa_at initial steps pc
cfa_of first pc initial steps row b = ap (λ (k : PlacedRow). k.cfa) b.is ∙ cfa_agrees first pc initial steps b.at

pub column_of : (r first pc : ℕ) (initial steps : List PlacedStep) (row : PlacedRow) → r < 17 → IsBehind first pc initial steps row → slice_get row.columns r ≡ Some (rule_at r initial steps pc)
column_of r first pc initial steps row lt b =
    let full : length row.columns ≡ 17 = ap (λ (k : PlacedRow). length k.columns) b.is ∙ columns_full first pc initial steps in
    slice_get-get_or row.columns r rules.Unset (omega arith)
    ∙ ap (λ (k : PlacedRow). Some (get_or k.columns r rules.Unset)) b.is
    ∙ ap (λ (v : PlacedRule). Some v) (column_agrees r first pc initial steps lt b.at)

pub full_of : (first pc : ℕ) (initial steps : List PlacedStep) (row : PlacedRow) → IsBehind first pc initial steps row → length row.columns ≡ 17
full_of first pc initial steps row b = ap (λ (k : PlacedRow). length k.columns) b.is ∙ columns_full first pc initial steps
