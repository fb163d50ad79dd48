-- A rule that instructions leave was set by one of them: so its expression stands where theirs does.
use Rattle.std.proofs.Common.{◌≡◌, ℕ, ◌<◌, List, [], ◌∷◌, Bool, true, false, Some, cond, nat_eq, nat_le, ◌≤◌, length, get_or, sym, subst, arith, inl, inr}
use Rattle.std.specs.Prelude.{slice_get}
use Rattle.std.specs.List.{fold}
use Rattle.std.proofs.lemmas.Option.{get_or_from_slice_get}
use Rattle.std.proofs.lemmas.List.{get_or_past}
use Rattle.std.proofs.lemmas.Bool.{cases_lt}
use Rattle.frame_parse.specs.Blocks.{HasRuleExpression, HasItsExpression, HaveExpressions}
use Rattle.frame_parse.specs.Instructions.{PlacedInstruction, PlacedReadRule, PlacedStep}
use Rattle.frame_rows.specs.Rules.{PlacedCfaRule, PlacedRule}
use Rattle.frame_parse.specs.declared.instructions.ReadRuleWith.TheVariants as read
use Rattle.frame_parse.specs.declared.instructions.InstructionWith.TheVariants.{Nop, Advance, Set, Restore, Remember, RestoreState, Cfa, CfaColumn, CfaOffset, CfaExpression}
use Rattle.frame_parse.specs.Sections.{FdeData}
use Rattle.frame_rows.specs.declared.rule.RuleWith.TheVariants as rules
use Rattle.frame_rows.specs.declared.rule.CfaRuleWith.TheVariants as cfas
use Rattle.frame_rows.specs.declared.placed_row.PlacedRow.{PlacedRow}
use Rattle.frame_rows.specs.Columns.{Column, new_column, restore_from, rule_of, with_column, with_offset, register_step, cfa_step, instructions, up_to, initial_rule, rule_at, initial_cfa, cfa_at}
use Rattle.frame_rows.specs.Expressions.{HasColumnExpression, HasCfaExpression, HasExpressions}

-- ---- one column, with what it remembers

abbrev HasAll : {A : Type 0} → (A → Type 0) → List A → Type 0
HasAll P [] = Unit {0}
HasAll P (x ∷ xs) = P x × HasAll P xs

abbrev Keeps : {A : Type 0} → (A → Type 0) → Column A → Type 0
Keeps P c = P c.rule × HasAll P c.remembered

back_keeps : {A : Type 0} (P : A → Type 0) (rule : A) (below : List A) → P rule → HasAll P below → Keeps P (restore_from rule below)
back_keeps P rule [] has all = (has, tt)
back_keeps P rule (last ∷ others) has all = (all.0, all.1)

either_keeps : {A : Type 0} (P : A → Type 0) (b : Bool) (c : Column A) (rule : A) → P rule → Keeps P c → Keeps P (cond b (record c { rule = rule }) c)
either_keeps P true c rule has kept = (has, kept.1)
either_keeps P false c rule has kept = kept

-- a step that keeps the expressions, where its instruction has its own
abbrev KeepsThem : {A : Type 0} → List ℕ → (A → Type 0) → (Column A → PlacedInstruction → Column A) → Type 0
KeepsThem {A} bytes P step = (c : Column A) (i : PlacedInstruction) → HasItsExpression bytes i → Keeps P c → Keeps P (step c i)

fold_keeps : {A : Type 0} (bytes : List ℕ) (P : A → Type 0) (step : Column A → PlacedInstruction → Column A) (xs : List PlacedStep) (c : Column A) → KeepsThem bytes P step → HaveExpressions bytes xs → Keeps P c → Keeps P (fold step c (instructions xs))
fold_keeps bytes P step [] c keeps have kept = kept
fold_keeps bytes P step (x ∷ xs) c keeps have kept = fold_keeps bytes P step xs (step c x.instruction) keeps have.1 (keeps c x.instruction have.0 kept)

chosen_have : (bytes : List ℕ) (b : Bool) (x : PlacedStep) (xs : List PlacedStep) → HasItsExpression bytes x.instruction → HaveExpressions bytes xs → HaveExpressions bytes (cond b (x ∷ xs) xs)
chosen_have bytes true x xs has have = (has, have)
chosen_have bytes false x xs has have = have

up_to_have : (bytes : List ℕ) (pc : ℕ) (xs : List PlacedStep) → HaveExpressions bytes xs → HaveExpressions bytes (up_to pc xs)
up_to_have bytes pc [] have = tt
up_to_have bytes pc (x ∷ xs) have = chosen_have bytes (nat_le x.location pc) x (up_to pc xs) have.0 (up_to_have bytes pc xs have.1)

-- ---- registers

rule_has : (bytes : List ℕ) (rule : PlacedReadRule) → HasRuleExpression bytes rule → HasColumnExpression bytes (rule_of rule)
rule_has bytes read.Undefined has = tt
rule_has bytes read.Same has = tt
rule_has bytes (read.Offset n) has = tt
rule_has bytes (read.ValOffset n) has = tt
rule_has bytes (read.Register q) has = tt
rule_has bytes (read.Expression e) has = has
rule_has bytes (read.ValExpression e) has = has

register_keeps : (bytes : List ℕ) (r : ℕ) (base : PlacedRule) → HasColumnExpression bytes base → KeepsThem bytes (HasColumnExpression bytes) (register_step r base)
register_keeps bytes r base given c (Set q rule) has kept = either_keeps (HasColumnExpression bytes) (nat_eq q r) c (rule_of rule) (rule_has bytes rule has) kept
register_keeps bytes r base given c (Restore q) has kept = either_keeps (HasColumnExpression bytes) (nat_eq q r) c base given kept
register_keeps bytes r base given c Remember has kept = (kept.0, (kept.0, kept.1))
register_keeps bytes r base given c RestoreState has kept = back_keeps (HasColumnExpression bytes) c.rule c.remembered kept.0 kept.1
register_keeps bytes r base given c Nop has kept = kept
register_keeps bytes r base given c Advance has kept = kept
register_keeps bytes r base given c (Cfa q n) has kept = kept
register_keeps bytes r base given c (CfaColumn q) has kept = kept
register_keeps bytes r base given c (CfaOffset n) has kept = kept
register_keeps bytes r base given c (CfaExpression e) has kept = kept

initial_has : (bytes : List ℕ) (r : ℕ) (initial : List PlacedStep) → HaveExpressions bytes initial → HasColumnExpression bytes (initial_rule r initial)
unfolding initial_rule
initial_has bytes r initial have =
    (fold_keeps bytes (HasColumnExpression bytes) (register_step r rules.Unset) initial (new_column rules.Unset) (register_keeps bytes r rules.Unset tt) have (tt, tt)).0

rule_at_has : (bytes : List ℕ) (r : ℕ) (initial steps : List PlacedStep) (pc : ℕ) → HaveExpressions bytes initial → HaveExpressions bytes steps → HasColumnExpression bytes (rule_at r initial steps pc)
unfolding rule_at
rule_at_has bytes r initial steps pc before have =
    let base = initial_rule r initial in
    let given = initial_has bytes r initial before in
    (fold_keeps bytes (HasColumnExpression bytes) (register_step r base) (up_to pc steps) (new_column base) (register_keeps bytes r base given) (up_to_have bytes pc steps have) (given, tt)).0

-- ---- the CFA

column_has : (bytes : List ℕ) (q : ℕ) (rule : PlacedCfaRule) → HasCfaExpression bytes rule → HasCfaExpression bytes (with_column q rule)
column_has bytes q cfas.Missing has = tt
column_has bytes q (cfas.Offset p n) has = tt
column_has bytes q (cfas.Expression e) has = has

offset_has : (bytes : List ℕ) (n : ℕ) (rule : PlacedCfaRule) → HasCfaExpression bytes rule → HasCfaExpression bytes (with_offset n rule)
offset_has bytes n cfas.Missing has = tt
offset_has bytes n (cfas.Offset p m) has = tt
offset_has bytes n (cfas.Expression e) has = has

cfa_keeps : (bytes : List ℕ) → KeepsThem bytes (HasCfaExpression bytes) cfa_step
cfa_keeps bytes c (Cfa q n) has kept = (tt, kept.1)
cfa_keeps bytes c (CfaColumn q) has kept = (column_has bytes q c.rule kept.0, kept.1)
cfa_keeps bytes c (CfaOffset n) has kept = (offset_has bytes n c.rule kept.0, kept.1)
cfa_keeps bytes c (CfaExpression e) has kept = (has, kept.1)
cfa_keeps bytes c Remember has kept = (kept.0, (kept.0, kept.1))
cfa_keeps bytes c RestoreState has kept = back_keeps (HasCfaExpression bytes) c.rule c.remembered kept.0 kept.1
cfa_keeps bytes c Nop has kept = kept
cfa_keeps bytes c Advance has kept = kept
cfa_keeps bytes c (Set q rule) has kept = kept
cfa_keeps bytes c (Restore q) has kept = kept

cfa_at_has : (bytes : List ℕ) (initial steps : List PlacedStep) (pc : ℕ) → HaveExpressions bytes initial → HaveExpressions bytes steps → HasCfaExpression bytes (cfa_at initial steps pc)
unfolding cfa_at initial_cfa
cfa_at_has bytes initial steps pc before have =
    let given = fold_keeps bytes (HasCfaExpression bytes) cfa_step initial (new_column cfas.Missing) (cfa_keeps bytes) before (tt, tt) in
    (fold_keeps bytes (HasCfaExpression bytes) cfa_step (up_to pc steps) (new_column (initial_cfa initial)) (cfa_keeps bytes) (up_to_have bytes pc steps have) (given.0, tt)).0

-- ---- a row of an FDE

-- columns past the last one have no rule
past_has : (bytes : List ℕ) (own : List PlacedRule) (r : ℕ) → length own ≤ r → HasColumnExpression bytes (get_or own r rules.Unset)
past_has bytes own r past = subst (λ (k : PlacedRule). HasColumnExpression bytes k) (sym (get_or_past own r rules.Unset past)) tt

pub row_has : (f : FdeData) (pc : ℕ) (row : PlacedRow) (initial steps : List PlacedStep) → length row.columns ≡ 17 → HaveExpressions f.bytes initial → HaveExpressions f.bytes steps → row.cfa ≡ cfa_at initial steps pc
    → ((r : ℕ) → r < 17 → slice_get row.columns r ≡ Some (rule_at r initial steps pc)) → HasExpressions f.bytes row
row_has f pc row initial steps full before have cfa columns = record {
  cfa = subst (λ (k : PlacedCfaRule). HasCfaExpression f.bytes k) (sym cfa) (cfa_at_has f.bytes initial steps pc before have);
  columns = λ r.
      elim (cases_lt r 17) [
        | inl lt ↦
            subst (λ (k : PlacedRule). HasColumnExpression f.bytes k) (sym (get_or_from_slice_get row.columns r (rule_at r initial steps pc) rules.Unset (columns r lt))) (rule_at_has f.bytes r initial steps pc before have)
        | inr past ↦ past_has f.bytes row.columns r (omega (arith, full))
      ];
}
