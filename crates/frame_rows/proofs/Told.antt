-- The rules that instructions leave are the same however expressions are told.
use Rattle.std.proofs.Common.{◌≡◌, ℕ, List, [], ◌∷◌, Bool, true, false, cond, map, nat_eq, nat_le, refl, ap, ◌∙◌}
use Rattle.std.specs.List.{fold}
use Rattle.frame_parse.specs.declared.instructions.InstructionWith.{InstructionWith}
use Rattle.frame_parse.specs.declared.instructions.InstructionWith.TheVariants.{Nop, Advance, Set, Restore, Remember, RestoreState, Cfa, CfaColumn, CfaOffset, CfaExpression}
use Rattle.frame_parse.specs.declared.instructions.ReadRuleWith.{ReadRuleWith}
use Rattle.frame_parse.specs.declared.instructions.ReadRuleWith.TheVariants as read
use Rattle.frame_parse.specs.declared.instructions.StepWith.{StepWith}
use Rattle.frame_parse.specs.Instructions.{read_rule_told, instruction_told, step_told}
use Rattle.frame_rows.specs.declared.rule.RuleWith.{RuleWith}
use Rattle.frame_rows.specs.declared.rule.RuleWith.TheVariants as rules
use Rattle.frame_rows.specs.declared.rule.CfaRuleWith.{CfaRuleWith}
use Rattle.frame_rows.specs.declared.rule.CfaRuleWith.TheVariants as cfas
use Rattle.frame_rows.specs.Columns.{Column, new_column, restore_from, rule_of, with_column, with_offset, register_step, cfa_step, instructions, up_to, initial_rule, rule_at, initial_cfa, cfa_at}
use Rattle.frame_rows.specs.Rules.{rule_told, cfa_rule_told}

-- ---- a column, with its rules told in another way

abbrev column_told : {X Y : Type 0} → (X → Y) → Column X → Column Y
column_told h c = record { rule = h c.rule; remembered = map h c.remembered }

chosen_told : {X Y : Type 0} (h : X → Y) (b : Bool) (v : X) (w : Y) (c : Column X) → h v ≡ w → column_told h (cond b (record c { rule = v }) c) ≡ cond b (record (column_told h c) { rule = w }) (column_told h c)
chosen_told {X} {Y} h true v w c same = ap (λ (k : Y). record { rule = k; remembered = map h c.remembered }) same
chosen_told h false v w c same = refl

back_told : {X Y : Type 0} (h : X → Y) (rule : X) (below : List X) → column_told h (restore_from rule below) ≡ restore_from (h rule) (map h below)
back_told h rule [] = refl
back_told h rule (last ∷ others) = refl

of_told : {A B : Type 0} (g : A → B) (rule : ReadRuleWith A) → rule_told g (rule_of rule) ≡ rule_of (read_rule_told g rule)
of_told g read.Undefined = refl
of_told g read.Same = refl
of_told g (read.Offset n) = refl
of_told g (read.ValOffset n) = refl
of_told g (read.Register q) = refl
of_told g (read.Expression e) = refl
of_told g (read.ValExpression e) = refl

register_told : {A B C D : Type 0} (f : A → B) (g : C → D) (r : ℕ) (base : RuleWith C) (c : Column (RuleWith C)) (i : InstructionWith A C)
    → column_told (rule_told g) (register_step r base c i) ≡ register_step r (rule_told g base) (column_told (rule_told g) c) (instruction_told f g i)
register_told f g r base c (Set q rule) = chosen_told (rule_told g) (nat_eq q r) (rule_of rule) (rule_of (read_rule_told g rule)) c (of_told g rule)
register_told f g r base c (Restore q) = chosen_told (rule_told g) (nat_eq q r) base (rule_told g base) c refl
register_told f g r base c Remember = refl
register_told f g r base c RestoreState = back_told (rule_told g) c.rule c.remembered
register_told f g r base c Nop = refl
register_told f g r base c Advance = refl
register_told f g r base c (Cfa q n) = refl
register_told f g r base c (CfaColumn q) = refl
register_told f g r base c (CfaOffset n) = refl
register_told f g r base c (CfaExpression e) = refl

with_column_told : {A B : Type 0} (f : A → B) (q : ℕ) (rule : CfaRuleWith A) → cfa_rule_told f (with_column q rule) ≡ with_column q (cfa_rule_told f rule)
with_column_told f q cfas.Missing = refl
with_column_told f q (cfas.Offset p n) = refl
with_column_told f q (cfas.Expression e) = refl

with_offset_told : {A B : Type 0} (f : A → B) (n : ℕ) (rule : CfaRuleWith A) → cfa_rule_told f (with_offset n rule) ≡ with_offset n (cfa_rule_told f rule)
with_offset_told f n cfas.Missing = refl
with_offset_told f n (cfas.Offset p m) = refl
with_offset_told f n (cfas.Expression e) = refl

cfa_told : {A B C D : Type 0} (f : A → B) (g : C → D) (c : Column (CfaRuleWith A)) (i : InstructionWith A C)
    → column_told (cfa_rule_told f) (cfa_step c i) ≡ cfa_step (column_told (cfa_rule_told f) c) (instruction_told f g i)
cfa_told f g c (Cfa q n) = refl
cfa_told {A} {B} {C} {D} f g c (CfaColumn q) = ap (λ (k : CfaRuleWith B). record { rule = k; remembered = map (cfa_rule_told f) c.remembered }) (with_column_told f q c.rule)
cfa_told {A} {B} {C} {D} f g c (CfaOffset n) = ap (λ (k : CfaRuleWith B). record { rule = k; remembered = map (cfa_rule_told f) c.remembered }) (with_offset_told f n c.rule)
cfa_told f g c (CfaExpression e) = refl
cfa_told f g c Remember = refl
cfa_told f g c RestoreState = back_told (cfa_rule_told f) c.rule c.remembered
cfa_told f g c Nop = refl
cfa_told f g c Advance = refl
cfa_told f g c (Set q rule) = refl
cfa_told f g c (Restore q) = refl

-- ---- along all steps

fold_told : {A B C D X Y : Type 0} (f : A → B) (g : C → D) (h : X → Y) (one : Column X → InstructionWith A C → Column X) (other : Column Y → InstructionWith B D → Column Y) (xs : List (StepWith A C)) (c : Column X)
    → ((k : Column X) (i : InstructionWith A C) → column_told h (one k i) ≡ other (column_told h k) (instruction_told f g i))
    → column_told h (fold one c (instructions xs)) ≡ fold other (column_told h c) (instructions (map (step_told f g) xs))
fold_told f g h one other [] c each = refl
fold_told {A} {B} {C} {D} {X} {Y} f g h one other (x ∷ xs) c each =
    fold_told f g h one other xs (one c x.instruction) each
    ∙ ap (λ (k : Column Y). fold other k (instructions (map (step_told f g) xs))) (each c x.instruction)

kept_told : {X Y : Type 0} (h : X → Y) (b : Bool) (x : X) (xs : List X) → map h (cond b (x ∷ xs) xs) ≡ cond b (h x ∷ map h xs) (map h xs)
kept_told h true x xs = refl
kept_told h false x xs = refl

up_to_told : {A B C D : Type 0} (f : A → B) (g : C → D) (pc : ℕ) (xs : List (StepWith A C)) → map (step_told f g) (up_to pc xs) ≡ up_to pc (map (step_told f g) xs)
up_to_told f g pc [] = refl
up_to_told {A} {B} {C} {D} f g pc (x ∷ xs) =
    kept_told (step_told f g) (nat_le x.location pc) x (up_to pc xs)
    ∙ ap (λ (l : List (StepWith B D)). cond (nat_le x.location pc) (step_told f g x ∷ l) l) (up_to_told f g pc xs)

-- ---- the rules at an address

initial_rule_told : {A B C D : Type 0} (f : A → B) (g : C → D) (r : ℕ) (initial : List (StepWith A C)) → rule_told g (initial_rule r initial) ≡ initial_rule r (map (step_told f g) initial)
unfolding initial_rule
initial_rule_told {A} {B} {C} {D} f g r initial =
    ap (λ (c : Column (RuleWith D)). c.rule) (fold_told f g (rule_told g) (register_step r rules.Unset) (register_step r rules.Unset) initial (new_column rules.Unset) (register_told f g r rules.Unset))

pub rule_at_told : {A B C D : Type 0} (f : A → B) (g : C → D) (r : ℕ) (initial steps : List (StepWith A C)) (pc : ℕ)
    → rule_told g (rule_at r initial steps pc) ≡ rule_at r (map (step_told f g) initial) (map (step_told f g) steps) pc
unfolding rule_at
rule_at_told {A} {B} {C} {D} f g r initial steps pc =
    let base = initial_rule r initial in
    ap (λ (c : Column (RuleWith D)). c.rule) (fold_told f g (rule_told g) (register_step r base) (register_step r (rule_told g base)) (up_to pc steps) (new_column base) (register_told f g r base))
    ∙ ap (λ (k : RuleWith D). (fold (register_step r k) (new_column k) (instructions (map (step_told f g) (up_to pc steps)))).rule) (initial_rule_told f g r initial)
    ∙ ap (λ (l : List (StepWith B D)). (fold (register_step r (initial_rule r (map (step_told f g) initial))) (new_column (initial_rule r (map (step_told f g) initial))) (instructions l)).rule) (up_to_told f g pc steps)

initial_cfa_told : {A B C D : Type 0} (f : A → B) (g : C → D) (initial : List (StepWith A C)) → cfa_rule_told f (initial_cfa initial) ≡ initial_cfa (map (step_told f g) initial)
unfolding initial_cfa
initial_cfa_told {A} {B} {C} {D} f g initial =
    ap (λ (c : Column (CfaRuleWith B)). c.rule) (fold_told f g (cfa_rule_told f) cfa_step cfa_step initial (new_column cfas.Missing) (cfa_told f g))

pub cfa_at_told : {A B C D : Type 0} (f : A → B) (g : C → D) (initial steps : List (StepWith A C)) (pc : ℕ)
    → cfa_rule_told f (cfa_at initial steps pc) ≡ cfa_at (map (step_told f g) initial) (map (step_told f g) steps) pc
unfolding cfa_at
cfa_at_told {A} {B} {C} {D} f g initial steps pc =
    ap (λ (c : Column (CfaRuleWith B)). c.rule) (fold_told f g (cfa_rule_told f) cfa_step cfa_step (up_to pc steps) (new_column (initial_cfa initial)) (cfa_told f g))
    ∙ ap (λ (k : CfaRuleWith B). (fold cfa_step (new_column k) (instructions (map (step_told f g) (up_to pc steps)))).rule) (initial_cfa_told f g initial)
    ∙ ap (λ (l : List (StepWith B D)). (fold cfa_step (new_column (initial_cfa (map (step_told f g) initial))) (instructions l)).rule) (up_to_told f g pc steps)
