-- The expressions of instructions stand where these say.
use Rattle.std.proofs.Common.{◌≡◌, ℕ, ℤ, ◌+◌, ◌-◌, ◌%◌, List, [], ◌∷◌, ◌++◌, length, take, drop, Ok, Err, Bool, true, false, cond, refl, sym, ap, subst, ◌∙◌, append_assoc, length-append, arith, inl, inr}
use Rattle.std.specs.Prelude.{slice_range}
use Rattle.std.proofs.lemmas.List.{take_at, drop_at, take_rest}
use Rattle.eh_bytes.specs.CursorData.{CursorData}
use Rattle.eh_bytes.specs.declared.fault.ByteFault.{ByteFault}
use Rattle.eh_bytes.proofs.Results.{ok_is}
use Rattle.eh_bytes.specs.Grammar.{Part, ◌>>=◌, give, here, refuse, when}
use Rattle.eh_bytes.specs.Leb.{uleb_at}
use Rattle.eh_bytes.proofs.Exact.{left}
use Rattle.eh_bytes.proofs.Fields.{uleb_exact}
use Rattle.eh_bytes.specs.Steps.{AreSteps}
use Rattle.eh_bytes.specs.Fields.{fixed, uleb, sleb}
use Rattle.frame_expr.specs.Expressions.{expression}
use Rattle.frame_expr.proofs.Parts.{spelled_by}
use Rattle.frame_parse.specs.declared.fault.RecordFault.{RecordFault}
use Rattle.frame_parse.specs.declared.fault.RecordFault.TheVariants as faults
use Rattle.frame_parse.specs.declared.instructions.context.Context.{Context}
use Rattle.frame_parse.specs.Instructions.{PlacedInstruction, PlacedReadRule, PlacedStep}
use Rattle.frame_parse.specs.declared.instructions.ReadRuleWith.TheVariants as rules
use Rattle.frame_parse.specs.declared.instructions.InstructionWith.TheVariants.{Nop, Set, Restore, CfaExpression}
use Rattle.frame_parse.specs.declared.instructions.RawInstruction.{RawInstruction}
use Rattle.frame_parse.specs.declared.instructions.RawInstruction.TheVariants as operations
use Rattle.frame_parse.specs.declared.program_state.ProgramState.{ProgramState}
use Rattle.frame_parse.specs.declared.records.Extent.{Extent}
use Rattle.frame_parse.specs.Fields.{field, pointer}
use Rattle.std.specs.Int.{w64, cast_unsigned}
use Rattle.frame_parse.specs.Programs.{is_above_columns, other, factored, set, restore, cfa_column, second_column, expression_block, column_block, extended_operation, operation, instruction_of, step, text_in, IsExtent, HasPlacedSteps, HasPrograms, PlacedProgramData, context_of, initial_of, program_of, initial_state, first_state}
use Rattle.frame_parse.specs.declared.instructions.context.ProgramKind.TheVariants.{Initial, Own}
use Rattle.frame_parse.specs.Sections.{FdeData}
use Rattle.frame_parse.specs.Blocks.{counted, block_in, HasExpression, HasRuleExpression, HasItsExpression, HaveExpressions}

-- ---- a text in the bytes

-- the text stands at a place of the bytes
abbrev pub StandsAt : List ℕ → ℕ → List ℕ → Type 0
StandsAt bytes p text = (before : List ℕ) × (after : List ℕ) × (bytes ≡ before ++ (text ++ after)) × (p ≡ length before)

front_at : (bytes : List ℕ) (p : ℕ) (text front back : List ℕ) → text ≡ front ++ back → StandsAt bytes p text → StandsAt bytes p front
front_at bytes p text front back parts a =
    (a.0, back ++ a.1, a.2 ∙ ap (λ (l : List ℕ). a.0 ++ (l ++ a.1)) parts ∙ ap (λ (l : List ℕ). a.0 ++ l) (append_assoc front back a.1), a.3)

back_at : (bytes : List ℕ) (p : ℕ) (text front back : List ℕ) → text ≡ front ++ back → StandsAt bytes p text → StandsAt bytes (p + length front) back
back_at bytes p text front back parts a = (
  a.0 ++ front,
  a.1,
  a.2 ∙ ap (λ (l : List ℕ). a.0 ++ (l ++ a.1)) parts ∙ ap (λ (l : List ℕ). a.0 ++ l) (append_assoc front back a.1) ∙ sym (append_assoc a.0 front (back ++ a.1)),
  omega (arith, a.3, length-append a.0 front),
)

-- what stands at an extent is the text between its places
text_is : (bytes : List ℕ) (e : Extent) (text : List ℕ) → IsExtent bytes e text → text_in bytes e ≡ text
text_is bytes e text is =
    let size : e.end - e.at ≡ length text = omega (arith, is.4) in
    let dropped : drop e.at bytes ≡ text ++ is.1 = ap (drop e.at) is.2 ∙ drop_at is.0 (text ++ is.1) e.at (sym is.3) in
    ap (take (e.end - e.at)) dropped ∙ take_at text is.1 (e.end - e.at) (sym size)

-- ---- parts whose values have their expressions

record Keeps {A : Type 0} (Q : List ℕ → A → Type 0) (g : Part RecordFault A) : Type 0 where
  keeps : (bytes : List ℕ) (p : ℕ) (text : List ℕ) (x : A) → StandsAt bytes p text → g.Spells p text x → Q bytes x

give_keeps : {A : Type 0} (Q : List ℕ → A → Type 0) (x : A) → ((bytes : List ℕ) → Q bytes x) → Keeps Q (give x)
give_keeps Q x has = record { keeps = λ bytes p text y a s. subst (λ z. Q bytes z) s.1 (has bytes) }

refuse_keeps : {A : Type 0} (Q : List ℕ → A → Type 0) (f : RecordFault) → Keeps Q (refuse f)
refuse_keeps Q f = record { keeps = λ bytes p text y a s. absurd s }

when_keeps : {A : Type 0} (Q : List ℕ → A → Type 0) (b : Bool) (g h : Part RecordFault A) → Keeps Q g → Keeps Q h → Keeps Q (when b g h)
when_keeps Q b g h kg kh = record {
  keeps = λ bytes p text y a s. elim s [ inl t ↦ kg.keeps bytes p text y a t.1 | inr t ↦ kh.keeps bytes p text y a t.1 ];
}

then_keeps : {A B : Type 0} (Q : List ℕ → B → Type 0) (g : Part RecordFault A) (h : A → Part RecordFault B) → ((x : A) → Keeps Q (h x)) → Keeps Q (g >>= h)
then_keeps Q g h kh = record {
  keeps = λ bytes p text y a s. (kh s.0).keeps bytes (p + length s.1) s.2 y (back_at bytes p text s.1 s.2 s.3 a) s.5;
}

-- a part whose value has its expression, and what is made of that value
made_keeps : {A B : Type 0} (R : List ℕ → A → Type 0) (Q : List ℕ → B → Type 0) (g : Part RecordFault A) (k : A → B) → Keeps R g → ((bytes : List ℕ) (x : A) → R bytes x → Q bytes (k x)) → Keeps Q (g >>= λ x. give (k x))
made_keeps R Q g k kg make = record {
  keeps = λ bytes p text y a s.
      subst (λ z. Q bytes z) s.5.1 (make bytes s.0 (kg.keeps bytes p s.1 s.0 (front_at bytes p text s.1 s.2 s.3 a) s.4));
}

-- ---- blocks

expression_block_keeps : (depth : ℕ) → Keeps (HasExpression depth) (expression_block depth)
unfolding expression_block
expression_block_keeps depth = record { keeps = λ bytes p text b a s. block_has bytes p text b a s }
  where
    block_has : (bytes : List ℕ) (p : ℕ) (text : List ℕ) (b : ℕ) → StandsAt bytes p text → (expression_block depth).Spells p text b → HasExpression depth bytes b
    block_has bytes p text b a s =
        let sized = s.5 in
        let place = sized.5 in
        let inside = place.5 in
        let from = back_at bytes p text s.1 s.2 s.3 a in
        let rest : sized.2 ≡ inside.1 ++ inside.2 = place.3 ∙ ap (λ (l : List ℕ). l ++ place.2) place.4.0 ∙ inside.3 in
        let own : inside.1 ≡ inside.0 = spelled_by depth _ inside.1 inside.0 inside.4.1 in
        let at : p + length s.1 + length sized.1 + length place.1 ≡ s.0 + length sized.1 = omega (arith, s.4.1, ap length s.4.0, ap length place.4.0) in
        let found : HasExpression depth bytes s.0 = record {
          before = from.0;
          size = sized.1;
          text = inside.1;
          after = inside.2 ++ from.1;
          parts = from.2 ∙ ap (λ (l : List ℕ). from.0 ++ (l ++ from.1)) (sized.3 ∙ ap (λ (l : List ℕ). sized.1 ++ l) rest)
              ∙ ap (λ (l : List ℕ). from.0 ++ l) (append_assoc sized.1 (inside.1 ++ inside.2) from.1 ∙ ap (λ (l : List ℕ). sized.1 ++ l) (append_assoc inside.1 inside.2 from.1));
          begins = omega (arith, from.3, s.4.1, ap length s.4.0);
          sized = subst (λ (n : ℕ). uleb.Spells s.0 sized.1 n) (sym inside.4.0) sized.4;
          spelled = subst (λ (q : ℕ). (expression depth).Spells q inside.1 inside.1) at
              (subst (λ (y : List ℕ). (expression depth).Spells (p + length s.1 + length sized.1 + length place.1) inside.1 y) (sym own) inside.4.1);
        } in
        subst (λ (k : ℕ). HasExpression depth bytes k) inside.5.1 found

-- where the column is one that is applied
abbrev HasColumnBlock : ℕ → List ℕ → ℕ → Type 0
HasColumnBlock r bytes e = is_above_columns r ≡ false → HasExpression 1 bytes e

column_block_keeps : (r : ℕ) → Keeps (HasColumnBlock r) (column_block r)
column_block_keeps r = record {
  keeps = λ bytes p text e a s.
      elim s [
        | inl t ↦ λ low. absurd (let both = sym t.0 ∙ low in cc)
        | inr t ↦ λ low. (expression_block_keeps 1).keeps bytes p text e a t.1
      ];
}

-- ---- operations

abbrev HasOperationExpression : List ℕ → RawInstruction → Type 0
HasOperationExpression bytes (operations.Advance d) = Unit {0}
HasOperationExpression bytes (operations.SetLocation a) = Unit {0}
HasOperationExpression bytes (operations.Other i) = HasItsExpression bytes i

set_by : (bytes : List ℕ) (r : ℕ) (rule : PlacedReadRule) (b : Bool) → (b ≡ false → HasRuleExpression bytes rule) → HasItsExpression bytes (cond b Nop (Set r rule))
set_by bytes r rule true has = tt
set_by bytes r rule false has = has refl

set_has : (bytes : List ℕ) (r : ℕ) (rule : PlacedReadRule) → (is_above_columns r ≡ false → HasRuleExpression bytes rule) → HasOperationExpression bytes (other (set r rule))
set_has bytes r rule has = set_by bytes r rule (is_above_columns r) has

restore_by : (bytes : List ℕ) (r : ℕ) (b : Bool) → HasItsExpression bytes (cond b Nop (Restore r))
restore_by bytes r true = tt
restore_by bytes r false = tt

restore_has : (bytes : List ℕ) (r : ℕ) → HasOperationExpression bytes (other (restore r))
restore_has bytes r = restore_by bytes r (is_above_columns r)

abbrev Q : List ℕ → RawInstruction → Type 0
Q = HasOperationExpression

-- a rule without an expression
plain_set : (r : ℕ) (rule : PlacedReadRule) → ((bytes : List ℕ) → HasRuleExpression bytes rule) → Keeps Q (give (other (set r rule)))
plain_set r rule none = give_keeps Q (other (set r rule)) (λ bytes. set_has bytes r rule (λ _. none bytes))

abbrev number : Part RecordFault ℕ
number = field uleb

abbrev signed : Part RecordFault ℤ
signed = field sleb

extended_keeps : (c : Context) (at b : ℕ) → Keeps Q (extended_operation c at b)
unfolding extended_operation
extended_keeps c at b =
    when_keeps Q _ _ _ (give_keeps Q _ (λ _. tt))
    (when_keeps Q _ _ _ (then_keeps Q (pointer c.section c.pointers) _ (λ a. give_keeps Q _ (λ _. tt)))
    (when_keeps Q _ _ _ (then_keeps Q (field (fixed 1)) _ (λ d. give_keeps Q _ (λ _. tt)))
    (when_keeps Q _ _ _ (then_keeps Q (field (fixed 2)) _ (λ d. give_keeps Q _ (λ _. tt)))
    (when_keeps Q _ _ _ (then_keeps Q (field (fixed 4)) _ (λ d. give_keeps Q _ (λ _. tt)))
    (when_keeps Q _ _ _ (then_keeps Q number _ (λ r. then_keeps Q number _ (λ n. plain_set r (rules.Offset (factored c n)) (λ _. tt))))
    (when_keeps Q _ _ _ (then_keeps Q number _ (λ r. give_keeps Q _ (λ bytes. restore_has bytes r)))
    (when_keeps Q _ _ _ (then_keeps Q number _ (λ r. plain_set r rules.Undefined (λ _. tt)))
    (when_keeps Q _ _ _ (then_keeps Q number _ (λ r. plain_set r rules.Same (λ _. tt)))
    (when_keeps Q _ _ _ (then_keeps Q number _ (λ r. then_keeps Q (second_column r) _ (λ q. plain_set r (rules.Register q) (λ _. tt))))
    (when_keeps Q _ _ _ (give_keeps Q _ (λ _. tt))
    (when_keeps Q _ _ _ (give_keeps Q _ (λ _. tt))
    (when_keeps Q _ _ _ (then_keeps Q cfa_column _ (λ r. then_keeps Q number _ (λ n. give_keeps Q _ (λ _. tt))))
    (when_keeps Q _ _ _ (then_keeps Q cfa_column _ (λ r. give_keeps Q _ (λ _. tt)))
    (when_keeps Q _ _ _ (then_keeps Q number _ (λ n. give_keeps Q _ (λ _. tt)))
    (when_keeps Q _ _ _ (made_keeps (HasExpression 0) Q (expression_block 0) (λ e. other (CfaExpression e)) (expression_block_keeps 0) (λ bytes e has. has))
    (when_keeps Q _ _ _ (then_keeps Q number _ (λ r. made_keeps (HasColumnBlock r) Q (column_block r) (λ e. other (set r (rules.Expression e))) (column_block_keeps r) (λ bytes e has. set_has bytes r (rules.Expression e) has)))
    (when_keeps Q _ _ _ (then_keeps Q number _ (λ r. then_keeps Q signed _ (λ n. plain_set r (rules.Offset (factored c (cast_unsigned w64 n))) (λ _. tt))))
    (when_keeps Q _ _ _ (then_keeps Q cfa_column _ (λ r. then_keeps Q signed _ (λ n. give_keeps Q _ (λ _. tt))))
    (when_keeps Q _ _ _ (then_keeps Q signed _ (λ n. give_keeps Q _ (λ _. tt)))
    (when_keeps Q _ _ _ (then_keeps Q number _ (λ r. then_keeps Q number _ (λ n. plain_set r (rules.ValOffset (factored c n)) (λ _. tt))))
    (when_keeps Q _ _ _ (then_keeps Q number _ (λ r. then_keeps Q signed _ (λ n. plain_set r (rules.ValOffset (factored c (cast_unsigned w64 n))) (λ _. tt))))
    (when_keeps Q _ _ _ (then_keeps Q number _ (λ r. made_keeps (HasColumnBlock r) Q (column_block r) (λ e. other (set r (rules.ValExpression e))) (column_block_keeps r) (λ bytes e has. set_has bytes r (rules.ValExpression e) has)))
    (when_keeps Q _ _ _ (then_keeps Q number _ (λ n. give_keeps Q _ (λ _. tt)))
    (refuse_keeps Q (faults.Opcode at b)))))))))))))))))))))))))

operation_keeps : (c : Context) → Keeps Q (operation c)
unfolding operation
operation_keeps c =
    then_keeps Q here _ (λ at.
    then_keeps Q (field (fixed 1)) _ (λ b.
    when_keeps Q _ _ _ (give_keeps Q _ (λ _. tt))
    (when_keeps Q _ _ _ (then_keeps Q number _ (λ n. plain_set (b % 64) (rules.Offset (factored c n)) (λ _. tt)))
    (when_keeps Q _ _ _ (give_keeps Q _ (λ bytes. restore_has bytes (b % 64)))
    (extended_keeps c at b)))))

instruction_has : (bytes : List ℕ) (o : RawInstruction) → HasOperationExpression bytes o → HasItsExpression bytes (instruction_of o)
instruction_has bytes (operations.Advance d) has = tt
instruction_has bytes (operations.SetLocation a) has = tt
instruction_has bytes (operations.Other i) has = has

-- ---- steps

step_has : (c : Context) (s m : ProgramState) (bytes : List ℕ) (p : ℕ) (front : List ℕ) (x : PlacedStep) → StandsAt bytes p front → (step c s).Spells p front (x, m) → HasItsExpression bytes x.instruction
unfolding step
step_has c s m bytes p front x a t =
    let b = t.5 in
    let d = b.5 in
    let there = front_at bytes (p + length t.1) t.2 b.1 b.2 b.3 (back_at bytes p front t.1 t.2 t.3 a) in
    let own = instruction_has bytes b.0 ((operation_keeps c).keeps bytes (p + length t.1) b.1 b.0 there b.4) in
    subst (λ (i : PlacedInstruction). HasItsExpression bytes i) (ap (λ (z : PlacedStep × ProgramState). z.0.instruction) d.5.1) own

steps_have : (c : Context) (bytes : List ℕ) (p : ℕ) (s : ProgramState) (text : List ℕ) (steps : List PlacedStep) (t : ProgramState) → StandsAt bytes p text → AreSteps (step c) p s text steps t → HaveExpressions bytes steps
steps_have c bytes p s text [] t a spelled = tt
steps_have c bytes p s text (x ∷ xs) t a spelled = (
  step_has c s spelled.0 bytes p spelled.1 x (front_at bytes p text spelled.1 spelled.2 spelled.3 a) spelled.4,
  steps_have c bytes (p + length spelled.1) spelled.0 spelled.2 xs t (back_at bytes p text spelled.1 spelled.2 spelled.3 a) spelled.5,
)

-- the expressions of a program that stands at an extent of the bytes
pub program_has : (c : Context) (s : ProgramState) (bytes : List ℕ) (e : Extent) (text : List ℕ) (steps : List PlacedStep) → IsExtent bytes e text
    → (let p : PlacedProgramData = record { context = c; state = s; rest = record { bytes = text_in bytes e; at = e.at } } in HasPlacedSteps p steps) → HaveExpressions bytes steps
unfolding HasPlacedSteps
program_has c s bytes e text steps is has =
    let spelled = subst (λ (l : List ℕ). AreSteps (step c) e.at s l steps has.0) (text_is bytes e text is) has.1 in
    steps_have c bytes e.at s text steps has.0 (is.0, is.1, is.2, is.3) spelled

-- those of an FDE, whose programs stand in the bytes
pub initial_has : (f : FdeData) (steps : List PlacedStep) → HasPrograms f.section f.bytes f.entry → HasPlacedSteps (initial_of f.section f.entry (text_in f.bytes f.entry.cie.initial)) steps → HaveExpressions f.bytes steps
initial_has f steps kept has = program_has (context_of f.section f.entry.cie Initial) (record initial_state { location = f.entry.first }) f.bytes f.entry.cie.initial kept.initial_text steps kept.initial_inside has

pub own_has : (f : FdeData) (steps : List PlacedStep) → HasPrograms f.section f.bytes f.entry → HasPlacedSteps (program_of f.section f.entry (text_in f.bytes f.entry.program)) steps → HaveExpressions f.bytes steps
own_has f steps kept has = program_has (context_of f.section f.entry.cie Own) (first_state f.entry.cie f.entry.first) f.bytes f.entry.program kept.text steps kept.inside has

-- ---- the bytes of a block

-- what reading a block's length leaves
pub length_read : (depth : ℕ) (bytes : List ℕ) (place : ℕ) (has : HasExpression depth bytes place) → uleb_at (left place (drop place bytes)) ≡ Ok (length has.text, left (place + length has.size) (has.text ++ has.after))
length_read depth bytes place has =
    let rest : drop place bytes ≡ has.size ++ (has.text ++ has.after) = ap (drop place) has.parts ∙ drop_at has.before (has.size ++ (has.text ++ has.after)) place (sym has.begins) in
    ap (λ (l : List ℕ). uleb_at (left place l)) rest ∙ uleb_exact.again place has.size (has.text ++ has.after) (length has.text) has.sized

pub block_is : (depth : ℕ) (bytes : List ℕ) (place : ℕ) (has : HasExpression depth bytes place) → block_in bytes place ≡ has.text
block_is depth bytes place has = ap counted (length_read depth bytes place has) ∙ take_at has.text has.after (length has.text) refl

-- a cursor from the block's place on, whose length is read: what is left begins with the block
pub record IsLent (n : ℕ) (rest text : List ℕ) : Type 0 where
  pub all : n ≡ length (take n rest)
  pub block : take n rest ≡ text

pub is_lent : (depth : ℕ) (bytes : List ℕ) (place : ℕ) (has : HasExpression depth bytes place) (r m : CursorData) (n : ℕ) → r.bytes ≡ slice_range bytes place (length bytes) → r.at ≡ place → uleb_at r ≡ Ok (n, m) → IsLent n m.bytes has.text
is_lent depth bytes place has r m n from at read =
    let read_so : uleb_at r ≡ Ok (length has.text, left (place + length has.size) (has.text ++ has.after)) =
    ap (λ (k : ℕ). uleb_at (left k r.bytes)) at ∙ ap (λ (l : List ℕ). uleb_at (left place l)) (from ∙ take_rest bytes place) ∙ length_read depth bytes place has in
    let same : (n, m) ≡ (length has.text, left (place + length has.size) (has.text ++ has.after)) = ok_is {F = ByteFault} (n, m) (length has.text, left (place + length has.size) (has.text ++ has.after)) (sym read ∙ read_so) in
    let size : n ≡ length has.text = ap (λ (z : ℕ × CursorData). z.0) same in
    let rest : m.bytes ≡ has.text ++ has.after = ap (λ (z : ℕ × CursorData). z.1.bytes) same in
    let block : take n m.bytes ≡ has.text = ap (take n) rest ∙ take_at has.text has.after n (sym size) in
    record { all = size ∙ ap length (sym block); block = block }

pub is_read : (depth : ℕ) (bytes : List ℕ) (place : ℕ) (has : HasExpression depth bytes place) (r : CursorData) (f : ByteFault) → r.bytes ≡ slice_range bytes place (length bytes) → r.at ≡ place → uleb_at r ≡ Err f → ⊥
is_read depth bytes place has r f from at read =
    let read_so : uleb_at r ≡ Ok (length has.text, left (place + length has.size) (has.text ++ has.after)) =
    ap (λ (k : ℕ). uleb_at (left k r.bytes)) at ∙ ap (λ (l : List ℕ). uleb_at (left place l)) (from ∙ take_rest bytes place) ∙ length_read depth bytes place has in
    let both = sym read_so ∙ read in cc
