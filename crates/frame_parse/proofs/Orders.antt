-- What one step changes, and what therefore holds along the steps of a program.
use Rattle.std.proofs.Common.{◌≡◌, ℕ, ◌+◌, ◌-◌, ◌*◌, ◌^◌, List, [], ◌∷◌, ◌++◌, length, map, Bool, true, false, cond, Ok, Err, nat_lt, nat_le, refl, sym, ap, subst, ◌∙◌, length-append, arith}
use Rattle.std.specs.Prelude.{◌&&◌}
use Rattle.std.proofs.lemmas.Bool.{ltb-true, leb-true}
use Rattle.std.proofs.lemmas.List.{length-take}
use Rattle.frame_parse.specs.declared.fault.RecordFault.{RecordFault}
use Rattle.frame_parse.specs.declared.instructions.context.Context.{Context}
use Rattle.frame_parse.specs.Instructions.{PlacedInstruction, PlacedStep, StepData, instruction_told, step_told}
use Rattle.frame_parse.specs.declared.instructions.InstructionWith.{InstructionWith}
use Rattle.frame_parse.specs.declared.instructions.StepWith.{StepWith}
use Rattle.frame_parse.specs.Blocks.{block_in}
use Rattle.frame_parse.specs.Steps.{ProgramData, HasSteps}
use Rattle.frame_parse.specs.declared.instructions.InstructionWith.TheVariants.{Nop, Advance, Set, Restore, Remember, RestoreState, Cfa, CfaColumn, CfaOffset, CfaExpression}
use Rattle.frame_parse.specs.declared.instructions.RawInstruction.{RawInstruction}
use Rattle.frame_parse.specs.declared.instructions.RawInstruction.TheVariants as operations
use Rattle.frame_parse.specs.declared.program_state.ProgramState.{ProgramState}
use Rattle.eh_bytes.specs.Grammar.{given}
use Rattle.frame_parse.specs.Programs.{most_remembered, moves, effect_of, effect, step, instruction_of, top, below_top, PlacedProgramData, HasPlacedSteps}
use Rattle.eh_bytes.specs.Steps.{AreSteps}
use Rattle.frame_parse.specs.Order.{Moves, IsAscendingFrom, AreAt, MayStandAt, remembered_after, IsBalanced, AreOrdered}

-- what a step does to the location and to the number of remembered states
record Changes (moving : Bool) (s : ProgramState) (i : PlacedInstruction) (m : ProgramState) : Type 0 where
  up : Moves i s.location m.location
  still : moving ≡ false → m.location ≡ s.location
  may : MayStandAt (length s.remembered) i
  depth : length m.remembered ≡ remembered_after (length s.remembered) i

chosen : (b : Bool) (x m : ProgramState) (f : RecordFault) (p : ℕ) (text : List ℕ) → (given (cond b (Ok x) (Err f))).Spells p text m → (b ≡ true) × (x ≡ m)
chosen true x m f p text a = (refl, a.1)
chosen false x m f p text a = absurd a

same : (moving : Bool) (s m : ProgramState) (i : PlacedInstruction) → Moves i s.location s.location → MayStandAt (length s.remembered) i → remembered_after (length s.remembered) i ≡ length s.remembered → s ≡ m → Changes moving s i m
same moving s m i up may depth e =
    let made : Changes moving s i s = record { up = up; still = λ _. refl; may = may; depth = sym depth } in
    subst (λ (k : ProgramState). Changes moving s i k) e made

changes_of : (at : ℕ) (moving : Bool) (s m : ProgramState) (i : PlacedInstruction) (p : ℕ) (text : List ℕ) → (given (effect_of at s i)).Spells p text m → Changes moving s i m
changes_of at moving s m Nop p text a = same moving s m Nop refl tt refl a.1
changes_of at moving s m Advance p text a = same moving s m Advance (omega arith) tt refl a.1
changes_of at moving s m (Set r rule) p text a = same moving s m (Set r rule) refl tt refl a.1
changes_of at moving s m (Restore r) p text a = same moving s m (Restore r) refl tt refl a.1
changes_of at moving s m (Cfa r n) p text a =
    let kept : ProgramState = record s { offset = true } in
    let made : Changes moving s (Cfa r n) kept = record { up = refl; still = λ _. refl; may = tt; depth = refl } in
    subst (λ (k : ProgramState). Changes moving s (Cfa r n) k) a.1 made
changes_of at moving s m (CfaExpression e) p text a =
    let kept : ProgramState = record s { offset = false } in
    let made : Changes moving s (CfaExpression e) kept = record { up = refl; still = λ _. refl; may = tt; depth = refl } in
    subst (λ (k : ProgramState). Changes moving s (CfaExpression e) k) a.1 made
changes_of at moving s m (CfaColumn r) p text a = same moving s m (CfaColumn r) refl tt refl (chosen s.offset s m _ p text a).1
changes_of at moving s m (CfaOffset n) p text a = same moving s m (CfaOffset n) refl tt refl (chosen s.offset s m _ p text a).1
changes_of at moving s m Remember p text a =
    let kept : ProgramState = record s { remembered = s.remembered ++ s.offset ∷ [] } in
    let b = chosen (nat_lt (length s.remembered) most_remembered) kept m _ p text a in
    let made : Changes moving s Remember kept = record { up = refl; still = λ _. refl; may = ltb-true _ _ b.0; depth = length-append s.remembered (s.offset ∷ []) } in
    subst (λ (k : ProgramState). Changes moving s Remember k) b.1 made
changes_of at moving s m RestoreState p text a =
    let kept : ProgramState = record s { offset = top s.remembered; remembered = below_top s.remembered } in
    let b = chosen (nat_lt 0 (length s.remembered)) kept m _ p text a in
    let made : Changes moving s RestoreState kept = record { up = refl; still = λ _. refl; may = ltb-true _ _ b.0; depth = omega (arith, length-take (length s.remembered - 1) s.remembered) } in
    subst (λ (k : ProgramState). Changes moving s RestoreState k) b.1 made

both : (a b : Bool) → a && b ≡ true → (a ≡ true) × (b ≡ true)
both true b e = (refl, e)
both false b e = absurd cc

changes : (at : ℕ) (c : Context) (s m : ProgramState) (o : RawInstruction) (p : ℕ) (text : List ℕ) → (given (effect at c s o)).Spells p text m → Changes (moves c.kind) s (instruction_of o) m
changes at c s m (operations.Advance d) p text a =
    let kept : ProgramState = record s { location = s.location + d * c.code_alignment } in
    let b = chosen (moves c.kind && nat_lt (s.location + d * c.code_alignment) (2 ^ 64)) kept m _ p text a in
    let t = both (moves c.kind) (nat_lt (s.location + d * c.code_alignment) (2 ^ 64)) b.0 in
    let made : Changes (moves c.kind) s Advance kept = record { up = omega arith; still = λ e. absurd (let never = sym e ∙ t.0 in cc); may = tt; depth = refl } in
    subst (λ (k : ProgramState). Changes (moves c.kind) s Advance k) b.1 made
changes at c s m (operations.SetLocation d) p text a =
    let kept : ProgramState = record s { location = d } in
    let b = chosen (moves c.kind && nat_le s.location d) kept m _ p text a in
    let t = both (moves c.kind) (nat_le s.location d) b.0 in
    let made : Changes (moves c.kind) s Advance kept = record { up = leb-true _ _ t.1; still = λ e. absurd (let never = sym e ∙ t.0 in cc); may = tt; depth = refl } in
    subst (λ (k : ProgramState). Changes (moves c.kind) s Advance k) b.1 made
changes at c s m (operations.Other i) p text a = changes_of at (moves c.kind) s m i p text a

-- a step that is spelled: its location is that of the state after it
record Stepped (moving : Bool) (s : ProgramState) (x : PlacedStep) (m : ProgramState) : Type 0 where
  here : x.location ≡ m.location
  change : Changes moving s x.instruction m

stepped : (c : Context) (s m : ProgramState) (p : ℕ) (front : List ℕ) (x : PlacedStep) → (step c s).Spells p front (x, m) → Stepped (moves c.kind) s x m
unfolding step
stepped c s m p front x a =
    let b = a.5 in
    let d = b.5 in
    let made : PlacedStep = record { location = d.0.location; instruction = instruction_of b.0 } in
    let one : made ≡ x = ap (λ (z : PlacedStep × ProgramState). z.0) d.5.1 in
    let two : d.0 ≡ m = ap (λ (z : PlacedStep × ProgramState). z.1) d.5.1 in
    let change = changes a.0 c s d.0 b.0 _ d.1 d.4 in
    let first : Stepped (moves c.kind) s made d.0 = record { here = refl; change = change } in
    let second : Stepped (moves c.kind) s x d.0 = subst (λ (k : PlacedStep). Stepped (moves c.kind) s k d.0) one first in
    subst (λ (k : ProgramState). Stepped (moves c.kind) s x k) two second

ascending_from : (c : Context) (p : ℕ) (s : ProgramState) (text : List ℕ) (steps : List PlacedStep) (t : ProgramState) → AreSteps (step c) p s text steps t → IsAscendingFrom s.location steps
ascending_from c p s text [] t a = tt
ascending_from c p s text (x ∷ xs) t a =
    let one = stepped c s a.0 p a.1 x a.4 in
    let later = ascending_from c (p + length a.1) a.0 a.2 xs t a.5 in
    (subst (λ (k : ℕ). Moves x.instruction s.location k) (sym one.here) one.change.up, subst (λ (k : ℕ). IsAscendingFrom k xs) (sym one.here) later)

at_from : (c : Context) (p : ℕ) (s : ProgramState) (text : List ℕ) (steps : List PlacedStep) (t : ProgramState) → moves c.kind ≡ false → AreSteps (step c) p s text steps t → AreAt s.location steps
at_from c p s text [] t e a = tt
at_from c p s text (x ∷ xs) t e a =
    let one = stepped c s a.0 p a.1 x a.4 in
    let later = at_from c (p + length a.1) a.0 a.2 xs t e a.5 in
    (one.here ∙ one.change.still e, subst (λ (k : ℕ). AreAt k xs) (one.change.still e) later)

balanced_from : (c : Context) (p : ℕ) (s : ProgramState) (text : List ℕ) (steps : List PlacedStep) (t : ProgramState) → AreSteps (step c) p s text steps t → IsBalanced (length s.remembered) steps
balanced_from c p s text [] t a = tt
balanced_from c p s text (x ∷ xs) t a =
    let one = stepped c s a.0 p a.1 x a.4 in
    let later = balanced_from c (p + length a.1) a.0 a.2 xs t a.5 in
    (one.change.may, subst (λ (k : ℕ). IsBalanced k xs) one.change.depth later)

pub ordered : (p : PlacedProgramData) (steps : List PlacedStep) → HasPlacedSteps p steps → AreOrdered p steps
unfolding HasPlacedSteps
ordered p steps a = record {
  ascending = ascending_from p.context p.rest.at p.state p.rest.bytes steps a.0 a.1;
  staying = λ e. at_from p.context p.rest.at p.state p.rest.bytes steps a.0 (ap moves e) a.1;
  balanced = balanced_from p.context p.rest.at p.state p.rest.bytes steps a.0 a.1;
}

-- ---- the same where expressions are told in another way

moves_told : {A B C D : Type 0} (f : A → B) (g : C → D) (i : InstructionWith A C) (k l : ℕ) → Moves i k l → Moves (instruction_told f g i) k l
moves_told f g Advance k l m = m
moves_told f g _ k l m = m

may_told : {A B C D : Type 0} (f : A → B) (g : C → D) (i : InstructionWith A C) (depth : ℕ) → MayStandAt depth i → MayStandAt depth (instruction_told f g i)
may_told f g Remember depth m = m
may_told f g _ depth m = m

after_told : {A B C D : Type 0} (f : A → B) (g : C → D) (i : InstructionWith A C) (depth : ℕ) → remembered_after depth i ≡ remembered_after depth (instruction_told f g i)
after_told f g Remember depth = refl
after_told f g _ depth = refl

ascending_told : {A B C D : Type 0} (f : A → B) (g : C → D) (location : ℕ) (steps : List (StepWith A C)) → IsAscendingFrom location steps → IsAscendingFrom location (map (step_told f g) steps)
ascending_told f g location [] a = tt
ascending_told f g location (x ∷ xs) a = (moves_told f g x.instruction location x.location a.0, ascending_told f g x.location xs a.1)

at_told : {A B C D : Type 0} (f : A → B) (g : C → D) (location : ℕ) (steps : List (StepWith A C)) → AreAt location steps → AreAt location (map (step_told f g) steps)
at_told f g location [] a = tt
at_told f g location (x ∷ xs) a = (a.0, at_told f g location xs a.1)

balanced_told : {A B C D : Type 0} (f : A → B) (g : C → D) (depth : ℕ) (steps : List (StepWith A C)) → IsBalanced depth steps → IsBalanced depth (map (step_told f g) steps)
balanced_told f g depth [] a = tt
balanced_told {A} {B} {C} {D} f g depth (x ∷ xs) a = (
  may_told f g x.instruction depth a.0,
  subst (λ (k : ℕ). IsBalanced k (map (step_told f g) xs)) (after_told f g x.instruction depth) (balanced_told f g (remembered_after depth x.instruction) xs a.1),
)

pub lent_ordered : (p : ProgramData) (steps : List StepData) → HasSteps p steps → AreOrdered p.left steps
unfolding HasSteps
lent_ordered p steps a =
    let b = block_in p.bytes in
    let o = ordered p.left a.0 a.1 in
    let told : AreOrdered p.left (map (step_told b b) a.0) = record {
      ascending = ascending_told b b p.left.state.location a.0 o.ascending;
      staying = λ e. at_told b b p.left.state.location a.0 (o.staying e);
      balanced = balanced_told b b (length p.left.state.remembered) a.0 o.balanced;
    } in
    subst (λ (l : List StepData). AreOrdered p.left l) (sym a.2) told
