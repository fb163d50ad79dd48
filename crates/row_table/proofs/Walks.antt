-- Single steps of a walk along all instructions of an FDE, over plain rows and programs.
use Rattle.std.proofs.Common.{◌≡◌, ℕ, ◌-◌, ◌<◌, ◌≤◌, List, [], ◌∷◌, length, nat_le, true, false, refl, sym, ap, subst, ◌∙◌, arith}
use Rattle.std.proofs.lemmas.Bool.{le-leb, lt-leb}
use Rattle.std.specs.List.{fold}
use Rattle.frame_parse.specs.Instructions.{PlacedInstruction, PlacedStep}
use Rattle.frame_parse.specs.declared.instructions.InstructionWith.TheVariants.{Nop, Advance, Set, Restore, Remember, RestoreState, Cfa, CfaColumn, CfaOffset, CfaExpression}
use Rattle.frame_parse.specs.Programs.{PlacedProgramData, HasPlacedSteps}
use Rattle.frame_parse.specs.Order.{Moves, IsAscendingFrom, IsBalanced, MayStandAt, remembered_after, AreOrdered}
use Rattle.frame_parse.specs.Sections.{FdeData}
use Rattle.frame_parse.specs.Steps.{left_of_program}
use Rattle.frame_rows.specs.declared.placed_row.PlacedRow.{PlacedRow}
use Rattle.frame_rows.proofs.Onward.{Gives, none_up_to}
use Rattle.frame_rows.specs.Columns.{instructions, up_to}
use Rattle.frame_rows.specs.RowAt.{IsPlacedRowAt}
use Rattle.frame_rows.specs.Rows.{Rows, IsInitialRow, HasPlacedProgram, applied, beside, rows_step, rows_after}

-- of these steps some are done, up to a location: at p more of them are left, and from there on the
-- rows are those that the row here leads to
pub record IsOn (base : PlacedRow) (p : PlacedProgramData) (location : ℕ) (row : PlacedRow) (kept : List PlacedRow) (steps : List PlacedStep) : Type 0 where
  pub more : List PlacedStep
  pub has : HasPlacedSteps p more
  pub ascending : IsAscendingFrom location more
  pub balanced : IsBalanced (length kept) more
  pub same : (pc : ℕ) → location ≤ pc → rows_after base pc (beside base []) steps ≡ rows_after base pc (beside row kept) more

-- so of the steps of an FDE's own instructions
abbrev pub GoesOn : FdeData → PlacedRow → PlacedProgramData → ℕ → PlacedRow → List PlacedRow → Type 0
GoesOn f base p location row kept = (steps : List PlacedStep) → HasPlacedProgram f steps → IsOn base p location row kept steps

-- what holds along the steps of every program
abbrev pub Law : Type 0
Law = (p : PlacedProgramData) (steps : List PlacedStep) → HasPlacedSteps p steps → AreOrdered p steps

pub on_at_first : (f : FdeData) (base : PlacedRow) (p : PlacedProgramData) (first : ℕ) → Law → p ≡ left_of_program f → first ≡ f.entry.first → GoesOn f base p first base []
on_at_first f base p first law is at = λ steps has.
    let ordered = law (left_of_program f) steps has in record {
      more = steps;
      has = subst (λ (k : PlacedProgramData). HasPlacedSteps k steps) (sym is) has;
      ascending = subst (λ (k : ℕ). IsAscendingFrom k steps) (sym at) ordered.ascending;
      balanced = ordered.balanced;
      same = λ pc le. refl;
    }

-- ---- one step

rows_on : (base : PlacedRow) (pc : ℕ) (s : Rows) (x : PlacedStep) (more : List PlacedStep) → x.location ≤ pc → rows_after base pc s (x ∷ more) ≡ rows_after base pc (rows_step base s x.instruction) more
rows_on base pc s x more le =
    let here : nat_le x.location pc ≡ true = le-leb _ _ le in
    rw here refl

onward : (f : FdeData) (base : PlacedRow) (p q : PlacedProgramData) (l m : ℕ) (row next : PlacedRow) (kept left : List PlacedRow) (x : PlacedStep) → GoesOn f base p l row kept → Gives p x q
    → rows_step base (beside row kept) x.instruction ≡ beside next left → remembered_after (length kept) x.instruction ≡ length left
    → (Moves x.instruction l x.location → (x.location ≡ m) × (l ≤ m)) → GoesOn f base q m next left
onward f base p q l m row next kept left x on gives stepped higher moves = λ steps has.
    let o = on steps has in
    let n = gives o.more o.has in
    let ascending : IsAscendingFrom l (x ∷ n.0) = subst (λ (k : List PlacedStep). IsAscendingFrom l k) n.1 o.ascending in
    let balanced : IsBalanced (length kept) (x ∷ n.0) = subst (λ (k : List PlacedStep). IsBalanced (length kept) k) n.1 o.balanced in
    let at = moves ascending.0 in record {
      more = n.0;
      has = n.2;
      ascending = subst (λ (k : ℕ). IsAscendingFrom k n.0) at.0 ascending.1;
      balanced = subst (λ (k : ℕ). IsBalanced k n.0) higher balanced.1;
      same = λ pc le.
          o.same pc (omega (arith, at.1))
          ∙ ap (λ (k : List PlacedStep). rows_after base pc (beside row kept) k) n.1
          ∙ rows_on base pc (beside row kept) x n.0 (omega (arith, at.0))
          ∙ ap (λ (s : Rows). rows_after base pc s n.0) stepped;
    }

-- an instruction that changes the row alone
record IsPlain (i : PlacedInstruction) : Type 0 where
  flat : (depth : ℕ) → remembered_after depth i ≡ depth
  stays : (base row : PlacedRow) (kept : List PlacedRow) → rows_step base (beside row kept) i ≡ beside (applied base row i) kept
  still : (l m : ℕ) → Moves i l m → m ≡ l

plain : (i : PlacedInstruction) → (i ≡ Advance → ⊥) → (i ≡ Remember → ⊥) → (i ≡ RestoreState → ⊥) → IsPlain i
plain Nop a b c = record { flat = λ d. refl; stays = λ base row kept. refl; still = λ l m same. same }
plain Advance a b c = absurd (a refl)
plain (Set q rule) a b c = record { flat = λ d. refl; stays = λ base row kept. refl; still = λ l m same. same }
plain (Restore q) a b c = record { flat = λ d. refl; stays = λ base row kept. refl; still = λ l m same. same }
plain Remember a b c = absurd (b refl)
plain RestoreState a b c = absurd (c refl)
plain (Cfa q n) a b c = record { flat = λ d. refl; stays = λ base row kept. refl; still = λ l m same. same }
plain (CfaColumn q) a b c = record { flat = λ d. refl; stays = λ base row kept. refl; still = λ l m same. same }
plain (CfaOffset n) a b c = record { flat = λ d. refl; stays = λ base row kept. refl; still = λ l m same. same }
plain (CfaExpression e) a b c = record { flat = λ d. refl; stays = λ base row kept. refl; still = λ l m same. same }

pub plain_on : (f : FdeData) (base : PlacedRow) (p q : PlacedProgramData) (l : ℕ) (row : PlacedRow) (kept : List PlacedRow) (x : PlacedStep) → GoesOn f base p l row kept → Gives p x q
    → (x.instruction ≡ Advance → ⊥) → (x.instruction ≡ Remember → ⊥) → (x.instruction ≡ RestoreState → ⊥) → GoesOn f base q l (applied base row x.instruction) kept
plain_on f base p q l row kept x on gives a b c =
    let i = plain x.instruction a b c in
    onward f base p q l l row (applied base row x.instruction) kept kept x on gives (i.stays base row kept) (i.flat (length kept)) (λ moves. (i.still l x.location moves, omega arith))

-- the location moves, or stays
pub moved_on : (f : FdeData) (base : PlacedRow) (p q : PlacedProgramData) (l : ℕ) (row : PlacedRow) (kept : List PlacedRow) (x : PlacedStep) → GoesOn f base p l row kept → Gives p x q → x.instruction ≡ Advance → l < x.location
    → GoesOn f base q x.location row kept
moved_on f base p q l row kept x on gives is lt =
    onward f base p q l x.location row row kept kept x on gives (ap (rows_step base (beside row kept)) is) (ap (remembered_after (length kept)) is) (λ moves. (refl, omega arith))

pub stayed_on : (f : FdeData) (base : PlacedRow) (p q : PlacedProgramData) (l : ℕ) (row : PlacedRow) (kept : List PlacedRow) (x : PlacedStep) → GoesOn f base p l row kept → Gives p x q → x.instruction ≡ Advance → x.location ≤ l
    → GoesOn f base q l row kept
stayed_on f base p q l row kept x on gives is le =
    onward f base p q l l row row kept kept x on gives (ap (rows_step base (beside row kept)) is) (ap (remembered_after (length kept)) is) (λ moves.
    let up : l ≤ x.location = subst (λ (i : PlacedInstruction). Moves i l x.location) is moves in
    (omega arith, omega arith))

still_at : (x : PlacedStep) (i : PlacedInstruction) (l : ℕ) → x.instruction ≡ i → ((m : ℕ) → Moves i l m → m ≡ l) → Moves x.instruction l x.location → (x.location ≡ l) × (l ≤ l)
still_at x i l is still moves = (still x.location (subst (λ (k : PlacedInstruction). Moves k l x.location) is moves), omega arith)

pub remembered_on : (f : FdeData) (base : PlacedRow) (p q : PlacedProgramData) (l : ℕ) (row : PlacedRow) (kept : List PlacedRow) (x : PlacedStep) → GoesOn f base p l row kept → Gives p x q → x.instruction ≡ Remember
    → GoesOn f base q l row (row ∷ kept)
remembered_on f base p q l row kept x on gives is =
    onward f base p q l l row row kept (row ∷ kept) x on gives (ap (rows_step base (beside row kept)) is) (ap (remembered_after (length kept)) is ∙ omega arith) (still_at x Remember l is (λ m same. same))

pub restored_on : (f : FdeData) (base : PlacedRow) (p q : PlacedProgramData) (l : ℕ) (row last : PlacedRow) (kept others : List PlacedRow) (x : PlacedStep) → GoesOn f base p l row kept → Gives p x q → x.instruction ≡ RestoreState
    → kept ≡ last ∷ others → GoesOn f base q l last others
restored_on f base p q l row last kept others x on gives is are =
    onward f base p q l l row last kept others x on gives
    (ap (rows_step base (beside row kept)) is ∙ ap (λ (k : List PlacedRow). rows_step base (beside row k) RestoreState) are)
    (ap (remembered_after (length kept)) is ∙ ap (λ (k : List PlacedRow). length k - 1) are ∙ omega arith)
    (still_at x RestoreState l is (λ m same. same))

-- ---- what is remembered

stands : (base : PlacedRow) (p q : PlacedProgramData) (l : ℕ) (row : PlacedRow) (kept : List PlacedRow) (x : PlacedStep) (steps : List PlacedStep) (i : PlacedInstruction) → IsOn base p l row kept steps → Gives p x q → x.instruction ≡ i
    → MayStandAt (length kept) i
stands base p q l row kept x steps i o gives is =
    let n = gives o.more o.has in
    let balanced : IsBalanced (length kept) (x ∷ n.0) = subst (λ (k : List PlacedStep). IsBalanced (length kept) k) n.1 o.balanced in
    subst (MayStandAt (length kept)) is balanced.0

pub has_room : (base : PlacedRow) (p q : PlacedProgramData) (l : ℕ) (row : PlacedRow) (kept : List PlacedRow) (x : PlacedStep) (steps : List PlacedStep) → IsOn base p l row kept steps → Gives p x q → x.instruction ≡ Remember → length kept < 8
has_room base p q l row kept x steps o gives is = stands base p q l row kept x steps Remember o gives is

pub has_one : (base : PlacedRow) (p q : PlacedProgramData) (l : ℕ) (row : PlacedRow) (kept : List PlacedRow) (x : PlacedStep) (steps : List PlacedStep) → IsOn base p l row kept steps → Gives p x q → x.instruction ≡ RestoreState → 0 < length kept
has_one base p q l row kept x steps o gives is = stands base p q l row kept x steps RestoreState o gives is

-- ---- the row here

-- no step that is left holds at an address
abbrev NoneLeft : PlacedProgramData → ℕ → ℕ → Type 0
NoneLeft p l pc = (steps : List PlacedStep) → HasPlacedSteps p steps → IsAscendingFrom l steps → up_to pc steps ≡ []

row_here : (f : FdeData) (base : PlacedRow) (p : PlacedProgramData) (l : ℕ) (row : PlacedRow) (kept : List PlacedRow) (pc : ℕ) → GoesOn f base p l row kept → IsInitialRow f base → l ≤ pc → NoneLeft p l pc → IsPlacedRowAt f pc row
row_here f base p l row kept pc on is le none = λ initial steps has_initial has.
    let o = on steps has in
    sym (ap (λ (s : Rows). s.row) (o.same pc le) ∙ ap (λ (k : List PlacedStep). (fold (rows_step base) (beside row kept) (instructions k)).row) (none o.more o.has o.ascending))
    ∙ ap (λ (k : PlacedRow). (rows_after k pc (beside k []) steps).row) (is initial has_initial)

-- it holds up to where the next step moves the location, and after the last step from there on
pub row_up_to : (f : FdeData) (base : PlacedRow) (p q : PlacedProgramData) (l : ℕ) (row : PlacedRow) (kept : List PlacedRow) (x : PlacedStep) (pc : ℕ) → GoesOn f base p l row kept → IsInitialRow f base → Gives p x q → l ≤ pc → pc < x.location → IsPlacedRowAt f pc row
row_up_to f base p q l row kept x pc on is gives le lt = row_here f base p l row kept pc on is le (λ steps has a.
    let n = gives steps has in
    let ascending : IsAscendingFrom l (x ∷ n.0) = subst (λ (k : List PlacedStep). IsAscendingFrom l k) n.1 a in
    let above : nat_le x.location pc ≡ false = lt-leb _ _ lt in
    let none : up_to pc n.0 ≡ [] = none_up_to pc x.location n.0 lt ascending.1 in
    ap (up_to pc) n.1 ∙ rw above none)

pub row_to_the_end : (f : FdeData) (base : PlacedRow) (p : PlacedProgramData) (l : ℕ) (row : PlacedRow) (kept : List PlacedRow) (pc : ℕ) → GoesOn f base p l row kept → IsInitialRow f base → ((steps : List PlacedStep) → HasPlacedSteps p steps → steps ≡ []) → l ≤ pc
    → IsPlacedRowAt f pc row
row_to_the_end f base p l row kept pc on is end le = row_here f base p l row kept pc on is le (λ steps has a. ap (up_to pc) (end steps has))
