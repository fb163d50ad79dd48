-- Single steps of a walk, over plain rows and programs.
use Rattle.std.proofs.Common.{◌≡◌, ◌⊎◌, inl, inr, ℕ, ◌<◌, ◌≤◌, List, [], ◌∷◌, length, nat_le, true, false, refl, sym, ap, subst, ◌∙◌, arith}
use Rattle.std.specs.Prelude.{slice_set, slice_index_or}
use Rattle.std.proofs.lemmas.Bool.{le-leb, lt-leb}
use Rattle.frame_parse.specs.Instructions.{PlacedInstruction, PlacedStep}
use Rattle.frame_parse.specs.declared.instructions.InstructionWith.TheVariants.{Nop, Advance, Set, Restore, Remember, RestoreState, Cfa, CfaColumn, CfaOffset, CfaExpression}
use Rattle.frame_parse.specs.Programs.{PlacedProgramData, HasPlacedSteps}
use Rattle.frame_parse.specs.Order.{Moves, IsAscendingFrom, IsBalanced, MayStandAt, remembered_after}
use Rattle.frame_rows.specs.declared.rule.RuleWith.TheVariants as rules
use Rattle.frame_rows.specs.declared.placed_row.PlacedRow.{PlacedRow}
use Rattle.frame_rows.specs.declared.walk.Stop.{Stop}
use Rattle.frame_rows.specs.declared.walk.Stop.TheVariants.{End, Restored, Untold}
use Rattle.frame_rows.specs.Columns.{up_to}
use Rattle.frame_rows.specs.Rows.{Rows, applied, beside, rows_step, rows_after}
use Rattle.frame_rows.specs.Rules.{PlacedRule}
use Rattle.frame_rows.specs.Walk.{GoesOn, ComesTo, TakesBack, Walks}

-- the next step of p is x, and q is what is left
abbrev pub Gives : PlacedProgramData → PlacedStep → PlacedProgramData → Type 0
Gives p x q = (steps : List PlacedStep) → HasPlacedSteps p steps → (more : List PlacedStep) × (steps ≡ x ∷ more) × HasPlacedSteps q more

-- ---- the steps that are left

-- a step that isn't above the address, as far as its instruction leaves that open
abbrev pub IsReached : ℕ → PlacedStep → Type 0
IsReached pc x = x.instruction ≡ Advance → x.location ≤ pc

upward : (i : PlacedInstruction) (k l : ℕ) → Moves i k l → k ≤ l
upward Advance k l m = m
upward Nop k l m = omega arith
upward (Set q rule) k l m = omega arith
upward (Restore q) k l m = omega arith
upward Remember k l m = omega arith
upward RestoreState k l m = omega arith
upward (Cfa q n) k l m = omega arith
upward (CfaColumn q) k l m = omega arith
upward (CfaOffset n) k l m = omega arith
upward (CfaExpression e) k l m = omega arith

-- only an Advance leads past an address
within : (i : PlacedInstruction) (pc k l : ℕ) → Moves i k l → k ≤ pc → (i ≡ Advance → l ≤ pc) → l ≤ pc
within Advance pc k l m le reached = reached refl
within Nop pc k l m le reached = omega arith
within (Set q rule) pc k l m le reached = omega arith
within (Restore q) pc k l m le reached = omega arith
within Remember pc k l m le reached = omega arith
within RestoreState pc k l m le reached = omega arith
within (Cfa q n) pc k l m le reached = omega arith
within (CfaColumn q) pc k l m le reached = omega arith
within (CfaOffset n) pc k l m le reached = omega arith
within (CfaExpression e) pc k l m le reached = omega arith

pub none_up_to : (pc l : ℕ) (xs : List PlacedStep) → pc < l → IsAscendingFrom l xs → up_to pc xs ≡ []
none_up_to pc l [] lt a = refl
none_up_to pc l (x ∷ xs) lt a =
    let up = upward x.instruction l x.location a.0 in
    let above : nat_le x.location pc ≡ false = lt-leb _ _ (omega (arith, up)) in
    rw above (none_up_to pc x.location xs (omega (arith, up)) a.1)

not_advance : (pc : ℕ) (x : PlacedStep) (i : PlacedInstruction) → x.instruction ≡ i → (i ≡ Advance → ⊥) → IsReached pc x
not_advance pc x i is never = λ e. absurd (never (sym is ∙ e))

record Next (x : PlacedStep) (q : PlacedProgramData) (pc depth : ℕ) (steps : List PlacedStep) : Type 0 where
  more : List PlacedStep
  are : steps ≡ x ∷ more
  on : x.location ≤ pc → GoesOn q pc (remembered_after depth x.instruction) more
  may : MayStandAt depth x.instruction
  above : IsAscendingFrom x.location more
  stays : IsReached pc x → x.location ≤ pc

next_of : (p q : PlacedProgramData) (x : PlacedStep) (pc depth : ℕ) (steps : List PlacedStep) → Gives p x q → GoesOn p pc depth steps → Next x q pc depth steps
next_of p q x pc depth steps gives g =
    let n = gives steps g.has in
    let ascending : IsAscendingFrom g.location (x ∷ n.0) = subst (λ (l : List PlacedStep). IsAscendingFrom g.location l) n.1 g.ascending in
    let balanced : IsBalanced depth (x ∷ n.0) = subst (λ (l : List PlacedStep). IsBalanced depth l) n.1 g.balanced in
    record {
      more = n.0;
      are = n.1;
      on = λ le. record { has = n.2; location = x.location; reached = le; ascending = ascending.1; balanced = balanced.1 };
      may = balanced.0;
      above = ascending.1;
      stays = within x.instruction pc g.location x.location ascending.0 g.reached;
    }

rows_on : (base : PlacedRow) (pc : ℕ) (s : Rows) (x : PlacedStep) (more steps : List PlacedStep) → steps ≡ x ∷ more → x.location ≤ pc → rows_after base pc s steps ≡ rows_after base pc (rows_step base s x.instruction) more
rows_on base pc s x more steps are le =
    let here : nat_le x.location pc ≡ true = le-leb _ _ le in
    ap (λ (l : List PlacedStep). rows_after base pc s l) are ∙ rw here refl

-- ---- how a walk goes on

pub leads_here : (base : PlacedRow) (pc : ℕ) (p : PlacedProgramData) (row : PlacedRow) → ComesTo base pc p row p row
leads_here base pc p row = λ steps below g. record { more = steps; on = g; same = refl }

pub leads_on : (base : PlacedRow) (pc : ℕ) (p q r : PlacedProgramData) (row other last : PlacedRow) → ComesTo base pc p row q other → ComesTo base pc q other r last → ComesTo base pc p row r last
leads_on base pc p q r row other last a b = λ steps below g.
    let one = a steps below g in
    let two = b one.more below one.on in
    record { more = two.more; on = two.on; same = one.same ∙ two.same }

pub leads_stop : (base : PlacedRow) (pc : ℕ) (p q r : PlacedProgramData) (row other last : PlacedRow) (stop : Stop) → ComesTo base pc p row q other → Walks base pc q other stop r last → Walks base pc p row stop r last
leads_stop base pc p q r row other last End a b = λ steps below g.
    let one = a steps below g in
    ap (λ (s : Rows). s.row) one.same ∙ b one.more below one.on
leads_stop base pc p q r row other last Restored a b = λ steps below g.
    let one = a steps below g in
    let two = b one.more below one.on in
    record { last = two.last; others = two.others; are = two.are; onward = record { more = two.onward.more; on = two.onward.on; same = one.same ∙ two.onward.same } }
leads_stop base pc p q r row other last Untold a b = tt

-- an instruction that changes the row alone
record IsPlain (i : PlacedInstruction) : Type 0 where
  flat : (depth : ℕ) → remembered_after depth i ≡ depth
  stays : (base row : PlacedRow) (below : List PlacedRow) → rows_step base (beside row below) i ≡ beside (applied base row i) below

plain : (i : PlacedInstruction) → (i ≡ Remember → ⊥) → (i ≡ RestoreState → ⊥) → IsPlain i
plain Nop a b = record { flat = λ d. refl; stays = λ base row below. refl }
plain Advance a b = record { flat = λ d. refl; stays = λ base row below. refl }
plain (Set q rule) a b = record { flat = λ d. refl; stays = λ base row below. refl }
plain (Restore q) a b = record { flat = λ d. refl; stays = λ base row below. refl }
plain Remember a b = absurd (a refl)
plain RestoreState a b = absurd (b refl)
plain (Cfa q n) a b = record { flat = λ d. refl; stays = λ base row below. refl }
plain (CfaColumn q) a b = record { flat = λ d. refl; stays = λ base row below. refl }
plain (CfaOffset n) a b = record { flat = λ d. refl; stays = λ base row below. refl }
plain (CfaExpression e) a b = record { flat = λ d. refl; stays = λ base row below. refl }

pub leads_plain : (base : PlacedRow) (pc : ℕ) (p q : PlacedProgramData) (row : PlacedRow) (x : PlacedStep) → Gives p x q → IsReached pc x → (x.instruction ≡ Remember → ⊥) → (x.instruction ≡ RestoreState → ⊥)
    → ComesTo base pc p row q (applied base row x.instruction)
leads_plain base pc p q row x gives reached a b =
    let i = plain x.instruction a b in
    λ steps below g.
    let n = next_of p q x pc (length below) steps gives g in
    let le = n.stays reached in
    record {
      more = n.more;
      on = subst (λ (d : ℕ). GoesOn q pc d n.more) (i.flat (length below)) (n.on le);
      same = rows_on base pc (beside row below) x n.more steps n.are le ∙ ap (λ (s : Rows). rows_after base pc s n.more) (i.stays base row below);
    }

-- after a restore of a column whose rule is told
pub leads_restore : (base : PlacedRow) (pc : ℕ) (p q : PlacedProgramData) (row new : PlacedRow) (x : PlacedStep) (column : ℕ) (rule : PlacedRule) → Gives p x q → x.instruction ≡ Restore column → rule ≡ slice_index_or base.columns column rules.Unset
    → new ≡ record row { columns = slice_set row.columns column rule } → ComesTo base pc p row q new
leads_restore base pc p q row new x column rule gives is told set =
    let plain = leads_plain base pc p q row x gives (λ e. absurd (let two = sym is ∙ e in cc)) (λ e. absurd (let two = sym is ∙ e in cc)) (λ e. absurd (let two = sym is ∙ e in cc)) in
    let made : new ≡ applied base row x.instruction = set ∙ ap (λ (k : PlacedRule). record row { columns = slice_set row.columns column k }) told ∙ ap (applied base row) (sym is) in
    subst (λ (k : PlacedRow). ComesTo base pc p row q k) (sym made) plain

-- after an Advance that doesn't lead past the address
pub leads_advance : (base : PlacedRow) (pc : ℕ) (p q : PlacedProgramData) (row : PlacedRow) (x : PlacedStep) → Gives p x q → x.location ≤ pc → x.instruction ≡ Advance → ComesTo base pc p row q row
leads_advance base pc p q row x gives le is =
    let plain = leads_plain base pc p q row x gives (λ e. le) (λ e. absurd (let two = sym is ∙ e in cc)) (λ e. absurd (let two = sym is ∙ e in cc)) in
    subst (λ (k : PlacedRow). ComesTo base pc p row q k) (ap (applied base row) is) plain

-- after remember_state, up to the step that takes the row back
pub leads_back : (base : PlacedRow) (pc : ℕ) (p q r : PlacedProgramData) (row other : PlacedRow) (x : PlacedStep) → Gives p x q → x.instruction ≡ Remember → Walks base pc q row Restored r other
    → ComesTo base pc p row r row
leads_back base pc p q r row other x gives is inner = λ steps below g.
    let n = next_of p q x pc (length below) steps gives g in
    let le = n.stays (not_advance pc x _ is (λ e. cc)) in
    let deeper : remembered_after (length below) x.instruction ≡ length (row ∷ below) = ap (remembered_after (length below)) is ∙ omega arith in
    let back = inner n.more (row ∷ below) (subst (λ (d : ℕ). GoesOn q pc d n.more) deeper (n.on le)) in
    let first : row ≡ back.last = let e = back.are in cc in
    let rest : below ≡ back.others = let e = back.are in cc in
    let there : beside back.last back.others ≡ beside row below = ap (λ (k : PlacedRow). beside k back.others) (sym first) ∙ ap (λ (l : List PlacedRow). beside row l) (sym rest) in
    let stepped : rows_step base (beside row below) x.instruction ≡ beside row (row ∷ below) = ap (rows_step base (beside row below)) is in
    record {
      more = back.onward.more;
      on = subst (λ (l : List PlacedRow). GoesOn r pc (length l) back.onward.more) (sym rest) back.onward.on;
      same = rows_on base pc (beside row below) x n.more steps n.are le ∙ ap (λ (s : Rows). rows_after base pc s n.more) stepped ∙ back.onward.same ∙ ap (λ (s : Rows). rows_after base pc s back.onward.more) there;
    }

-- ---- how it stops

pub stops_inside : (base : PlacedRow) (pc : ℕ) (p q r : PlacedProgramData) (row other : PlacedRow) (x : PlacedStep) → Gives p x q → x.instruction ≡ Remember → Walks base pc q row End r other → Walks base pc p row End r other
stops_inside base pc p q r row other x gives is inner = λ steps below g.
    let n = next_of p q x pc (length below) steps gives g in
    let le = n.stays (not_advance pc x _ is (λ e. cc)) in
    let deeper : remembered_after (length below) x.instruction ≡ length (row ∷ below) = ap (remembered_after (length below)) is ∙ omega arith in
    let stepped : rows_step base (beside row below) x.instruction ≡ beside row (row ∷ below) = ap (rows_step base (beside row below)) is in
    ap (λ (s : Rows). s.row) (rows_on base pc (beside row below) x n.more steps n.are le ∙ ap (λ (s : Rows). rows_after base pc s n.more) stepped)
    ∙ inner n.more (row ∷ below) (subst (λ (d : ℕ). GoesOn q pc d n.more) deeper (n.on le))

pub stops_above : (base : PlacedRow) (pc : ℕ) (p q : PlacedProgramData) (row : PlacedRow) (x : PlacedStep) → Gives p x q → pc < x.location → Walks base pc p row End q row
stops_above base pc p q row x gives lt = λ steps below g.
    let n = next_of p q x pc (length below) steps gives g in
    let above : nat_le x.location pc ≡ false = lt-leb _ _ lt in
    let none = none_up_to pc x.location n.more lt n.above in
    ap (λ (l : List PlacedStep). (rows_after base pc (beside row below) l).row) n.are ∙ rw (above, none) refl

pub stops_after : (base : PlacedRow) (pc : ℕ) (p q : PlacedProgramData) (row : PlacedRow) → ((steps : List PlacedStep) → HasPlacedSteps p steps → steps ≡ []) → Walks base pc p row End q row
stops_after base pc p q row none = λ steps below g. ap (λ (l : List PlacedStep). (rows_after base pc (beside row below) l).row) (none steps g.has)

taken_back : (base : PlacedRow) (pc : ℕ) (row : PlacedRow) (below : List PlacedRow) (steps : List PlacedStep) (q : PlacedProgramData) (x : PlacedStep) → Next x q pc (length below) steps → x.instruction ≡ RestoreState → TakesBack base pc row below steps q
taken_back base pc row [] steps q x n is = absurd (let may : 0 < 0 = subst (MayStandAt 0) is n.may in omega (arith, may))
taken_back base pc row (last ∷ others) steps q x n is =
    let le = n.stays (not_advance pc x _ is (λ e. cc)) in
    let higher : remembered_after (length (last ∷ others)) x.instruction ≡ length others = ap (remembered_after (length (last ∷ others))) is ∙ omega arith in
    let stepped : rows_step base (beside row (last ∷ others)) x.instruction ≡ beside last others = ap (rows_step base (beside row (last ∷ others))) is in
    record {
      last = last;
      others = others;
      are = refl;
      onward = record {
        more = n.more;
        on = subst (λ (d : ℕ). GoesOn q pc d n.more) higher (n.on le);
        same = rows_on base pc (beside row (last ∷ others)) x n.more steps n.are le ∙ ap (λ (s : Rows). rows_after base pc s n.more) stepped;
      };
    }

pub stops_restored : (base : PlacedRow) (pc : ℕ) (p q : PlacedProgramData) (row other : PlacedRow) (x : PlacedStep) → Gives p x q → x.instruction ≡ RestoreState → Walks base pc p row Restored q other
stops_restored base pc p q row other x gives is = λ steps below g. taken_back base pc row below steps q x (next_of p q x pc (length below) steps gives g) is

-- a walk on which nothing was remembered before, and which all rules are told, goes to the end
pub whole : (base : PlacedRow) (pc : ℕ) (p q : PlacedProgramData) (row other : PlacedRow) (stop : Stop) → Walks base pc p row stop q other → (stop ≡ End) ⊎ (stop ≡ Restored) → (steps : List PlacedStep) → GoesOn p pc 0 steps → (rows_after base pc (beside row []) steps).row ≡ other
whole base pc p q row other End w ended steps g = w steps [] g
whole base pc p q row other Restored w ended steps g = absurd (let none = (w steps [] g).are in cc)
whole base pc p q row other Untold w (inl is) steps g = absurd (let two = is in cc)
whole base pc p q row other Untold w (inr is) steps g = absurd (let two = is in cc)

-- the laws of a program's steps, at its start
pub goes_on_from : (p : PlacedProgramData) (pc location : ℕ) (steps : List PlacedStep) → location ≤ pc → HasPlacedSteps p steps → IsAscendingFrom location steps → IsBalanced 0 steps → GoesOn p pc 0 steps
goes_on_from p pc location steps reached has ascending balanced = record { has = has; location = location; reached = reached; ascending = ascending; balanced = balanced }
