-- What comes of a frame over the words told of a memory comes of it over that memory.
use Rattle.std.proofs.Common.{◌≡◌, ◌+◌, ◌%◌, ◌^◌, inl, inr, ℕ, List, Some, None, Ok, Err, Result, Option, refl, sym, subst}
use Rattle.told_memory.specs.Telling.{IsToldOf, LacksAsMemory}
use Rattle.frame_expr.specs.declared.fault.NoBytes.{NoBytes}
use Rattle.frame_expr.specs.declared.operation.Operation.{Operation}
use Rattle.frame_expr.specs.Regions.{RegionData, word_at}
use Rattle.frame_expr.specs.Values.{IsValue, value_of, stack_of}
use Rattle.frame_rows.specs.declared.rule.CfaRuleWith.TheVariants as cfas
use Rattle.frame_rows.specs.declared.rule.RuleWith.TheVariants as rules
use Rattle.frame_rows.specs.Rules.{CfaRuleData, RowData, RuleData}
use Rattle.unwind_step.specs.declared.next.Stepped.{Stepped}
use Rattle.unwind_step.specs.declared.next.Stepped.TheVariants as stepped
use Rattle.unwind_step.specs.Rules.{IsCfa, IsRestored, number_read, saved_at, saved_by}
use Rattle.unwind_step.specs.NextFrame.{AreRestored, IsStep, IsNextFrame, rule_in}
use Rattle.frame_parse.specs.Sections.{FdeData}

abbrev pub ValuesStay : Type 0
ValuesStay = (told memory : List RegionData) (columns : List ℕ) (os : List Operation) (s : List ℕ) (v : ℕ) → IsToldOf told memory → value_of columns told os s ≡ Ok v → value_of columns memory os s ≡ Ok v

abbrev pub LacksStay : Type 0
LacksStay = (told memory : List RegionData) (columns : List ℕ) (os : List Operation) (s : List ℕ) (f : NoBytes) → IsToldOf told memory → value_of columns told os s ≡ Err f → word_at f.address memory ≡ None → value_of columns memory os s ≡ Err f

abbrev Lacks : List RegionData → Result ℕ NoBytes → Type 0
Lacks memory (Ok n) = Unit {0}
Lacks memory (Err f) = word_at f.address memory ≡ None

module _ (values : ValuesStay) (lacks : LacksStay) (told memory : List RegionData) (agrees : IsToldOf told memory) where
  value_serves : (depth : ℕ) (text old : List ℕ) (start : Option ℕ) (r : Result ℕ NoBytes) → Lacks memory r → IsValue depth text old told start r → IsValue depth text old memory start r
  value_serves depth text old start (Ok v) none is = (is.0, is.1, sym (values told memory old is.0 (stack_of start) v agrees (sym is.2)))
  value_serves depth text old start (Err f) none is = (is.0, is.1, sym (lacks told memory old is.0 (stack_of start) f agrees (sym is.2) none))

  saved_serves : (a : ℕ) (r : Result ℕ NoBytes) → Lacks memory r → r ≡ saved_at a told → r ≡ saved_at a memory
  saved_serves a r none is = go (word_at a told) refl
    where
      go : (w : Option ℕ) → word_at a told ≡ w → r ≡ saved_at a memory
      go (Some n) at = let here : r ≡ number_read a (Some n) = subst (λ (w : Option ℕ). r ≡ number_read a w) at is in subst (λ (w : Option ℕ). r ≡ number_read a w) (sym (agrees a n at)) here
      go None at =
          let here : r ≡ number_read a None = subst (λ (w : Option ℕ). r ≡ number_read a w) at is in
          let lacking : word_at a memory ≡ None = subst (λ (x : Result ℕ NoBytes). Lacks memory x) here none in
          subst (λ (w : Option ℕ). r ≡ number_read a w) (sym lacking) here

  cfa_serves : (rule : CfaRuleData) (old : List ℕ) (r : Result ℕ NoBytes) → Lacks memory r → IsCfa rule old told r → IsCfa rule old memory r
  cfa_serves cfas.Missing old r none is = is
  cfa_serves (cfas.Offset q n) old r none is = is
  cfa_serves (cfas.Expression e) old r none is = value_serves 0 e old None r none is

  restored_serves : (column : ℕ) (rule : RuleData) (cfa : ℕ) (old : List ℕ) (r : Result ℕ NoBytes) → Lacks memory r → IsRestored column rule cfa old told r → IsRestored column rule cfa old memory r
  restored_serves column rules.Unset cfa old r none is = is
  restored_serves column rules.Undefined cfa old r none is = is
  restored_serves column rules.Same cfa old r none is = is
  restored_serves column (rules.Offset n) cfa old r none is = saved_serves ((cfa + n) % 2 ^ 64) r none is
  restored_serves column (rules.ValOffset n) cfa old r none is = is
  restored_serves column (rules.Register q) cfa old r none is = is
  restored_serves column (rules.Expression e) cfa old r none is = go is.address is.is_value is.is_number
    where
      go : (address : Result ℕ NoBytes) → IsValue 1 e old told (Some cfa) address → r ≡ saved_by address told → IsRestored column (rules.Expression e) cfa old memory r
      go (Ok a) value number = record { address = Ok a; is_value = value_serves 1 e old (Some cfa) (Ok a) tt value; is_number = saved_serves a r none number }
      go (Err f) value number = record { address = Err f; is_value = value_serves 1 e old (Some cfa) (Err f) (subst (λ (x : Result ℕ NoBytes). Lacks memory x) number none) value; is_number = number }
  restored_serves column (rules.ValExpression e) cfa old r none is = value_serves 1 e old (Some cfa) r none is

  all_serve : (count : ℕ) (row : RowData) (cfa : ℕ) (old new : List ℕ) → AreRestored count row cfa old told new → AreRestored count row cfa old memory new
  all_serve count row cfa old new are = λ r lt. restored_serves r (rule_in row r) cfa old _ tt (are r lt)

  step_serves : (row : RowData) (old : List ℕ) (o : Stepped) → LacksAsMemory memory o → IsStep row old told o → IsStep row old memory o
  step_serves row old stepped.NoRow none is = is
  step_serves row old stepped.Undefined none is = is
  step_serves row old (stepped.Frame regs) none is = record {
    leads = is.leads;
    cfa = is.cfa;
    is_cfa = cfa_serves row.cfa old (Ok is.cfa) tt is.is_cfa;
    restored = all_serve 17 row is.cfa old regs.columns is.restored;
    all = is.all;
  }
  step_serves row old (stepped.NoBytes a) none is = record {
    leads = is.leads;
    fails = elim is.fails [
      | inl cfa ↦ inl (cfa_serves row.cfa old _ none cfa)
      | inr first ↦ inr (
        first.0,
        cfa_serves row.cfa old _ tt first.1,
        record {
          r = first.2.r;
          below = first.2.below;
          fails = restored_serves first.2.r (rule_in row first.2.r) first.0 old _ none first.2.fails;
          new = first.2.new;
          earlier = all_serve first.2.r row first.0 old first.2.new first.2.earlier;
        },
      )
    ];
  }

pub next_serves : ValuesStay → LacksStay → (told memory : List RegionData) (f : FdeData) (look : ℕ) (old : List ℕ) (o : Stepped) → IsToldOf told memory → LacksAsMemory memory o → IsNextFrame f look old told o → IsNextFrame f look old memory o
next_serves values lacks told memory f look old o agrees none is = record {
  row = is.row;
  is_row = is.is_row;
  is_step = step_serves values lacks told memory agrees is.row old o none is.is_step;
}
