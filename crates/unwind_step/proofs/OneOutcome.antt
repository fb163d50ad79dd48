-- A row makes one thing of the old registers, and rows with the same rules make the same.
use Rattle.std.proofs.Common.{◌≡◌, ◌≢◌, ◌⊎◌, inl, inr, ℕ, ◌<◌, ◌≤◌, List, Some, None, Ok, Err, Result, Option, slice_get, get_or, refl, sym, ◌∙◌, ap, subst, arith}
use Rattle.std.proofs.lemmas.List.{ext_get_or}
use Rattle.std.proofs.lemmas.Option.{get_or_from_slice_get}
use Rattle.std.proofs.lemmas.Bool.{cases_order}
use Rattle.frame_expr.specs.declared.fault.NoBytes.{NoBytes}
use Rattle.frame_expr.specs.declared.operation.Operation.{Operation}
use Rattle.frame_expr.specs.Expressions.{IsExprOrRefused}
use Rattle.frame_expr.specs.Regions.{RegionData}
use Rattle.frame_expr.specs.Values.{IsValue, value_of, stack_of}
use Rattle.frame_rows.specs.declared.rule.CfaRuleWith.TheVariants as cfas
use Rattle.frame_rows.specs.declared.rule.RuleWith.TheVariants as rules
use Rattle.frame_rows.specs.Rules.{CfaRuleData, RowData, RuleData}
use Rattle.unwind_step.specs.declared.next.Stepped.{Stepped}
use Rattle.unwind_step.specs.declared.next.Stepped.TheVariants as stepped
use Rattle.unwind_step.specs.Rules.{IsCfa, IsRestored, saved_by}
use Rattle.unwind_step.specs.NextFrame.{AreRestored, FailsFirst, IsFrame, IsStep, LacksBytes, Leads, rule_in}

-- an expression has one value
abbrev pub ExprLaw : Type 0
ExprLaw = (depth : ℕ) (bytes : List ℕ) → IsExprOrRefused depth bytes

value_one : ExprLaw → (depth : ℕ) (text old : List ℕ) (memory : List RegionData) (start : Option ℕ) (a b : Result ℕ NoBytes) → IsValue depth text old memory start a → IsValue depth text old memory start b → a ≡ b
value_one law depth text old memory start a b is also =
    elim (law depth text) [
      | inl one ↦
          let first : also.0 ≡ is.0 = one.2 also.0 also.1 ∙ sym (one.2 is.0 is.1) in
          is.2 ∙ ap (λ (os : List Operation). value_of old memory os (stack_of start)) (sym first) ∙ sym also.2
      | inr none ↦ absurd (none.3 is.0 is.1)
    ]

cfa_one : ExprLaw → (rule : CfaRuleData) (old : List ℕ) (memory : List RegionData) (a b : Result ℕ NoBytes) → IsCfa rule old memory a → IsCfa rule old memory b → a ≡ b
cfa_one law cfas.Missing old memory a b is also = absurd is
cfa_one law (cfas.Offset q n) old memory a b is also = is ∙ sym also
cfa_one law (cfas.Expression e) old memory a b is also = value_one law 0 e old memory None a b is also

restored_one : ExprLaw → (r : ℕ) (rule : RuleData) (cfa : ℕ) (old : List ℕ) (memory : List RegionData) (a b : Result ℕ NoBytes) → IsRestored r rule cfa old memory a → IsRestored r rule cfa old memory b → a ≡ b
restored_one law r rules.Unset cfa old memory a b is also = is ∙ sym also
restored_one law r rules.Undefined cfa old memory a b is also = is ∙ sym also
restored_one law r rules.Same cfa old memory a b is also = is ∙ sym also
restored_one law r (rules.Offset n) cfa old memory a b is also = is ∙ sym also
restored_one law r (rules.ValOffset n) cfa old memory a b is also = is ∙ sym also
restored_one law r (rules.Register q) cfa old memory a b is also = is ∙ sym also
restored_one law r (rules.Expression e) cfa old memory a b is also =
    let same = value_one law 1 e old memory (Some cfa) is.address also.address is.is_value also.is_value in
    is.is_number ∙ ap (λ (m : Result ℕ NoBytes). saved_by m memory) same ∙ sym also.is_number
restored_one law r (rules.ValExpression e) cfa old memory a b is also = value_one law 1 e old memory (Some cfa) a b is also

-- the CFA fails, or the first column that does
abbrev Fails : RowData → List ℕ → List RegionData → NoBytes → Type 0
Fails row old memory e = IsCfa row.cfa old memory (Err e) ⊎ ((cfa : ℕ) × IsCfa row.cfa old memory (Ok cfa) × FailsFirst row cfa old memory e)

abbrev number : ℕ → Result ℕ NoBytes
number n = Ok n

abbrev fault : NoBytes → Result ℕ NoBytes
fault e = Err e

-- a number and a fault are never the same
apart : (n : ℕ) (e : NoBytes) → number n ≡ fault e → ⊥
apart n e same = cc

same_ok : (n m : ℕ) → number n ≡ number m → n ≡ m
same_ok n m same = cc

same_err : (e f : NoBytes) → fault e ≡ fault f → e ≡ f
same_err e f same = cc

frames_one : ExprLaw → (row : RowData) (old : List ℕ) (memory : List RegionData) (new more : List ℕ) → IsFrame row old memory new → IsFrame row old memory more → new ≡ more
frames_one law row old memory new more is also =
    let cfa = same_ok is.cfa also.cfa (cfa_one law row.cfa old memory _ _ is.is_cfa also.is_cfa) in
    ext_get_or 0 new more (is.all ∙ sym also.all)
    (λ r below. same_ok (get_or new r 0) (get_or more r 0) (restored_one law r (rule_in row r) also.cfa old memory _ _
    (subst (λ c. IsRestored r (rule_in row r) c old memory (Ok (get_or new r 0))) cfa (is.restored r (omega (arith, is.all)))) (also.restored r (omega (arith, is.all)))))

frame_or_fault : ExprLaw → (row : RowData) (old : List ℕ) (memory : List RegionData) (new : List ℕ) (e : NoBytes) → IsFrame row old memory new → LacksBytes row old memory e → ⊥
frame_or_fault law row old memory new e is lacks = elim lacks.fails [
  | inl not_cfa ↦ apart is.cfa e (cfa_one law row.cfa old memory _ _ is.is_cfa not_cfa)
  | inr fails ↦ (let cfa = same_ok is.cfa fails.0 (cfa_one law row.cfa old memory _ _ is.is_cfa fails.1) in
      let first = fails.2 in
      apart (get_or new first.r 0) e (restored_one law first.r (rule_in row first.r) fails.0 old memory _ _
      (subst (λ c. IsRestored first.r (rule_in row first.r) c old memory (Ok (get_or new first.r 0))) cfa (is.restored first.r first.below)) first.fails))
]

first_one : ExprLaw → (row : RowData) (cfa : ℕ) (old : List ℕ) (memory : List RegionData) (e f : NoBytes) → FailsFirst row cfa old memory e → FailsFirst row cfa old memory f → e ≡ f
first_one law row cfa old memory e f is also = elim (cases_order is.r also.r) [
  | inl same ↦ same_err e f (restored_one law is.r (rule_in row is.r) cfa old memory _ _ is.fails (subst (λ r. IsRestored r (rule_in row r) cfa old memory (Err f)) (sym same) also.fails))
  | inr (inl below) ↦ absurd (apart _ e (restored_one law is.r (rule_in row is.r) cfa old memory _ _ (also.earlier is.r below) is.fails))
  | inr (inr below) ↦ absurd (apart _ f (restored_one law also.r (rule_in row also.r) cfa old memory _ _ (is.earlier also.r below) also.fails))
]

lacks_one : ExprLaw → (row : RowData) (old : List ℕ) (memory : List RegionData) (e f : NoBytes) → LacksBytes row old memory e → LacksBytes row old memory f → e ≡ f
lacks_one law row old memory e f is also = cases is.fails also.fails
  where
    cases : Fails row old memory e → Fails row old memory f → e ≡ f
    cases (inl one) (inl other) = same_err e f (cfa_one law row.cfa old memory _ _ one other)
    cases (inl one) (inr other) = absurd (apart other.0 e (cfa_one law row.cfa old memory _ _ other.1 one))
    cases (inr one) (inl other) = absurd (apart one.0 f (cfa_one law row.cfa old memory _ _ one.1 other))
    cases (inr one) (inr other) =
        let cfa = same_ok one.0 other.0 (cfa_one law row.cfa old memory _ _ one.1 other.1) in
        first_one law row other.0 old memory e f (subst (λ c. FailsFirst row c old memory e) cfa one.2) other.2

abbrev no_rule : RuleData
no_rule = rules.Unset

abbrev undefined_rule : RuleData
undefined_rule = rules.Undefined

no_row_leads : (row : RowData) → (row.cfa ≡ cfas.Missing) ⊎ (rule_in row 16 ≡ rules.Unset) → Leads row → ⊥
no_row_leads row (inl missing) leads = leads.cfa missing
no_row_leads row (inr unset) leads = leads.told unset

no_row_undefined : (row : RowData) → (row.cfa ≡ cfas.Missing) ⊎ (rule_in row 16 ≡ rules.Unset) → (row.cfa ≢ cfas.Missing) × (rule_in row 16 ≡ rules.Undefined) → ⊥
no_row_undefined row (inl missing) undefined = undefined.0 missing
no_row_undefined row (inr unset) undefined = let both : no_rule ≡ undefined_rule = sym unset ∙ undefined.1 in cc

-- a row makes one thing of the old registers
pub one_outcome : ExprLaw → (row : RowData) (old : List ℕ) (memory : List RegionData) (a b : Stepped) → IsStep row old memory a → IsStep row old memory b → a ≡ b
one_outcome law row old memory stepped.NoRow stepped.NoRow is also = refl
one_outcome law row old memory stepped.NoRow stepped.Undefined is also = absurd (no_row_undefined row is also)
one_outcome law row old memory stepped.NoRow (stepped.Frame new) is also = absurd (no_row_leads row is also.leads)
one_outcome law row old memory stepped.NoRow (stepped.NoBytes b) is also = absurd (no_row_leads row is also.leads)
one_outcome law row old memory stepped.Undefined stepped.NoRow is also = absurd (no_row_undefined row also is)
one_outcome law row old memory stepped.Undefined stepped.Undefined is also = refl
one_outcome law row old memory stepped.Undefined (stepped.Frame new) is also = absurd (also.leads.defined is.1)
one_outcome law row old memory stepped.Undefined (stepped.NoBytes b) is also = absurd (also.leads.defined is.1)
one_outcome law row old memory (stepped.Frame new) stepped.NoRow is also = absurd (no_row_leads row also is.leads)
one_outcome law row old memory (stepped.Frame new) stepped.Undefined is also = absurd (is.leads.defined also.1)
one_outcome law row old memory (stepped.Frame new) (stepped.Frame more) is also = ap (λ c. stepped.Frame (record { columns = c })) (frames_one law row old memory new.columns more.columns is also)
one_outcome law row old memory (stepped.Frame new) (stepped.NoBytes b) is also = absurd (frame_or_fault law row old memory new.columns (record { address = b }) is also)
one_outcome law row old memory (stepped.NoBytes a) stepped.NoRow is also = absurd (no_row_leads row also is.leads)
one_outcome law row old memory (stepped.NoBytes a) stepped.Undefined is also = absurd (is.leads.defined also.1)
one_outcome law row old memory (stepped.NoBytes a) (stepped.Frame more) is also = absurd (frame_or_fault law row old memory more.columns (record { address = a }) also is)
one_outcome law row old memory (stepped.NoBytes a) (stepped.NoBytes b) is also = ap (λ e. stepped.NoBytes e.address) (lacks_one law row old memory (record { address = a }) (record { address = b }) is also)

-- ---- rows with the same rules

pub record HasSameRules (row other : RowData) : Type 0 where
  pub cfa : row.cfa ≡ other.cfa
  pub columns : (r : ℕ) → r < 17 → rule_in row r ≡ rule_in other r

same_leads : (row other : RowData) → HasSameRules row other → Leads row → Leads other
same_leads row other same leads = record {
  cfa = subst (λ c. c ≢ cfas.Missing) same.cfa leads.cfa;
  defined = subst (λ c. c ≢ rules.Undefined) (same.columns 16 (omega arith)) leads.defined;
  told = subst (λ c. c ≢ rules.Unset) (same.columns 16 (omega arith)) leads.told;
}

same_restored : (row other : RowData) (cfa : ℕ) (old : List ℕ) (memory : List RegionData) (count : ℕ) (new : List ℕ) → count ≤ 17 → HasSameRules row other → AreRestored count row cfa old memory new → AreRestored count other cfa old memory new
same_restored row other cfa old memory count new within same restored r below =
    subst (λ rule. IsRestored r rule cfa old memory (Ok (get_or new r 0))) (same.columns r (omega arith)) (restored r below)

-- rows with the same rules make the same of the old registers
pub same_outcome : (row other : RowData) (old : List ℕ) (memory : List RegionData) (outcome : Stepped) → HasSameRules row other → IsStep row old memory outcome → IsStep other old memory outcome
same_outcome row other old memory stepped.NoRow same (inl missing) = inl (sym same.cfa ∙ missing)
same_outcome row other old memory stepped.NoRow same (inr unset) = inr (sym (same.columns 16 (omega arith)) ∙ unset)
same_outcome row other old memory stepped.Undefined same is =
    (subst (λ c. c ≢ cfas.Missing) same.cfa is.0, sym (same.columns 16 (omega arith)) ∙ is.1)
same_outcome row other old memory (stepped.Frame new) same is = record {
  leads = same_leads row other same is.leads;
  cfa = is.cfa;
  is_cfa = subst (λ rule. IsCfa rule old memory (Ok is.cfa)) same.cfa is.is_cfa;
  restored = same_restored row other is.cfa old memory 17 new.columns (omega arith) same is.restored;
  all = is.all;
}
same_outcome row other old memory (stepped.NoBytes a) same is = record {
  leads = same_leads row other same is.leads;
  fails = fails is.fails;
}
  where
    fails : Fails row old memory (record { address = a }) → Fails other old memory (record { address = a })
    fails (inl not_cfa) = inl (subst (λ rule. IsCfa rule old memory (Err (record { address = a }))) same.cfa not_cfa)
    fails (inr here) = let first = here.2 in
        inr (
          here.0,
          subst (λ rule. IsCfa rule old memory (Ok here.0)) same.cfa here.1,
          record {
            r = first.r;
            below = first.below;
            fails = subst (λ rule. IsRestored first.r rule here.0 old memory (Err (record { address = a }))) (same.columns first.r first.below) first.fails;
            new = first.new;
            earlier = same_restored row other here.0 old memory first.r first.new (omega arith) same first.earlier;
          },
        )

-- rows that have the same rules by their tables have the same rules
pub same_rules : (row other : RowData) (cfa : CfaRuleData) (rule : ℕ → RuleData) → row.cfa ≡ cfa → other.cfa ≡ cfa → ((r : ℕ) → r < 17 → slice_get row.columns r ≡ Some (rule r)) → ((r : ℕ) → r < 17 → slice_get other.columns r ≡ Some (rule r)) → HasSameRules row other
same_rules row other cfa rule one also each every = record {
  cfa = one ∙ sym also;
  columns = λ r below. get_or_from_slice_get row.columns r (rule r) rules.Unset (each r below) ∙ sym (get_or_from_slice_get other.columns r (rule r) rules.Unset (every r below));
}
