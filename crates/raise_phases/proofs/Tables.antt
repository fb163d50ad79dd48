-- A table is exact, so each list of bytes gives one verdict or has one first fault.
use Rattle.std.proofs.Common.{◌≡◌, ℕ, ◌⊎◌, List, Result, Ok, Err, refl, sym, ap, subst, ◌∙◌, inl, inr}
use Rattle.std.specs.Prelude.{IfOk, IfErr}
use Rattle.eh_bytes.specs.CursorData.{CursorData}
use Rattle.eh_bytes.specs.Results.{◌and_then◌}
use Rattle.eh_bytes.proofs.Exact.{left, IsExact, then_exact, here_exact, given_exact}
use Rattle.raise_phases.specs.declared.fault.LsdaFault.{LsdaFault}
use Rattle.raise_phases.specs.declared.outcome.Verdict.{Verdict}
use Rattle.raise_phases.specs.Verdicts.{call_site_table, verdict_of, IsVerdict, IsRefusedTable, HasOneVerdict}
use Rattle.raise_phases.proofs.Fields.{table_header_exact}
use Rattle.raise_phases.proofs.Sites.{sized_exact}

table_exact : (first address : ℕ) (bytes : List ℕ) (look kind : ℕ) → IsExact (call_site_table first address bytes look kind)
unfolding call_site_table
table_exact first address bytes look kind =
    then_exact _ _ (table_header_exact first address) (λ h.
    then_exact _ _ (sized_exact _ h) (λ s.
    then_exact _ _ here_exact (λ actions. given_exact _)))

-- what reading gives of the bytes from their front
abbrev table_read : ℕ → ℕ → List ℕ → ℕ → ℕ → Result (Verdict × CursorData) LsdaFault
table_read first address bytes look kind = (call_site_table first address bytes look kind).read (left 0 bytes)

verdict_told : (first address : ℕ) (bytes : List ℕ) (look kind : ℕ) (v : Verdict) (behind : CursorData) → table_read first address bytes look kind ≡ Ok (v, behind)
    → IsVerdict first address bytes look kind v
unfolding IsVerdict
verdict_told first address bytes look kind v behind e =
    let t = (table_exact first address bytes look kind).takes (left 0 bytes) v behind e in
    (t.front, behind.bytes, t.parts, t.spells)

verdict_read : (first address : ℕ) (bytes : List ℕ) (look kind : ℕ) (v : Verdict) → IsVerdict first address bytes look kind v → verdict_of first address bytes look kind ≡ Ok v
unfolding IsVerdict
verdict_read first address bytes look kind v s =
    let table = call_site_table first address bytes look kind in
    let read = ap (λ (l : List ℕ). table.read (left 0 l)) s.2 ∙ (table_exact first address bytes look kind).again 0 s.0 s.1 v s.3 in
    ap (λ (k : Result (Verdict × CursorData) LsdaFault). ◌and_then◌ k (λ x. Ok x.0)) read

fault_read : (first address : ℕ) (bytes : List ℕ) (look kind : ℕ) (f : LsdaFault) → IsRefusedTable first address bytes look kind f → verdict_of first address bytes look kind ≡ Err f
fault_read first address bytes look kind f s =
    ap (λ (k : Result (Verdict × CursorData) LsdaFault). ◌and_then◌ k (λ x. Ok x.0)) ((table_exact first address bytes look kind).refused 0 bytes f s)

some_answer : (first address : ℕ) (bytes : List ℕ) (look kind : ℕ) (m : Result (Verdict × CursorData) LsdaFault) → table_read first address bytes look kind ≡ m
    → ((v : Verdict) × IsVerdict first address bytes look kind v) ⊎ ((f : LsdaFault) × IsRefusedTable first address bytes look kind f)
some_answer first address bytes look kind (Ok x) e = inl (x.0, verdict_told first address bytes look kind x.0 x.1 e)
some_answer first address bytes look kind (Err f) e = inr (f, (table_exact first address bytes look kind).refuses (left 0 bytes) f e)

pub one_verdict : (first address : ℕ) (bytes : List ℕ) (look kind : ℕ) → HasOneVerdict first address bytes look kind
one_verdict first address bytes look kind = record {
  some = some_answer first address bytes look kind (table_read first address bytes look kind) refl;
  verdict = verdict_read first address bytes look kind;
  fault = fault_read first address bytes look kind;
}

-- ---- what a call gave

abbrev pub IsTold : ℕ → ℕ → List ℕ → ℕ → ℕ → Result Verdict LsdaFault → Type 0
IsTold first address bytes look kind m =
    IfOk m (IsVerdict first address bytes look kind) × IfErr m (IsRefusedTable first address bytes look kind)

told : (first address : ℕ) (bytes : List ℕ) (look kind : ℕ) (k : Result (Verdict × CursorData) LsdaFault) → table_read first address bytes look kind ≡ k
    → IsTold first address bytes look kind (◌and_then◌ k (λ x. Ok x.0))
told first address bytes look kind (Ok x) e = (verdict_told first address bytes look kind x.0 x.1 e, tt)
told first address bytes look kind (Err f) e = (tt, (table_exact first address bytes look kind).refuses (left 0 bytes) f e)

pub answer_told : (first address : ℕ) (bytes : List ℕ) (look kind : ℕ) (m : Result Verdict LsdaFault) → m ≡ verdict_of first address bytes look kind → IsTold first address bytes look kind m
answer_told first address bytes look kind m e =
    subst (λ (v : Result Verdict LsdaFault). IsTold first address bytes look kind v) (sym e) (told first address bytes look kind (table_read first address bytes look kind) refl)
