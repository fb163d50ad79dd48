-- How the logs were forked from one another: who has the whole share is alone.
use Rattle.std.proofs.Common.{◌≡◌, ◌≢◌, ℕ, List, sym, refl, ◌∙◌, arith, Bool, false, true, true≢false}
use mathlib.Core.Option.{some}
use lib.ListN.{get_elem?}
use Rattle.word_rule.specs.declared.log.Log.{Log}
use Rattle.word_rule.specs.declared.log.Role.{Role}
use Rattle.word_rule.specs.declared.log.Role.TheVariants as role
use Rattle.word_rule.specs.Logs.{is_gone, is_nameless}
use Rattle.word_rule.specs.Callers.{LineagesHold, IsAlone}
use Rattle.word_rule.proofs.Facts.{two_of_total}

-- where one is alone, nobody waits for any other
pub others_nameless : (views : List Log) (k : LineagesHold views) (id : ℕ) (v : Log) → get_elem? views id ≡ some v → IsAlone v.lineage → (j : ℕ) (u : Log) → j ≢ id → get_elem? views j ≡ some u → is_nameless u.role ≡ true
others_nameless views k id v at alone j u far there = go (is_nameless u.role) refl
  where
    go : (b : Bool) → is_nameless u.role ≡ b → is_nameless u.role ≡ true
    go true e = e
    go false e = let both = two_of_total (λ w. w.lineage.share) views id j v u at there far in let all = k.whole in let mine = alone.whole in let some = k.named j u there e in absurd (omega (arith, both, all, mine, some))

-- so where one steps, no other is alone
pub none_alone : (views : List Log) (k : LineagesHold views) (id j : ℕ) (v u : Log) → get_elem? views id ≡ some v → is_nameless v.role ≡ false → get_elem? views j ≡ some u → j ≢ id → IsAlone u.lineage → ⊥
none_alone views k id j v u at stands there far alone = true≢false (sym (others_nameless views k j u there alone id v (λ e. far (sym e)) at) ∙ stands)

-- one that is waited for was not joined away
pub not_gone : (a : Role) → is_nameless a ≡ false → is_gone a ≡ false
not_gone role.Caller h = refl
not_gone role.Note h = refl
not_gone role.Reader h = absurd (true≢false h)
not_gone role.Spent h = absurd (true≢false h)
