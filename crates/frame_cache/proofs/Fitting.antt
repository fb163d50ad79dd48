-- That a cache fits its caller: while receipts come, and as entries move, come and go.
use Rattle.std.proofs.Common.{◌≡◌, ℕ, zero, suc, List, [], ◌∷◌, ◌++◌, take, sym, refl, subst, arith, Bool, true, false, Some, ◌==◌, cond}
use Rattle.std.proofs.lemmas.Bool.{eqb-true}
use Rattle.std.specs.List.{AllByRecursion, Contains}
use Rattle.std.proofs.lemmas.List.Elements.{Contains-append_left, Contains-append_right}
use Rattle.reg_model.specs.Query.{member_at}
use Rattle.reg_model.specs.SpanData.{contains}
use Rattle.reg_model.specs.declared.answer.Found.TheVariants.{Hit}
use Rattle.reg_model.specs.declared.answer.Half.{Half}
use Rattle.reg_model.specs.declared.answer.Receipt.{Receipt}
use Rattle.reg_model.specs.declared.answer.Receipt.TheVariants.{Query}
use Rattle.reg_model.specs.declared.span.Member.{Member}
use Rattle.word_rule.proofs.Each.{all_with}
use Rattle.word_rule.proofs.TreeRefusals.{found_there}
use Rattle.word_rule.specs.declared.log.Log.{Log}
use Rattle.frame_cache.specs.CacheData.{CacheData, but_found, kept_at}
use Rattle.frame_cache.specs.Cached.{FitsCaller, HasHit}

-- what holds of all members holds of all but the one that is found
pub others_are : (P : Member → Type 0) (pc : ℕ) (members : List Member) → AllByRecursion P members → AllByRecursion P (but_found pc members)
others_are P pc [] all = tt
others_are P pc (x ∷ members) all = go (contains x.span pc) (others_are P pc members all.1)
  where
    go : (b : Bool) → AllByRecursion P (but_found pc members) → AllByRecursion P (cond b members (x ∷ but_found pc members))
    go true rest = all.1
    go false rest = (all.0, rest)

first_are : (P : Member → Type 0) (n : ℕ) (members : List Member) → AllByRecursion P members → AllByRecursion P (take n members)
first_are P zero members all = tt
first_are P (suc n) [] all = tt
first_are P (suc n) (x ∷ members) all = (all.0, first_are P n members all.1)

hits_stay : (half : Half) (stamp : ℕ) (v w : Log) (more : List Receipt) (members : List Member) → w.receipts.own ≡ v.receipts.own ++ more → AllByRecursion (HasHit half stamp v) members → AllByRecursion (HasHit half stamp w) members
hits_stay half stamp v w more [] own all = tt
hits_stay half stamp v w more (m ∷ members) own all =
    let pc = all.0.0 in
    let r : Receipt = Query half pc (Hit m stamp) in
    ((pc, subst (λ rs. Contains rs r) (sym own) (Contains-append_left v.receipts.own more r all.0.1)), hits_stay half stamp v w more members own all.1)

-- while receipts come
pub fits_later : (c : CacheData) (v w : Log) (more : List Receipt) → w.receipts.own ≡ v.receipts.own ++ more → FitsCaller c v → FitsCaller c w
fits_later c v w more own fits = hits_stay c.half c.stamp v w more c.entries own fits

-- where entries of another stamp are dropped
pub fits_kept : (stamp : ℕ) (c : CacheData) (v : Log) → FitsCaller c v → FitsCaller (kept_at stamp c) v
fits_kept stamp c v fits = go (stamp == c.stamp) refl
  where
    go : (b : Bool) → (stamp == c.stamp) ≡ b → AllByRecursion (HasHit c.half stamp v) (cond b c.entries [])
    go true is = subst (λ s. AllByRecursion (HasHit c.half s v) c.entries) (sym (eqb-true stamp c.stamp is)) fits
    go false is = tt

-- where the one that is found comes first
pub fits_front : (pc : ℕ) (m : Member) (c : CacheData) (v : Log) → member_at pc c.entries ≡ Some m → FitsCaller c v → FitsCaller (record c { entries = m ∷ but_found pc c.entries }) v
fits_front pc m c v found fits = (all_with (HasHit c.half c.stamp v) c.entries m fits (found_there pc c.entries m found).0, others_are (HasHit c.half c.stamp v) pc c.entries fits)

-- where a new one comes first
pub fits_entry : (pc : ℕ) (m : Member) (c : CacheData) (v w : Log) → w.receipts.own ≡ v.receipts.own ++ Query c.half pc (Hit m c.stamp) ∷ [] → FitsCaller c v → FitsCaller (record c { entries = take 8 (m ∷ c.entries) }) w
fits_entry pc m c v w own fits =
    let r : Receipt = Query c.half pc (Hit m c.stamp) in
    let new : HasHit c.half c.stamp w m = (pc, subst (λ rs. Contains rs r) (sym own) (Contains-append_right v.receipts.own (r ∷ []) r (0, omega arith, refl))) in
    (new, first_are (HasHit c.half c.stamp w) 7 c.entries (fits_later c v w (r ∷ []) own fits))
