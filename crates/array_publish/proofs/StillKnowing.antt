-- What the holder of the loader's lock has done, and knows of the active copy, after loads.
use Rattle.std.proofs.Common.{◌≡◌, length, sym, ◌∙◌, subst, false, IsSomeAnd}
use Rattle.word_rule.specs.CallerData.{CallerData, WordsData}
use Rattle.word_rule.specs.Copies.{IsBehind}
use Rattle.word_rule.specs.Places.{copy_words}
use Rattle.word_rule.specs.declared.log.LoaderHolding.{LoaderHolding}
use Rattle.array_publish.specs.Holders.{LoadsHeld, Spells, active_words, spare_words}
use Rattle.array_publish.specs.Update.{IsClean, KnowsCopy, MayWrite, Works}
use Rattle.array_publish.specs.declared.active.ActiveCopy.{ActiveCopy}
use Rattle.array_publish.proofs.Answering.{holds_of, works_then}
use Rattle.array_publish.proofs.Knowing.{knows_stays}
use Rattle.array_publish.proofs.Works.{Holds, spare_wide}

pub record StillKnows (w : WordsData) (a : ActiveCopy) (k0 k : CallerData) : Type 0 where
  pub works : Works k0 k
  pub knows : KnowsCopy w a k
  pub kept : k.log.loader ≡ k0.log.loader

pub knows_after : (w : WordsData) (a : ActiveCopy) (k k' : CallerData) → KnowsCopy w a k → LoadsHeld k k' → KnowsCopy w a k'
knows_after w a k k' h loads = knows_stays w a (spare_words k.log.loader) k k' h loads.same (spare_wide w a.starts.copy k h.holder)

pub still_knows : (w : WordsData) (a : ActiveCopy) (k0 k k' : CallerData) → StillKnows w a k0 k → LoadsHeld k k' → StillKnows w a k0 k'
still_knows w a k0 k k' h loads = record {
  works = works_then (spare_words k.log.loader) k0 k k' h.works loads.same;
  knows = knows_after w a k k' h.knows loads;
  kept = loads.kept ∙ h.kept;
}

-- the copy that isn't active still has nothing stored in it
pub still_clean : (w : WordsData) (a : ActiveCopy) (k0 k : CallerData) → StillKnows w a k0 k → IsClean k0 → IsClean k
still_clean w a k0 k h = subst (λ o. IsSomeAnd o (λ (h : LoaderHolding). h.stored ≡ false)) (sym h.kept)

pub may_write : (w : WordsData) (a : ActiveCopy) (k0 k : CallerData) → StillKnows w a k0 k → IsBehind w.terms (active_words k0.log.loader) (spare_words k0.log.loader) → MayWrite w a k
may_write w a k0 k h behind = record { knows = h.knows; behind = subst (λ o. IsBehind w.terms (active_words o) (spare_words o)) (sym h.kept) behind }

-- and what it has done once the other copy is written
pub record HasWritten (w : WordsData) (a : ActiveCopy) (k0 k : CallerData) : Type 0 where
  pub works : Works k0 k
  pub holds : IsSomeAnd k.log.loader (Holds w.terms a.starts.copy)

pub has_written : (w : WordsData) (a : ActiveCopy) (k0 k k' : CallerData) → StillKnows w a k0 k → Spells (spare_words k'.log.loader) k k' → length (spare_words k'.log.loader) ≡ copy_words w.terms → HasWritten w a k0 k'
has_written w a k0 k k' h same wide = record {
  works = works_then (spare_words k'.log.loader) k0 k k' h.works same;
  holds = holds_of w.terms a.starts.copy (spare_words k'.log.loader) k k' h.knows.holder.holds same wide;
}
