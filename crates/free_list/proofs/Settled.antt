-- Where no live node that is held was changed, nothing of the tree settles.
use Rattle.std.proofs.Common.{◌≡◌, ℕ, Bool, true, false, true≢false, ◌&&◌, ◌||◌, ◌==◌, not, List, [], ◌∷◌, map, Option, None, IsSome, is_some, if◌then◌else◌, refl, ap, sym, ◌∙◌}
use Rattle.std.specs.Bool.{Decides}
use Rattle.std.specs.List.{AllByRecursion, filter}
use Rattle.tree_laws.specs.Numbers.{is_among}
use Rattle.tree_laws.proofs.Deciding.{same_shape_decides}
use Rattle.reg_model.specs.declared.answer.Update.{Update}
use Rattle.word_rule.specs.declared.log.Log.{Log}
use Rattle.word_rule.specs.declared.log.Holding.{Holding}
use Rattle.word_rule.specs.Exchange.{IsLawfulExchange, after_exchange, are_spelled, exchange, group_of, is_changed, is_lawful, node_of, nothing_reached, settle, settle_free, top_of}
use Rattle.word_rule.specs.Held.{now_of, without_lock}
use Rattle.word_rule.specs.Spelling.{spelled, SpellsNode}
use Rattle.free_list.specs.Free.{IsSettled}

-- whether an exchange is made is decided: a law of word_rule
abbrev pub ExchangeLaw : Type 0
ExchangeLaw = (v : Log) (update : Option Update) → Decides (is_lawful v update) (IsLawfulExchange v update (top_of v update) (is_among (group_of v update)))

-- a lock that spells what settled isn't changed
unchanged : (h : Holding) → (IsSome h.mark → SpellsNode h.words h.settled) → is_changed None h ≡ false
unchanged h settled = go (is_some h.mark) refl
  where
    go : (b : Bool) → is_some h.mark ≡ b → (b && (not (are_spelled (spelled h.words) h.settled) || false)) ≡ false
    go false e = refl
    go true e =
        let same : are_spelled (spelled h.words) h.settled ≡ true = ap (λ o. are_spelled o h.settled) (settled e) ∙ (same_shape_decides h.settled h.settled).1 refl in
        ap (λ b. not b || false) same

none_changed : (held : List Holding) → AllByRecursion (λ h. IsSome h.mark → SpellsNode h.words h.settled) held → filter (is_changed None) held ≡ []
none_changed [] all = refl
none_changed (h ∷ held) all = ap (λ b. if b then h ∷ filter (is_changed None) held else filter (is_changed None) held) (unchanged h all.0) ∙ none_changed held all.1

-- so there is no exchange
no_exchange : ExchangeLaw → (v : Log) → IsSettled v → is_lawful v None ≡ false
no_exchange law v settled = go (is_lawful v None) refl
  where
    go : (b : Bool) → is_lawful v None ≡ b → is_lawful v None ≡ false
    go false e = e
    go true e =
        let group : group_of v None ≡ [] = ap (map node_of) (none_changed v.holdings.held settled) in
        let top = ((law v None).0 e).change.change.top_grouped in
        absurd (true≢false (sym top ∙ ap (λ nodes. is_among nodes (top_of v None)) group))

pub settles_free : ExchangeLaw → (v : Log) → IsSettled v → settle None v ≡ settle_free v
settles_free law v settled = ap (λ b. if b then after_exchange v (top_of v None) (is_among (group_of v None)) else settle_free v) (no_exchange law v settled)

-- the locks without a mark settle, and no others
pub freed_settled : (held : List Holding) → AllByRecursion (λ h. IsSome h.mark → SpellsNode h.words h.settled) held
    → AllByRecursion (λ h. IsSome h.mark → SpellsNode h.words h.settled) (map (exchange nothing_reached nothing_reached) held)
freed_settled [] all = tt
freed_settled (h ∷ held) all = (λ marked. go (is_some h.mark) marked (all.0 marked), freed_settled held all.1)
  where
    go : (b : Bool) → b ≡ true → SpellsNode h.words h.settled → SpellsNode h.words (if b then h.settled else now_of h (spelled h.words))
    go true e spells = spells
    go false e spells = absurd (true≢false (sym e))

pub without_settled : (n : ℕ) (held : List Holding) → AllByRecursion (λ h. IsSome h.mark → SpellsNode h.words h.settled) held → AllByRecursion (λ h. IsSome h.mark → SpellsNode h.words h.settled) (without_lock n held)
without_settled n [] all = tt
without_settled n (h ∷ held) all = go (h.node == n) (without_settled n held all.1)
  where
    go : (b : Bool) → AllByRecursion (λ z. IsSome z.mark → SpellsNode z.words z.settled) (without_lock n held) → AllByRecursion (λ z. IsSome z.mark → SpellsNode z.words z.settled) (if not b then h ∷ without_lock n held else without_lock n held)
    go true rest = rest
    go false rest = (all.0, rest)
