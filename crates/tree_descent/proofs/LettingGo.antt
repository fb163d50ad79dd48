-- Where all that is held has settled, nothing settles.
use Rattle.std.proofs.Math.Bool.{and-false}
use Rattle.std.proofs.Common.{◌≡◌, ap, ◌∙◌, false, not, ◌&&◌, ◌||◌, None, is_some, refl, Bool, true, if◌then◌else◌, [], map, sym, true≢false}
use Rattle.std.specs.List.{AllByRecursion}
use Rattle.tree_laws.specs.Numbers.{is_among}
use Rattle.word_rule.specs.Spelling.{SpellsNode, spelled}
use Rattle.word_rule.specs.declared.log.Holding.{Holding}
use Rattle.word_rule.specs.Exchange.{is_changed, exchange, nothing_reached, after_exchange, changed_of, group_of, is_lawful, node_of, settle, settle_free, top_of}
use Rattle.word_rule.proofs.Exchanges.{spelled_decides}
use Rattle.word_rule.specs.Held.{now_of}
use Rattle.word_rule.specs.declared.log.Log.{Log}
use Rattle.free_list.proofs.Settled.{ExchangeLaw}
use Rattle.tree_descent.proofs.LeafCommits.{all_nothing, all_stay}

-- a lock whose words spell its settled content
abbrev pub IsSettled : Holding → Type 0
IsSettled h = SpellsNode h.words h.settled

unchanged : (h : Holding) → IsSettled h → is_changed None h ≡ false
unchanged h s = ap (λ b. is_some h.mark && (not b || false)) ((spelled_decides (spelled h.words) h.settled).1 s) ∙ and-false (is_some h.mark)

still : (h : Holding) → IsSettled h → exchange nothing_reached nothing_reached h ≡ h
still h s = (λ i. record h { settled = go (is_some h.mark) i })
  where
    go : (b : Bool) → (if b then h.settled else now_of h (spelled h.words)) ≡ h.settled
    go true = refl
    go false = ap (now_of h) s

-- where all that is held has settled, nothing settles
pub settles_nothing : ExchangeLaw → (v : Log) → AllByRecursion IsSettled v.holdings.held → settle None v ≡ v
settles_nothing law v all = ap (λ b. if b then after_exchange v (top_of v None) (is_among (group_of v None)) else settle_free v) (not_lawful (is_lawful v None) refl)
    ∙ (λ i. record v { holdings = record v.holdings { held = all_stay (exchange nothing_reached nothing_reached) IsSettled still v.holdings.held all i } })
  where
    none_changed : changed_of v None ≡ []
    none_changed = all_nothing (is_changed None) IsSettled unchanged v.holdings.held all

    not_lawful : (b : Bool) → is_lawful v None ≡ b → is_lawful v None ≡ false
    not_lawful false e = e
    not_lawful true e =
        let grouped = ((law v None).0 e).change.change.top_grouped in
        absurd (true≢false (sym grouped ∙ ap (λ hs. is_among (map node_of hs) (top_of v None)) none_changed))
