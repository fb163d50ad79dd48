-- A node that left the tree is given back, where all else that is held has settled.
use Rattle.std.proofs.Common.{◌≡◌, ℕ, List, [], ◌∷◌, sym, refl, ap, ◌∙◌, ◌==◌, not, eq-eqb, ne_eqb, cond, subst, if◌then◌else◌, false, Some, is_some, ◌&&◌, None, Bool, true, ◌||◌, ◌≢◌, map, true≢false, ◌++◌}
use Rattle.std.specs.List.{AllByRecursion}
use Rattle.std.proofs.Math.Bool.{and-false}
use native.Mathlib.Decide.{ℕ_discrete}
use Rattle.tree_laws.specs.Numbers.{is_among}
use Rattle.word_rule.specs.CallerData.{CallerData}
use Rattle.word_rule.specs.Held.{without_lock, edited, held_of, is_marked, marked_in, now_of, all_but}
use Rattle.word_rule.specs.declared.log.Log.{Log}
use Rattle.word_rule.specs.declared.log.Holding.{Holding}
use Rattle.word_rule.specs.Exchange.{settle, are_spelled, is_changed, exchange, nothing_reached, after_exchange, changed_of, group_of, is_lawful, node_of, settle_free, top_of}
use Rattle.word_rule.specs.Steps.{after_node_store, store_in, stored_log, after_head_load, after_node_release, after_node_release_same, after_push}
use Rattle.word_rule.specs.Sights.{after_node_load}
use Rattle.word_rule.specs.Spelling.{spelled}
use Rattle.word_rule.proofs.Exchanges.{spelled_decides}
use Rattle.word_rule.specs.Logs.{after_spending}
use Rattle.free_list.specs.Free.{after_setting, held_word, after_freeing, after_links, GivesFree, LosesNode}
use Rattle.free_list.proofs.Settled.{ExchangeLaw}
use Rattle.version_locks.specs.declared.locking.Busy.{Busy}
use Rattle.tree_descent.specs.Paths.{StepsOnNodes}
use Rattle.tree_descent.specs.Returns.{IsGoneOrSettled, KeepsOut, ReturnsNode}
use Rattle.tree_descent.proofs.NodeSteps.{steps_then, steps_so, steps_none, less_release_then}
use Rattle.tree_descent.proofs.Loading.{none_more}
use Rattle.tree_descent.proofs.LeafCommits.{all_nothing}
use Rattle.tree_descent.specs.Releases.{with_release_less}
use Rattle.tree_descent.proofs.Spending.{spends_one}

-- What the stores in one lock leave: the others as they were, and that it isn't marked.
pub record OnlyThere (n : ℕ) (v w : Log) : Type 0 where
  pub held : without_lock n w.holdings.held ≡ without_lock n v.holdings.held
  pub ready : AllByRecursion (IsGoneOrSettled n) w.holdings.held
  pub out : w.holdings.out ≡ v.holdings.out
  pub same : (k : CallerData) → StepsOnNodes (record k { log = v }) (record k { log = w })

edited_without : (n : ℕ) (g : Holding → Holding) (held : List Holding) → ((h : Holding) → (g h).node ≡ h.node) → without_lock n (edited n g held) ≡ without_lock n held
edited_without n g [] keeps = refl
edited_without n g (h ∷ held) keeps = go (ℕ_discrete h.node n) (edited_without n g held keeps)
  where
    go : Dec (h.node ≡ n) → without_lock n (edited n g held) ≡ without_lock n held → without_lock n (edited n g (h ∷ held)) ≡ without_lock n (h ∷ held)
    go (yes e) rest =
        ap (λ z. without_lock n (z ∷ edited n g held)) (ap (λ b. cond b (g h) h) (eq-eqb h.node n e))
        ∙ (ap (λ b. cond (not b) (g h ∷ without_lock n (edited n g held)) (without_lock n (edited n g held))) (eq-eqb (g h).node n (keeps h ∙ e))
        ∙ (rest ∙ sym (ap (λ b. cond (not b) (h ∷ without_lock n held) (without_lock n held)) (eq-eqb h.node n e))))
    go (no ne) rest =
        ap (λ z. without_lock n (z ∷ edited n g held)) (ap (λ b. cond b (g h) h) (ne_eqb h.node n ne))
        ∙ ap (λ hs. cond (not (h.node == n)) (h ∷ hs) hs) rest

edited_ready : (n : ℕ) (g : Holding → Holding) (held : List Holding) → ((h : Holding) → (g h).node ≡ h.node) → ((h : Holding) → (g h).mark ≡ h.mark) → AllByRecursion (IsGoneOrSettled n) held → AllByRecursion (IsGoneOrSettled n) (edited n g held)
edited_ready n g [] keeps marks all = tt
edited_ready n g (h ∷ held) keeps marks all = (go (ℕ_discrete h.node n), edited_ready n g held keeps marks all.1)
  where
    go : Dec (h.node ≡ n) → IsGoneOrSettled n (if h.node == n then g h else h)
    go (yes e) = subst (IsGoneOrSettled n) (sym (ap (λ b. cond b (g h) h) (eq-eqb h.node n e))) ((λ _. marks h ∙ all.0.0 e), (λ ne. absurd (ne (keeps h ∙ e))))
    go (no ne) = subst (IsGoneOrSettled n) (sym (ap (λ b. cond b (g h) h) (ne_eqb h.node n ne))) all.0

-- none of the node's locks is marked
unmarked : (n : ℕ) (held : List Holding) → AllByRecursion (IsGoneOrSettled n) held → marked_in held n ≡ false
unmarked n [] all = refl
unmarked n (h ∷ held) all = go (ℕ_discrete h.node n) (unmarked n held all.1)
  where
    go : Dec (h.node ≡ n) → marked_in held n ≡ false → marked_in (h ∷ held) n ≡ false
    go (yes e) rest = ap (λ b. is_marked (cond b (Some h) (held_of n held))) (eq-eqb h.node n e) ∙ ap is_some (all.0.0 e)
    go (no ne) rest = ap (λ b. is_marked (cond b (Some h) (held_of n held))) (ne_eqb h.node n ne) ∙ rest

pub there_then : (n : ℕ) (u v w : Log) → OnlyThere n u v → OnlyThere n v w → OnlyThere n u w
there_then n u v w a b = record {
  held = b.held ∙ a.held;
  ready = b.ready;
  out = b.out ∙ a.out;
  same = λ k. steps_then (record k { log = u }) (record k { log = v }) (record k { log = w }) (a.same k) (b.same k);
}

pub stored_there : (n at value : ℕ) (v : Log) → AllByRecursion (IsGoneOrSettled n) v.holdings.held → OnlyThere n v (after_node_store n at value v)
stored_there n at value v all =
    let plain : after_node_store n at value v ≡ stored_log n at value v = ap (λ b. if ((at == 1) && (value == 2)) && b then settle None (stored_log n at value v) else stored_log n at value v) (unmarked n v.holdings.held all) ∙ ap (λ b. if b then settle None (stored_log n at value v) else stored_log n at value v) (and-false ((at == 1) && (value == 2))) in
    subst (OnlyThere n v) (sym plain) (record {
      held = edited_without n (store_in at value) v.holdings.held (λ h. refl);
      ready = edited_ready n (store_in at value) v.holdings.held (λ h. refl) (λ h. refl) all;
      out = refl;
      same = λ k. steps_so (record k { log = v }) refl refl (none_more v.trace.loads);
    })

loaded_there : (n at value : ℕ) (v : Log) → AllByRecursion (IsGoneOrSettled n) v.holdings.held → OnlyThere n v (after_node_load n at value v)
loaded_there n at value v all = record { held = refl; ready = all; out = refl; same = λ k. steps_so (record k { log = v }) refl refl (_ ∷ [], refl) }

set_there : (n at value : ℕ) (v : Log) → AllByRecursion (IsGoneOrSettled n) v.holdings.held → OnlyThere n v (after_setting n at value v)
set_there n at value v all = go (held_word n at v == value)
  where
    go : (b : Bool) → OnlyThere n v (if b then after_node_load n at (held_word n at v) v else after_node_store n at value (after_node_load n at (held_word n at v) v))
    go true = loaded_there n at (held_word n at v) v all
    go false = there_then n v (after_node_load n at (held_word n at v) v) (after_node_store n at value (after_node_load n at (held_word n at v) v)) (loaded_there n at (held_word n at v) v all) (stored_there n at value (after_node_load n at (held_word n at v) v) all)

headed_there : (n head : ℕ) (v : Log) → AllByRecursion (IsGoneOrSettled n) v.holdings.held → OnlyThere n v (after_head_load head v)
headed_there n head v all = record { held = refl; ready = all; out = refl; same = λ k. steps_so (record k { log = v }) refl refl (_ ∷ [], refl) }

freed_there : (n : ℕ) (v : Log) → AllByRecursion (IsGoneOrSettled n) v.holdings.held → OnlyThere n v (after_freeing n v)
freed_there n v all = let kind = set_there n 1 2 v all in there_then n v (after_setting n 1 2 v) (after_freeing n v) kind (set_there n 2 0 (after_setting n 1 2 v) kind.ready)

links_there : (n : ℕ) (heads : List ℕ) (v : Log) → AllByRecursion (IsGoneOrSettled n) v.holdings.held → OnlyThere n v (after_links n heads v)
links_there n [] v all = record { held = refl; ready = all; out = refl; same = λ k. steps_none (record k { log = v }) }
links_there n (head ∷ heads) v all =
    let headed_so = headed_there n head v all in
    let linked_so = stored_there n 6 head (after_head_load head v) headed_so.ready in
    let one = there_then n v (after_head_load head v) (after_node_store n 6 head (after_head_load head v)) headed_so linked_so in
    there_then n v (after_node_store n 6 head (after_head_load head v)) (after_links n (head ∷ heads) v) one (links_there n heads (after_node_store n 6 head (after_head_load head v)) one.ready)

-- what settles then is the node alone
unchanged : (n : ℕ) (h : Holding) → IsGoneOrSettled n h → is_changed None h ≡ false
unchanged n h s = go (ℕ_discrete h.node n)
  where
    go : Dec (h.node ≡ n) → is_changed None h ≡ false
    go (yes e) = ap (λ o. is_some o && (not (are_spelled (spelled h.words) h.settled) || false)) (s.0 e)
    go (no ne) = ap (λ b. is_some h.mark && (not b || false)) ((spelled_decides (spelled h.words) h.settled).1 (s.1 ne)) ∙ and-false (is_some h.mark)

settled_rest : (n : ℕ) (held : List Holding) → AllByRecursion (IsGoneOrSettled n) held → without_lock n (map (exchange nothing_reached nothing_reached) held) ≡ without_lock n held
settled_rest n [] all = refl
settled_rest n (h ∷ held) all = go (ℕ_discrete h.node n) (settled_rest n held all.1)
  where
    still : (h.node ≢ n) → exchange nothing_reached nothing_reached h ≡ h
    still ne = (λ i. record h { settled = by_mark (is_some h.mark) i })
      where
        by_mark : (b : Bool) → (if b then h.settled else now_of h (spelled h.words)) ≡ h.settled
        by_mark true = refl
        by_mark false = ap (now_of h) (all.0.1 ne)

    go : Dec (h.node ≡ n) → without_lock n (map (exchange nothing_reached nothing_reached) held) ≡ without_lock n held → without_lock n (map (exchange nothing_reached nothing_reached) (h ∷ held)) ≡ without_lock n (h ∷ held)
    go (yes e) rest =
        ap (λ b. cond (not b) (exchange nothing_reached nothing_reached h ∷ without_lock n (map (exchange nothing_reached nothing_reached) held)) (without_lock n (map (exchange nothing_reached nothing_reached) held))) (eq-eqb h.node n e)
        ∙ (rest ∙ sym (ap (λ b. cond (not b) (h ∷ without_lock n held) (without_lock n held)) (eq-eqb h.node n e)))
    go (no ne) rest = (λ i. cond (not (h.node == n)) (still ne i ∷ rest i) (rest i))

frees_only : ExchangeLaw → (n : ℕ) (v : Log) → AllByRecursion (IsGoneOrSettled n) v.holdings.held → settle None v ≡ settle_free v
frees_only law n v all = ap (λ b. if b then after_exchange v (top_of v None) (is_among (group_of v None)) else settle_free v) (not_lawful (is_lawful v None) refl)
  where
    none_changed : changed_of v None ≡ []
    none_changed = all_nothing (is_changed None) (IsGoneOrSettled n) (unchanged n) v.holdings.held all

    not_lawful : (b : Bool) → is_lawful v None ≡ b → is_lawful v None ≡ false
    not_lawful false e = e
    not_lawful true e =
        let grouped = ((law v None).0 e).change.change.top_grouped in
        absurd (true≢false (sym grouped ∙ ap (λ hs. is_among (map node_of hs) (top_of v None)) none_changed))

-- it was let go of after such steps
let_go_there : ExchangeLaw → (n : ℕ) (k k' : CallerData) (w : Log) → AllByRecursion (IsGoneOrSettled n) w.holdings.held → StepsOnNodes k (record k { log = w }) → k' ≡ record k { log = after_node_release n w }
    → (k'.log.holdings.held ≡ without_lock n w.holdings.held) × (k'.log.holdings.out ≡ w.holdings.out) × StepsOnNodes (with_release_less k) k'
let_go_there law n k k' w ready p is =
    let free : settle None w ≡ settle_free w = frees_only law n w ready in
    let equal : k' ≡ record k { log = record (after_node_release_same n (settle_free w)) { budget = after_spending w.budget } } = is ∙ ap (λ (z : Log). record k { log = record (after_node_release_same n z) { budget = after_spending z.budget } }) free in (
      ap (λ (z : CallerData). z.log.holdings.held) equal ∙ settled_rest n w.holdings.held ready,
      ap (λ (z : CallerData). z.log.holdings.out) equal,
      steps_then (with_release_less k) (with_release_less (record k { log = w })) k' (less_release_then k (record k { log = w }) p) (steps_so (with_release_less (record k { log = w })) equal refl (none_more w.trace.loads)),
    )

module _ (law : ExchangeLaw) (n : ℕ) (k k' : CallerData) (all : AllByRecursion (IsGoneOrSettled n) k.log.holdings.held) where
  there : (heads : List ℕ) → OnlyThere n k.log (after_links n heads (after_freeing n k.log))
  there heads = let freed_so = freed_there n k.log all in there_then n k.log (after_freeing n k.log) (after_links n heads (after_freeing n k.log)) freed_so (links_there n heads (after_freeing n k.log) freed_so.ready)

  pub given_steps : GivesFree n k k' → (k'.log.holdings.held ≡ without_lock n k.log.holdings.held) × (k'.log.holdings.out ≡ all_but n k.log.holdings.out) × StepsOnNodes (with_release_less k) k'
  given_steps (freed, ((lost, head, (short, pushed)), is)) =
      let u = after_links n (lost ++ head ∷ []) (after_freeing n k.log) in let t = there (lost ++ head ∷ []) in
      let left = let_go_there law n k k' (after_push n u) t.ready (steps_then k (record k { log = u }) (record k { log = after_push n u }) (t.same k) (steps_so (record k { log = u }) refl refl (none_more u.trace.loads)))
      (is ∙ ap (λ (z : CallerData). record z { log = after_node_release n z.log }) pushed) in
      (left.0 ∙ t.held, left.1 ∙ ap (all_but n) t.out, left.2)

  pub lost_steps : (why : Busy) → LosesNode n why k k' → (k'.log.holdings.held ≡ without_lock n k.log.holdings.held) × (k'.log.holdings.out ≡ k.log.holdings.out) × StepsOnNodes (with_release_less k) k'
  lost_steps why (named, cause, (freed, (found, (lost, head, (short, other, stays)), is))) =
      let u = after_links n (lost ++ head ∷ []) (after_freeing n k.log) in let t = there (lost ++ head ∷ []) in
      let all_of = there_then n k.log u (after_head_load found u) t (headed_there n found u t.ready) in
      let left = let_go_there law n k k' (after_head_load found u) all_of.ready (all_of.same k) (is ∙ ap (λ (z : CallerData). record z { log = after_node_release n z.log }) stays) in
      (left.0 ∙ all_of.held, left.1 ∙ all_of.out, left.2)

  pub given_back : GivesFree n k k' → ReturnsNode n k k'
  given_back gives = let r = given_steps gives in record { spends = spends_one k k' r.2; held = r.0; out = r.1 }

  pub kept_out : (why : Busy) → LosesNode n why k k' → KeepsOut n why k k'
  kept_out why loses = let r = lost_steps why loses in record { lost = loses.0; cause = loses.1; spends = spends_one k k' r.2; held = r.0; out = r.1 }
