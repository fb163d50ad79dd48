-- The settled contents of what a caller holds become what its words spell, by a lawful exchange or freely: the rule is kept, and no word changes.
use Rattle.std.proofs.lemmas.Bool.{cases_Bool, or_cases}
use Rattle.std.proofs.Math.Bool.{and-false}
use Rattle.std.proofs.Common.{◌≡◌, ℕ, ◌⊎◌, List, set, sym, refl, ap, ◌∙◌, subst, inl, inr, ⊎_elim, arith, ◌&&◌, Bool, true, false, IsTrue, true≢false, Option, Some, None, IfSome, IsSome, is_some, not, Contains, ◌↔◌, if◌then◌else◌}
use Rattle.std.proofs.lemmas.Option.{none-some}
use mathlib.Core.Option.{some}
use lib.ListN.{get_elem?}
use Rattle.tree_shape.specs.declared.node.NodeBounds.{NodeBounds}
use Rattle.reg_model.specs.declared.span.Member.{Member}
use Rattle.reg_model.specs.declared.answer.Update.{Update}
use Rattle.reg_model.specs.History.{state_after}
use Rattle.tree_shape.specs.NodeData.{frame_of, NodeData, entries_of}
use Rattle.tree_laws.specs.Trees.{Contents, HasEntry}
use Rattle.word_rule.specs.declared.log.Holdings.{Holdings}
use Rattle.tree_laws.specs.LocalChange.{either}
use Rattle.word_rule.specs.declared.log.Role.TheVariants as role
use Rattle.word_rule.specs.declared.log.Terms.{Terms}
use Rattle.word_rule.specs.declared.log.Holding.{Holding}
use Rattle.word_rule.specs.declared.log.Log.{Log}
use Rattle.word_rule.specs.SharedWords.{memory_of}
use Rattle.word_rule.specs.Spelling.{spelled, SpellsNode}
use Rattle.word_rule.specs.Held.{held_of, now_of, now_shape, now_in, marked_in, is_marked}
use Rattle.word_rule.specs.Exchange.{ChangeLaws, is_reached, is_fresh, IsLawfulExchange, exchange, after_exchange, group_of, is_lawful, nothing_reached, settle, settle_free, top_of}
use Rattle.tree_laws.specs.Numbers.{is_among}
use Rattle.word_rule.proofs.Exchanges.{DecidedLaw, exchange_decides}
use Rattle.word_rule.specs.Callers.{start}
use Rattle.word_rule.specs.Nodes.{Shadow, HoldsNode, IsPlaced}
use Rattle.word_rule.specs.TableInvariant.{TableInvariant}
use Rattle.word_rule.proofs.Each.{not_some, all_map, held_is}
use Rattle.word_rule.proofs.Standing.{held_by}
use Rattle.word_rule.proofs.Settling.{AgreementLaw, OnSettling, mapped_all, mapped_once, mapped_kept, settled_table}
use Rattle.word_rule.proofs.Exchanging.{loose, settled', live', marked_lock, group_lock, fresh_out, fresh_loose, loose_parts, reached_inside, loose_inside, lawful_after, entries_after, live_new, live_kept, settled_new, settled_kept, unheld, balance, all_found, or_left, or_right}

module _ (t : Terms) (id : ℕ) (v : Log) (caller : v.role ≡ role.Caller) (words : List ℕ) (views : List Log) (r : TableInvariant t words views) (at : get_elem? views id ≡ some v) where
  mine_of : (k : ℕ) (h : Holding) → held_of k v.holdings.held ≡ Some h → HoldsNode t (memory_of t words).nodes r.memory.shadow id h × (h.node ≡ k)
  mine_of k h f = held_by t (memory_of t words).nodes views r.memory.history r.memory.shadow r.memory.nodes id v k h at f

  -- what the caller changed, where that is a lawful exchange
  module _ (laws : ChangeLaws) (update : Option Update) (top : ℕ) (group : ℕ → Bool) (ex : IsLawfulExchange v update top group) where
    abbrev now : ℕ → NodeData
    now = settled' laws t (memory_of t words).nodes views r.memory.history r.memory.shadow r.memory.nodes id v at update top group ex

    abbrev alive : ℕ → Bool
    alive = live' laws t (memory_of t words).nodes views r.memory.history r.memory.shadow r.memory.nodes id v at update top group ex

    abbrev shadow' : Shadow
    shadow' = record r.memory.shadow { settled = now; live = alive }

    abbrev reached : ℕ → Bool
    reached = is_reached v top group

    abbrev changed : Holding → Holding
    changed = exchange group (is_reached v top group)

    my_lock : (k : ℕ) (h : Holding) → held_of k v.holdings.held ≡ Some h → HoldsNode t (memory_of t words).nodes r.memory.shadow id h × (h.node ≡ k)
    my_lock k h f = held_by t (memory_of t words).nodes views r.memory.history r.memory.shadow r.memory.nodes id v k h at f

    -- what the laws of the exchange say at these contents
    inside : (k : ℕ) → reached k ≡ true → either group (is_fresh v.holdings.held v.holdings.out) k ≡ true
    inside = reached_inside laws t (memory_of t words).nodes views r.memory.history r.memory.shadow r.memory.nodes id v at update top group ex

    abbrev loosely : ℕ → Bool
    loosely = loose laws t (memory_of t words).nodes views r.memory.history r.memory.shadow r.memory.nodes id v at update top group ex

    loosen : (k : ℕ) → either group (is_fresh v.holdings.held v.holdings.out) k ≡ true → either group loosely k ≡ true
    loosen = loose_inside laws t (memory_of t words).nodes views r.memory.history r.memory.shadow r.memory.nodes id v at update top group ex

    new_life : (k : ℕ) → either group loosely k ≡ true → alive k ≡ reached k
    new_life = live_new laws t (memory_of t words).nodes views r.memory.history r.memory.shadow r.memory.nodes id v at update top group ex

    old_life : (k : ℕ) → either group loosely k ≡ false → alive k ≡ r.memory.shadow.live k
    old_life = live_kept laws t (memory_of t words).nodes views r.memory.history r.memory.shadow r.memory.nodes id v at update top group ex

    new_content : (k : ℕ) → either group loosely k ≡ true → now k ≡ now_in v.holdings.held k
    new_content = settled_new laws t (memory_of t words).nodes views r.memory.history r.memory.shadow r.memory.nodes id v at update top group ex

    old_content : (k : ℕ) → either group loosely k ≡ false → now k ≡ r.memory.shadow.settled k
    old_content = settled_kept laws t (memory_of t words).nodes views r.memory.history r.memory.shadow r.memory.nodes id v at update top group ex

    parts : (k : ℕ) → loosely k ≡ true → (is_some (held_of k v.holdings.held) ≡ true) × (marked_in v.holdings.held k ≡ false) × (r.memory.shadow.live k ≡ false)
    parts = loose_parts laws t (memory_of t words).nodes views r.memory.history r.memory.shadow r.memory.nodes id v at update top group ex

    -- a loose node that isn't reached isn't live before or after; a reached one is of the group or out
    not_reached : (k : ℕ) → group k ≡ false → is_fresh v.holdings.held v.holdings.out k ≡ false → reached k ≡ false
    not_reached k g f = go (cases_Bool (reached k))
      where
        go : (reached k ≡ true) ⊎ (reached k ≡ false) → reached k ≡ false
        go (inl yes_reached) = absurd (true≢false (sym (inside k yes_reached) ∙ rw (g, f) refl))
        go (inr no_reached) = no_reached

    -- The parts of one lock, by its tests.
    module _ (k : ℕ) (h : Holding) (is : held_of k v.holdings.held ≡ Some h) where
      own : HoldsNode t (memory_of t words).nodes r.memory.shadow id h
      own = (my_lock k h is).0

      node : h.node ≡ k
      node = (my_lock k h is).1

      mark_test : marked_in v.holdings.held k ≡ is_some h.mark
      mark_test = ap is_marked is

      now_here : now_in v.holdings.held k ≡ now_of h (spelled h.words)
      now_here = ap now_shape is

      live_marked : is_some h.mark ≡ true → r.memory.shadow.live k ≡ true
      live_marked m = (marked_lock laws t (memory_of t words).nodes views r.memory.history r.memory.shadow r.memory.nodes id v at update top group ex k (mark_test ∙ m)).1.1

      fresh_unmarked : is_fresh v.holdings.held v.holdings.out k ≡ true → is_some h.mark ≡ false
      fresh_unmarked f = sym mark_test ∙ (parts k (fresh_loose laws t (memory_of t words).nodes views r.memory.history r.memory.shadow r.memory.nodes id v at update top group ex k f)).1

      no_mark : is_some h.mark ≡ false → h.mark ≡ None
      no_mark = not_some h.mark

      -- the content of the lock afterwards, by the tests of its node
      by_group : group k ≡ true → (changed h).settled ≡ now_of h (spelled h.words)
      by_group g = let e : group h.node ≡ true = ap group node ∙ g in rw e refl

      by_mark : group k ≡ false → is_some h.mark ≡ true → (changed h).settled ≡ h.settled
      by_mark g m = let e : group h.node ≡ false = ap group node ∙ g in rw (e, m) refl

      by_none : group k ≡ false → is_some h.mark ≡ false → (changed h).settled ≡ now_of h (spelled h.words)
      by_none g m = let e : group h.node ≡ false = ap group node ∙ g in rw (e, m) refl

      -- where the words spell the settled content, it stays
      stays : SpellsNode h.words h.settled → (changed h).settled ≡ h.settled
      stays sp = go (cases_Bool (group k)) (cases_Bool (is_some h.mark))
        where
          same_now : now_of h (spelled h.words) ≡ h.settled
          same_now = ap (now_of h) sp

          go : (group k ≡ true) ⊎ (group k ≡ false) → (is_some h.mark ≡ true) ⊎ (is_some h.mark ≡ false) → (changed h).settled ≡ h.settled
          go (inl g) m = by_group g ∙ same_now
          go (inr g) (inl m) = by_mark g m
          go (inr g) (inr m) = by_none g m ∙ same_now

      covered : is_some h.mark ≡ true → group k ≡ false → SpellsNode h.words h.settled
      covered m g = (held_is (λ a. IsSome a.mark → group a.node ≡ false → SpellsNode a.words a.settled) k v.holdings.held h ex.covers is).0 m (ap group node ∙ g)

      -- the tree has the content that the lock has
      agrees : (changed h).settled ≡ now k
      agrees = go (cases_Bool (group k)) (cases_Bool (is_some h.mark)) (cases_Bool (r.memory.shadow.live k))
        where
          was : h.settled ≡ r.memory.shadow.settled k
          was = own.settled ∙ ap r.memory.shadow.settled node

          go : (group k ≡ true) ⊎ (group k ≡ false) → (is_some h.mark ≡ true) ⊎ (is_some h.mark ≡ false) → (r.memory.shadow.live k ≡ true) ⊎ (r.memory.shadow.live k ≡ false) → (changed h).settled ≡ now k
          go (inl g) m l = by_group g ∙ (sym now_here ∙ sym (new_content k (or_left (group k) (loosely k) g)))
          go (inr g) (inl m) l = by_mark g m ∙ (was ∙ sym (old_content k (rw (g, mark_test ∙ m) (and-false (is_some (held_of k v.holdings.held))))))
          go (inr g) (inr m) (inl l) =
              let sp = own.unmarked (no_mark m) (ap r.memory.shadow.live node ∙ l) in
              stays sp ∙ (was ∙ sym (old_content k (rw (g, mark_test ∙ m, l) (and-false (is_some (held_of k v.holdings.held))))))
          go (inr g) (inr m) (inr l) = by_none g m ∙ (sym now_here ∙ sym (new_content k (or_right (group k) (loosely k) (let there : is_some (held_of k v.holdings.held) ≡ true = ap is_some is in rw (there, mark_test ∙ m, l) refl))))

      -- a node that spells something spells what it then settles to
      pub spells_now : IsSome (spelled h.words) → SpellsNode h.words (changed h).settled
      spells_now some_content = go (spelled h.words) refl some_content (cases_Bool (group k)) (cases_Bool (is_some h.mark))
        where
          go : (o : Option NodeData) → spelled h.words ≡ o → IsSome o → (group k ≡ true) ⊎ (group k ≡ false) → (is_some h.mark ≡ true) ⊎ (is_some h.mark ≡ false) → SpellsNode h.words (changed h).settled
          go None e some_one g m = absurd (true≢false (sym some_one))
          go (Some c) e some_one (inl g) m = e ∙ ap Some (sym (by_group g ∙ ap (now_of h) e))
          go (Some c) e some_one (inr g) (inl m) = covered m g ∙ ap Some (sym (by_mark g m))
          go (Some c) e some_one (inr g) (inr m) = e ∙ ap Some (sym (by_none g m ∙ ap (now_of h) e))

      -- where it is live, and not marked afterwards, it was live and unmarked
      kept_life : reached k ≡ false → group k ≡ false → is_some h.mark ≡ false → alive k ≡ true → r.memory.shadow.live k ≡ true
      kept_life gone g m l = go (cases_Bool (loosely k))
        where
          go : (loosely k ≡ true) ⊎ (loosely k ≡ false) → r.memory.shadow.live k ≡ true
          go (inl e) = absurd (true≢false (sym l ∙ (new_life k (or_right (group k) (loosely k) e) ∙ gone)))
          go (inr e) = sym (old_life k (rw (g, e) refl)) ∙ l

      -- the lock afterwards
      new_lock : HoldsNode t (memory_of t words).nodes shadow' id (changed h)
      new_lock = record {
        within = own.within;
        is_holder = own.is_holder;
        locked = own.locked;
        as_now = own.as_now;
        settled = agrees ∙ ap now (sym node);
        stored = own.stored;
        clean = λ c. let sp = own.clean c in sp ∙ ap Some (sym (stays sp));
        marked = mark_of_it (cases_Bool (reached k)) (cases_Bool (group k));
        unmarked = λ e l. no_mark_of_it (cases_Bool (reached k)) (cases_Bool (group k)) (cases_Bool (is_some h.mark)) e (sym (ap alive node) ∙ l);
      }
        where
          frame_case : (reached k ≡ true) → (changed h).settled ≡ now_of h (spelled h.words)
          frame_case re = ⊎_elim (λ (g : group k ≡ true). by_group g) (λ (f : is_fresh v.holdings.held v.holdings.out k ≡ true). by_test (cases_Bool (group k)) (fresh_unmarked f)) (or_cases (group k) (is_fresh v.holdings.held v.holdings.out k) (inside k re))
            where
              by_test : (group k ≡ true) ⊎ (group k ≡ false) → is_some h.mark ≡ false → (changed h).settled ≡ now_of h (spelled h.words)
              by_test (inl g) m = by_group g
              by_test (inr g) m = by_none g m

          mark_is : (reached k ≡ true) → (changed h).mark ≡ Some (frame_of (now_of h (spelled h.words)))
          mark_is re = let e : reached h.node ≡ true = ap reached node ∙ re in rw e refl

          mark_gone : reached k ≡ false → group k ≡ true → (changed h).mark ≡ None
          mark_gone re g = let e : reached h.node ≡ false = ap reached node ∙ re in let f : group h.node ≡ true = ap group node ∙ g in rw (e, f) refl

          mark_same : reached k ≡ false → group k ≡ false → (changed h).mark ≡ h.mark
          mark_same re g = let e : reached h.node ≡ false = ap reached node ∙ re in let f : group h.node ≡ false = ap group node ∙ g in rw (e, f) refl

          old_mark : group k ≡ false → (o : Option NodeBounds) → h.mark ≡ o → IfSome o (λ f. IsTrue (r.memory.shadow.live h.node) × IsPlaced h.settled f) → IfSome o (λ f. IsTrue (alive h.node) × IsPlaced (changed h).settled f)
          old_mark g None e told = tt
          old_mark g (Some f) e told =
              let m : is_some h.mark ≡ true = ap is_some e in
              let keeps_life : alive k ≡ r.memory.shadow.live k = old_life k (rw (g, mark_test ∙ m) (and-false (is_some (held_of k v.holdings.held)))) in
              (ap alive node ∙ (keeps_life ∙ live_marked m), subst (λ c. IsPlaced c f) (sym (by_mark g m)) told.1)

          mark_of_it : (reached k ≡ true) ⊎ (reached k ≡ false) → (group k ≡ true) ⊎ (group k ≡ false) → IfSome (changed h).mark (λ f. IsTrue (alive h.node) × IsPlaced (changed h).settled f)
          mark_of_it (inl re) g = subst (λ o. IfSome o (λ f. IsTrue (alive h.node) × IsPlaced (changed h).settled f)) (sym (mark_is re))
              (ap alive node ∙ (new_life k (loosen k (inside k re)) ∙ re), subst (λ c. IsPlaced (changed h).settled (frame_of c)) (frame_case re) (refl, refl, refl))
          mark_of_it (inr re) (inl g) = subst (λ o. IfSome o (λ f. IsTrue (alive h.node) × IsPlaced (changed h).settled f)) (sym (mark_gone re g)) tt
          mark_of_it (inr re) (inr g) = subst (λ o. IfSome o (λ f. IsTrue (alive h.node) × IsPlaced (changed h).settled f)) (sym (mark_same re g)) (old_mark g h.mark refl own.marked)

          no_mark_of_it : (reached k ≡ true) ⊎ (reached k ≡ false) → (group k ≡ true) ⊎ (group k ≡ false) → (is_some h.mark ≡ true) ⊎ (is_some h.mark ≡ false) → (changed h).mark ≡ None → alive k ≡ true → SpellsNode h.words (changed h).settled
          no_mark_of_it (inl re) g m e l = absurd (none-some (frame_of (now_of h (spelled h.words))) (sym e ∙ mark_is re))
          no_mark_of_it (inr re) (inl g) m e l = absurd (true≢false (sym l ∙ (new_life k (or_left (group k) (loosely k) g) ∙ re)))
          no_mark_of_it (inr re) (inr g) (inl m) e l = absurd (true≢false (sym m ∙ ap is_some (sym (mark_same re g) ∙ e)))
          no_mark_of_it (inr re) (inr g) (inr m) e l =
              let sp = own.unmarked (no_mark m) (ap r.memory.shadow.live node ∙ kept_life re g m l) in sp ∙ ap Some (sym (stays sp))

    tight : (k : ℕ) → held_of k v.holdings.held ≡ None → either group loosely k ≡ false
    tight = unheld laws t (memory_of t words).nodes views r.memory.history r.memory.shadow r.memory.nodes id v at update top group ex

    -- where a sight stands, its node wasn't stored in, so it keeps its content, and neither enters nor leaves
    module _ (k : ℕ) (h : Holding) (is : held_of k v.holdings.held ≡ Some h) (clean : h.stored ≡ false) where
      clean_content : now k ≡ r.memory.shadow.settled k
      clean_content = let l = my_lock k h is in sym (agrees k h is) ∙ (stays k h is (l.0.clean clean) ∙ (l.0.settled ∙ ap r.memory.shadow.settled l.1))

      clean_life : alive k ≡ r.memory.shadow.live k
      clean_life = go (cases_Bool (group k)) (cases_Bool (is_fresh v.holdings.held v.holdings.out k)) (cases_Bool (reached k)) (cases_Bool (loosely k))
        where
          go : (group k ≡ true) ⊎ (group k ≡ false) → (is_fresh v.holdings.held v.holdings.out k ≡ true) ⊎ (is_fresh v.holdings.held v.holdings.out k ≡ false) → (reached k ≡ true) ⊎ (reached k ≡ false) → (loosely k ≡ true) ⊎ (loosely k ≡ false) → alive k ≡ r.memory.shadow.live k
          go (inl g) f (inl re) l = new_life k (or_left (group k) (loosely k) g) ∙ (re ∙ sym (group_lock laws t (memory_of t words).nodes views r.memory.history r.memory.shadow r.memory.nodes id v at update top group ex k g).1.1)
          go (inl g) f (inr gone) l =
              let node_is = (my_lock k h is).1 in
              absurd (true≢false (sym ((held_is (λ a. IsTrue (group a.node) → reached a.node ≡ false → a.stored ≡ true) k v.holdings.held h ex.leaves is).0 (ap group node_is ∙ g) (ap reached node_is ∙ gone)) ∙ clean))
          go (inr g) (inl f) (inl re) l =
              let node_is = (my_lock k h is).1 in
              absurd (true≢false (sym ((held_is (λ a. IsTrue (is_fresh v.holdings.held v.holdings.out a.node) → IsTrue (reached a.node) → a.stored ≡ true) k v.holdings.held h ex.enters is).0 (ap (is_fresh v.holdings.held v.holdings.out) node_is ∙ f) (ap reached node_is ∙ re)) ∙ clean))
          go (inr g) (inl f) (inr gone) l = new_life k (loosen k (or_right (group k) (is_fresh v.holdings.held v.holdings.out k) f)) ∙ (gone ∙ sym (fresh_out laws t (memory_of t words).nodes views r.memory.history r.memory.shadow r.memory.nodes id v at update top group ex k f).0)
          go (inr g) (inr f) re (inl l) = new_life k (or_right (group k) (loosely k) l) ∙ (not_reached k g f ∙ sym (parts k l).2)
          go (inr g) (inr f) re (inr l) = old_life k (rw (g, l) refl)

    pub exchanged : (history' : List Update) → ((m : Member) → HasEntry now alive m ↔ Contains (state_after (start t) history').registered m) → OnSettling t id v caller words views r at now alive (after_exchange v top group).holdings history'
    exchanged history' entries = record {
      lawful = lawful_after laws t (memory_of t words).nodes views r.memory.history r.memory.shadow r.memory.nodes id v at update top group ex;
      entries = entries;
      balance = balance laws t (memory_of t words).nodes views r.memory.history r.memory.shadow r.memory.nodes id v at update top group ex (r.memory.nodes.holdings id v at).once;
      mine = (let h = r.memory.nodes.holdings id v at in record {
        each = mapped_all changed (λ _. refl) (HoldsNode t (memory_of t words).nodes shadow' id) v.holdings.held (all_map (λ a. held_of a.node v.holdings.held ≡ Some a) (λ a. HoldsNode t (memory_of t words).nodes shadow' id (changed a)) (λ a is. new_lock a.node a is) v.holdings.held (all_found v.holdings.held h.once));
        once = λ k. (let same = mapped_once changed (λ _. refl) k v.holdings.held in let b = h.once k in omega (arith, same, b));
        few_out = ex.room;
      });
      kept = λ k h. mapped_kept changed (λ _. refl) k v.holdings.held h;
      unheld = λ k none_held. (old_content k (tight k none_held), old_life k (tight k none_held));
      clean = λ k h is c. (clean_content k h is c, clean_life k h is c);
    }

  -- what isn't marked settles freely
  module _ (agreement : AgreementLaw) where
    abbrev free_now : Contents
    free_now k = if is_some (held_of k v.holdings.held) && not (marked_in v.holdings.held k) then now_in v.holdings.held k else r.memory.shadow.settled k

    abbrev freed : Holding → Holding
    freed = exchange nothing_reached nothing_reached

    abbrev free_holdings : Holdings
    free_holdings = (settle_free v).holdings

    abbrev free_shadow : Shadow
    free_shadow = record r.memory.shadow { settled = free_now }

    module _ (k : ℕ) (h : Holding) (is : held_of k v.holdings.held ≡ Some h) where
      mine_k : HoldsNode t (memory_of t words).nodes r.memory.shadow id h × (h.node ≡ k)
      mine_k = mine_of k h is

      mark_is : marked_in v.holdings.held k ≡ is_some h.mark
      mark_is = ap is_marked is

      now_marked : is_some h.mark ≡ true → free_now k ≡ r.memory.shadow.settled k
      now_marked m = rw (is, m) refl

      now_free : is_some h.mark ≡ false → free_now k ≡ now_of h (spelled h.words)
      now_free m = rw (is, m) refl

      freed_marked : is_some h.mark ≡ true → (freed h).settled ≡ h.settled
      freed_marked m = rw m refl

      freed_free : is_some h.mark ≡ false → (freed h).settled ≡ now_of h (spelled h.words)
      freed_free m = rw m refl

      was_settled : h.settled ≡ r.memory.shadow.settled k
      was_settled = mine_k.0.settled ∙ ap r.memory.shadow.settled mine_k.1

      freed_is : (freed h).settled ≡ free_now k
      freed_is = ⊎_elim (λ (m : is_some h.mark ≡ true). freed_marked m ∙ (was_settled ∙ sym (now_marked m))) (λ (m : is_some h.mark ≡ false). freed_free m ∙ sym (now_free m)) (cases_Bool (is_some h.mark))

      freed_stays : SpellsNode h.words h.settled → (freed h).settled ≡ h.settled
      freed_stays sp = ⊎_elim (λ (m : is_some h.mark ≡ true). freed_marked m) (λ (m : is_some h.mark ≡ false). freed_free m ∙ ap (now_of h) sp) (cases_Bool (is_some h.mark))

      now_stays : SpellsNode h.words h.settled → free_now k ≡ r.memory.shadow.settled k
      now_stays sp = sym freed_is ∙ (freed_stays sp ∙ was_settled)

      unmarked_none : is_some h.mark ≡ false → h.mark ≡ None
      unmarked_none = not_some h.mark

      free_lock : HoldsNode t (memory_of t words).nodes (free_shadow) id (freed h)
      free_lock = record {
        within = mine_k.0.within;
        is_holder = mine_k.0.is_holder;
        locked = mine_k.0.locked;
        as_now = mine_k.0.as_now;
        settled = freed_is ∙ ap free_now (sym mine_k.1);
        stored = mine_k.0.stored;
        clean = λ c. (let sp = mine_k.0.clean c in sp ∙ ap Some (sym (freed_stays sp)));
        marked = still h.mark refl mine_k.0.marked;
        unmarked = λ e l. (let sp = mine_k.0.unmarked e l in sp ∙ ap Some (sym (freed_stays sp)));
      }
        where
          still : (o : Option NodeBounds) → h.mark ≡ o → IfSome o (λ f. IsTrue (r.memory.shadow.live h.node) × IsPlaced h.settled f) → IfSome o (λ f. IsTrue (r.memory.shadow.live h.node) × IsPlaced (freed h).settled f)
          still None e told = tt
          still (Some f) e told = (told.0, subst (λ c. IsPlaced c f) (sym (freed_marked (ap is_some e))) told.1)

    free_unheld : (k : ℕ) → held_of k v.holdings.held ≡ None → free_now k ≡ r.memory.shadow.settled k
    free_unheld k e = rw e refl

    -- the live nodes keep their contents
    free_live : (k : ℕ) → IsTrue (r.memory.shadow.live k) → free_now k ≡ r.memory.shadow.settled k
    free_live k alive = go (held_of k v.holdings.held) refl
      where
        go : (o : Option Holding) → held_of k v.holdings.held ≡ o → free_now k ≡ r.memory.shadow.settled k
        go None e = free_unheld k e
        go (Some h) e = ⊎_elim (λ (m : is_some h.mark ≡ true). now_marked k h e m)
            (λ (m : is_some h.mark ≡ false). now_stays k h e ((mine_of k h e).0.unmarked (unmarked_none k h e m) (ap r.memory.shadow.live (mine_of k h e).1 ∙ alive))) (cases_Bool (is_some h.mark))

    pub freely : TableInvariant t words (set views id (settle_free v))
    freely = settled_table t id v caller words views r at free_now r.memory.shadow.live free_holdings (record {
      lawful = agreement r.memory.shadow.settled free_now r.memory.shadow.live r.memory.nodes.lawful free_live;
      entries = λ m. (
        (λ h. (r.memory.nodes.entries m).0 (h.0, (h.1.0, subst (λ c. Contains (entries_of c) m) (free_live h.0 h.1.0) h.1.1))),
        (λ c. let h = (r.memory.nodes.entries m).1 c in (h.0, (h.1.0, subst (λ c. Contains (entries_of c) m) (sym (free_live h.0 h.1.0)) h.1.1))),
      );
      balance = λ k. refl;
      mine = (let h = r.memory.nodes.holdings id v at in record {
        each = mapped_all freed (λ _. refl) (HoldsNode t (memory_of t words).nodes (free_shadow) id) v.holdings.held
            (all_map (λ a. held_of a.node v.holdings.held ≡ Some a) (λ a. HoldsNode t (memory_of t words).nodes (free_shadow) id (freed a)) (λ a is. free_lock a.node a is) v.holdings.held (all_found v.holdings.held h.once));
        once = λ k. (let same = mapped_once freed (λ _. refl) k v.holdings.held in let b = h.once k in omega (arith, same, b));
        few_out = h.few_out;
      });
      kept = λ k h. mapped_kept freed (λ _. refl) k v.holdings.held h;
      unheld = λ k none_held. (free_unheld k none_held, refl);
      clean = λ k h is c. (now_stays k h is ((mine_of k h is).0.clean c), refl);
    })

  -- what the caller holds settles
  pub settles : ChangeLaws → AgreementLaw → DecidedLaw → TableInvariant t words (set views id (settle None v))
  settles laws agreement decided = go (is_lawful v None) refl
    where
      go : (b : Bool) → is_lawful v None ≡ b → TableInvariant t words (set views id (if b then after_exchange v (top_of v None) (is_among (group_of v None)) else settle_free v))
      go true is =
          let top : ℕ = top_of v None in
          let group : ℕ → Bool = is_among (group_of v None) in
          let ex = (exchange_decides decided v None).0 is in
          let kept = entries_after laws t (memory_of t words).nodes views r.memory.history r.memory.shadow r.memory.nodes id v at None top group ex in
          settled_table t id v caller words views r at (now laws None top group ex) (alive laws None top group ex) (after_exchange v top group).holdings
          (exchanged laws None top group ex r.memory.history (λ m. let e = kept m in let p = r.memory.nodes.entries m in ((λ h. p.0 (e.0 h)), (λ c. e.1 (p.1 c)))))
      go false is = freely agreement
