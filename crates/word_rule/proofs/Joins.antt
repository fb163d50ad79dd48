-- Callers and notes that come and go keep the rule.
use Rattle.std.proofs.Common.{◌≡◌, ◌≢◌, ℕ, ◌+◌, ◌-◌, ◌*◌, ◌<◌, ◌≤◌, List, [], ◌∷◌, ◌++◌, length, set, sym, refl, ap, ◌∙◌, subst, ⊎_elim, arith, append-nil, append_assoc, nat_lt, if◌then◌else◌, lt_of_not-le, le_of_lt, Option, Some, None, false, true, true≢false, max, IfSome}
use Rattle.std.specs.List.{AllByRecursion, count_by}
use Rattle.std.proofs.lemmas.List.Sums.{sum_by-cons, sum_by-append}
use Rattle.word_rule.specs.declared.log.ReceiptList.{ReceiptList}
use Rattle.word_rule.specs.declared.log.Role.TheVariants as role
use Rattle.word_rule.specs.Places.{CALL_CREDIT}
use mathlib.Core.Option.{some, some-injective}
use mathlib.Core.List.{IsPrefix}
use native.Mathlib.Decide.{dec_le}
use Rattle.std.proofs.lemmas.Option.{none-some}
use borrow.Author.Tests.{lt-ltb, le-ltb}
use lib.ListN.{get_elem?}
use Rattle.atomic_table.specs.Table.{State, Splits, Joins}
use Rattle.atomic_table.proofs.Lists.{at_set, set_here, set_else, at_longer}
use Rattle.reg_model.specs.Receipt.{moment, AllHold}
use Rattle.reg_model.specs.declared.answer.Update.{Update}
use Rattle.reg_model.specs.declared.answer.Receipt.{Receipt}
use Rattle.reg_model.proofs.Receipts.{holds_on}
use Rattle.word_rule.specs.declared.log.Role.{Role}
use Rattle.word_rule.specs.declared.log.Budget.{Budget}
use Rattle.word_rule.specs.declared.log.Receipts.{Receipts}
use Rattle.word_rule.specs.declared.log.Log.{Log}
use Rattle.word_rule.specs.declared.log.Terms.{Terms}
use Rattle.word_rule.specs.Shares.{after_fork, joined_lineage, part_of}
use Rattle.word_rule.specs.Logs.{is_nameless, weight, turns, child_log, after_split, split_off, after_note, note_of, after_join, after_learn, spent_log, longer, shorter, budget_given, own_list}
use Rattle.word_rule.specs.Callers.{total, CallersHold, IsIdle, IsAlone, LogHolds, LineagesHold, AtLoader, LoaderLock, IsRecord, ReceiptsHold, dones, dones_of_all, dones_in, start}
use Rattle.reg_model.specs.Numbers.{has_number}
use Rattle.word_rule.specs.CallerInvariant.{IsNote}
use Rattle.word_rule.proofs.CallersFrame.{none_before}
use Rattle.word_rule.proofs.Facts.{total_set, total_snoc, total_set_two, after_step, within, decided, behind}
use Rattle.word_rule.proofs.Shares.{part_less, part_some, part_within}
use Rattle.word_rule.specs.SharedWords.{SharedWords, memory_of}
use Rattle.word_rule.specs.Nodes.{Shadow}
use Rattle.word_rule.specs.Copies.{CopySightHolds}
use Rattle.word_rule.specs.Observations.{SightHolds, WasFull, ObservationsHold}
use Rattle.word_rule.specs.TableInvariant.{TableInvariant, IsStill}
use Rattle.word_rule.proofs.Lineages.{none_alone, not_gone}
use Rattle.word_rule.proofs.SeatNodes.{nodes_fork, nodes_join}
use Rattle.word_rule.proofs.ObservationsFrame.{no_more, longer_length, observations_over, observations_same}
use Rattle.word_rule.proofs.Frames.{still_after_turn}

-- a beginning of a beginning
pub prefix_both : (xs ys zs : List Update) → IsPrefix xs ys → IsPrefix ys zs → IsPrefix xs zs
prefix_both xs ys zs p q = (p.0 ++ q.0, sym (append_assoc xs p.0 q.0) ∙ (ap (λ k. k ++ q.0) p.1 ∙ q.1))

-- receipts that hold go on to hold while the history grows and callers come
pub holds_later : (t : Terms) (past more : List Update) (callers later since : ℕ) (rs : List Receipt) → callers ≤ later → AllHold (start t) past t.nodes callers since rs → AllHold (start t) (past ++ more) t.nodes later since rs
holds_later t past more callers later since [] grown h = tt
holds_later t past more callers later since (r ∷ rs) grown h = (holds_on (start t) past more t.nodes callers later since r grown h.0, holds_later t past more callers later (max since (moment r)) rs grown h.1)

pub record_later : (t : Terms) (past past' : List Update) (callers later : ℕ) → IsPrefix past past' → callers ≤ later → (rs : ReceiptList) → IsRecord t past callers rs → IsRecord t past' later rs
record_later t past past' callers later pre grown rs h = (subst (λ p. AllHold (start t) p t.nodes later rs.since rs.list) pre.1 (holds_later t past pre.0 callers later rs.since rs.list grown h.0), h.1)

pub records_later : (t : Terms) (past past' : List Update) (callers later : ℕ) → IsPrefix past past' → callers ≤ later → (lists : List ReceiptList) → AllByRecursion (IsRecord t past callers) lists → AllByRecursion (IsRecord t past' later) lists
records_later t past past' callers later pre grown [] h = tt
records_later t past past' callers later pre grown (rs ∷ lists) h = (record_later t past past' callers later pre grown rs h.0, records_later t past past' callers later pre grown lists h.1)

own_prefix : (past : List Update) → IsPrefix past past
own_prefix past = ([], append-nil past)

receipts_later : (t : Terms) (past past' : List Update) (callers later : ℕ) → IsPrefix past past' → callers ≤ later → (rs : Receipts) → ReceiptsHold t past callers rs → ReceiptsHold t past' later rs
receipts_later t past past' callers later pre grown rs h = record {
  since = (let low = h.since in let len = longer_length past past' pre in omega (arith, low, len));
  own = record_later t past past' callers later pre grown (own_list rs) h.own;
  joined = records_later t past past' callers later pre grown rs.joined h.joined;
  heard = prefix_both rs.heard past past' h.heard pre;
}

-- more callers were made
pub log_later : (t : Terms) (history : List Update) (callers later : ℕ) (v : Log) → callers ≤ later → LogHolds t history callers v → LogHolds t history later v
log_later t history callers later v grown h = record {
  terms = h.terms;
  begins = h.begins;
  receipts = receipts_later t v.past v.past callers later (own_prefix v.past) grown v.receipts h.receipts;
  idle = h.idle;
}

-- What stays of one that forks off another: all but its budget, its count of callers and its share.
pub record Forks (v w : Log) : Type 0 where
  pub terms : w.terms ≡ v.terms
  pub role : w.role ≡ v.role
  pub past : w.past ≡ v.past
  pub receipts : w.receipts ≡ v.receipts
  pub loader : w.loader ≡ v.loader
  pub lineage : w.lineage ≡ after_fork v.lineage
  pub enough : 2 ≤ v.lineage.share

module _ (t : Terms) (m : SharedWords) (views : List Log) (history : List Update) (r : CallersHold t m views history) (id : ℕ) (v w : Log) (role : Role) (budget : Budget) (at : get_elem? views id ≡ some v) (stands : is_nameless v.role ≡ false) (lives : is_nameless role ≡ false) (forks : Forks v w) (idle : weight w.role ≡ 0 → IsIdle w) where
  abbrev child : Log
  child = child_log role budget v

  abbrev both : List Log
  both = set views id w ++ child ∷ []

  -- a number that the one that makes keeps, and that its child has none of
  sums : (f : Log → ℕ) → f w + f child ≡ f v → total f both ≡ total f views
  sums f e = let s = total_set f views id v w at in let n = total_snoc f (set views id w) child in omega (arith, s, n, e)

  pub lineages_fork : LineagesHold both
  lineages_fork = let kept : w.lineage.share ≡ v.lineage.share - part_of v.lineage.share = ap (λ k. k.share) forks.lineage in record {
    whole = (let s = sums (λ u. u.lineage.share) (let p = part_within v.lineage.share in omega (arith, kept, p)) in let o = r.lineages.whole in omega (arith, s, o));
    named = behind (λ _ u. is_nameless u.role ≡ false → 0 < u.lineage.share) (set views id w) child
        (after_step (λ _ u. is_nameless u.role ≡ false → 0 < u.lineage.share) views id w (λ _. let l = part_less v.lineage.share forks.enough in omega (arith, kept, l)) (λ j u _ e. r.lineages.named j u e)) (λ _ _. part_some v.lineage.share forks.enough);
    nameless = behind (λ _ u. is_nameless u.role ≡ true → ((n : ℕ) → dones_in n u ≡ 0) × (u.made ≡ 0)) (set views id w) child
        (after_step (λ _ u. is_nameless u.role ≡ true → ((n : ℕ) → dones_in n u ≡ 0) × (u.made ≡ 0)) views id w (λ s. absurd (true≢false (sym s ∙ (ap is_nameless forks.role ∙ stands)))) (λ j u _ e. r.lineages.nameless j u e)) (λ _ s. absurd (true≢false (sym s ∙ lives)));
  }

  loader_fork : (holder : Option ℕ) → LoaderLock m.loader views holder → LoaderLock m.loader both holder
  loader_fork None h = h
  loader_fork (Some j) h = ⊎_elim
      (λ (is : j ≡ id). (w, h.1, (at_longer (set views id w) (child ∷ []) j w (subst (λ k. get_elem? (set views id w) k ≡ some w) (sym is) (set_here views id w (within views id v at))), forks.loader ∙ (ap (λ u. u.loader) (some-injective v h.0 (sym at ∙ (ap (get_elem? views) (sym is) ∙ h.2.0))) ∙ h.2.1))))
      (λ (is : j ≢ id). (h.0, h.1, (at_longer (set views id w) (child ∷ []) j h.0 (set_else views id j w is ∙ h.2.0), h.2.1))) (decided j id)

  -- no fewer callers were made than before
  more_made : w.made ≡ weight role + v.made → total (λ u. u.made) views + 1 ≤ total (λ u. u.made) both + 1
  more_made made = let c = total_set (λ u. u.made) views id v w at in let d = total_snoc (λ u. u.made) (set views id w) child in omega (arith, c, d, made)

  pub callers_fork : w.made ≡ weight role + v.made → w.budget.allowance + budget.allowance ≡ v.budget.allowance → w.budget.credit + budget.credit ≡ v.budget.credit → CallersHold t m both history
  callers_fork made allowed credited = record {
    holder = r.holder;
    of_history = r.of_history;
    room = (let s = sums (λ u. u.budget.allowance) allowed in let o = r.room in omega (arith, s, o));
    numbers = λ n. sums (dones_in n) (let e : dones_in n w ≡ dones_in n v = ap (dones n) forks.receipts in omega (arith, e)) ∙ r.numbers n;
    each = behind (λ _ u. LogHolds t history (total (λ y. y.made) both + 1) u) (set views id w) child
        (after_step (λ _ u. LogHolds t history (total (λ y. y.made) both + 1) u) views id w ((let h = log_later t history _ (total (λ y. y.made) both + 1) v (more_made made) (r.each id v at) in record {
          terms = λ s. forks.terms ∙ h.terms (not_gone v.role stands);
          begins = subst (λ p. IsPrefix p history) (sym forks.past) h.begins;
          receipts = subst (λ p. ReceiptsHold t p (total (λ y. y.made) both + 1) w.receipts) (sym forks.past) (subst (ReceiptsHold t v.past (total (λ y. y.made) both + 1)) (sym forks.receipts) h.receipts);
          idle = idle;
        })) (λ j u _ e. log_later t history _ (total (λ y. y.made) both + 1) u (more_made made) (r.each j u e)))
        (λ _. record { terms = λ _. (r.each id v at).terms (not_gone v.role stands); begins = (r.each id v at).begins; receipts = record { since = omega arith; own = (tt, tt); joined = tt; heard = (v.past, refl) }; idle = λ _. record { held = refl; out = refl; loader = refl } });
    loader = loader_fork r.holder r.loader;
    at_loader = behind (λ j u. AtLoader m r.holder j u.loader) (set views id w) child
        (after_step (λ j u. AtLoader m r.holder j u.loader) views id w (subst (AtLoader m r.holder id) (sym forks.loader) (r.at_loader id v at)) (λ j u _ e. r.at_loader j u e)) (λ _. tt);
    spare_copy = λ clean. r.spare_copy (none_before views id v w at (subst (λ o. IfSome o (λ h. h.stored ≡ false)) forks.loader) (λ j u e. clean j u (at_longer (set views id w) (child ∷ []) j u e)));
    weights = (let a = total_set (λ u. weight u.role) views id v w at in let b = total_snoc (λ u. weight u.role) (set views id w) child in let c = total_set (λ u. u.made) views id v w at in let d = total_snoc (λ u. u.made) (set views id w) child in let e : weight w.role ≡ weight v.role = ap weight forks.role in let o = r.weights in omega (arith, a, b, c, d, e, made, o));
    counted = (let s = sums (λ u. u.budget.credit) credited in let o = r.counted in omega (arith, s, o));
    lineages = lineages_fork;
  }

abbrev first_or : {A : Type 0} → A → List A → A
first_or d [] = d
first_or d (x ∷ xs) = x

abbrev rest_of : {A : Type 0} → List A → List A
rest_of [] = []
rest_of (x ∷ xs) = xs

-- of two beginnings of one list the shorter begins the longer
begins_longer : (a b r s : List Update) → a ++ r ≡ b ++ s → length a ≤ length b → IsPrefix a b
begins_longer [] b r s e h = (b, refl)
begins_longer (x ∷ a) [] r s e h = absurd (omega (arith, h))
begins_longer (x ∷ a) (y ∷ b) r s e h = let i = begins_longer a b r s (ap rest_of e) (omega (arith, h)) in (i.0, (λ k. ap (first_or x) e k ∷ i.1 k))

pub in_longer : (a b history : List Update) → IsPrefix a history → IsPrefix b history → IsPrefix a (longer a b) × IsPrefix b (longer a b) × IsPrefix (longer a b) history
in_longer a b history p q = go (dec_le (length b) (length a))
  where
    go : Dec (length b ≤ length a) → IsPrefix a (longer a b) × IsPrefix b (longer a b) × IsPrefix (longer a b) history
    go (yes h) = rw (le-ltb (length a) (length b) h) (own_prefix a, begins_longer b a q.0 p.0 (q.1 ∙ sym p.1) h, p)
    go (no n) = rw (lt-ltb (length a) (length b) (lt_of_not-le n)) (begins_longer a b p.0 q.0 (p.1 ∙ sym q.1) (le_of_lt (lt_of_not-le n)), own_prefix b, q)

-- the shorter one begins what both begin
shorter_begins : (a b : List Update) → IsPrefix a (longer a b) → IsPrefix b (longer a b) → IsPrefix (shorter a b) (longer a b)
shorter_begins a b p q = elim (nat_lt (length a) (length b)) as (λ c. IsPrefix (if c then a else b) (longer a b)) [ true ↦ p | false ↦ q ]

-- where the shorter of two begins the longer, both do
pub both_begin : (a b : List Update) → IsPrefix (shorter a b) (longer a b) → IsPrefix a (longer a b) × IsPrefix b (longer a b)
both_begin a b = elim (nat_lt (length a) (length b)) as (λ c. IsPrefix (if c then a else b) (if c then b else a) → IsPrefix a (if c then b else a) × IsPrefix b (if c then b else a)) [
  | true ↦ λ h. (h, own_prefix b)
  | false ↦ λ h. (own_prefix a, h)
]

-- lists of receipts side by side
records_append : (t : Terms) (past : List Update) (callers : ℕ) (xs ys : List ReceiptList) → AllByRecursion (IsRecord t past callers) xs → AllByRecursion (IsRecord t past callers) ys → AllByRecursion (IsRecord t past callers) (xs ++ ys)
records_append t past callers [] ys h i = i
records_append t past callers (x ∷ xs) ys h i = (h.0, records_append t past callers xs ys h.1 i)

dones_append : (n : ℕ) (xs ys : List ReceiptList) → dones_of_all n (xs ++ ys) ≡ dones_of_all n xs + dones_of_all n ys
dones_append n xs ys = sum_by-append (λ (receipts : ReceiptList). count_by (has_number n) receipts.list) xs ys

-- What is told of one into which another was joined or learnt. `lists` are the lists of receipts that it gained.
pub record Gains (v u b : Log) (lists : List ReceiptList) : Type 0 where
  pub terms : b.terms ≡ v.terms
  pub role : b.role ≡ v.role
  pub past : b.past ≡ longer v.past u.past
  pub own : own_list b.receipts ≡ own_list v.receipts
  pub joined : b.receipts.joined ≡ v.receipts.joined ++ lists
  pub heard : b.receipts.heard ≡ shorter v.past u.past
  pub loader : b.loader ≡ v.loader
  pub allowance : b.budget.allowance ≡ v.budget.allowance + u.budget.allowance
  pub credit : b.budget.credit ≡ v.budget.credit + u.budget.credit
  pub made : b.made ≡ v.made + u.made
  pub lineage : b.lineage ≡ joined_lineage v.lineage u.lineage
  pub counts : (n : ℕ) → dones_of_all n lists ≡ dones_in n u

module _ (t : Terms) (m : SharedWords) (views : List Log) (history : List Update) (r : CallersHold t m views history) (id other : ℕ) (v u b : Log) (lists : List ReceiptList) (at : get_elem? views id ≡ some v) (ne : other ≢ id)
    (there : get_elem? (set views id b) other ≡ some u) (stands : is_nameless v.role ≡ false) (stood : is_nameless u.role ≡ false) (free : u.loader ≡ None) (gains : Gains v u b lists) (idle : weight b.role ≡ 0 → IsIdle b) where
  abbrev one : List Log
  one = set views id b

  abbrev after : List Log
  after = set one other spent_log

  was_there : get_elem? views other ≡ some u
  was_there = sym (set_else views id other b ne) ∙ there

  -- a number that is added up
  sums_join : (f : Log → ℕ) → f b + f spent_log ≡ f v + f u → total f after ≡ total f views
  sums_join f e = let s = total_set_two f views id other v b u spent_log at there in omega (arith, s, e)

  made_is : total (λ x. x.made) after ≡ total (λ x. x.made) views
  made_is = sums_join (λ x. x.made) (let m = gains.made in omega (arith, m))

  everywhere : (P : ℕ → Log → Type 0) → P other spent_log → P id b → ((j : ℕ) (x : Log) → j ≢ other → j ≢ id → get_elem? views j ≡ some x → P j x) → (j : ℕ) (x : Log) → get_elem? after j ≡ some x → P j x
  everywhere P gone mine rest = after_step P one other spent_log gone
      (λ j x far e. ⊎_elim (λ (h : (j ≡ id) × (b ≡ x)). subst (λ (z : ℕ × Log). P z.0 z.1) (λ i. (sym h.0 i, h.1 i)) mine) (λ (h : (j ≢ id) × (get_elem? views j ≡ some x)). rest j x far h.0 h.1) (at_set views id j b x e))

  lineages_join : LineagesHold after
  lineages_join = let share : b.lineage.share ≡ v.lineage.share + u.lineage.share = ap (λ k. k.share) gains.lineage in record {
    whole = (let s = sums_join (λ x. x.lineage.share) (omega (arith, share)) in let o = r.lineages.whole in omega (arith, s, o));
    named = everywhere (λ _ x. is_nameless x.role ≡ false → 0 < x.lineage.share) (λ s. absurd (true≢false s)) (λ _. let h = r.lineages.named id v at stands in omega (arith, share, h)) (λ j x _ _ e. r.lineages.named j x e);
    nameless = everywhere (λ _ x. is_nameless x.role ≡ true → ((n : ℕ) → dones_in n x ≡ 0) × (x.made ≡ 0)) (λ _. ((λ n. refl), refl)) (λ s. absurd (true≢false (sym s ∙ (ap is_nameless gains.role ∙ stands)))) (λ j x _ _ e. r.lineages.nameless j x e);
  }

  loader_join : (holder : Option ℕ) → LoaderLock m.loader views holder → LoaderLock m.loader after holder
  loader_join None h = h
  loader_join (Some j) h = ⊎_elim
      (λ (is : j ≡ id). (
        b,
        h.1,
        (
          set_else one other j spent_log (λ e. ne (sym e ∙ is)) ∙ subst (λ k. get_elem? one k ≡ some b) (sym is) (set_here views id b (within views id v at)),
          gains.loader ∙ (ap (λ x. x.loader) (some-injective v h.0 (sym at ∙ (ap (get_elem? views) (sym is) ∙ h.2.0))) ∙ h.2.1),
        ),
      ))
      (λ (far : j ≢ id). (h.0, h.1, (set_else one other j spent_log (λ is. none-some h.1 (sym free ∙ (ap (λ x. x.loader) (some-injective u h.0 (sym was_there ∙ (ap (get_elem? views) (sym is) ∙ h.2.0))) ∙ h.2.1))) ∙ (set_else views id j b far ∙ h.2.0), h.2.1))) (decided j id)

  abbrev count : ℕ
  count = total (λ x. x.made) after + 1

  as_many : total (λ x. x.made) views + 1 ≤ count
  as_many = let made = made_is in omega (arith, made)

  lengthened : IsPrefix v.past (longer v.past u.past) × IsPrefix u.past (longer v.past u.past) × IsPrefix (longer v.past u.past) history
  lengthened = in_longer v.past u.past history (r.each id v at).begins (r.each other u was_there).begins

  pub callers_join : (AllByRecursion (IsRecord t (longer v.past u.past) count) (own_list u.receipts ∷ u.receipts.joined) → AllByRecursion (IsRecord t (longer v.past u.past) count) lists) → CallersHold t m after history
  callers_join gained = record {
    holder = r.holder;
    of_history = r.of_history;
    room = (let s = sums_join (λ x. x.budget.allowance) (let a = gains.allowance in omega (arith, a)) in let o = r.room in omega (arith, s, o));
    numbers = λ n. sums_join (dones_in n) (let e : dones_in n b ≡ dones n record { since = v.receipts.since; own = v.receipts.own; joined = v.receipts.joined ++ lists; heard = b.receipts.heard } = (λ i. dones n record { since = (gains.own i).since; own = (gains.own i).list; joined = gains.joined i; heard = b.receipts.heard }) in let a = dones_append n v.receipts.joined lists in let c = gains.counts n in omega (arith, e, a, c)) ∙ r.numbers n;
    each = everywhere (λ _ x. LogHolds t history count x)
        (record { terms = λ s. absurd (true≢false s); begins = (history, refl); receipts = record { since = omega arith; own = (tt, tt); joined = tt; heard = ([], refl) }; idle = λ _. record { held = refl; out = refl; loader = refl } })
        (let h = r.each id v at in let i = r.each other u was_there in record {
          terms = λ s. gains.terms ∙ h.terms (not_gone v.role stands);
          begins = subst (λ p. IsPrefix p history) (sym gains.past) lengthened.2;
          receipts = subst (λ p. ReceiptsHold t p count b.receipts) (sym gains.past) record {
            since = (let same = ap (λ (c : ReceiptList). c.since) gains.own in let low = h.receipts.since in let len = longer_length v.past (longer v.past u.past) lengthened.0 in omega (arith, same, low, len));
            own = subst (IsRecord t (longer v.past u.past) count) (sym gains.own) (record_later t v.past (longer v.past u.past) _ count lengthened.0 as_many (own_list v.receipts) h.receipts.own);
            joined = subst (AllByRecursion (IsRecord t (longer v.past u.past) count)) (sym gains.joined)
                (records_append t (longer v.past u.past) count v.receipts.joined lists (records_later t v.past (longer v.past u.past) _ count lengthened.0 as_many v.receipts.joined h.receipts.joined)
                (gained (record_later t u.past (longer v.past u.past) _ count lengthened.1 as_many (own_list u.receipts) i.receipts.own, records_later t u.past (longer v.past u.past) _ count lengthened.1 as_many u.receipts.joined i.receipts.joined)));
            heard = subst (λ p. IsPrefix p (longer v.past u.past)) (sym gains.heard) (shorter_begins v.past u.past lengthened.0 lengthened.1);
          };
          idle = idle;
        })
        (λ j x _ _ e. log_later t history _ count x as_many (r.each j x e));
    loader = loader_join r.holder r.loader;
    at_loader = everywhere (λ j x. AtLoader m r.holder j x.loader) tt (subst (AtLoader m r.holder id) (sym gains.loader) (r.at_loader id v at)) (λ j x _ _ e. r.at_loader j x e);
    spare_copy = λ clean. r.spare_copy (none_before views id v b at (subst (λ o. IfSome o (λ h. h.stored ≡ false)) gains.loader) (none_before one other u spent_log there (λ _. subst (λ o. IfSome o (λ h. h.stored ≡ false)) (sym free) tt) clean));
    weights = (let s = total_set_two (λ x. weight x.role) views id other v b u spent_log at there in let e : weight b.role ≡ weight v.role = ap weight gains.role in let made = made_is in let o = r.weights in omega (arith, s, e, made, o));
    counted = (let s = sums_join (λ x. x.budget.credit) (let a = gains.credit in omega (arith, a)) in let o = r.counted in omega (arith, s, o));
    lineages = lineages_join;
  }

-- What a step that only meets others leaves of its log: its turns grow.
pub record Meets (v w : Log) : Type 0 where
  pub holdings : w.holdings ≡ v.holdings
  pub sights : w.sights ≡ v.sights
  pub own : own_list w.receipts ≡ own_list v.receipts
  pub loads : w.trace.loads ≡ v.trace.loads
  pub turn : turns v.trace < turns w.trace

-- the rest of the invariant, where one comes or goes
module _ (t : Terms) (id : ℕ) (v : Log) (caller : v.role ≡ role.Caller) where
  stands : is_nameless v.role ≡ false
  stands = ap is_nameless caller

  busy : (w : Log) → w.role ≡ v.role → weight w.role ≡ 0 → IsIdle w
  busy w same zero_weight = absurd (let one : weight w.role ≡ 1 = ap weight (same ∙ caller) in omega (arith, zero_weight, one))

  module _ (s : State (Unit {0}) Log) (r : TableInvariant t s.words s.views) (w : Log) (at : get_elem? s.views id ≡ some v) (meets : Meets v w) where
    -- what a log has observed stays where callers are made
    later : (callers : ℕ) → total (λ u. u.made) s.views + 1 ≤ callers → (u : Log) → ObservationsHold t (memory_of t s.words) r.memory.history (total (λ u. u.made) s.views + 1) r.memory.shadow u → ObservationsHold t (memory_of t s.words) r.memory.history callers r.memory.shadow u
    later callers more u o = observations_over t (memory_of t s.words) (memory_of t s.words) r.memory.history r.memory.history (total (λ u. u.made) s.views + 1) callers r.memory.shadow r.memory.shadow (λ _ h. h) (λ _ h. h) (own_prefix r.memory.history) more u o

    mine : (callers : ℕ) → total (λ u. u.made) s.views + 1 ≤ callers → ObservationsHold t (memory_of t s.words) r.memory.history callers r.memory.shadow w
    mine callers more = observations_same t (memory_of t s.words) r.memory.history callers r.memory.shadow v w [] (no_more v w meets.own (let m = meets.turn in omega (arith, m)) meets.loads) meets.sights tt tt (later callers more v (r.memory.observations id v at))

    still : IsStill s.words w
    still = still_after_turn s.words v w meets.turn meets.loads (r.memory.observations id v at).earlier

    others : (j : ℕ) (u : Log) → j ≢ id → get_elem? s.views j ≡ some u → IsAlone u.lineage → IsStill s.words u
    others j u far there alone = absurd (none_alone s.views r.memory.callers.lineages id j v u at stands there far alone)

  -- one that has observed nothing
  fresh : (m : SharedWords) (history : List Update) (callers : ℕ) (shadow : Shadow) (u : Log) → u.sights ≡ record { nodes = []; copies = None } → u.trace.loads ≡ [] → ObservationsHold t m history callers shadow u
  fresh m history callers shadow u sights loads = record {
    sights = subst (λ k. AllByRecursion (SightHolds t m.nodes history shadow) k.nodes) (sym sights) tt;
    copies = subst (λ k. IfSome k.copies (CopySightHolds t m.clock m.copies)) (sym sights) tt;
    full = subst (AllByRecursion (WasFull t history callers (own_list u.receipts))) (sym loads) tt;
    earlier = subst (AllByRecursion (λ l. (l.turns ≤ turns u.trace) × (l.receipts ≤ length u.receipts.own))) (sym loads) tt;
  }

  forked_table : (s : State (Unit {0}) Log) (r : TableInvariant t s.words s.views) (w : Log) (role : Role) (budget : Budget) → is_nameless role ≡ false → get_elem? s.views id ≡ some v → Forks v w → Meets v w → w.made ≡ weight role + v.made
      → w.budget.allowance + budget.allowance ≡ v.budget.allowance → w.budget.credit + budget.credit ≡ v.budget.credit → TableInvariant t s.words (set s.views id w ++ child_log role budget v ∷ [])
  forked_table s r w role budget lives at forks meets made allowed credited =
      let callers : ℕ = total (λ u. u.made) (set s.views id w ++ child_log role budget v ∷ []) + 1 in
      let more : total (λ u. u.made) s.views + 1 ≤ callers = (let a = total_set (λ u. u.made) s.views id v w at in let b = total_snoc (λ u. u.made) (set s.views id w) (child_log role budget v) in omega (arith, a, b, made)) in record {
        wide = r.wide;
        memory = record {
          history = r.memory.history;
          callers = callers_fork t (memory_of t s.words) s.views r.memory.history r.memory.callers id v w role budget at stands lives forks (busy w forks.role) made allowed credited;
          shadow = r.memory.shadow;
          nodes = nodes_fork t (memory_of t s.words).nodes s.views r.memory.history r.memory.shadow id role budget v w at meets.holdings r.memory.nodes;
          active = r.memory.active;
          observations = behind (λ _ u. ObservationsHold t (memory_of t s.words) r.memory.history callers r.memory.shadow u) (set s.views id w) (child_log role budget v)
              (after_step (λ _ u. ObservationsHold t (memory_of t s.words) r.memory.history callers r.memory.shadow u) s.views id w (mine s r w at meets callers more) (λ j u _ there. later s r w at meets callers more u (r.memory.observations j u there)))
              (λ _. fresh (memory_of t s.words) r.memory.history callers r.memory.shadow (child_log role budget v) refl refl);
        };
        alone = behind (λ _ u. IsAlone u.lineage → IsStill s.words u) (set s.views id w) (child_log role budget v)
            (after_step (λ _ u. IsAlone u.lineage → IsStill s.words u) s.views id w (λ _. still s r w at meets) (others s r w at meets)) (λ _ _. tt);
      }

  pub splits : (left give : ℕ) → give ≤ left → left ≤ v.budget.allowance → CALL_CREDIT * left ≤ v.budget.credit
      → 2 ≤ v.lineage.share → Splits (λ (s : State (Unit {0}) Log). TableInvariant t s.words s.views) id v (after_split left give v) (split_off left give v)
  splits left give enough allowed credited rest s r at = forked_table s r (after_split left give v) role.Caller (budget_given left give v.budget) refl at
      (record { terms = refl; role = refl; past = refl; receipts = refl; loader = refl; lineage = refl; enough = rest }) (record { holdings = refl; sights = refl; own = refl; loads = refl; turn = omega arith })
      (omega arith) (omega (arith, enough, allowed)) (let p = part_within (v.budget.credit - CALL_CREDIT * left) in omega (arith, enough, credited, p))

  pub notes : 2 ≤ v.lineage.share → Splits (λ (s : State (Unit {0}) Log). TableInvariant t s.words s.views) id v (after_note v) (note_of v)
  notes rest s r at = forked_table s r (after_note v) role.Note (record { allowance = 0; credit = 0 }) refl at
      (record { terms = refl; role = refl; past = refl; receipts = refl; loader = refl; lineage = refl; enough = rest }) (record { holdings = refl; sights = refl; own = refl; loads = refl; turn = omega arith })
      (omega arith) (omega arith) (omega arith)

  joined_table : (s : State (Unit {0}) Log) (r : TableInvariant t s.words s.views) (other : ℕ) (u b : Log) (lists : List ReceiptList) → get_elem? s.views id ≡ some v → (ne : other ≢ id) → get_elem? (set s.views id b) other ≡ some u
      → is_nameless u.role ≡ false → u.loader ≡ None → u.holdings.held ≡ [] → u.holdings.out ≡ [] → (gains : Gains v u b lists) → Meets v b
      → ((callers : ℕ) → AllByRecursion (IsRecord t (longer v.past u.past) callers) (own_list u.receipts ∷ u.receipts.joined) → AllByRecursion (IsRecord t (longer v.past u.past) callers) lists)
      → TableInvariant t s.words (set (set s.views id b) other spent_log)
  joined_table s r other u b lists at ne there stood free held out gains meets gained =
      let callers : ℕ = total (λ z. z.made) (set (set s.views id b) other spent_log) + 1 in
      let more : total (λ z. z.made) s.views + 1 ≤ callers = (let a = total_set_two (λ z. z.made) s.views id other v b u spent_log at there in let m = gains.made in omega (arith, a, m)) in record {
        wide = r.wide;
        memory = record {
          history = r.memory.history;
          callers = callers_join t (memory_of t s.words) s.views r.memory.history r.memory.callers id other v u b lists at ne there stands stood free gains (busy b gains.role) (gained _);
          shadow = r.memory.shadow;
          nodes = nodes_join t (memory_of t s.words).nodes s.views r.memory.history r.memory.shadow id other v u b at ne there meets.holdings held out r.memory.nodes;
          active = r.memory.active;
          observations = after_step (λ _ z. ObservationsHold t (memory_of t s.words) r.memory.history callers r.memory.shadow z) (set s.views id b) other spent_log (fresh (memory_of t s.words) r.memory.history callers r.memory.shadow spent_log refl refl)
              (λ j x _ e. after_step (λ _ z. ObservationsHold t (memory_of t s.words) r.memory.history callers r.memory.shadow z) s.views id b (mine s r b at meets callers more) (λ k z _ f. later s r b at meets callers more z (r.memory.observations k z f)) j x e);
        };
        alone = after_step (λ _ z. IsAlone z.lineage → IsStill s.words z) (set s.views id b) other spent_log (λ _. tt)
            (λ j x _ e. after_step (λ _ z. IsAlone z.lineage → IsStill s.words z) s.views id b (λ _. still s r b at meets) (others s r b at meets) j x e);
      }

  -- a caller that holds no lock and has no node out is joined into another
  pub joins : (other : ℕ) (u : Log) → is_nameless u.role ≡ false → u.loader ≡ None → u.holdings.held ≡ [] → u.holdings.out ≡ []
      → Joins (λ (s : State (Unit {0}) Log). TableInvariant t s.words s.views) id v other u (after_join v u) spent_log
  joins other u stood free held out s r at ne there = joined_table s r other u (after_join v u) (own_list u.receipts ∷ u.receipts.joined) at ne there stood free held out
      (record {
        terms = refl;
        role = refl;
        past = refl;
        own = refl;
        joined = refl;
        heard = refl;
        loader = refl;
        allowance = refl;
        credit = refl;
        made = refl;
        lineage = refl;
        counts = λ n. sum_by-cons (λ (receipts : ReceiptList). count_by (has_number n) receipts.list) (own_list u.receipts) u.receipts.joined;
      }) (record { holdings = refl; sights = refl; own = refl; loads = refl; turn = omega arith }) (λ c h. h)

  pub learns : (other : ℕ) (u : Log) → IsNote u → Joins (λ (s : State (Unit {0}) Log). TableInvariant t s.words s.views) id v other u (after_learn v u) spent_log
  learns other u note s r at ne there = joined_table s r other u (after_learn v u) [] at ne there (ap is_nameless note.role) note.loader note.held note.out
      (record {
        terms = refl;
        role = refl;
        past = refl;
        own = refl;
        joined = sym (append-nil v.receipts.joined);
        heard = refl;
        loader = refl;
        allowance = (let a = note.allowance in omega (arith, a));
        credit = (let a = note.credit in omega (arith, a));
        made = (let a = note.made in omega (arith, a));
        lineage = refl;
        counts = λ n. let e : dones_in n u ≡ 0 = (λ i. dones n record { since = u.receipts.since; own = note.own i; joined = note.joined i; heard = u.receipts.heard }) in sym e;
      }) (record { holdings = refl; sights = refl; own = refl; loads = refl; turn = omega arith }) (λ c h. tt)
