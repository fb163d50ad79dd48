-- Queries one after another.
use Rattle.std.proofs.Common.{◌≡◌, ℕ, zero, suc, ◌<◌, ◌≤◌, Contains, List, [], ◌∷◌, ◌++◌, length, sym, refl, ap, subst, ◌∙◌, arith, append-nil, append_assoc, Option, Some, None, MatchOption, Ok, Err}
use Rattle.std.specs.List.{AllByRecursion}
use Rattle.std.proofs.lemmas.List.Elements.{Contains-append_left, Contains-append_right}
use mathlib.Core.List.{IsPrefix}
use Rattle.array_publish.specs.Lookup.{LooksUp, after_lookup}
use Rattle.btree_lookup.specs.Loads.{load_events}
use Rattle.btree_lookup.specs.Tries.{TriesTree}
use Rattle.reg_model.specs.Chain.{HoldsAlways}
use Rattle.reg_model.specs.State.{State}
use Rattle.reg_model.specs.Receipt.{AreInOrder, Holds, accepted, moment}
use Rattle.reg_model.specs.declared.answer.Again.{Again}
use Rattle.reg_model.specs.declared.answer.Found.{Found}
use Rattle.reg_model.specs.declared.answer.Half.TheVariants.{Loaded, Registered}
use Rattle.reg_model.specs.declared.answer.Receipt.{Receipt}
use Rattle.reg_model.specs.declared.answer.Receipt.TheVariants.{Query}
use Rattle.reg_model.specs.declared.answer.Update.{Update}
use Rattle.word_rule.specs.CallerData.{CallerData}
use Rattle.word_rule.specs.Callers.{start}
use Rattle.word_rule.specs.Places.{CLOCK}
use Rattle.word_rule.specs.Logs.{load_of}
use Rattle.word_rule.specs.declared.log.LoadEvent.{LoadEvent}
use Rattle.word_rule.specs.declared.log.LoadedWord.{LoadedWord}
use Rattle.word_rule.specs.declared.log.Log.{Log}
use Rattle.word_rule.specs.declared.log.Sights.{Sights}
use Rattle.word_rule.specs.declared.log.Terms.{Terms}
use Rattle.word_rule.proofs.Joins.{prefix_both}
use Rattle.word_rule.proofs.ObservationsFrame.{longer_length}
use Rattle.registry_core.specs.Queries.{IsStamped, Queries}
use Rattle.word_rule.proofs.Each.{all_append, all_map}

-- a log with these loads, this much seen, these sights and these receipts of its own
abbrev looked : List LoadEvent → List Update → Sights → List Receipt → Log → Log
looked loads past sights own v = record v {
  past = past;
  trace = record v.trace { loads = loads };
  sights = sights;
  receipts = record v.receipts { own = own };
}

pub queries_none : (t : Terms) (k : CallerData) → Queries t [] k k
queries_none t k = record {
  past = k.log.past;
  loads = [];
  sights = k.log.sights;
  begins = ([], append-nil k.log.past);
  hold = tt;
  stamped = tt;
  order = tt;
  log = λ i. record k { log = looked (sym (append-nil k.log.trace.loads) i) k.log.past k.log.sights (sym (append-nil k.log.receipts.own) i) k.log };
}

-- ---- stamps along receipts

order_later : (low high : ℕ) (rs : List Receipt) → low ≤ high → AreInOrder high rs → AreInOrder low rs
order_later low high [] l h = tt
order_later low high (r ∷ rs) l h = (go (accepted r) h.0, h.1)
  where
    go : (o : Option Update) → MatchOption o (high ≤ moment r) (λ u. high < moment r) → MatchOption o (low ≤ moment r) (λ u. low < moment r)
    go None h = omega (arith, l, h)
    go (Some u) h = omega (arith, l, h)

order_both : (low high : ℕ) (rs ss : List Receipt) → low ≤ high → AllByRecursion (λ r. moment r ≤ high) rs → AreInOrder low rs → AreInOrder high ss → AreInOrder low (rs ++ ss)
order_both low high [] ss l a h i = order_later low high ss l i
order_both low high (r ∷ rs) ss l a h i = (h.0, order_both (moment r) high rs ss a.0 a.1 h.1 i)

all_within : (start : State) (past : List Update) (rs : List Receipt) → AllByRecursion (HoldsAlways start past) rs → AllByRecursion (λ r. moment r ≤ length past) rs
all_within start past [] h = tt
all_within start past (r ∷ rs) h = ((h.0.always 0 0 0).within, all_within start past rs h.1)

stamped_before : (loads more : List LoadEvent) (rs : List Receipt) → AllByRecursion (IsStamped loads) rs → AllByRecursion (IsStamped (loads ++ more)) rs
stamped_before loads more rs h = all_map (IsStamped loads) (IsStamped (loads ++ more)) (λ r s. (s.0, (Contains-append_left loads more s.0 s.1.0, s.1.1, s.1.2))) rs h

stamped_after : (loads more : List LoadEvent) (rs : List Receipt) → AllByRecursion (IsStamped more) rs → AllByRecursion (IsStamped (loads ++ more)) rs
stamped_after loads more rs h = all_map (IsStamped more) (IsStamped (loads ++ more)) (λ r s. (s.0, (Contains-append_right loads more s.0 s.1.0, s.1.1, s.1.2))) rs h

-- ---- one after another

-- the receipts that were there hold on
queries_along : (t : Terms) (rs ss : List Receipt) (a b c : CallerData) (p : Queries t rs a b) (q : Queries t ss b c) → AllByRecursion (HoldsAlways (start t) q.past) rs → Queries t (rs ++ ss) a c
queries_along t rs ss a b c p q still =
    let seen : b.log.past ≡ p.past = ap (λ (k : CallerData). k.log.past) p.log in
    let begins : IsPrefix p.past q.past = subst (λ z. IsPrefix z q.past) seen q.begins in
    record {
      past = q.past;
      loads = p.loads ++ q.loads;
      sights = q.sights;
      begins = prefix_both a.log.past p.past q.past p.begins begins;
      hold = all_append (HoldsAlways (start t) q.past) rs ss still q.hold;
      stamped = all_append (IsStamped (p.loads ++ q.loads)) rs ss (stamped_before p.loads q.loads rs p.stamped) (stamped_after p.loads q.loads ss q.stamped);
      order = order_both (length a.log.past) (length p.past) rs ss (longer_length a.log.past p.past p.begins) (all_within (start t) p.past rs p.hold) p.order (subst (λ z. AreInOrder (length z) ss) seen q.order);
      log = q.log ∙ (ap (λ (k : CallerData). record k { log = after_lookup q.loads q.past q.sights ss k.log }) p.log
          ∙ (λ i. record a { log = looked (append_assoc a.log.trace.loads p.loads q.loads i) q.past q.sights (append_assoc a.log.receipts.own rs ss i) a.log }));
    }

-- and they do, as receipts stay
module _ (stay : (start : State) (history more : List Update) (nodes callers later since : ℕ) (r : Receipt) → callers ≤ later → Holds start history nodes callers since r → Holds start (history ++ more) nodes later since r) where
  pub always_later : (start : State) (past past' : List Update) → IsPrefix past past' → (rs : List Receipt) → AllByRecursion (HoldsAlways start past) rs → AllByRecursion (HoldsAlways start past') rs
  always_later start past past' p rs h =
      all_map (HoldsAlways start past) (HoldsAlways start past') (λ r a. record { always = λ nodes callers since. subst (λ z. Holds start z nodes callers since r) p.1 (stay start past p.0 nodes callers callers since r (omega arith) (a.always nodes callers since)) }) rs h

  pub queries_both : (t : Terms) (rs ss : List Receipt) (a b c : CallerData) → Queries t rs a b → Queries t ss b c → Queries t (rs ++ ss) a c
  queries_both t rs ss a b c p q = queries_along t rs ss a b c p q (always_later (start t) p.past q.past (subst (λ z. IsPrefix z q.past) (ap (λ (k : CallerData). k.log.past) p.log) q.begins) rs p.hold)

-- the same where none was answered before
pub queries_then : (t : Terms) (ss : List Receipt) (a b c : CallerData) → Queries t [] a b → Queries t ss b c → Queries t ss a c
queries_then t ss a b c p q = queries_along t [] ss a b c p q tt

-- a try that isn't answered
pub queries_again : (t : Terms) (pc : ℕ) (again : Again) (b c : CallerData) → LooksUp t pc b c (Err again) → Queries t [] b c
queries_again t pc again b c l =
    let loads : List LoadEvent = load_of b.log CLOCK l.first ∷ l.between ++ load_of b.log CLOCK l.second ∷ [] in
    record {
      past = l.past;
      loads = loads;
      sights = l.sights;
      begins = l.begins;
      hold = tt;
      stamped = tt;
      order = tt;
      log = l.log ∙ (λ i. record b { log = after_lookup loads l.past l.sights (l.answer.2 i) b.log });
    }

-- the one that is answered
pub queries_answer : (t : Terms) (pc : ℕ) (found : Found) (b c : CallerData) → LooksUp t pc b c (Ok found) → Queries t (Query Loaded pc found ∷ []) b c
queries_answer t pc found b c l =
    let loads : List LoadEvent = load_of b.log CLOCK l.first ∷ l.between ++ load_of b.log CLOCK l.second ∷ [] in
    let last : LoadEvent = load_of b.log CLOCK l.second in
    let n = longer_length b.log.past l.past l.begins in let s = l.seen in let m = l.answer.1 in
    record {
      past = l.past;
      loads = loads;
      sights = l.sights;
      begins = l.begins;
      hold = (
        record {
          always = λ nodes callers since. record {
            within = omega (arith, m, s);
            numbered = tt;
            right = rw l.answer.1 l.answer.2;
            filled = record { ten = tt; most = λ _. tt };
          };
        },
        tt,
      );
      stamped = ((last, (Contains-append_right (load_of b.log CLOCK l.first ∷ l.between) (last ∷ []) last (0, omega arith, refl), refl, sym l.answer.1)), tt);
      order = (omega (arith, n, m, s), tt);
      log = l.log ∙ (λ i. record b { log = after_lookup loads l.past l.sights (l.answer.4 i) b.log });
    }

-- ---- the registered half

-- a try of the tree that isn't answered
pub tries_again : (t : Terms) (pc : ℕ) (again : Again) (b c : CallerData) → TriesTree t pc b c (Err again) → Queries t [] b c
tries_again t pc again b c l = record {
  past = l.past;
  loads = load_events b.log l.loaded;
  sights = l.sights;
  begins = l.begins;
  hold = tt;
  stamped = tt;
  order = tt;
  log = l.log;
}

-- the load of a word that was loaded
event_of : (v : Log) (loaded : List LoadedWord) (w : LoadedWord) → Contains loaded w → Contains (load_events v loaded) (load_of v w.at w.value)
event_of v [] w (k, l, e) = absurd (omega (arith, l))
event_of v (x ∷ loaded) w (zero, l, e) = (0, omega arith, ap (λ (z : LoadedWord). load_of v z.at z.value) e)
event_of v (x ∷ loaded) w (suc k, l, e) = let r = event_of v loaded w (k, omega (arith, l), e) in (suc r.0, (let l' = r.1 in omega (arith, l')), r.2)

-- the one that is answered
pub tries_answer : (t : Terms) (pc : ℕ) (found : Found) (b c : CallerData) → TriesTree t pc b c (Ok found) → Queries t (Query Registered pc found ∷ []) b c
tries_answer t pc found b c l =
    let n = longer_length b.log.past l.past l.begins in let m = l.answer.0 in
    record {
      past = l.past;
      loads = load_events b.log l.loaded;
      sights = l.sights;
      begins = l.begins;
      hold = (
        record {
          always = λ nodes callers since. record {
            within = omega (arith, m);
            numbered = tt;
            right = l.answer.2;
            filled = record { ten = tt; most = λ _. tt };
          };
        },
        tt,
      );
      stamped = ((load_of b.log CLOCK l.answer.1.0, (event_of b.log l.loaded record { at = CLOCK; value = l.answer.1.0 } l.answer.1.1.0, refl, l.answer.1.1.1)), tt);
      order = (omega (arith, n, m), tt);
      log = l.log;
    }
