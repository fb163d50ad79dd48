-- Loads of words of one copy, one after another.
use Rattle.std.proofs.Common.{◌≡◌, ℕ, ◌+◌, ◌-◌, ◌<◌, ◌%◌, List, [], ◌∷◌, ◌++◌, get_or, sym, refl, ap, ◌∙◌, subst, arith, IsTrue, Option, Some, None, option_map, IsSomeAnd, append-nil, append_assoc, true}
use Rattle.std.proofs.lemmas.Bool.{and_from, le-leb, lt-ltb}
use Rattle.word_rule.specs.declared.log.CopySight.{CopySight}
use Rattle.word_rule.specs.declared.log.LoadEvent.{LoadEvent}
use Rattle.word_rule.specs.declared.log.LoadedWord.{LoadedWord}
use Rattle.word_rule.specs.declared.log.Log.{Log}
use Rattle.word_rule.specs.declared.log.Terms.{Terms}
use Rattle.word_rule.specs.CallerData.{CallerData, WordsData}
use Rattle.word_rule.specs.Copies.{AreOfCopy}
use Rattle.word_rule.specs.Logs.{load_of}
use Rattle.word_rule.specs.Places.{copy_place, copy_words, is_of_copy}
use Rattle.word_rule.specs.Sights.{with_copy_word, after_copy_load}
use Rattle.word_rule.proofs.Each.{all_append, all_behind}
use Rattle.array_publish.specs.CopyLoads.{sight_words, with_words, after_copy_loads, LoadsCopy, IsTold, IsAtCopy}
use Rattle.array_publish.specs.Search.{IsNarrowed}

-- a caller after loads of a copy
abbrev loaded_by : CallerData → List LoadEvent → List LoadedWord → CallerData
loaded_by k more words = record k { log = after_copy_loads more words k.log }

-- a log with these loads, and this sight of copies
abbrev with_sight : List LoadEvent → Option CopySight → Log → Log
with_sight loads sight v = record v { trace = record v.trace { loads = loads }; sights = record v.sights { copies = sight } }

module _ (t : Terms) (c : ℕ) where
  pub loads_none : (k : CallerData) → LoadsCopy t c k k
  loads_none k = ([], [], (tt, (λ i. record k { log = with_sight (sym (append-nil k.log.trace.loads) i) (sym (same k.log.sights.copies) i) k.log })))
    where
      same : (o : Option CopySight) → option_map (with_words []) o ≡ o
      same None = refl
      same (Some s) = refl

  pub loads_both : (a b d : CallerData) → LoadsCopy t c a b → LoadsCopy t c b d → LoadsCopy t c a d
  loads_both a b d p q =
      let both : loaded_by (loaded_by a p.0 p.1) q.0 q.1 ≡ loaded_by a (p.0 ++ q.0) (q.1 ++ p.1) = (λ i. record a { log = with_sight (append_assoc a.log.trace.loads p.0 q.0 i) (joined a.log.sights.copies i) a.log }) in
      (p.0 ++ q.0, q.1 ++ p.1, (all_append (λ l. IsTrue (is_of_copy t c l.word)) p.0 q.0 p.2.0 q.2.0, q.2.1 ∙ (ap (λ k. loaded_by k q.0 q.1) p.2.1 ∙ both)))
    where
      joined : (o : Option CopySight) → option_map (with_words q.1) (option_map (with_words p.1) o) ≡ option_map (with_words (q.1 ++ p.1)) o
      joined None = refl
      joined (Some s) = ap (λ ws. Some (record s { words = ws })) (sym (append_assoc q.1 p.1 s.words))

  -- what agrees with more words agreed with the first of them
  pub agreed_before : (k k' : CallerData) (copy : List ℕ) → LoadsCopy t c k k' → AreOfCopy t c copy (sight_words k'.log.sights.copies) → AreOfCopy t c copy (sight_words k.log.sights.copies)
  agreed_before k k' copy p agrees = less k.log.sights.copies (subst (λ o. AreOfCopy t c copy (sight_words o)) (ap (λ z. z.log.sights.copies) p.2.1) agrees)
    where
      less : (o : Option CopySight) → AreOfCopy t c copy (sight_words (option_map (with_words p.1) o)) → AreOfCopy t c copy (sight_words o)
      less None h = h
      less (Some s) h = all_behind (λ w. get_or copy (w.at - copy_place t c) 0 ≡ w.value) p.1 s.words h

  -- what was told is told of more words
  pub told_later : (k k' : CallerData) (at value : ℕ) → LoadsCopy t c k k' → IsTold t c k at value → IsTold t c k' at value
  told_later k k' at value p told copy agrees = told copy (agreed_before k k' copy p agrees)

  pub between_later : (k k' : CallerData) (pc count low high : ℕ) → LoadsCopy t c k k' → IsNarrowed t c k pc count low high → IsNarrowed t c k' pc count low high
  between_later k k' pc count low high p h copy members agrees lists len = h copy members (agreed_before k k' copy p agrees) lists len

  module _ (k : CallerData) (at found : ℕ) (terms : k.log.terms ≡ t) (sight : IsSomeAnd k.log.sights.copies (λ s. s.guard % 2 ≡ c)) (inside : at < copy_words t) where
    is_inside : IsTrue (is_of_copy t c (copy_place t c + at))
    is_inside = and_from _ _ (le-leb (copy_place t c) (copy_place t c + at) (omega arith)) (lt-ltb (copy_place t c + at) (copy_place t c + copy_words t) (omega (arith, inside)))

    abbrev word : LoadedWord
    word = record { at = copy_place t c + at; value = found }

    abbrev after_it : CallerData
    after_it = record k { log = after_copy_load (copy_place t c + at) found k.log }

    joins : (o : Option CopySight) → IsSomeAnd o (λ s. s.guard % 2 ≡ c) → option_map (with_copy_word t (copy_place t c + at) found) o ≡ option_map (with_words (word ∷ [])) o
    joins None h = absurd h
    joins (Some s) h = let is : is_of_copy t (s.guard % 2) (copy_place t c + at) ≡ true = ap (λ d. is_of_copy t d (copy_place t c + at)) h ∙ is_inside in rw is refl

    joined : option_map (with_copy_word k.log.terms (copy_place t c + at) found) k.log.sights.copies ≡ option_map (with_words (word ∷ [])) k.log.sights.copies
    joined = ap (λ u. option_map (with_copy_word u (copy_place t c + at) found) k.log.sights.copies) terms ∙ joins k.log.sights.copies sight

    pub one_load : LoadsCopy t c k after_it
    one_load = (load_of k.log (copy_place t c + at) found ∷ [], word ∷ [], ((is_inside, tt), (λ i. record k { log = with_sight (k.log.trace.loads ++ load_of k.log (copy_place t c + at) found ∷ []) (joined i) k.log })))

    pub one_told : IsTold t c after_it at found
    one_told copy agrees = go k.log.sights.copies sight (subst (λ o. AreOfCopy t c copy (sight_words o)) joined agrees)
      where
        go : (o : Option CopySight) → IsSomeAnd o (λ s. s.guard % 2 ≡ c) → AreOfCopy t c copy (sight_words (option_map (with_words (word ∷ [])) o)) → get_or copy at 0 ≡ found
        go None h e = absurd h
        go (Some s) h e = let here : copy_place t c + at - copy_place t c ≡ at = omega arith in ap (λ i. get_or copy i 0) (sym here) ∙ e.0

pub at_copy_stays : (w : WordsData) (c : ℕ) (k k' : CallerData) → IsAtCopy w c k → LoadsCopy w.terms c k k' → IsAtCopy w c k'
at_copy_stays w c k k' h p = record {
  table = ap (λ z. z.table) p.2.1 ∙ h.table;
  terms = ap (λ z. z.log.terms) p.2.1 ∙ h.terms;
  valid = h.valid;
  one = h.one;
  sight = subst (λ o. IsSomeAnd o (λ s. s.guard % 2 ≡ c)) (sym (ap (λ z. z.log.sights.copies) p.2.1)) (kept k.log.sights.copies h.sight);
}
  where
    kept : (o : Option CopySight) → IsSomeAnd o (λ s. s.guard % 2 ≡ c) → IsSomeAnd (option_map (with_words p.1) o) (λ s. s.guard % 2 ≡ c)
    kept None e = e
    kept (Some s) e = e
