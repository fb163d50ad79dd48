-- Loads and stores of the holder of the loader's lock, one after another.
use Rattle.std.proofs.Common.{◌≡◌, ℕ, ◌+◌, ◌-◌, ◌<◌, ◌%◌, List, [], ◌∷◌, ◌++◌, length, get_or, set, sym, refl, ap, ◌∙◌, subst, arith, IsTrue, Bool, false, Option, Some, None, option_map, IsSomeAnd, IfSome, append-nil, append_assoc, add_assoc, add-zero}
use Rattle.std.proofs.lemmas.Bool.{and_from, le-leb, lt-ltb}
use Rattle.word_rule.specs.declared.log.LoadEvent.{LoadEvent}
use Rattle.word_rule.specs.declared.log.LoaderHolding.{LoaderHolding}
use Rattle.word_rule.specs.declared.log.Log.{Log}
use Rattle.word_rule.specs.declared.log.Sights.{Sights}
use Rattle.word_rule.specs.declared.log.Terms.{Terms}
use Rattle.word_rule.specs.CallerData.{CallerData, WordsData}
use Rattle.word_rule.specs.Logs.{load_of}
use Rattle.word_rule.specs.Places.{copy_place, copy_words, is_of_copy}
use Rattle.word_rule.specs.Sights.{with_copy_word, after_copy_load}
use Rattle.word_rule.specs.Steps.{IsHeldWord}
use Rattle.word_rule.proofs.Memories.{set_same}
use Rattle.array_publish.specs.Holders.{active_words, spare_words, with_spare, after_work, Spells, IsHolder, MayWork, LoadsHeld}
use Rattle.array_publish.specs.declared.active.CopyStarts.{CopyStarts}

-- what is asked of a lock that is held: copy c is active, and both copies have all their words
abbrev pub Holds : Terms → ℕ → LoaderHolding → Type 0
Holds t c h = (h.published % 2 ≡ c) × (length h.active ≡ copy_words t) × (length h.spare ≡ copy_words t)

-- a log with these parts
abbrev with_work : List LoadEvent → ℕ → Sights → Option LoaderHolding → Log → Log
with_work loads writes sights loader v = record v { trace = record v.trace { loads = loads; writes = writes }; sights = sights; loader = loader }

abbrev worked_by : CallerData → List LoadEvent → ℕ → Sights → List ℕ → Bool → CallerData
worked_by k more stores sights spare stored = record k { log = after_work more stores sights spare stored k.log }

same_loader : (o : Option LoaderHolding) → (stored : Bool) × (o ≡ option_map (with_spare (spare_words o) stored) o)
same_loader None = (false, refl)
same_loader (Some h) = (h.stored, refl)

pub load_spells : (k : CallerData) (at found : ℕ) → Spells (spare_words k.log.loader) k (record k { log = after_copy_load at found k.log })
load_spells k at found =
    let same = same_loader k.log.loader in (
      load_of k.log at found ∷ [],
      0,
      record k.log.sights { copies = option_map (with_copy_word k.log.terms at found) k.log.sights.copies },
      same.0,
      (λ i. record k { log = with_work (k.log.trace.loads ++ load_of k.log at found ∷ []) (sym (add-zero k.log.trace.writes) i) (record k.log.sights { copies = option_map (with_copy_word k.log.terms at found) k.log.sights.copies }) (same.1 i) k.log }),
    )

pub spells_both : (one two : List ℕ) (a b d : CallerData) → Spells one a b → Spells two b d → Spells two a d
spells_both one two a b d p q =
    let both : worked_by (worked_by a p.0 p.1 p.2 one p.3) q.0 q.1 q.2 two q.3 ≡ worked_by a (p.0 ++ q.0) (p.1 + q.1) q.2 two q.3 =
    (λ i. record a { log = with_work (append_assoc a.log.trace.loads p.0 q.0 i) (add_assoc a.log.trace.writes p.1 q.1 i) q.2 (twice a.log.loader i) a.log }) in
    (p.0 ++ q.0, p.1 + q.1, q.2, q.3, q.4 ∙ (ap (λ k. worked_by k q.0 q.1 q.2 two q.3) p.4 ∙ both))
  where
    twice : (o : Option LoaderHolding) → option_map (with_spare two q.3) (option_map (with_spare one p.3) o) ≡ option_map (with_spare two q.3) o
    twice None = refl
    twice (Some h) = refl

pub spells_spare : (t : Terms) (c : ℕ) (spare : List ℕ) (a b : CallerData) → IsSomeAnd a.log.loader (Holds t c) → Spells spare a b → spare_words b.log.loader ≡ spare
spells_spare t c spare a b held p = ap (λ (k : CallerData). spare_words k.log.loader) p.4 ∙ go a.log.loader held
  where
    go : (o : Option LoaderHolding) → IsSomeAnd o (Holds t c) → spare_words (option_map (with_spare spare p.3) o) ≡ spare
    go None h = absurd h
    go (Some g) h = refl

pub spells_active : (spare : List ℕ) (a b : CallerData) → Spells spare a b → active_words b.log.loader ≡ active_words a.log.loader
spells_active spare a b p = ap (λ (k : CallerData). active_words k.log.loader) p.4 ∙ go a.log.loader
  where
    go : (o : Option LoaderHolding) → active_words (option_map (with_spare spare p.3) o) ≡ active_words o
    go None = refl
    go (Some g) = refl

pub holder_stays : (w : WordsData) (c : ℕ) (spare : List ℕ) (a b : CallerData) → IsHolder w c a → Spells spare a b → length spare ≡ copy_words w.terms → IsHolder w c b
holder_stays w c spare a b h p wide = record {
  table = ap (λ k. k.table) p.4 ∙ h.table;
  terms = ap (λ k. k.log.terms) p.4 ∙ h.terms;
  valid = h.valid;
  one = h.one;
  holds = subst (λ o. IsSomeAnd o (Holds w.terms c)) (sym (ap (λ k. k.log.loader) p.4)) (go a.log.loader h.holds);
}
  where
    go : (o : Option LoaderHolding) → IsSomeAnd o (Holds w.terms c) → IsSomeAnd (option_map (with_spare spare p.3) o) (Holds w.terms c)
    go None e = absurd e
    go (Some g) e = (e.0, e.1, wide)

pub spare_wide : (w : WordsData) (c : ℕ) (k : CallerData) → IsHolder w c k → length (spare_words k.log.loader) ≡ copy_words w.terms
spare_wide w c k h = go k.log.loader h.holds
  where
    go : (o : Option LoaderHolding) → IsSomeAnd o (Holds w.terms c) → length (spare_words o) ≡ copy_words w.terms
    go None e = absurd e
    go (Some g) e = e.2

other_copy : (published c : ℕ) → published % 2 ≡ c → c < 2 → (published + 1) % 2 ≡ 1 - c
other_copy published c e two = omega (arith, e, two)

-- a word of the other copy, as its holder found it
pub held_spare : (t u : Terms) (c at found : ℕ) (o : Option LoaderHolding) → u ≡ t → IsSomeAnd o (Holds t c) → c < 2 → at < copy_words t → IfSome o (IsHeldWord u (copy_place t (1 - c) + at) found) → get_or (spare_words o) at 0 ≡ found
held_spare t u c at found None same h two inside held = absurd h
held_spare t u c at found (Some g) same h two inside held =
    let d = other_copy g.published c h.0 two in
    let mine : IsHeldWord t (copy_place t (1 - c) + at) found g = subst (λ z. IsHeldWord z (copy_place t (1 - c) + at) found g) same held in
    let is : IsTrue (is_of_copy t (1 - c) (copy_place t (1 - c) + at)) = and_from _ _ (le-leb (copy_place t (1 - c)) (copy_place t (1 - c) + at) (omega arith)) (lt-ltb (copy_place t (1 - c) + at) (copy_place t (1 - c) + copy_words t) (omega (arith, inside))) in
    let told = mine.spare (subst (λ x. IsTrue (is_of_copy t x (copy_place t (1 - c) + at))) (sym d) is) in
    let here : copy_place t (1 - c) + at - copy_place t ((g.published + 1) % 2) ≡ at = ap (λ x. copy_place t (1 - c) + at - copy_place t x) d ∙ omega arith in
    ap (λ i. get_or g.spare i 0) (sym here) ∙ told

-- a word that is as it is to be
pub kept_word : (k : CallerData) (place at value found : ℕ) → get_or (spare_words k.log.loader) at 0 ≡ found → found ≡ value → Spells (set (spare_words k.log.loader) at value) k (record k { log = after_copy_load place found k.log })
kept_word k place at value found is same =
    let e : spare_words k.log.loader ≡ set (spare_words k.log.loader) at value = sym (set_same (spare_words k.log.loader) at) ∙ ap (set (spare_words k.log.loader) at) (is ∙ same) in
    subst (λ ws. Spells ws k (record k { log = after_copy_load place found k.log })) e (load_spells k place found)

-- three words one after another
pub three_words : (t : Terms) (c p q r x y z : ℕ) (k0 k1 k2 k3 : CallerData) → IsSomeAnd k0.log.loader (Holds t c) → IsSomeAnd k1.log.loader (Holds t c) → Spells (set (spare_words k0.log.loader) p x) k0 k1 → Spells (set (spare_words k1.log.loader) q y) k1 k2 → IsSomeAnd k2.log.loader (Holds t c) → Spells (set (spare_words k2.log.loader) r z) k2 k3
    → Spells (set (set (set (spare_words k0.log.loader) p x) q y) r z) k0 k3
three_words t c p q r x y z k0 k1 k2 k3 h0 h1 one two h2 three =
    let s1 = spells_spare t c (set (spare_words k0.log.loader) p x) k0 k1 h0 one in
    let two' = subst (λ ws. Spells (set ws q y) k1 k2) s1 two in
    let s2 = spells_spare t c (set (set (spare_words k0.log.loader) p x) q y) k1 k2 h1 two' in
    let three' = subst (λ ws. Spells (set ws r z) k2 k3) s2 three in
    let first = spells_both (set (spare_words k0.log.loader) p x) (set (set (spare_words k0.log.loader) p x) q y) k0 k1 k2 one two' in
    spells_both (set (set (spare_words k0.log.loader) p x) q y) (set (set (set (spare_words k0.log.loader) p x) q y) r z) k0 k2 k3 first three'

-- nothing was done
pub spells_none : (k : CallerData) → Spells (spare_words k.log.loader) k k
spells_none k =
    let same = same_loader k.log.loader in
    ([], 0, k.log.sights, same.0, (λ i. record k { log = with_work (sym (append-nil k.log.trace.loads) i) (sym (add-zero k.log.trace.writes) i) k.log.sights (same.1 i) k.log }))

pub loads_none : (k : CallerData) → LoadsHeld k k
loads_none k = record { same = spells_none k; kept = refl }

-- a word was loaded
pub loads_one : (k k' : CallerData) (at found : ℕ) → k' ≡ record k { log = after_copy_load at found k.log } → LoadsHeld k k'
loads_one k k' at found is = subst (LoadsHeld k) (sym is) (record { same = load_spells k at found; kept = refl })

-- loads one after another
pub loads_then : (a b d : CallerData) → LoadsHeld a b → LoadsHeld b d → LoadsHeld a d
loads_then a b d p q = record {
  same = spells_both (spare_words a.log.loader) (spare_words a.log.loader) a b d p.same (subst (λ o. Spells (spare_words o) b d) p.kept q.same);
  kept = q.kept ∙ p.kept;
}

-- work may go on after loads
pub may_still : (w : WordsData) (s : CopyStarts) (k k' : CallerData) → MayWork w s k → LoadsHeld k k' → MayWork w s k'
may_still w s k k' may loads = record {
  holder = holder_stays w s.copy (spare_words k.log.loader) k k' may.holder loads.same (spare_wide w s.copy k may.holder);
  places = may.places;
}

-- two words one after another
pub two_words : (t : Terms) (c p q x y : ℕ) (k0 k1 k2 : CallerData) → IsSomeAnd k0.log.loader (Holds t c) → Spells (set (spare_words k0.log.loader) p x) k0 k1 → Spells (set (spare_words k1.log.loader) q y) k1 k2 → Spells (set (set (spare_words k0.log.loader) p x) q y) k0 k2
two_words t c p q x y k0 k1 k2 h0 one two =
    let s1 = spells_spare t c (set (spare_words k0.log.loader) p x) k0 k1 h0 one in
    spells_both (set (spare_words k0.log.loader) p x) (set (set (spare_words k0.log.loader) p x) q y) k0 k1 k2 one (subst (λ ws. Spells (set ws q y) k1 k2) s1 two)

-- a step of a loop that writes: what it makes of the words, and that the caller still holds the lock
pub record Written (w : WordsData) (c : ℕ) (words : List ℕ) (k0 k : CallerData) : Type 0 where
  pub spells : Spells (spare_words k.log.loader) k0 k
  pub holder : IsHolder w c k
  pub active : active_words k.log.loader ≡ active_words k0.log.loader
  pub spare : spare_words k.log.loader ≡ words

pub written_next : (w : WordsData) (c : ℕ) (spare words : List ℕ) (k0 k k' : CallerData) → Written w c spare k0 k → Spells words k k' → length words ≡ copy_words w.terms → Written w c words k0 k'
written_next w c spare words k0 k k' h p wide =
    let is = spells_spare w.terms c words k k' h.holder.holds p in record {
      spells = subst (λ ws. Spells ws k0 k') (sym is) (spells_both (spare_words k.log.loader) words k0 k k' h.spells p);
      holder = holder_stays w c words k k' h.holder p wide;
      active = spells_active words k k' p ∙ h.active;
      spare = is;
    }

pub written_none : (w : WordsData) (c : ℕ) (k : CallerData) → IsHolder w c k → Written w c (spare_words k.log.loader) k k
written_none w c k h = record { spells = spells_none k; holder = h; active = refl; spare = refl }
