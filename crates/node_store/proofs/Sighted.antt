-- What a log keeps of the loads of a node, and what its version tells when it is found again.
use Rattle.std.proofs.Common.{ne_eqb, ◌≢◌, ◌≡◌, ℕ, zero, suc, ◌+◌, ◌-◌, ◌<◌, ◌≤◌, ◌%◌, ◌==◌, Bool, true, false, cond, List, [], ◌∷◌, length, map, Option, Some, None, IfSome, IsSomeAnd, option_map, get_or, set, if◌then◌else◌, ⊎_elim, refl, ap, sym, ◌∙◌, subst, arith, is_some, nat_eq, eq-eqb, get_or-set_same, get_or-set_other}
use Rattle.std.specs.List.{find}
use Rattle.std.proofs.lemmas.Bool.{eqb-true, eqb-false}
use Rattle.std.proofs.lemmas.List.{ext_get_or}
use Rattle.std.proofs.lemmas.Option.{none-some, cond_some}
use Rattle.tree_shape.specs.NodeData.{NodeData}
use Rattle.word_rule.specs.declared.log.Ask.TheVariants as ask
use Rattle.word_rule.specs.declared.log.Holding.{Holding}
use Rattle.tree_shape.specs.declared.node.NodeBounds.{NodeBounds}
use Rattle.word_rule.specs.declared.log.Log.{Log}
use Rattle.word_rule.specs.declared.log.NodeSight.{NodeSight}
use Rattle.word_rule.specs.Callers.{IsLockedAt}
use Rattle.word_rule.specs.Held.{held_of}
use Rattle.word_rule.specs.NodeTells.{IsOfNode, IsLiveNode, SightTells}
use Rattle.word_rule.specs.Places.{CONTENT_WORDS}
use Rattle.word_rule.specs.Sights.{after_node_load, after_node_version, loaded_word, mark_child, or_mark, place_of, place_under, sight_begun, sight_of, sights_after_version, with_word, without_sight}
use Rattle.word_rule.specs.Spelling.{node_word, spelled, SpellsNode}
use Rattle.node_store.specs.declared.sight.Sight.{Sight}
use Rattle.node_store.specs.Sights.{AreLoaded, IsKept, IsLiveAs, after_words}
use Rattle.word_rule.proofs.NodeVersions.{loaded_is}
use Rattle.word_rule.proofs.NodeSights.{mark_keeps, sight_changed, without_other, word_keeps}

-- two lists of words that agree on each
same_words : (words others : List ℕ) → length words ≡ CONTENT_WORDS → length others ≡ CONTENT_WORDS → ((at : ℕ) → 1 ≤ at → at ≤ CONTENT_WORDS → node_word words at ≡ node_word others at) → words ≡ others
same_words words others wide wide' same =
    ext_get_or 0 words others (wide ∙ sym wide')
    (λ i less. let back : i + 1 - 1 ≡ i = omega arith in subst (λ k. get_or words k 0 ≡ get_or others k 0) back (same (i + 1) (omega arith) (omega (arith, less, wide))))

-- what a search found passes its test
pub found_passes : {A : Type 0} (test : A → Bool) (xs : List A) (x : A) → find test xs ≡ Some x → test x ≡ true
found_passes test [] x is = absurd (none-some x is)
found_passes test (y ∷ xs) x is = go (test y) refl is (λ e. found_passes test xs x e)
  where
    go : (b : Bool) → test y ≡ b → cond b (Some y) (find test xs) ≡ Some x → (find test xs ≡ Some x → test x ≡ true) → test x ≡ true
    go true e is later = ap test (sym (cond_some true y x is).1) ∙ e
    go false e is later = later is

-- what a sight is of, where it was found to stand
abbrev pub IsSeen : Log → Sight → NodeData → Type 0
IsSeen v s shape = SpellsNode s.words shape × IsLiveAs v s.node shape

pub seen : (v : Log) (s : Sight) (found : ℕ) → length s.words ≡ CONTENT_WORDS → IsKept v s → SightTells s.node found v → found ≡ s.version → (shape : NodeData) × IsSeen v s shape
unfolding IsKept
seen v s found wide kept tells is = go (sight_of s.node v.sights.nodes) refl kept tells
  where
    go : (o : Option NodeSight) → sight_of s.node v.sights.nodes ≡ o
        → IsSomeAnd o (λ k. (k.version ≡ s.version) × AreLoaded s.words k.words)
        → IfSome o (λ k. k.version ≡ found → IsOfNode v.terms v.past k)
        → (shape : NodeData) × (SpellsNode s.words shape × IfSome o (λ k. IfSome (place_of k) (IsLiveNode v.terms s.node shape)))
    go None e kept tells = absurd kept
    go (Some k) e kept tells =
        let of = tells (kept.0 ∙ sym is) in
        let same = same_words of.words s.words of.wide wide (λ at least most. loaded_is of.words k.words at (node_word s.words at) of.loaded_so (kept.1 at least most)) in
        let node : k.node ≡ s.node = eqb-true k.node s.node (found_passes (λ z. z.node == s.node) v.sights.nodes k e) in
        (of.shape, (subst (λ ws. spelled ws ≡ Some of.shape) same of.spells, subst (λ n. IfSome (place_of k) (IsLiveNode v.terms n of.shape)) node of.live))

-- the loads of the words that a later one doesn't change
pub words_same : (n : ℕ) (words others : List ℕ) (count : ℕ) (v : Log) → ((at : ℕ) → 1 ≤ at → at ≤ count → node_word words at ≡ node_word others at) → after_words n words count v ≡ after_words n others count v
unfolding after_words
words_same n words others zero v same = refl
words_same n words others (suc count) v same =
    ap (λ value. after_node_load n (suc count) value (after_words n words count v)) (same (suc count) (omega arith) (omega arith))
    ∙ ap (after_node_load n (suc count) (node_word others (suc count))) (words_same n words others count v (λ at least most. same at least (omega (arith, most))))

-- one word more is loaded
pub word_more : (n : ℕ) (words : List ℕ) (at found : ℕ) (v : Log) → at < length words → after_node_load n (at + 1) found (after_words n words at v) ≡ after_words n (set words at found) (at + 1) v
unfolding after_words
word_more n words at found v inside =
    let next : at + 1 ≡ suc at = omega arith in
    let back : suc at - 1 ≡ at = omega arith in
    let here : node_word (set words at found) (suc at) ≡ found = ap (λ k. get_or (set words at found) k 0) back ∙ get_or-set_same words at found 0 inside in
    let others = words_same n words (set words at found) at v (λ k least most. sym (get_or-set_other words at (k - 1) found 0 (λ e. omega (arith, e, least, most)))) in
    ap (λ k. after_node_load n k found (after_words n words at v)) next
    ∙ ap (after_node_load n (suc at) found) others
    ∙ ap (λ value. after_node_load n (suc at) value (after_words n (set words at found) at v)) (sym here)
    ∙ ap (λ k. after_words n (set words at found) k v) (sym next)

-- a parent's sight changes the mark of a child's alone
marks_alone : {A : Type 0} (f : NodeSight → A) (parent s : NodeSight) → ((m : Option NodeBounds) → f (record s { mark = m }) ≡ f s) → f (mark_child parent s) ≡ f s
marks_alone f parent s same = go (nat_eq s.node parent.node)
  where
    go : (b : Bool) → f (if b then s else record s { mark = or_mark (place_under s.node parent (place_of parent)) s.mark }) ≡ f s
    go true = refl
    go false = same _

mark_same : (parent s : NodeSight) → (mark_child parent s).version ≡ s.version
mark_same parent s = marks_alone (λ z. z.version) parent s (λ m. refl)

-- a log has a sight of a node at a version, with so many of these words
pub record HasWords (n version : ℕ) (words : List ℕ) (count : ℕ) (v : Log) : Type 0 where
  pub free : held_of n v.holdings.held ≡ None
  pub kept : NodeSight
  pub is : sight_of n v.sights.nodes ≡ Some kept
  pub version_is : kept.version ≡ version
  pub loaded : (at : ℕ) → 1 ≤ at → at ≤ count → loaded_word at kept.words ≡ Some (node_word words at)

-- the loads that join a sight, where the node isn't held
free_load : (n at value : ℕ) (v : Log) → held_of n v.holdings.held ≡ None → (after_node_load n at value v).sights.nodes ≡ map (with_word n at value) v.sights.nodes
free_load n at value v free = ap (λ o. (if is_some o then v.sights else record v.sights { nodes = map (with_word n at value) v.sights.nodes }).nodes) free

has_more : (n version : ℕ) (words : List ℕ) (count : ℕ) (v : Log) → HasWords n version words count v → HasWords n version words (suc count) (after_node_load n (suc count) (node_word words (suc count)) v)
has_more n version words count v h =
    let value : ℕ = node_word words (suc count) in
    let here : (h.kept.node == n) ≡ true = found_passes (λ z. z.node == n) v.sights.nodes h.kept h.is in
    let joined : with_word n (suc count) value h.kept ≡ record h.kept { words = record { at = suc count; value = value } ∷ h.kept.words } =
    ap (λ b. if b then record h.kept { words = record { at = suc count; value = value } ∷ h.kept.words } else h.kept) here in
    record {
      free = h.free;
      kept = record h.kept { words = record { at = suc count; value = value } ∷ h.kept.words };
      is = ap (sight_of n) (free_load n (suc count) value v h.free)
          ∙ (sight_changed n (with_word n (suc count) value) (word_keeps n (suc count) value) v.sights.nodes
          ∙ (ap (option_map (with_word n (suc count) value)) h.is ∙ ap Some joined));
      version_is = h.version_is;
      loaded = λ at least most. go at least most (nat_eq (suc count) at) refl;
    }
  where
    go : (at : ℕ) → 1 ≤ at → at ≤ suc count → (b : Bool) → nat_eq (suc count) at ≡ b → (if b then Some (node_word words (suc count)) else loaded_word at h.kept.words) ≡ Some (node_word words at)
    go at least most true e = ap (λ k. Some (node_word words k)) (eqb-true (suc count) at e)
    go at least most false e = h.loaded at least (omega (arith, most, eqb-false (suc count) at e))

has_all : (n version : ℕ) (words : List ℕ) (count : ℕ) (v : Log) → HasWords n version words 0 v → HasWords n version words count (after_words n words count v)
unfolding after_words
has_all n version words zero v h = h
has_all n version words (suc count) v h = has_more n version words count (after_words n words count v) (has_all n version words count v h)

-- a sight that begins
fresh : (n found : ℕ) (sights : List NodeSight) → sight_of n (sight_begun n found ∷ sights) ≡ Some (sight_begun n found)
fresh n found sights = ap (λ b. cond b (Some (sight_begun n found)) (sight_of n sights)) (eq-eqb n n refl)

-- the sight that there is once an unlocked version was found
begins : (n found : ℕ) (o : Option NodeSight) (sights : List NodeSight) → found % 2 ≡ 0 → sight_of n sights ≡ o → (kept : NodeSight) × ((sight_of n (sights_after_version n found o sights) ≡ Some kept) × (kept.version ≡ found))
begins n found None sights even was =
    (sight_begun n found, (ap (λ b. sight_of n (if b then sight_begun n found ∷ sights else sights)) (eq-eqb (found % 2) 0 even) ∙ fresh n found sights, refl))
begins n found (Some s) sights even was = go (nat_eq s.version found) refl
  where
    go : (b : Bool) → nat_eq s.version found ≡ b → (kept : NodeSight) × ((sight_of n (if b then map (mark_child s) sights else (if found % 2 == 0 then sight_begun n found ∷ without_sight n sights else sights)) ≡ Some kept) × (kept.version ≡ found))
    go true e = (mark_child s s, (sight_changed n (mark_child s) (mark_keeps s) sights ∙ ap (option_map (mark_child s)) was, mark_same s s ∙ eqb-true s.version found e))
    go false e = (sight_begun n found, (ap (λ b. sight_of n (if b then sight_begun n found ∷ without_sight n sights else sights)) (eq-eqb (found % 2) 0 even) ∙ fresh n found (without_sight n sights), refl))

pub kept_after : (n found : ℕ) (words : List ℕ) (v : Log) → found % 2 ≡ 0 → held_of n v.holdings.held ≡ None → IsKept (after_words n words CONTENT_WORDS (after_node_version ask.Nothing n found v)) record { node = n; version = found; words = words }
unfolding IsKept
kept_after n found words v even free =
    let first = begins n found (sight_of n v.sights.nodes) v.sights.nodes even refl in
    let start : HasWords n found words 0 (after_node_version ask.Nothing n found v) = record {
      free = free;
      kept = first.0;
      is = first.1.0;
      version_is = first.1.1;
      loaded = λ at least most. absurd (omega (arith, least, most));
    } in
    let all = has_all n found words CONTENT_WORDS (after_node_version ask.Nothing n found v) start in
    subst (λ o. IsSomeAnd o (λ k. (k.version ≡ found) × AreLoaded words k.words)) (sym all.is) (all.version_is, all.loaded)

-- loads leave what is held as it is
pub holdings_same : (n : ℕ) (words : List ℕ) (count : ℕ) (v : Log) → (after_words n words count v).holdings ≡ v.holdings
unfolding after_words
holdings_same n words zero v = refl
holdings_same n words (suc count) v = holdings_same n words count v

pub terms_same : (n : ℕ) (words : List ℕ) (count : ℕ) (v : Log) → (after_words n words count v).terms ≡ v.terms
unfolding after_words
terms_same n words zero v = refl
terms_same n words (suc count) v = terms_same n words count v

-- who finds an even version doesn't hold the node
pub even_free : (found : ℕ) (o : Option Holding) → found % 2 ≡ 0 → IfSome o (λ h. IsLockedAt h.version found) → o ≡ None
even_free found None even told = refl
even_free found (Some h) even told =
    let whole = told.0 in
    absurd (⊎_elim (λ (e : found ≡ h.version + 1). omega (arith, whole, e, even)) (λ (e : found ≡ h.version + 3). omega (arith, whole, e, even)) told.1)

-- a log's sight of the node is the one meant
abbrev pub KeptBy : Sight → Option NodeSight → Type 0
KeptBy s o = IsSomeAnd o (λ k. (k.version ≡ s.version) × AreLoaded s.words k.words)

-- a change of each sight that leaves node, version and words as they are
stays_changed : (s : Sight) (f : NodeSight → NodeSight) → ((k : NodeSight) → ((f k).version ≡ k.version) × ((f k).words ≡ k.words)) → (o : Option NodeSight) → KeptBy s o → KeptBy s (option_map f o)
stays_changed s f same None h = absurd h
stays_changed s f same (Some k) h = ((same k).0 ∙ h.0, subst (AreLoaded s.words) (sym (same k).1) h.1)

mark_words : (parent s : NodeSight) → (mark_child parent s).words ≡ s.words
mark_words parent s = marks_alone (λ z. z.words) parent s (λ m. refl)

-- the version of another node was found
others_looked : (n found : ℕ) (s : Sight) → s.node ≢ n → (o : Option NodeSight) (sights : List NodeSight) → KeptBy s (sight_of s.node sights) → KeptBy s (sight_of s.node (sights_after_version n found o sights))
others_looked n found s far None sights kept = go (nat_eq (found % 2) 0)
  where
    begun : sight_of s.node (sight_begun n found ∷ sights) ≡ sight_of s.node sights
    begun = ap (λ b. cond b (Some (sight_begun n found)) (sight_of s.node sights)) (ne_eqb n s.node (λ same. far (sym same)))

    go : (b : Bool) → KeptBy s (sight_of s.node (if b then sight_begun n found ∷ sights else sights))
    go true = subst (KeptBy s) (sym begun) kept
    go false = kept
others_looked n found s far (Some t) sights kept = stands (nat_eq t.version found)
  where
    begun : sight_of s.node (sight_begun n found ∷ without_sight n sights) ≡ sight_of s.node sights
    begun = ap (λ b. cond b (Some (sight_begun n found)) (sight_of s.node (without_sight n sights))) (ne_eqb n s.node (λ same. far (sym same))) ∙ without_other n s.node far sights

    anew : (b : Bool) → KeptBy s (sight_of s.node (if b then sight_begun n found ∷ without_sight n sights else sights))
    anew true = subst (KeptBy s) (sym begun) kept
    anew false = kept

    stands : (b : Bool) → KeptBy s (sight_of s.node (if b then map (mark_child t) sights else (if found % 2 == 0 then sight_begun n found ∷ without_sight n sights else sights)))
    stands true = subst (KeptBy s) (sym (sight_changed s.node (mark_child t) (mark_keeps t) sights)) (stays_changed s (mark_child t) (λ k. (mark_same t k, mark_words t k)) (sight_of s.node sights) kept)
    stands false = anew (nat_eq (found % 2) 0)

-- a locked version was found: every sight stays
odd_looked : (n found : ℕ) (s : Sight) → found % 2 ≡ 1 → (o : Option NodeSight) (sights : List NodeSight) → KeptBy s (sight_of s.node sights) → KeptBy s (sight_of s.node (sights_after_version n found o sights))
odd_looked n found s odd None sights kept =
    subst (λ b. KeptBy s (sight_of s.node (if b then sight_begun n found ∷ sights else sights))) (sym (ne_eqb (found % 2) 0 (λ e. omega (arith, e, odd)))) kept
odd_looked n found s odd (Some t) sights kept = stands (nat_eq t.version found)
  where
    stands : (b : Bool) → KeptBy s (sight_of s.node (if b then map (mark_child t) sights else (if found % 2 == 0 then sight_begun n found ∷ without_sight n sights else sights)))
    stands true = subst (KeptBy s) (sym (sight_changed s.node (mark_child t) (mark_keeps t) sights)) (stays_changed s (mark_child t) (λ k. (mark_same t k, mark_words t k)) (sight_of s.node sights) kept)
    stands false = subst (λ b. KeptBy s (sight_of s.node (if b then sight_begun n found ∷ without_sight n sights else sights))) (sym (ne_eqb (found % 2) 0 (λ e. omega (arith, e, odd)))) kept

pub locked_kept : (n found : ℕ) (s : Sight) (v : Log) → found % 2 ≡ 1 → IsKept v s → IsKept (after_node_version ask.Nothing n found v) s
unfolding IsKept
locked_kept n found s v odd kept = odd_looked n found s odd (sight_of n v.sights.nodes) v.sights.nodes kept

-- a word of another node joins no sight of this one
word_other : (n at value : ℕ) (k : NodeSight) → k.node ≢ n → with_word n at value k ≡ k
word_other n at value k far = ap (λ b. if b then record k { words = record { at = at; value = value } ∷ k.words } else k) (ne_eqb k.node n far)

others_loaded : (n at value : ℕ) (s : Sight) (v : Log) → s.node ≢ n → KeptBy s (sight_of s.node v.sights.nodes) → KeptBy s (sight_of s.node (after_node_load n at value v).sights.nodes)
others_loaded n at value s v far kept = go (is_some (held_of n v.holdings.held))
  where
    joined : (o : Option NodeSight) → sight_of s.node v.sights.nodes ≡ o → KeptBy s o → KeptBy s (option_map (with_word n at value) o)
    joined None e h = absurd h
    joined (Some k) e h =
        let node : k.node ≡ s.node = eqb-true k.node s.node (found_passes (λ z. z.node == s.node) v.sights.nodes k e) in
        subst (λ z. KeptBy s (Some z)) (sym (word_other n at value k (λ same. far (sym node ∙ same)))) h

    go : (b : Bool) → KeptBy s (sight_of s.node (if b then v.sights else record v.sights { nodes = map (with_word n at value) v.sights.nodes }).nodes)
    go true = kept
    go false = subst (KeptBy s) (sym (sight_changed s.node (with_word n at value) (word_keeps n at value) v.sights.nodes)) (joined (sight_of s.node v.sights.nodes) refl kept)

others_all : (n : ℕ) (words : List ℕ) (count : ℕ) (s : Sight) (v : Log) → s.node ≢ n → KeptBy s (sight_of s.node v.sights.nodes) → KeptBy s (sight_of s.node (after_words n words count v).sights.nodes)
unfolding after_words
others_all n words zero s v far kept = kept
others_all n words (suc count) s v far kept = others_loaded n (suc count) (node_word words (suc count)) s (after_words n words count v) far (others_all n words count s v far kept)

pub others_kept : (n found : ℕ) (words : List ℕ) (count : ℕ) (s : Sight) (v : Log) → s.node ≢ n → IsKept v s → IsKept (after_words n words count (after_node_version ask.Nothing n found v)) s
unfolding IsKept
others_kept n found words count s v far kept =
    others_all n words count s (after_node_version ask.Nothing n found v) far (others_looked n found s far (sight_of n v.sights.nodes) v.sights.nodes kept)

pub others_seen : (n found : ℕ) (s : Sight) (v : Log) → s.node ≢ n → IsKept v s → IsKept (after_node_version ask.Nothing n found v) s
unfolding IsKept
others_seen n found s v far kept = others_looked n found s far (sight_of n v.sights.nodes) v.sights.nodes kept
