-- Single locks among those that are held: dropped, told apart, and at their places in the tree.
use Rattle.std.proofs.Common.{◌≢◌, ℕ, List, ◌≡◌, [], ◌∷◌, refl, ap, ◌∙◌, not, ne_eqb, cond, ◌++◌, eq-eqb, true, arith, ◌==◌, false, Bool, IsTrue, IsSome, sym, true≢false, Option, Some, None, is_some, ◌≤◌, IfSome, subst}
use Rattle.std.specs.List.{AllByRecursion}
use Rattle.tree_laws.specs.Numbers.{is_among, once, times}
use Rattle.tree_laws.proofs.Halves.{among, second, third, not_among}
use Rattle.tree_laws.specs.Trees.{Contents}
use Rattle.tree_shape.specs.declared.node.NodeBounds.{NodeBounds}
use Rattle.tree_shape.specs.NodeData.{NodeData}
use Rattle.word_rule.specs.declared.log.Holding.{Holding}
use Rattle.word_rule.specs.Held.{without_lock, held_of}
use Rattle.word_rule.specs.declared.log.Terms.{Terms}
use Rattle.word_rule.specs.NodeTells.{IsLiveNode, HolderTells, IsHeldNode}
use Rattle.word_rule.specs.declared.log.Log.{Log}
use Rattle.tree_descent.specs.Paths.{AreHigher, IsSettledLock}
use Rattle.tree_descent.proofs.HeldLists.{HeldOnce}
use Rattle.node_split.proofs.Settling.{StaysSettled}

-- none of these locks is of this node
abbrev pub AreFar : ℕ → List Holding → Type 0
AreFar n held = AllByRecursion (λ (a : Holding). a.node ≢ n) held

without_far : (n : ℕ) (held : List Holding) → AreFar n held → without_lock n held ≡ held
without_far n [] far = refl
without_far n (a ∷ held) far = ap (λ b. cond (not b) (a ∷ without_lock n held) (without_lock n held)) (ne_eqb a.node n far.0) ∙ ap (λ hs. a ∷ hs) (without_far n held far.1)

-- a lock among others that is let go of
pub dropped : (n : ℕ) (before : List Holding) (h : Holding) (above : List Holding) → h.node ≡ n → AreFar n before → AreFar n above → without_lock n (before ++ h ∷ above) ≡ before ++ above
dropped n [] h above is none far = ap (λ b. cond (not b) (h ∷ without_lock n above) (without_lock n above)) (eq-eqb h.node n is) ∙ without_far n above far
dropped n (b ∷ before) h above is none far = ap (λ z. cond (not z) (b ∷ without_lock n (before ++ h ∷ above)) (without_lock n (before ++ h ∷ above))) (ne_eqb b.node n none.0) ∙ ap (λ hs. b ∷ hs) (dropped n before h above is none.1 far)

pub is_second : (x n : ℕ) (xs : List ℕ) → is_among (x ∷ n ∷ xs) n ≡ true
is_second x n xs = among (x ∷ n ∷ xs) n (second x n xs)

pub is_third : (x y n : ℕ) (xs : List ℕ) → is_among (x ∷ y ∷ n ∷ xs) n ≡ true
is_third x y n xs = among (x ∷ y ∷ n ∷ xs) n (third x y n xs)

times_far : (n : ℕ) (xs : List ℕ) → AllByRecursion (λ x. n ≢ x) xs → times n xs ≡ 0
times_far n [] far = refl
times_far n (x ∷ xs) far = let e : once (n == x) ≡ 0 = ap once (ne_eqb n x far.0) in let r = times_far n xs far.1 in omega (arith, e, r)

pub is_none : (n : ℕ) (xs : List ℕ) → AllByRecursion (λ x. n ≢ x) xs → is_among xs n ≡ false
is_none n xs far = not_among xs n (times_far n xs far)

-- what a tree says of a lock that is marked live
abbrev pub IsTold : Contents → (ℕ → Bool) → Holding → Type 0
IsTold f live a = IsSome a.mark → IsTrue (live a.node) × (f a.node ≡ a.settled)

-- a lock of a node that the tree doesn't have has no place
pub told_unmarked : (f : Contents) (live : ℕ → Bool) (a : Holding) → IsTold f live a → live a.node ≡ false → a.mark ≡ None
told_unmarked f live a told dead = go a.mark refl
  where
    go : (o : Option NodeBounds) → a.mark ≡ o → a.mark ≡ None
    go None e = e
    go (Some place) e = absurd (true≢false (sym (told (ap is_some e)).0 ∙ dead))

pub lives_apart : (live : ℕ → Bool) (n m : ℕ) → live n ≡ true → live m ≡ false → n ≢ m
lives_apart live n m a b e = true≢false (sym a ∙ (ap live e ∙ b))

-- what is held above a level is of other nodes than one that isn't live or no higher
pub higher_dead : (t : Terms) (f : Contents) (live : ℕ → Bool) (level n : ℕ) (held : List Holding) → AreHigher t level held → AllByRecursion (IsTold f live) held → live n ≡ false → AreFar n held
higher_dead t f live level n [] higher told dead = tt
higher_dead t f live level n (a ∷ held) higher told dead = (lives_apart live a.node n (told.0 higher.0.marked).0 dead, higher_dead t f live a.settled.level n held higher.2 told.1 dead)

pub higher_far : (t : Terms) (f : Contents) (live : ℕ → Bool) (level n : ℕ) (held : List Holding) → AreHigher t level held → AllByRecursion (IsTold f live) held → (f n).level ≤ level → AreFar n held
higher_far t f live level n [] higher told below = tt
higher_far t f live level n (a ∷ held) higher told below =
    let content = (told.0 higher.0.marked).1 in
    let less = higher.1 in
    ((λ e. (let same : a.settled.level ≡ (f n).level = ap (λ (z : NodeData). z.level) (sym content) ∙ ap (λ k. (f k).level) e in omega (arith, same, less, below))), higher_far t f live a.settled.level n held higher.2 told.1 (omega (arith, less, below)))

pub higher_once : (t : Terms) (f : Contents) (live : ℕ → Bool) (level : ℕ) (held : List Holding) → AreHigher t level held → AllByRecursion (IsTold f live) held → HeldOnce held
higher_once t f live level [] higher told = tt
higher_once t f live level (a ∷ held) higher told =
    let same : (f a.node).level ≡ a.settled.level = ap (λ (z : NodeData). z.level) (told.0 higher.0.marked).1 in
    (higher_far t f live a.settled.level a.node held higher.2 told.1 (omega (arith, same)), higher_once t f live a.settled.level held higher.2 told.1)

-- they stay as they are where none of them is of the change
pub higher_stay : (t : Terms) (f : Contents) (live : ℕ → Bool) (group reached : List ℕ) (level : ℕ) (held : List Holding) → AreHigher t level held → AllByRecursion (IsTold f live) held
    → AllByRecursion (λ (a : Holding). (is_among group a.node ≡ false) × (is_among reached a.node ≡ false)) held → AllByRecursion (StaysSettled f live group reached) held
higher_stay t f live group reached level [] higher told outside = tt
higher_stay t f live group reached level (a ∷ held) higher told outside =
    let is = told.0 higher.0.marked in
    (record { mark = higher.0.marked; spells = higher.0.spells; lives = is.0; content = is.1; outside = outside.0.0; off = outside.0.1 }, higher_stay t f live group reached a.settled.level held higher.2 told.1 outside.1)

-- the place of a lock's node, and what a load of a word tells of it
pub place_of_lock : (t : Terms) (n : ℕ) (s : NodeData) (changed : Bool) (h : Holding) → IsSettledLock t n s changed h → (f : NodeBounds) × IsLiveNode t n s f
place_of_lock t n s changed h l = go h.mark l.marked l.live
  where
    go : (o : Option NodeBounds) → IsSome o → IfSome o (IsLiveNode t n s) → (f : NodeBounds) × IsLiveNode t n s f
    go None is live = absurd (true≢false (sym is))
    go (Some f) is live = (f, live)

pub told_place : (t : Terms) (n : ℕ) (s : NodeData) (h : Holding) (v : Log) → v.terms ≡ t → held_of n v.holdings.held ≡ Some h → h.node ≡ n → h.settled ≡ s → HolderTells n v → IfSome h.mark (IsLiveNode t n s)
told_place t n s h v terms found node settled told =
    let is : IsHeldNode v.terms h = subst (λ o. IfSome o (IsHeldNode v.terms)) found told in
    subst (λ k. IfSome h.mark (IsLiveNode t k s)) node (subst (λ z. IfSome h.mark (IsLiveNode t h.node z)) settled (subst (λ z. IfSome h.mark (IsLiveNode z h.node h.settled)) terms is.live))
