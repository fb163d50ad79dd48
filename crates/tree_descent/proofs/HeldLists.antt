-- Lists of locks: what stands in them, which is the highest, and which is found by its node.
use Rattle.std.proofs.Common.{◌≢◌, List, [], ◌∷◌, ◌≡◌, ℕ, ap, Some, eq-eqb, cond, refl, ◌∙◌, ne_eqb, not, sym, Bool, true, false, inl, inr, map, ◌<◌, ◌≤◌, arith, ◌⊎◌, nat_lt, if◌then◌else◌, true≢false, Option, None, IsSome}
use Rattle.std.specs.List.{AllByRecursion, filter}
use Rattle.std.proofs.lemmas.Bool.{ltb-true, lt-ltb, le-ltb}
use native.Mathlib.Decide.{ℕ_discrete}
use Rattle.tree_laws.proofs.Times.{In, times_in, all_from, all_at, times_head}
use Rattle.tree_laws.specs.Numbers.{is_among, times}
use Rattle.tree_laws.proofs.Halves.{among}
use Rattle.word_rule.specs.declared.log.Holding.{Holding}
use Rattle.word_rule.specs.Held.{held_of, without_lock, is_marked, marked_in}
use Rattle.word_rule.specs.Exchange.{node_of, highest, highest_of}
use Rattle.word_rule.proofs.Each.{held_is}

-- each node is held once
abbrev pub HeldOnce : List Holding → Type 0
HeldOnce [] = Unit {0}
HeldOnce (h ∷ held) = AllByRecursion (λ a. a.node ≢ h.node) held × HeldOnce held

-- a lock at the head is the one that is found
pub found_head : (n : ℕ) (h : Holding) (held : List Holding) → h.node ≡ n → held_of n (h ∷ held) ≡ Some h
found_head n h held is = ap (λ b. cond b (Some h) (held_of n held)) (eq-eqb h.node n is)

-- where no lock is of a node, that is let go of as it was
pub without_far : (n : ℕ) (held : List Holding) → AllByRecursion (λ (h : Holding). h.node ≢ n) held → without_lock n held ≡ held
without_far n [] all = refl
without_far n (h ∷ held) all = ap (λ b. cond (not b) (h ∷ without_lock n held) (without_lock n held)) (ne_eqb h.node n all.0) ∙ ap (λ hs. h ∷ hs) (without_far n held all.1)

-- a test that passes exactly where another does is the same
pub same_test : (a b : Bool) → (a ≡ true → b ≡ true) → (b ≡ true → a ≡ true) → a ≡ b
same_test true b to from = sym (to refl)
same_test false true to from = from refl
same_test false false to from = refl

-- what stands in a filtered and in a mapped list
pub in_filter : (test : Holding → Bool) (held : List Holding) (h : Holding) → In h (filter test held) → In h held × (test h ≡ true)
in_filter test [] h there = absurd there
in_filter test (x ∷ held) h there = go (test x) refl there (λ later. in_filter test held h later)
  where
    go : (b : Bool) → test x ≡ b → In h (cond b (x ∷ filter test held) (filter test held)) → (In h (filter test held) → In h held × (test h ≡ true)) → In h (x ∷ held) × (test h ≡ true)
    go true is (inl e) rest = (inl e, ap test (sym e) ∙ is)
    go true is (inr later) rest = let r = rest later in (inr r.0, r.1)
    go false is there rest = let r = rest there in (inr r.0, r.1)

pub in_nodes : (held : List Holding) (n : ℕ) → In n (map node_of held) → (h : Holding) × (In h held × (h.node ≡ n))
in_nodes [] n there = absurd there
in_nodes (x ∷ held) n (inl e) = (x, (inl refl, e))
in_nodes (x ∷ held) n (inr later) = let r = in_nodes held n later in (r.0, (inr r.1.0, r.1.1))

pub in_list : (xs : List ℕ) (n : ℕ) → is_among xs n ≡ true → In n xs
in_list xs n e = times_in xs n (ltb-true 0 (times n xs) e)

-- lists that two tests filter alike
pub filter_same : (p q : ℕ → Bool) (xs : List ℕ) → ((n : ℕ) → In n xs → p n ≡ q n) → filter p xs ≡ filter q xs
filter_same p q [] each = refl
filter_same p q (x ∷ xs) each = (λ i. cond (each x (inl refl) i) (x ∷ filter_same p q xs (λ n there. each n (inr there)) i) (filter_same p q xs (λ n there. each n (inr there)) i))

pub filter_none : (p : ℕ → Bool) (xs : List ℕ) → ((n : ℕ) → In n xs → p n ≡ false) → filter p xs ≡ []
filter_none p [] each = refl
filter_none p (x ∷ xs) each = ap (λ b. cond b (x ∷ filter p xs) (filter p xs)) (each x (inl refl)) ∙ filter_none p xs (λ n there. each n (inr there))

-- The highest of some locks, where one node has the greatest level alone.
pub record IsBelow (top level : ℕ) (h : Holding) : Type 0 where
  pub at : h.node ≡ top → h.settled.level ≡ level
  pub else_ : h.node ≢ top → h.settled.level < level

abbrev pub HasTop : ℕ → List Holding → Type 0
HasTop top held = (h : Holding) × (In h held × (h.node ≡ top))

highest_is : (top level : ℕ) (node own : ℕ) (held : List Holding) → AllByRecursion (IsBelow top level) held → ((node ≡ top) × (own ≡ level)) ⊎ ((own < level) × HasTop top held) → highest node own held ≡ top
highest_is top level node own [] all (inl e) = e.0
highest_is top level node own [] all (inr (less, (h, (there, is)))) = absurd there
highest_is top level node own (h ∷ held) all (inl e) =
    let most : h.settled.level ≤ own = go (ℕ_discrete h.node top) in
    ap (λ b. if b then highest h.node h.settled.level held else highest node own held) (le-ltb own h.settled.level most) ∙ highest_is top level node own held all.1 (inl e)
  where
    go : Dec (h.node ≡ top) → h.settled.level ≤ own
    go (yes is) = let a = all.0.at is in let b = e.1 in omega (arith, a, b)
    go (no far) = let a = all.0.else_ far in let b = e.1 in omega (arith, a, b)
highest_is top level node own (h ∷ held) all (inr (less, (x, (there, is)))) =
    by_node (λ n l start. highest_is top level n l held all.1 start) (ℕ_discrete h.node top)
  where
    by_node : ((n l : ℕ) → ((n ≡ top) × (l ≡ level)) ⊎ ((l < level) × HasTop top held) → highest n l held ≡ top) → Dec (h.node ≡ top) → highest node own (h ∷ held) ≡ top
    by_node rest (yes e) = let a = all.0.at e in
        ap (λ b. if b then highest h.node h.settled.level held else highest node own held) (lt-ltb own h.settled.level (omega (arith, a, less)))
        ∙ rest h.node h.settled.level (inl (e, a))
    by_node rest (no far) = by_place there
      where
        by_test : In x held → (b : Bool) → (if b then highest h.node h.settled.level held else highest node own held) ≡ top
        by_test later true = rest h.node h.settled.level (inr (all.0.else_ far, (x, (later, is))))
        by_test later false = rest node own (inr (less, (x, (later, is))))

        by_place : In x (h ∷ held) → highest node own (h ∷ held) ≡ top
        by_place (inl e) = absurd (far (ap node_of e ∙ is))
        by_place (inr later) = by_test later (nat_lt own h.settled.level)

pub highest_of_is : (top level : ℕ) (held : List Holding) → AllByRecursion (IsBelow top level) held → HasTop top held → highest_of held ≡ top
highest_of_is top level [] all (x, (there, is)) = absurd there
highest_of_is top level (h ∷ held) all (x, (there, is)) = by_node (ℕ_discrete h.node top)
  where
    by_node : Dec (h.node ≡ top) → highest h.node h.settled.level held ≡ top
    by_node (yes e) = highest_is top level h.node h.settled.level held all.1 (inl (e, all.0.at e))
    by_node (no far) = by_place there
      where
        by_place : In x (h ∷ held) → highest h.node h.settled.level held ≡ top
        by_place (inl e) = absurd (far (ap node_of e ∙ is))
        by_place (inr later) = highest_is top level h.node h.settled.level held all.1 (inr (all.0.else_ far, (x, (later, is))))

-- a lock that is found by its node
pub found_is : (n : ℕ) (held : List Holding) (h : Holding) → held_of n held ≡ Some h → In h held × (h.node ≡ n)
found_is n held h found = held_is (λ a. In a held) n held h (all_from (λ a. In a held) held (λ a there. there)) found

pub marked_is : (n : ℕ) (held : List Holding) → marked_in held n ≡ true → (h : Holding) × ((held_of n held ≡ Some h) × IsSome h.mark)
marked_is n held marked = go (held_of n held) refl marked
  where
    go : (o : Option Holding) → held_of n held ≡ o → is_marked o ≡ true → (h : Holding) × ((held_of n held ≡ Some h) × IsSome h.mark)
    go None e m = absurd (true≢false (sym m))
    go (Some h) e m = (h, (e, m))

-- where each node is held once, a lock of the list is found by its node
pub once_found : (held : List Holding) (h : Holding) → HeldOnce held → In h held → held_of h.node held ≡ Some h
once_found [] h once there = absurd there
once_found (x ∷ held) h once (inl e) = ap (λ b. cond b (Some x) (held_of h.node held)) (eq-eqb x.node h.node (ap node_of e)) ∙ ap Some e
once_found (x ∷ held) h once (inr later) =
    ap (λ b. cond b (Some x) (held_of h.node held)) (ne_eqb x.node h.node (λ e. all_at (λ a. a.node ≢ x.node) held h once.0 later (sym e))) ∙ once_found held h once.1 later

-- a node is one of these, or none of them
pub is_first : (n : ℕ) (xs : List ℕ) → is_among (n ∷ xs) n ≡ true
is_first n xs = among (n ∷ xs) n (times_head n xs)

-- the only lock is let go of
pub without_one : (n : ℕ) (h : Holding) → h.node ≡ n → without_lock n (h ∷ []) ≡ []
without_one n h is = ap (λ b. cond (not b) (h ∷ []) []) (eq-eqb h.node n is)
