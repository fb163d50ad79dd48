-- What an update of the tree makes of its entries, it makes of the registered members.
use Rattle.std.proofs.Common.{◌≡◌, ◌≢◌, ℕ, suc, zero, ◌+◌, ◌≤◌, ◌↔◌, List, [], ◌∷◌, ◌++◌, get_or, sym, ap, ◌∙◌, subst, refl, inl, inr, ⊎_elim, arith, ◌==◌, not, true≢false, false, Some, Contains, eq-eqb, ne_eqb, Bool, true, if◌then◌else◌}
use Rattle.std.specs.List.{find}
use Rattle.std.proofs.lemmas.List.Elements.{Contains-append_left, Contains-get_or, Contains-push, Contains-push_cases}
use Rattle.reg_model.specs.SpanData.{Overlaps, is_same_span}
use Rattle.reg_model.specs.State.{State}
use Rattle.reg_model.specs.History.{Fits, after}
use Rattle.reg_model.specs.declared.span.Member.{Member}
use Rattle.reg_model.specs.declared.answer.Update.{Update}
use Rattle.reg_model.specs.declared.answer.Update.TheVariants as update
use Rattle.reg_model.proofs.Spans.{overlap_bounds}
use Rattle.reg_model.proofs.Replacing.{from_with_payload, new_with_payload, others_with_payload, span_same}
use Rattle.segment_array.specs.Ascending.{AscendFrom}
use Rattle.tree_laws.specs.LocalChange.{EntriesBecome}
use Rattle.word_rule.specs.Callers.{is_of_loader}
use Rattle.word_rule.proofs.Listings.{contains_filter, filter_contains, contains_find}

-- two members of a list that ascends are one, or don't overlap
above : (low : ℕ) (xs : List Member) → AscendFrom low xs → (x : Member) → Contains xs x → low ≤ x.span.first
above low [] h x c = absurd (let l = c.1 in omega (arith, l))
above low (z ∷ xs) h x (zero, l, e) = subst (λ (w : Member). low ≤ w.span.first) e h.0
above low (z ∷ xs) h x (suc k, l, e) = let a = above (z.span.last + 1) xs h.2 x (k, omega (arith, l), e) in let b = h.0 in let c = h.1 in omega (arith, a, b, c)

pub ascending_apart : (low : ℕ) (xs : List Member) → AscendFrom low xs → (x y : Member) → Contains xs x → Contains xs y → x ≢ y → ¬ Overlaps x.span y.span
ascending_apart low [] h x y c d ne over = let l = c.1 in omega (arith, l)
ascending_apart low (z ∷ xs) h x y (zero, l, e) (zero, k, f) ne over = ne (sym e ∙ f)
ascending_apart low (z ∷ xs) h x y (zero, l, e) (suc j, k, f) ne over =
    let a = above (z.span.last + 1) xs h.2 y (j, omega (arith, k), f) in let b = overlap_bounds x.span y.span over in let same : z.span.last ≡ x.span.last = ap (λ (w : Member). w.span.last) e in let c = b.1 in omega (arith, a, c, same)
ascending_apart low (z ∷ xs) h x y (suc i, l, e) (zero, k, f) ne over =
    let a = above (z.span.last + 1) xs h.2 x (i, omega (arith, l), e) in let b = overlap_bounds x.span y.span over in let same : z.span.last ≡ y.span.last = ap (λ (w : Member). w.span.last) f in let c = b.0 in omega (arith, a, c, same)
ascending_apart low (z ∷ xs) h x y (suc i, l, e) (suc j, k, f) ne over = ascending_apart (z.span.last + 1) xs h.2 x y (i, omega (arith, l), e) (j, omega (arith, k), f) ne over

-- Where the entries are the registered members, and an update makes others of them of which no two overlap, it fits, and these are the registered members after it.
pub tree_fits : (s : State) (u : Update) (before now : Member → Type 0) → ((x : Member) → before x ↔ Contains s.registered x) → EntriesBecome (Some u) before now → ((x y : Member) → now x → now y → x ≢ y → ¬ Overlaps x.span y.span)
    → Fits u s × ((x : Member) → now x ↔ Contains (after u s).registered x) × (is_of_loader u ≡ false) × ((after u s).loaded ≡ s.loaded)
tree_fits s (update.Register m) before now same become apart = (
  (λ k d l. let c = (same (get_or s.registered k d)).1 (Contains-get_or s.registered k d l) in
      apart (get_or s.registered k d) m ((become.1 (get_or s.registered k d)).1 (inl c)) ((become.1 m).1 (inr refl)) (λ e. become.0 (subst before e c))),
  λ x. (
    (λ a. ⊎_elim (λ (b : before x). Contains-append_left s.registered (m ∷ []) x ((same x).0 b)) (λ (e : x ≡ m). subst (Contains (s.registered ++ m ∷ [])) (sym e) (Contains-push s.registered m)) ((become.1 x).0 a)),
    (λ c. (become.1 x).1 (⊎_elim (λ (d : Contains s.registered x). inl ((same x).1 d)) (λ (e : m ≡ x). inr (sym e)) (Contains-push_cases s.registered m x c))),
  ),
  refl,
  refl,
)
tree_fits s (update.Deregister base) before now same become apart =
    let m = become.0 in (
      contains_find (λ (x : Member). x.span.first == base) s.registered m.0 ((same m.0).0 m.1.0) (eq-eqb m.0.span.first base m.1.1),
      λ x. (
        (λ a. let d = (become.1 x).0 a in filter_contains (λ (y : Member). not (y.span.first == base)) s.registered x ((same x).0 d.0) (ap not (ne_eqb x.span.first base d.1))),
        (λ c. let d = contains_filter (λ (y : Member). not (y.span.first == base)) s.registered x c in (become.1 x).1 ((same x).1 d.0, (λ e. true≢false (sym d.1 ∙ ap not (eq-eqb x.span.first base e))))),
      ),
      refl,
      refl,
    )
tree_fits s (update.Replace m) before now same become apart =
    let old = become.0 in let there = (same old.0).0 old.1.0 in (
      contains_find (λ (x : Member). is_same_span x.span m.span) s.registered old.0 there (span_same old.0.span m.span old.1.1),
      λ x. (
        (λ a. ⊎_elim (λ (b : before x × (x.span ≢ m.span)). others_with_payload m x s.registered ((same x).0 b.0) b.1)
            (λ (e : x ≡ m). subst (Contains (after (update.Replace m) s).registered) (sym e) (new_with_payload m old.0 s.registered there old.1.1)) ((become.1 x).0 a)),
        (λ c. (become.1 x).1 (⊎_elim (λ (d : Contains s.registered x × (x.span ≢ m.span)). inl ((same x).1 d.0, d.1)) (λ (e : x ≡ m). inr e) (from_with_payload m x s.registered c))),
      ),
      refl,
      refl,
    )
tree_fits s (update.Load m) before now same become apart = absurd become
tree_fits s (update.Unload base) before now same become apart = absurd become

-- two members of a list that ascends that begin at one address are one
pub ascending_same : (low : ℕ) (xs : List Member) → AscendFrom low xs → (x y : Member) → Contains xs x → Contains xs y → x.span.first ≡ y.span.first → x ≡ y
ascending_same low [] h x y c d is = absurd (let l = c.1 in omega (arith, l))
ascending_same low (z ∷ xs) h x y (zero, l, e) (zero, k, f) is = sym e ∙ f
ascending_same low (z ∷ xs) h x y (zero, l, e) (suc j, k, f) is =
    let a = above (z.span.last + 1) xs h.2 y (j, omega (arith, k), f) in let b = h.1 in let same : z.span.first ≡ x.span.first = ap (λ (w : Member). w.span.first) e in absurd (omega (arith, a, b, same, is))
ascending_same low (z ∷ xs) h x y (suc i, l, e) (zero, k, f) is =
    let a = above (z.span.last + 1) xs h.2 x (i, omega (arith, l), e) in let b = h.1 in let same : z.span.first ≡ y.span.first = ap (λ (w : Member). w.span.first) f in absurd (omega (arith, a, b, same, is))
ascending_same low (z ∷ xs) h x y (suc i, l, e) (suc j, k, f) is = ascending_same (z.span.last + 1) xs h.2 x y (i, omega (arith, l), e) (j, omega (arith, k), f) is

-- a search for what one member alone has finds it
pub finds_only : (p : Member → Bool) (xs : List Member) (m : Member) → Contains xs m → p m ≡ true → ((x : Member) → Contains xs x → p x ≡ true → x ≡ m) → find p xs ≡ Some m
finds_only p [] m there is only = absurd (let l = there.1 in omega (arith, l))
finds_only p (y ∷ xs) m there is only = go (p y) refl there (λ c. finds_only p xs m c is (λ x d a. only x (longer x d) a))
  where
    longer : (x : Member) → Contains xs x → Contains (y ∷ xs) x
    longer x (k, l, e) = (suc k, omega (arith, l), e)

    go : (b : Bool) → p y ≡ b → Contains (y ∷ xs) m → (Contains xs m → find p xs ≡ Some m) → (if b then Some y else find p xs) ≡ Some m
    go true q h rest = ap Some (only y (0, omega arith, refl) q)
    go false q (zero, l, e) rest = absurd (true≢false (sym is ∙ (ap p (sym e) ∙ q)))
    go false q (suc k, l, e) rest = rest (k, omega (arith, l), e)
