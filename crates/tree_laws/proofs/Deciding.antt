-- What the tests of a local change tell.
use Rattle.std.proofs.Common.{◌≡◌, ◌≢◌, ℕ, ◌+◌, ◌-◌, ◌<◌, ◌≤◌, ◌↔◌, List, [], ◌∷◌, refl, ap, sym, ◌∙◌, subst, arith, Bool, true, false, cond, not, ◌&&◌, ◌||◌, IsTrue, inl, inr, length}
use Rattle.std.specs.Prelude.{Option, None, Some, ◌==◌, nat_le, nat_lt}
use Rattle.std.specs.Bool.{Decides}
use Rattle.std.specs.List.{AllByRecursion, list_all, list_any}
use lib.Pointwise.{pointwise}
use Rattle.std.proofs.lemmas.Bool.{cases_eq, eq-eqb, eqb-true, ne_eqb, le-leb, leb-true, ltb-true}
use Rattle.std.proofs.lemmas.Bool.Decides.{Decides-eqb, Decides-and, Decides-or, Decides-not, Decides-like, Decides-ltb}
use Rattle.std.proofs.lemmas.Slice.Eq.{slice_eq-Decides}
use Rattle.reg_model.specs.declared.span.Member.{Member}
use Rattle.segment_array.specs.Ascending.{AscendFrom}
use Rattle.reg_model.specs.declared.answer.Update.{Update}
use Rattle.reg_model.specs.declared.answer.Update.TheVariants.{Register, Deregister, Replace}
use Rattle.reg_model.specs.declared.answer.Update.TheVariants.{Load, Unload}
use Rattle.tree_shape.specs.declared.pair.Pair.{Pair}
use Rattle.tree_shape.specs.declared.limits.TheConstants.{HIGHEST_LEVEL}
use Rattle.tree_shape.specs.NodeData.{NodeData, Body, Pairs, Entries, Link, entries_of, entries_in, pairs_in, EntriesWithin, Cut}
use Rattle.tree_laws.specs.Numbers.{times, is_among}
use Rattle.tree_laws.specs.Trees.{Contents, Branch, branches, within, leaving, HasEntry}
use Rattle.tree_laws.specs.Lawful.{IsOrdered, IsOrderedAs, IsFilled, IsFilledAs, FitsParent}
use Rattle.tree_laws.specs.LocalChange.{IsLocalChange, IsLawfulChange, EntriesBecome, either, reached_nodes}
use Rattle.tree_laws.specs.Decisions.{same_pair, same_body, same_shape, same_member, same_branch, ascends_from, lie_within, do_cut, has_order_as, is_filled_as, fits_parent, children_fit, keeps_level, is_local_change, entries_at_nodes, has_member, are_included, same_members, entries_become, is_lawful_change}
use Rattle.tree_laws.proofs.Times.{In, all_at, all_from, all_among, all_times, in_times, times_in, in_flat_map, in_flat_map_from}
use Rattle.tree_laws.proofs.Leads.{contains_in, in_contains}
use Rattle.tree_laws.proofs.Halves.{among}
use Rattle.tree_laws.proofs.Leaves.{left_in, left_from}
use Rattle.tree_shape.proofs.Payloads.{same_span_decides}
use Rattle.tree_laws.proofs.ListedPayloads.{listed_payload}
use Rattle.tree_laws.proofs.Transfers.{become_same}
use Rattle.reg_model.specs.SpanData.{is_same_span}
use Rattle.reg_model.specs.History.{without, with_payload}

le_decides : (a b : ℕ) → Decides (nat_le a b) (a ≤ b)
le_decides a b = (leb-true a b, le-leb a b)

pub all_decides : {X : Type 0} (p : X → Bool) (P : X → Type 0) → ((x : X) → Decides (p x) (P x)) → (xs : List X) →
    Decides (list_all p xs) (AllByRecursion P xs)
all_decides p P each [] = (λ _. tt, λ _. refl)
all_decides p P each (x ∷ xs) = Decides-and (p x) (list_all p xs) (each x) (all_decides p P each xs)

any_decides : {X : Type 0} (p : X → Bool) (P : X → Type 0) → ((x : X) → Decides (p x) (P x)) → (xs : List X) →
    Decides (list_any p xs) ((x : X) × (In x xs × P x))
any_decides p P each [] = (λ e. absurd (cc (e)), λ h. absurd h.1.0)
any_decides p P each (x ∷ xs) =
    let rest = any_decides p P each xs in
    Decides-like (p x || list_any p xs)
    (λ h. elim h [ inl here ↦ (x, (inl refl, here)) | inr later ↦ (later.0, (inr later.1.0, later.1.1)) ])
    (λ h. elim h.1.0 [ inl e ↦ inl (subst P (sym e) h.1.1) | inr later ↦ inr (h.0, (later, h.1.1)) ])
    (Decides-or (p x) (list_any p xs) (each x) rest)

same_member_decides : (m n : Member) → Decides (same_member m n) (m ≡ n)
same_member_decides m n = Decides-like (same_member m n)
    (λ (h : (m.span.first ≡ n.span.first) × ((m.span.last ≡ n.span.last) × (m.payload ≡ n.payload))). whole m n h.0 h.1.0 h.1.1)
    (λ e. (ap (λ (x : Member). x.span.first) e, (ap (λ (x : Member). x.span.last) e, ap (λ (x : Member). x.payload) e)))
    (Decides-and (m.span.first == n.span.first) ((m.span.last == n.span.last) && (m.payload == n.payload)) (Decides-eqb m.span.first n.span.first)
    (Decides-and (m.span.last == n.span.last) (m.payload == n.payload) (Decides-eqb m.span.last n.span.last) (Decides-eqb m.payload n.payload)))
  where
    whole : (m n : Member) → m.span.first ≡ n.span.first → m.span.last ≡ n.span.last → m.payload ≡ n.payload → m ≡ n
    whole m n a b c = λ i. record { span = record { first = a i; last = b i }; payload = c i }

same_branch_decides : (b c : Branch) → Decides (same_branch b c) (b ≡ c)
same_branch_decides b c = Decides-like (same_branch b c)
    (λ (h : (b.child ≡ c.child) × ((b.frame.level ≡ c.frame.level) × ((b.frame.low ≡ c.frame.low) × (b.frame.high ≡ c.frame.high)))).
    λ i. record { child = h.0 i; frame = record { level = h.1.0 i; low = h.1.1.0 i; high = h.1.1.1 i } })
    (λ e. (ap (λ (x : Branch). x.child) e, (ap (λ (x : Branch). x.frame.level) e, (ap (λ (x : Branch). x.frame.low) e, ap (λ (x : Branch). x.frame.high) e))))
    (Decides-and (b.child == c.child) ((b.frame.level == c.frame.level) && ((b.frame.low == c.frame.low) && (b.frame.high == c.frame.high))) (Decides-eqb b.child c.child)
    (Decides-and (b.frame.level == c.frame.level) ((b.frame.low == c.frame.low) && (b.frame.high == c.frame.high)) (Decides-eqb b.frame.level c.frame.level)
    (Decides-and (b.frame.low == c.frame.low) (b.frame.high == c.frame.high) (Decides-eqb b.frame.low c.frame.low) (Decides-eqb b.frame.high c.frame.high))))

same_pair_decides : (p q : Pair) → Decides (same_pair p q) (p ≡ q)
same_pair_decides p q = Decides-like (same_pair p q)
    (λ (h : (p.child ≡ q.child) × (p.separator ≡ q.separator)). λ i. record { child = h.0 i; separator = h.1 i })
    (λ e. (ap (λ (x : Pair). x.child) e, ap (λ (x : Pair). x.separator) e))
    (Decides-and (p.child == q.child) (p.separator == q.separator) (Decides-eqb p.child q.child) (Decides-eqb p.separator q.separator))

same_body_decides : (b c : Body) → Decides (same_body b c) (b ≡ c)
same_body_decides (Pairs pairs) (Pairs others) =
    let lists = slice_eq-Decides same_pair_decides pairs others (pointwise same_pair pairs others) refl in
    (λ e. ap Pairs (lists.0 e), λ e. lists.1 (ap pairs_in e))
same_body_decides (Entries entries) (Entries others) =
    let lists = slice_eq-Decides same_member_decides entries others (pointwise same_member entries others) refl in
    (λ e. ap Entries (lists.0 e), λ e. lists.1 (ap entries_in e))
same_body_decides (Link next) (Link other) =
    (λ e. ap Link (eqb-true next other e), λ e. eq-eqb next other (cc (e)))
same_body_decides (Pairs pairs) (Entries others) = (λ e. absurd (cc (e)), λ e. absurd (cc (e)))
same_body_decides (Pairs pairs) (Link other) = (λ e. absurd (cc (e)), λ e. absurd (cc (e)))
same_body_decides (Entries entries) (Pairs others) = (λ e. absurd (cc (e)), λ e. absurd (cc (e)))
same_body_decides (Entries entries) (Link other) = (λ e. absurd (cc (e)), λ e. absurd (cc (e)))
same_body_decides (Link next) (Pairs others) = (λ e. absurd (cc (e)), λ e. absurd (cc (e)))
same_body_decides (Link next) (Entries others) = (λ e. absurd (cc (e)), λ e. absurd (cc (e)))

pub same_shape_decides : (s t : NodeData) → Decides (same_shape s t) (s ≡ t)
same_shape_decides s t = Decides-like (same_shape s t)
    (λ (h : (s.level ≡ t.level) × ((s.low ≡ t.low) × ((s.high ≡ t.high) × (s.body ≡ t.body)))).
    λ i. record { level = h.0 i; low = h.1.0 i; high = h.1.1.0 i; body = h.1.1.1 i })
    (λ e. (ap (λ x. x.level) e, (ap (λ x. x.low) e, (ap (λ x. x.high) e, ap (λ x. x.body) e))))
    (Decides-and _ _ (Decides-eqb s.level t.level) (Decides-and _ _ (Decides-eqb s.low t.low)
    (Decides-and _ _ (Decides-eqb s.high t.high) (same_body_decides s.body t.body))))

ascends_decides : (low : ℕ) (members : List Member) → Decides (ascends_from low members) (AscendFrom low members)
ascends_decides low [] = (λ _. tt, λ _. refl)
ascends_decides low (m ∷ members) = Decides-like (ascends_from low (m ∷ members))
    (λ (h : (low ≤ m.span.first) × ((m.span.first ≤ m.span.last) × AscendFrom (m.span.last + 1) members)). (h.0, h.1.0, h.1.1))
    (λ h. (h.0, (h.1, h.2)))
    (Decides-and (nat_le low m.span.first) (nat_le m.span.first m.span.last && ascends_from (m.span.last + 1) members) (le_decides low m.span.first)
    (Decides-and (nat_le m.span.first m.span.last) (ascends_from (m.span.last + 1) members) (le_decides m.span.first m.span.last) (ascends_decides (m.span.last + 1) members)))

within_decides : (low high : ℕ) (entries : List Member) → Decides (lie_within low high entries) (EntriesWithin low high entries)
within_decides low high entries = Decides-and (ascends_from low entries) (list_all (λ m. nat_le m.span.last high) entries) (ascends_decides low entries)
    (all_decides (λ m. nat_le m.span.last high) (λ m. m.span.last ≤ high) (λ m. le_decides m.span.last high) entries)

cut_decides : (low high : ℕ) (pairs : List Pair) → Decides (do_cut low high pairs) (Cut low high pairs)
cut_decides low high [] = Decides-eqb low (high + 1)
cut_decides low high (p ∷ pairs) = Decides-and (nat_le low p.separator) (do_cut (p.separator + 1) high pairs) (le_decides low p.separator) (cut_decides (p.separator + 1) high pairs)

order_decides : (s : NodeData) (b : Body) → Decides (has_order_as s b) (IsOrderedAs s b)
order_decides s (Entries entries) = Decides-and (s.level == 0) (lie_within s.low s.high entries) (Decides-eqb s.level 0) (within_decides s.low s.high entries)
order_decides s (Pairs pairs) = Decides-and (nat_lt 0 s.level) (do_cut s.low s.high pairs) (Decides-ltb 0 s.level) (cut_decides s.low s.high pairs)
order_decides s (Link next) = (λ e. absurd (cc (e)), λ h. absurd h)

filled_decides : (n : ℕ) (b : Body) → Decides (is_filled_as n b) (IsFilledAs n b)
filled_decides n (Entries entries) = Decides-and _ _ (le_decides _ (length entries)) (le_decides (length entries) _)
filled_decides n (Pairs pairs) = Decides-and _ _ (le_decides _ (length pairs)) (le_decides (length pairs) _)
filled_decides n (Link next) = (λ e. absurd (cc (e)), λ h. absurd h)

fits_decides : (f : Contents) (b : Branch) → Decides (fits_parent f b) (FitsParent f b)
fits_decides f b = Decides-like (fits_parent f b)
    (λ (h : ((f b.child).level ≡ b.frame.level) × (((f b.child).low ≡ b.frame.low) × ((f b.child).high ≡ b.frame.high))). record { level = h.0; low = h.1.0; high = h.1.1 })
    (λ h. (h.level, (h.low, h.high)))
    (Decides-and ((f b.child).level == b.frame.level) (((f b.child).low == b.frame.low) && ((f b.child).high == b.frame.high)) (Decides-eqb (f b.child).level b.frame.level)
    (Decides-and ((f b.child).low == b.frame.low) ((f b.child).high == b.frame.high) (Decides-eqb (f b.child).low b.frame.low) (Decides-eqb (f b.child).high b.frame.high)))

-- what a test implies
pub implies_decides : (a b : Bool) (P : Type 0) → Decides b P → Decides (not a || b) (IsTrue a → P)
implies_decides true b P d = (λ e _. d.0 e, λ h. d.1 (h refl))
implies_decides false b P d = (λ _ e. absurd (cc (e)), λ _. refl)

children_decide : (g : Contents) (set : ℕ → Bool) (n : ℕ) →
    Decides (children_fit g set n) (AllByRecursion (λ b. IsTrue (set b.child) → FitsParent g b) (branches ((g n).level - 1) (g n)))
children_decide g set n = all_decides (λ b. not (set b.child) || fits_parent g b) (λ b. IsTrue (set b.child) → FitsParent g b)
    (λ b. implies_decides (set b.child) (fits_parent g b) (FitsParent g b) (fits_decides g b)) (branches ((g n).level - 1) (g n))

level_decides : (top : ℕ) (s t : NodeData) →
    Decides (keeps_level top s t) ((top ≢ 0 → t.level ≡ s.level) × (top ≡ 0 → t.level ≤ HIGHEST_LEVEL))
level_decides top s t = elim (cases_eq top 0) [
  | inl e ↦
      let test : keeps_level top s t ≡ nat_le t.level HIGHEST_LEVEL = ap (λ v. cond v (nat_le t.level HIGHEST_LEVEL) (t.level == s.level)) (eq-eqb top 0 e) in (
        λ h. ((λ other. absurd (other e)), (λ _. leb-true t.level HIGHEST_LEVEL (sym test ∙ h))),
        λ h. test ∙ le-leb t.level HIGHEST_LEVEL (h.1 e),
      )
  | inr other ↦
      let test : keeps_level top s t ≡ (t.level == s.level) = ap (λ v. cond v (nat_le t.level HIGHEST_LEVEL) (t.level == s.level)) (ne_eqb top 0 other) in (
        λ h. ((λ _. eqb-true t.level s.level (sym test ∙ h)), (λ e. absurd (other e))),
        λ h. test ∙ eq-eqb t.level s.level (h.0 other),
      )
]

unless_decides : (a b : Bool) → Decides (not (a && b)) (IsTrue a → b ≡ false)
unless_decides true true = (λ e. absurd (cc (e)), λ h. absurd (cc (h refl)))
unless_decides true false = (λ _ _. refl, λ _. refl)
unless_decides false b = (λ _ e. absurd (cc (e)), λ _. refl)

-- what holds of each number of a list holds of each that its test passes, and the other way round
pub listed_decides : (p : ℕ → Bool) (P : ℕ → Type 0) → ((n : ℕ) → Decides (p n) (P n)) → (xs : List ℕ) →
    Decides (list_all p xs) ((n : ℕ) → IsTrue (is_among xs n) → P n)
listed_decides p P each xs = Decides-like (list_all p xs)
    (λ (all : AllByRecursion P xs). λ n there. all_among P xs n all there)
    (λ h. all_from P xs (λ n there. h n (among xs n (in_times xs n there))))
    (all_decides p P each xs)

once_decides : (xs : List ℕ) → Decides (list_all (λ n. nat_le (times n xs) 1) xs) ((n : ℕ) → times n xs ≤ 1)
once_decides xs = Decides-like (list_all (λ n. nat_le (times n xs) 1) xs)
    (λ (all : AllByRecursion (λ n. times n xs ≤ 1) xs). λ n. elim (cases_eq (times n xs) 0) [
      | inl none ↦ omega arith
      | inr some ↦ all_times (λ m. times m xs ≤ 1) xs n all (omega arith)
    ])
    (λ h. all_from (λ n. times n xs ≤ 1) xs (λ n there. h n))
    (all_decides (λ n. nat_le (times n xs) 1) (λ n. times n xs ≤ 1) (λ n. le_decides (times n xs) 1) xs)

module _ (f : Contents) (live : ℕ → Bool) (top : ℕ) (group : List ℕ) (fresh : ℕ → Bool) (fresh_nodes : List ℕ) (g : Contents)
    (others : (n : ℕ) → either (is_among group) fresh n ≡ false → g n ≡ f n)
    (has : (n : ℕ) → IsTrue (fresh n) → IsTrue (is_among fresh_nodes n)) where
  abbrev ways : List ℕ
  ways = within (is_among group) f (f top).level top

  abbrev reached : List ℕ
  reached = reached_nodes top (is_among group) fresh g

  abbrev set : ℕ → Bool
  set = either (is_among group) fresh

  fresh_decides : Decides (list_all (λ n. not (fresh n && live n)) fresh_nodes) ((n : ℕ) → IsTrue (fresh n) → live n ≡ false)
  fresh_decides = Decides-like (list_all (λ n. not (fresh n && live n)) fresh_nodes)
      (λ (h : (n : ℕ) → IsTrue (is_among fresh_nodes n) → IsTrue (fresh n) → live n ≡ false). λ n new'. h n (has n new') new')
      (λ h n there. h n)
      (listed_decides (λ n. not (fresh n && live n)) (λ n. IsTrue (fresh n) → live n ≡ false) (λ n. unless_decides (fresh n) (live n)) fresh_nodes)

  abbrev Parts : Type 0
  Parts = IsTrue (live top) × (IsTrue (is_among group top) × (((n : ℕ) → IsTrue (is_among group n) → 0 < times n ways)
      × (((n : ℕ) → IsTrue (fresh n) → live n ≡ false) × (((g top).low ≡ (f top).low) × (((g top).high ≡ (f top).high)
      × (((top ≢ 0 → (g top).level ≡ (f top).level) × (top ≡ 0 → (g top).level ≤ HIGHEST_LEVEL))
      × (AllByRecursion (λ n. IsOrdered (g n)) reached × (((n : ℕ) → times n reached ≤ 1)
      × (AllByRecursion (λ n. AllByRecursion (λ b. IsTrue (set b.child) → FitsParent g b) (branches ((g n).level - 1) (g n))) reached
      × (leaving set g (g top).level top ≡ leaving (is_among group) f (f top).level top))))))))))

  to : Parts → IsLocalChange f live top (is_among group) fresh g
  to h = record {
    top_live = h.0;
    top_grouped = h.1.0;
    grouped = h.1.1.0;
    fresh_free = h.1.1.1.0;
    others_stay = others;
    low = h.1.1.1.1.0;
    high = h.1.1.1.1.1.0;
    level = h.1.1.1.1.1.1.0.0;
    height = h.1.1.1.1.1.1.0.1;
    ordered = h.1.1.1.1.1.1.1.0;
    reached_once = h.1.1.1.1.1.1.1.1.0;
    fitting = h.1.1.1.1.1.1.1.1.1.0;
    exits = h.1.1.1.1.1.1.1.1.1.1;
  }

  from : IsLocalChange f live top (is_among group) fresh g → Parts
  from c = (c.top_live, (c.top_grouped, (c.grouped, (c.fresh_free, (c.low, (c.high, ((c.level, c.height), (c.ordered, (c.reached_once, (c.fitting, c.exits))))))))))

  pub local_decides : Decides (is_local_change f live top group fresh fresh_nodes g) (IsLocalChange f live top (is_among group) fresh g)
  local_decides = Decides-like (is_local_change f live top group fresh fresh_nodes g) to from
      (Decides-and _ _ (λ e. e, λ e. e)
      (Decides-and _ _ (λ e. e, λ e. e)
      (Decides-and _ _ (listed_decides (λ n. nat_lt 0 (times n ways)) (λ n. 0 < times n ways) (λ n. Decides-ltb 0 (times n ways)) group)
      (Decides-and _ _ fresh_decides
      (Decides-and _ _ (Decides-eqb (g top).low (f top).low)
      (Decides-and _ _ (Decides-eqb (g top).high (f top).high)
      (Decides-and _ _ (level_decides top (f top) (g top))
      (Decides-and _ _ (all_decides (λ n. has_order_as (g n) (g n).body) (λ n. IsOrdered (g n)) (λ n. order_decides (g n) (g n).body) reached)
      (Decides-and _ _ (once_decides reached)
      (Decides-and _ _ (all_decides (children_fit g set) (λ n. AllByRecursion (λ b. IsTrue (set b.child) → FitsParent g b) (branches ((g n).level - 1) (g n))) (children_decide g set) reached)
      (slice_eq-Decides same_branch_decides (leaving set g (g top).level top) (leaving (is_among group) f (f top).level top) _ refl)))))))))))

-- members of lists
has_decides : (members : List Member) (m : Member) → Decides (has_member members m) (In m members)
has_decides members m = Decides-like (has_member members m)
    (λ (h : (x : Member) × (In x members × (m ≡ x))). subst (λ x. In x members) (sym h.1.1) h.1.0)
    (λ there. (m, (there, refl)))
    (any_decides (same_member m) (λ x. m ≡ x) (same_member_decides m) members)

included_decides : (members others : List Member) → Decides (are_included members others) ((m : Member) → In m members → In m others)
included_decides members others = Decides-like (are_included members others)
    (λ (all : AllByRecursion (λ m. In m others) members). λ m there. all_at (λ m. In m others) members m all there)
    (λ h. all_from (λ m. In m others) members h)
    (all_decides (has_member others) (λ m. In m others) (has_decides others) members)

same_decides : (members others : List Member) → Decides (same_members members others) ((m : Member) → In m members ↔ In m others)
same_decides members others = Decides-like (same_members members others)
    (λ (h : ((m : Member) → In m members → In m others) × ((m : Member) → In m others → In m members)). λ m. (h.0 m, h.1 m))
    (λ h. (λ m. (h m).0, λ m. (h m).1))
    (Decides-and (are_included members others) (are_included others members) (included_decides members others) (included_decides others members))

become_decides : (update : Option Update) (before after : List Member) →
    Decides (entries_become update before after) (EntriesBecome update (λ m. In m before) (λ m. In m after))
become_decides None before after = same_decides after before
become_decides (Some (Register added)) before after = Decides-like (entries_become (Some (Register added)) before after)
    (λ (h : (¬ In added before) × ((m : Member) → In m after ↔ In m (added ∷ before))). (
      h.0,
      λ m. (
        λ there. elim ((h.1 m).0 there) [ inl e ↦ inr (sym e) | inr old ↦ inl old ],
        λ k. (h.1 m).1 (elim k [ inl old ↦ inr old | inr e ↦ inl (sym e) ]),
      ),
    ))
    (λ h. (
      h.0,
      λ m. (
        λ there. elim ((h.1 m).0 there) [ inl old ↦ inr old | inr e ↦ inl (sym e) ],
        λ k. (h.1 m).1 (elim k [ inl e ↦ inr (sym e) | inr old ↦ inl old ]),
      ),
    ))
    (Decides-and (not (has_member before added)) (same_members after (added ∷ before)) (Decides-not (has_member before added) (has_decides before added)) (same_decides after (added ∷ before)))
become_decides (Some (Deregister base)) before after = Decides-like (entries_become (Some (Deregister base)) before after)
    (λ (h : ((m : Member) × (In m before × (m.span.first ≡ base))) × ((m : Member) → In m after ↔ In m (without base before))). (
      h.0,
      λ m. (
        λ there. left_in base before m ((h.1 m).0 there),
        λ k. (h.1 m).1 (left_from base before m k.0 k.1),
      ),
    ))
    (λ h. (
      h.0,
      λ m. (
        λ there. (let old = (h.1 m).0 there in left_from base before m old.0 old.1),
        λ k. (h.1 m).1 (left_in base before m k),
      ),
    ))
    (Decides-and (list_any (λ m. m.span.first == base) before) (same_members after (without base before))
    (any_decides (λ m. m.span.first == base) (λ m. m.span.first ≡ base) (λ m. Decides-eqb m.span.first base) before) (same_decides after (without base before)))
become_decides (Some (Replace m)) before after = Decides-like (entries_become (Some (Replace m)) before after)
    (λ (h : ((x : Member) × (In x before × (x.span ≡ m.span))) × ((x : Member) → In x after ↔ In x (with_payload m before))). (
      h.0,
      λ x. (
        λ there. (listed_payload m before h.0 x).0 ((h.1 x).0 there),
        λ k. (h.1 x).1 ((listed_payload m before h.0 x).1 k),
      ),
    ))
    (λ h. (
      h.0,
      λ x. (
        λ there. (listed_payload m before h.0 x).1 ((h.1 x).0 there),
        λ k. (h.1 x).1 ((listed_payload m before h.0 x).0 k),
      ),
    ))
    (Decides-and (list_any (λ x. is_same_span x.span m.span) before) (same_members after (with_payload m before))
    (any_decides (λ x. is_same_span x.span m.span) (λ x. x.span ≡ m.span) (λ x. same_span_decides x.span m.span) before) (same_decides after (with_payload m before)))
become_decides (Some (Load m)) before after = (λ e. absurd (cc (e)), λ h. absurd h)
become_decides (Some (Unload base)) before after = (λ e. absurd (cc (e)), λ h. absurd h)

-- the entries of listed nodes
entries_listed : (f : Contents) (nodes : List ℕ) (m : Member) → HasEntry f (is_among nodes) m ↔ In m (entries_at_nodes f nodes)
entries_listed f nodes m = (
  λ h. in_flat_map_from (λ n. entries_of (f n)) nodes h.0 m
      (times_in nodes h.0 (ltb-true 0 (times h.0 nodes) h.1.0)) (contains_in (entries_of (f h.0)) m h.1.1),
  λ there.
      let found = in_flat_map (λ n. entries_of (f n)) nodes m there in
      (found.0, (among nodes found.0 (in_times nodes found.0 found.1.0), in_contains (entries_of (f found.0)) m found.1.1)),
)

back : (f : Contents) (nodes : List ℕ) (m : Member) → In m (entries_at_nodes f nodes) ↔ HasEntry f (is_among nodes) m
back f nodes m = ((entries_listed f nodes m).1, (entries_listed f nodes m).0)

entries_decide : (update : Option Update) (f : Contents) (group : List ℕ) (g : Contents) (reached : List ℕ) →
    Decides (entries_become update (entries_at_nodes f group) (entries_at_nodes g reached))
    (EntriesBecome update (HasEntry f (is_among group)) (HasEntry g (is_among reached)))
entries_decide update f group g reached =
    let before = entries_at_nodes f group in
    let after = entries_at_nodes g reached in
    Decides-like (entries_become update before after)
    (become_same update (λ m. In m before) (λ m. In m after) (HasEntry f (is_among group)) (HasEntry g (is_among reached)) (entries_listed f group) (entries_listed g reached))
    (become_same update (HasEntry f (is_among group)) (HasEntry g (is_among reached)) (λ m. In m before) (λ m. In m after) (back f group) (back g reached))
    (become_decides update before after)

pub lawful_decides : (f : Contents) (live : ℕ → Bool) (top : ℕ) (group : List ℕ) (fresh : ℕ → Bool) (fresh_nodes : List ℕ) (g : Contents) (update : Option Update) →
    ((n : ℕ) → either (is_among group) fresh n ≡ false → g n ≡ f n) → ((n : ℕ) → IsTrue (fresh n) → IsTrue (is_among fresh_nodes n)) →
    Decides (is_lawful_change f live top group fresh fresh_nodes g update) (IsLawfulChange f live top (is_among group) fresh g update)
lawful_decides f live top group fresh fresh_nodes g update others has =
    let reached = reached_nodes top (is_among group) fresh g in
    Decides-like (is_lawful_change f live top group fresh fresh_nodes g update)
    (λ (h : IsLocalChange f live top (is_among group) fresh g × (AllByRecursion (λ n. IsFilled n (g n)) reached × EntriesBecome update (HasEntry f (is_among group)) (HasEntry g (is_among reached)))).
    record { change = h.0; filled = h.1.0; entries = h.1.1 })
    (λ c. (c.change, (c.filled, c.entries)))
    (Decides-and _ _ (local_decides f live top group fresh fresh_nodes g others has)
    (Decides-and _ _ (all_decides (λ n. is_filled_as n (g n).body) (λ n. IsFilled n (g n)) (λ n. filled_decides n (g n).body) reached)
    (entries_decide update f group g reached)))
