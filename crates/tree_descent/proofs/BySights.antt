-- The beginning of an update by sight: what the way down by loads alone leaves of its caller, and
-- what the lock of a node that was seen tells.
use Rattle.std.proofs.Common.{◌≡◌, sym, subst, ℕ, refl, ap, [], ◌++◌, append-nil, ◌∙◌, ◌≤◌, arith, ◌≢◌, Option, Some, None, IfSome, ◌<◌, ne_eqb, if◌then◌else◌, false, ◌∷◌}
use Rattle.reg_model.specs.declared.answer.Again.{Again}
use Rattle.tree_shape.specs.NodeData.{NodeData, Body, Pairs, Entries, Link, IsInFences}
use Rattle.tree_laws.specs.Lawful.{IsFilledAs, IsOrderedAs}
use Rattle.word_rule.specs.CallerData.{CallerData}
use Rattle.word_rule.specs.declared.log.Terms.{Terms}
use Rattle.word_rule.specs.Sights.{after_node_load}
use Rattle.word_rule.specs.Held.{held_of}
use Rattle.word_rule.specs.NodeTells.{IsLiveNode}
use Rattle.word_rule.specs.Spelling.{SpellsNode}
use Rattle.word_rule.specs.VersionLocks.{NodeSeen}
use Rattle.word_rule.specs.declared.log.Holding.{Holding}
use Rattle.word_rule.specs.declared.log.Holdings.{Holdings}
use Rattle.node_store.specs.Outlines.{IsCountOf}
use Rattle.node_store.specs.Holding.{SpellsHeld}
use Rattle.node_store.proofs.Outlined.{count_is}
use Rattle.btree_lookup.specs.Loads.{load_events}
use Rattle.btree_lookup.specs.Visits.{Sees, SeesCount, Way, IsInSight, IsLockSeen}
use Rattle.btree_lookup.specs.declared.visit.Visit.{Visit}
use Rattle.btree_lookup.specs.Tries.{EndsOnWay}
use Rattle.btree_lookup.proofs.Pairs.{count_loaded}
use Rattle.btree_lookup.proofs.SeenLocks.{count_in_sight, other_word_in_sight, held_by_sight}
use Rattle.tree_descent.specs.Paths.{HoldsNothing, IsSettledLock}
use Rattle.tree_descent.specs.BySight.{OnlySees, CountFits, IsSeenFor, asked_address, HasFit, most_at, spare_at, EndsInside, HoldsFor}
use Rattle.tree_descent.proofs.NodeSteps.{steps_so, caller_so}
use Rattle.tree_descent.specs.declared.by_sight.Seen.{Seen}
use Rattle.tree_descent.specs.declared.by_sight.Request.{Request}
use Rattle.tree_descent.specs.declared.descent.Held.{Held}
use Rattle.tree_descent.proofs.HeldLists.{found_head}
use Rattle.tree_descent.proofs.Lowering.{settled_live}
use Rattle.tree_descent.proofs.Outlining.{spells_same}
use Rattle.tree_descent.specs.declared.by_sight.Request.TheVariants as request

-- ---- the way down

pub nothing_still : (k l : CallerData) → l.log.holdings ≡ k.log.holdings → HoldsNothing k.log.holdings → HoldsNothing l.log.holdings
nothing_still k l same nothing = subst HoldsNothing (sym same) nothing

-- what came down by loads alone
pub sees_only : (t : Terms) (pc : ℕ) (k : CallerData) (visit : Visit) (used : ℕ) (k1 : CallerData) → Sees t pc k visit used k1 → OnlySees k k1
sees_only t pc k visit used k1 s =
    (steps_so k s.log refl (load_events k.log s.loaded, refl), ap (λ (z : CallerData). z.log.holdings) s.log)

-- what ended where a version was found changed or locked
pub fails_only : (t : Terms) (pc : ℕ) (k : CallerData) (again : Again) (k1 : CallerData) → EndsOnWay t pc k again k1 → OnlySees k k1
fails_only t pc k again k1 e =
    let tried = e.0 in
    let own : k.log.receipts.own ++ [] ≡ k.log.receipts.own = append-nil k.log.receipts.own in (
      record {
        calls = record {
          caller = caller_so k tried.log refl;
          past = e.1;
          receipts = ap (λ (z : CallerData). z.log.receipts) tried.log ∙ (λ i. record k.log.receipts { own = own i });
        };
        budget = ap (λ (z : CallerData). z.log.budget) tried.log;
        loads = (load_events k.log tried.loaded, ap (λ (z : CallerData). z.log.trace.loads) tried.log);
      },
      ap (λ (z : CallerData). z.log.holdings) tried.log,
    )

-- the levels that a lookup may come to
pub level_low : (t : Terms) (pc : ℕ) (k : CallerData) (seen : Seen) (k1 : CallerData) → SeesCount t pc k seen.visit seen.count k1 → seen.visit.level ≤ 12
level_low t pc k seen k1 w = let few = w.sees.few in omega (arith, few)

-- its count was loaded
pub counted_so : (t : Terms) (pc : ℕ) (k : CallerData) (visit : Visit) (k1 k2 : CallerData) (seen : Seen) → Way t pc k visit k1 → seen.visit ≡ visit → k2 ≡ record k1 { log = after_node_load visit.node 5 seen.count k1.log } → SeesCount t pc k seen.visit seen.count k2
counted_so t pc k visit k1 k2 seen way same load = subst (λ v. SeesCount t pc k v seen.count k2) (sym same) (count_loaded t pc k visit k1 k2 seen.count way load)

-- the node to which a request came
pub seen_here : (t : Terms) (r : Request) (pc : ℕ) → pc ≡ asked_address r → (k : CallerData) (seen : Seen) (k1 : CallerData) → SeesCount t pc k seen.visit seen.count k1 → CountFits r seen → seen.visit.node ≢ 0 → IsSeenFor t r seen k1
seen_here t r pc leads k seen k1 w fits below = record {
  within = w.sees.within;
  below = below;
  low = level_low t pc k seen k1 w;
  sight = subst (λ a. IsInSight a seen.visit seen.count k1) leads (count_in_sight t pc k seen.visit seen.count k1 w);
  fits = fits;
}

-- the node above the one to which it came
pub seen_above : (t : Terms) (r : Request) (pc : ℕ) → pc ≡ asked_address r → (k : CallerData) (seen : Seen) (n : ℕ) (k1 k2 k3 : CallerData) (count : ℕ) → SeesCount t pc k seen.visit seen.count k1 → CountFits r seen
    → (n ≢ seen.visit.node) × IsInSight pc seen.visit seen.count k2 → k3 ≡ record k2 { log = after_node_load n 5 count k2.log } → seen.visit.node ≢ 0 → IsSeenFor t r seen k3
seen_above t r pc leads k seen n k1 k2 k3 count w fits kept load below = record {
  within = w.sees.within;
  below = below;
  low = level_low t pc k seen k1 w;
  sight = subst (λ a. IsInSight a seen.visit seen.count k3) leads (subst (IsInSight pc seen.visit seen.count) (sym load) (other_word_in_sight pc seen.visit seen.count k2 n 5 count (λ e. kept.0 (sym e)) kept.1));
  fits = fits;
}

-- it is answered where it isn't the root
pub answered_so : (at : Seen) (P : Seen → Type 0) (o : Option Seen) → IfSome o (λ seen. (seen ≡ at) × (at.visit.node ≢ 0)) → (at.visit.node ≢ 0 → P at) → IfSome o P
answered_so at P None e holds = tt
answered_so at P (Some seen) e holds = subst P (sym e.0) (holds e.1)

-- ---- the node that was locked

-- what a node's count says of it
pub fits_so : (r : Request) (n : ℕ) (s : NodeData) (seen : Seen) → IsOrderedAs s s.body → IsFilledAs n s.body → IsCountOf seen.count s.body → s.level ≡ seen.visit.level → seen.visit.node ≢ 0 → CountFits r seen → HasFit r s
fits_so r n s seen ordered filled count level below fits = go r s.body ordered filled count fits
  where
    most : (l : ℕ) → 0 < l → most_at l ≡ 15
    most l above = ap (λ b. if b then 10 else 15) (ne_eqb l 0 (λ e. omega (arith, above, e)))

    spare : (l : ℕ) → 0 < l → spare_at l ≡ 7
    spare l above = ap (λ b. if b then 5 else 7) (ne_eqb l 0 (λ e. omega (arith, above, e)))

    go : (r : Request) (b : Body) → IsOrderedAs s b → IsFilledAs n b → IsCountOf seen.count b → CountFits r seen → HasFit r (record s { body = b })
    go (request.Insertion first last) (Entries es) ordered filled count fits =
        let few = filled.1 in let ne : seen.count ≢ 10 = subst (λ l. seen.count ≢ most_at l) (sym level ∙ ordered.0) fits in omega (arith, few, ne, count)
    go (request.Insertion first last) (Pairs ps) ordered filled count fits =
        let few = filled.1 in let above = ordered.0 in let ne : seen.count ≢ 15 = subst (λ m. seen.count ≢ m) (most seen.visit.level (omega (arith, above, level))) fits in omega (arith, few, ne, count)
    go (request.Insertion first last) (Link next) ordered filled count fits = absurd ordered
    go (request.Removal base) (Entries es) ordered filled count fits =
        let more : 5 ≤ seen.count = subst (λ l. spare_at l ≤ seen.count) (sym level ∙ ordered.0) (fits below) in omega (arith, more, count)
    go (request.Removal base) (Pairs ps) ordered filled count fits =
        let above = ordered.0 in let more : 7 ≤ seen.count = subst (λ m. m ≤ seen.count) (spare seen.visit.level (omega (arith, above, level))) (fits below) in omega (arith, more, count)
    go (request.Removal base) (Link next) ordered filled count fits = absurd ordered
    go (request.Replacement base) b ordered filled count fits = tt

-- A node that was seen was locked, by one that held nothing.
module _ (t : Terms) (r : Request) (seen : Seen) (k k1 : CallerData) (terms : k.log.terms ≡ t) (nothing : HoldsNothing k.log.holdings) (s : IsSeenFor t r seen k) (taken : NodeSeen seen.visit.node seen.visit.version k k1) where
  abbrev n : ℕ
  n = seen.visit.node

  got : (h : Holding) × ((k1.log.holdings.held ≡ h ∷ k.log.holdings.held) × IsLockSeen k.log.terms (asked_address r) seen.visit seen.count h)
  got = held_by_sight (asked_address r) seen.visit seen.count k k1 s.sight taken

  abbrev lock : Holding
  lock = got.0

  held : k1.log.holdings.held ≡ lock ∷ []
  held = got.1.0 ∙ ap (λ hs. lock ∷ hs) nothing.0

  out : k1.log.holdings.out ≡ []
  out = ap (λ (z : CallerData). z.log.holdings.out) taken.2.1 ∙ nothing.1

  is : IsLockSeen t (asked_address r) seen.visit seen.count lock
  is = subst (λ z. IsLockSeen z (asked_address r) seen.visit seen.count lock) terms got.1.1

  found : held_of n k1.log.holdings.held ≡ Some lock
  found = ap (held_of n) held ∙ found_head n lock [] is.node

  module _ (content : NodeData) (spells : SpellsHeld n content k1.log) (k2 : CallerData) (same : k2.log.holdings ≡ k1.log.holdings) where
    abbrev at : Held
    at = record { node = n; content = content; changed = false }

    e : lock.settled ≡ content
    e = spells_same n lock.settled content lock k1.log found is.spells spells

    here : IsSettledLock t n content false lock
    here = record {
      node = is.node;
      settled = e;
      spells = subst (SpellsNode lock.words) e is.spells;
      stored = is.clean;
      marked = is.marked;
      live = subst (λ z. IfSome lock.mark (IsLiveNode t n z)) e is.live;
    }

    level : content.level ≡ seen.visit.level
    level = ap (λ (z : NodeData). z.level) (sym e) ∙ is.level

    pub held_for : EndsInside r content → HoldsFor t r at k2.log.holdings
    held_for inside =
        let own = settled_live t n content false lock here in record {
          alone = record {
            within = s.within;
            lock = lock;
            held = ap (λ (hs : Holdings). hs.held) same ∙ held;
            here = here;
            out = ap (λ (hs : Holdings). hs.out) same ∙ out;
          };
          low = (let l = level in let low = s.low in omega (arith, l, low));
          here = subst (IsInFences (asked_address r)) e is.fences;
          inside = inside;
          fit = fits_so r n content seen own.1.1.ordered own.1.1.filled (subst (λ c. IsCountOf c content.body) is.counted (count_is lock.words content here.spells)) level s.below s.fits;
        }
