-- Every member that a lawful journal's answers name is an image's.
use Rattle.std.proofs.Common.{◌≡◌, ℕ, zero, suc, ◌<◌, Bool, true, false, cond, List, [], ◌∷◌, ◌++◌, length, take, get_or, Option, Some, None, IfSome, subst, arith}
use Rattle.std.specs.List.{AllByRecursion, find, filter}
use Rattle.std.specs.Option.{option_and_then, option_to_list, IsSomeAnd}
use Rattle.reg_model.specs.State.{State, objects}
use Rattle.reg_model.specs.SpanData.{is_same_span}
use Rattle.reg_model.specs.History.{after, with_payload, state_after, state_at}
use Rattle.reg_model.specs.Receipt.{accepted, Holds, made_before}
use Rattle.reg_model.specs.Numbers.{history_of, has_number}
use Rattle.reg_model.specs.declared.span.Member.{Member}
use Rattle.reg_model.specs.declared.answer.Update.{Update}
use Rattle.reg_model.specs.declared.answer.Update.TheVariants as update
use Rattle.reg_model.specs.declared.answer.Found.TheVariants.{Hit, Miss}
use Rattle.reg_model.specs.declared.answer.Half.TheVariants.{Registered, Loaded}
use Rattle.reg_model.specs.declared.answer.Inserted.TheVariants as inserted
use Rattle.reg_model.specs.declared.answer.Loading.TheVariants as loading
use Rattle.reg_model.specs.declared.answer.Removed.TheVariants as removed
use Rattle.reg_model.specs.declared.answer.Replaced.TheVariants as replaced
use Rattle.reg_model.specs.declared.answer.Receipt.{Receipt}
use Rattle.reg_model.specs.declared.answer.Receipt.TheVariants as receipt

module _ (P : Member → Type 0) where
  abbrev pub EachMember : List Member → Type 0
  EachMember members = AllByRecursion P members

  pub record AreMembers (s : State) : Type 0 where
    pub registered : EachMember s.registered
    pub loaded : EachMember s.loaded
    pub fixed : EachMember s.fixed

  each_joined : (xs ys : List Member) → EachMember xs → EachMember ys → EachMember (xs ++ ys)
  each_joined [] ys p q = q
  each_joined (x ∷ xs) ys p q = (p.0, each_joined xs ys p.1 q)

  each_left : (test : Member → Bool) (xs : List Member) → EachMember xs → EachMember (filter test xs)
  each_left test [] p = tt
  each_left test (x ∷ xs) p = by (test x) (each_left test xs p.1)
    where
      by : (t : Bool) → EachMember (filter test xs) → EachMember (cond t (x ∷ filter test xs) (filter test xs))
      by true rest = (p.0, rest)
      by false rest = rest

  each_changed : (m : Member) (xs : List Member) → P m → EachMember xs → EachMember (with_payload m xs)
  each_changed m [] new p = tt
  each_changed m (x ∷ xs) new p = (by (is_same_span x.span m.span), each_changed m xs new p.1)
    where
      by : (t : Bool) → P (cond t m x)
      by true = new
      by false = p.0

  found_member : (test : Member → Bool) (xs : List Member) (m : Member) → EachMember xs → find test xs ≡ Some m → P m
  found_member test [] m p e = absurd cc
  found_member test (x ∷ xs) m p e = by (test x) (found_member test xs m p.1) e
    where
      by : (t : Bool) → (find test xs ≡ Some m → P m) → cond t (Some x) (find test xs) ≡ Some m → P m
      by true rest e = let is : x ≡ m = cc in subst P is p.0
      by false rest e = rest e

  found_payload : (test : Member → Bool) (xs : List Member) (payload : ℕ) → EachMember xs → IsSomeAnd (find test xs) (λ m. m.payload ≡ payload) → (m : Member) × P m × (m.payload ≡ payload)
  found_payload test [] payload p some = absurd some
  found_payload test (x ∷ xs) payload p some = by (test x) (found_payload test xs payload p.1) some
    where
      by : (t : Bool) → (IsSomeAnd (find test xs) (λ m. m.payload ≡ payload) → (m : Member) × P m × (m.payload ≡ payload)) → IsSomeAnd (cond t (Some x) (find test xs)) (λ m. m.payload ≡ payload) → (m : Member) × P m × (m.payload ≡ payload)
      by true rest some = (x, p.0, some)
      by false rest some = rest some

  listed_member : (xs : List Member) (k : ℕ) (m : Member) → EachMember xs → k < length xs → get_or xs k m ≡ m → P m
  listed_member [] k m p within is = absurd (omega arith)
  listed_member (x ∷ xs) zero m p within is = subst P is p.0
  listed_member (x ∷ xs) (suc k) m p within is = listed_member xs k m p.1 (omega arith) is

  -- an update brings such members alone
  abbrev pub IsFrom : Update → Type 0
  IsFrom (update.Register m) = P m
  IsFrom (update.Replace m) = P m
  IsFrom (update.Load m) = P m
  IsFrom _ = Unit {0}

  after_from : (u : Update) (s : State) → IsFrom u → AreMembers s → AreMembers (after u s)
  after_from (update.Register m) s from are = record { registered = each_joined s.registered (m ∷ []) are.registered (from, tt); loaded = are.loaded; fixed = are.fixed }
  after_from (update.Deregister base) s from are = record { registered = each_left _ s.registered are.registered; loaded = are.loaded; fixed = are.fixed }
  after_from (update.Replace m) s from are = record { registered = each_changed m s.registered from are.registered; loaded = are.loaded; fixed = are.fixed }
  after_from (update.Load m) s from are = record { registered = are.registered; loaded = each_joined s.loaded (m ∷ []) are.loaded (from, tt); fixed = are.fixed }
  after_from (update.Unload base) s from are = record { registered = are.registered; loaded = each_left _ s.loaded are.loaded; fixed = are.fixed }

  states_from : (s : State) (updates : List Update) → AllByRecursion IsFrom updates → AreMembers s → AreMembers (state_after s updates)
  states_from s [] from are = are
  states_from s (u ∷ updates) from are = states_from (after u s) updates from.1 (after_from u s from.0 are)

  taken_from : (k : ℕ) (updates : List Update) → AllByRecursion IsFrom updates → AllByRecursion IsFrom (take k updates)
  taken_from zero updates from = tt
  taken_from (suc k) [] from = tt
  taken_from (suc k) (u ∷ updates) from = (from.0, taken_from k updates from.1)

  pub state_from : (s : State) (updates : List Update) (k : ℕ) → AllByRecursion IsFrom updates → AreMembers s → AreMembers (state_at s updates k)
  state_from s updates k from are = states_from s (take k updates) (taken_from k updates from) are

  -- a receipt's update brings such members alone
  abbrev pub IsReceiptFrom : Receipt → Type 0
  IsReceiptFrom r = IfSome (accepted r) IsFrom

  found_receipt : (test : Receipt → Bool) (receipts : List Receipt) → AllByRecursion IsReceiptFrom receipts → AllByRecursion IsFrom (option_to_list (option_and_then accepted (find test receipts)))
  found_receipt test [] from = tt
  found_receipt test (r ∷ receipts) from = by (test r) (found_receipt test receipts from.1)
    where
      one : (o : Option Update) → IfSome o IsFrom → AllByRecursion IsFrom (option_to_list o)
      one None p = tt
      one (Some u) p = (p, tt)

      by : (t : Bool) → AllByRecursion IsFrom (option_to_list (option_and_then accepted (find test receipts))) → AllByRecursion IsFrom (option_to_list (option_and_then accepted (cond t (Some r) (find test receipts))))
      by true rest = one (accepted r) from.0
      by false rest = rest

  updates_joined : (xs ys : List Update) → AllByRecursion IsFrom xs → AllByRecursion IsFrom ys → AllByRecursion IsFrom (xs ++ ys)
  updates_joined [] ys p q = q
  updates_joined (x ∷ xs) ys p q = (p.0, updates_joined xs ys p.1 q)

  pub history_from : (receipts : List Receipt) (n : ℕ) → AllByRecursion IsReceiptFrom receipts → AllByRecursion IsFrom (history_of receipts n)
  history_from receipts zero from = tt
  history_from receipts (suc n) from = updates_joined (history_of receipts n) _ (history_from receipts n from) (found_receipt (has_number (suc n)) receipts from)

  -- the members that an answer names are such, and it was given
  abbrev pub NamesSuch : Receipt → Type 0
  NamesSuch (receipt.Register m (inserted.Overlap other stamp)) = P other
  NamesSuch (receipt.Register m inserted.Spent) = ⊥
  NamesSuch (receipt.Load m (loading.Overlap other stamp)) = P other
  NamesSuch (receipt.Load m loading.Spent) = ⊥
  NamesSuch (receipt.Deregister base (removed.Done number m)) = P m
  NamesSuch (receipt.Deregister base removed.Spent) = ⊥
  NamesSuch (receipt.Replace m (replaced.Done number payload)) =
      (old : Member) × P old × (old.payload ≡ payload)
  NamesSuch (receipt.Replace m replaced.Spent) = ⊥
  NamesSuch (receipt.Unload base (removed.Done number m)) = P m
  NamesSuch (receipt.Unload base removed.Spent) = ⊥
  NamesSuch (receipt.Query half pc (Hit m stamp)) = P m
  NamesSuch _ = Unit {0}

  module _ (start : State) (history : List Update) (nodes callers since : ℕ) (from : AllByRecursion IsFrom history) (are : AreMembers start) where
    here : (r : Receipt) → AreMembers (state_at start history (made_before r))
    here r = state_from start history (made_before r) from are

    all_objects : (s : State) → AreMembers s → EachMember (objects s)
    all_objects s p = each_joined s.fixed s.loaded p.fixed p.loaded

    pub names_such : (r : Receipt) → Holds start history nodes callers since r → NamesSuch r
    names_such (receipt.Register m (inserted.Done number)) holds = tt
    names_such (receipt.Register m (inserted.Overlap other stamp)) holds =
        let listed = holds.right.listed in
        listed_member _ listed.0 other (here (receipt.Register m (inserted.Overlap other stamp))).registered listed.1 listed.2
    names_such (receipt.Register m (inserted.Full stamp)) holds = tt
    names_such (receipt.Register m inserted.Spent) holds = absurd holds.right
    names_such (receipt.Load m (loading.Done number)) holds = tt
    names_such (receipt.Load m (loading.Overlap other stamp)) holds =
        let listed = holds.right.listed in
        listed_member _ listed.0 other (all_objects _ (here (receipt.Load m (loading.Overlap other stamp)))) listed.1 listed.2
    names_such (receipt.Load m (loading.LoadFull stamp)) holds = tt
    names_such (receipt.Load m loading.Spent) holds = absurd holds.right
    names_such (receipt.Deregister base (removed.Done number m)) holds = found_member _ _ m (here (receipt.Deregister base (removed.Done number m))).registered holds.right
    names_such (receipt.Deregister base (removed.NotFound stamp)) holds = tt
    names_such (receipt.Deregister base removed.Spent) holds = absurd holds.right
    names_such (receipt.Replace m (replaced.Done number payload)) holds = found_payload _ _ payload (here (receipt.Replace m (replaced.Done number payload))).registered holds.right
    names_such (receipt.Replace m (replaced.NotFound stamp)) holds = tt
    names_such (receipt.Replace m replaced.Spent) holds = absurd holds.right
    names_such (receipt.Unload base (removed.Done number m)) holds = found_member _ _ m (here (receipt.Unload base (removed.Done number m))).loaded holds.right
    names_such (receipt.Unload base (removed.NotFound stamp)) holds = tt
    names_such (receipt.Unload base removed.Spent) holds = absurd holds.right
    names_such (receipt.Query Registered pc (Hit m stamp)) holds = found_member _ _ m (here (receipt.Query Registered pc (Hit m stamp))).registered holds.right
    names_such (receipt.Query Loaded pc (Hit m stamp)) holds = found_member _ _ m (all_objects _ (here (receipt.Query Loaded pc (Hit m stamp)))) holds.right
    names_such (receipt.Query half pc (Miss stamp)) holds = tt
