-- Histories: what stays when one goes on, and that their states are lawful.
use Rattle.std.proofs.Common.{◌≡◌, ℕ, ◌<◌, ◌≤◌, zero, suc, List, [], ◌∷◌, ◌++◌, length, Some, inl, inr, Bool, true, false, not, cond, eqb, IsTrue, refl, ◌∙◌, ap, append_assoc, length-append, arith}
use Rattle.std.specs.List.{slice_get, filter, All, Contains}
use Rattle.std.proofs.lemmas.List.{take-append-le, take_all}
use Rattle.std.proofs.lemmas.List.Elements.{All-filter, All-push, All-cons, All-head, All-tail, All-contains, Contains-append_cases, Contains-push_cases}
use Rattle.reg_model.proofs.Replacing.{AreDisjoint-with_payload}
use Rattle.reg_model.specs.SpanData.{Overlaps}
use Rattle.reg_model.specs.State.{State, objects, IsFree, AreDisjoint, IsLawful}
use Rattle.reg_model.specs.Query.{member_at}
use Rattle.reg_model.specs.SpanData.{contains}
use Rattle.reg_model.specs.History.{Fits, after, IsHistory, state_after, state_at}
use Rattle.reg_model.specs.declared.span.Member.{Member}
use Rattle.reg_model.specs.declared.answer.Update.{Update}
use Rattle.reg_model.specs.declared.answer.Update.TheVariants.{Register, Deregister, Replace, Load, Unload}

pub state_after-append : (s : State) (us vs : List Update) → state_after s (us ++ vs) ≡ state_after (state_after s us) vs
state_after-append s [] vs = refl
state_after-append s (u ∷ us) vs = state_after-append (after u s) us vs

pub IsHistory-append : (s : State) (us vs : List Update) → IsHistory s us → IsHistory (state_after s us) vs → IsHistory s (us ++ vs)
IsHistory-append s [] vs front back = back
IsHistory-append s (u ∷ us) vs front back = (front.0, IsHistory-append (after u s) us vs front.1 back)

pub state_at-append : (s : State) (us vs : List Update) (k : ℕ) → k ≤ length us → state_at s (us ++ vs) k ≡ state_at s us k
state_at-append s us vs k within = ap (state_after s) (take-append-le k us vs within)

pub state_at-length : (s : State) (us vs : List Update) → state_at s (us ++ vs) (length us) ≡ state_after s us
state_at-length s us vs = ap (state_after s) (take-append-le (length us) us vs (omega arith) ∙ take_all (length us) us (omega arith))

pub slice_get-append : {X : Type 0} (xs ys : List X) (i : ℕ) → i < length xs → slice_get (xs ++ ys) i ≡ slice_get xs i
slice_get-append [] ys i within = absurd (omega arith)
slice_get-append (x ∷ xs) ys zero within = refl
slice_get-append (x ∷ xs) ys (suc i) within = slice_get-append xs ys i (omega arith)

pub slice_get-next : {X : Type 0} (xs : List X) (y : X) (ys : List X) → slice_get (xs ++ y ∷ ys) (length xs) ≡ Some y
slice_get-next [] y ys = refl
slice_get-next (x ∷ xs) y ys = slice_get-next xs y ys

-- disjoint members stay so after one that overlaps none of them
pub AreDisjoint-push : (members : List Member) (m : Member) → AreDisjoint members → IsFree m.span members → AreDisjoint (members ++ m ∷ [])
AreDisjoint-push [] m disjoint free = (λ k d within. absurd (omega arith), tt)
AreDisjoint-push (other ∷ members) m disjoint free =
    let Apart : Member → Type 0 = λ o. ¬ Overlaps o.span m.span in
    let Apart' : Member → Type 0 = λ o. ¬ Overlaps o.span other.span in
    let apart : ¬ Overlaps m.span other.span = λ common. All-head Apart other members free (common.0, (common.1.1, common.1.0)) in
    (All-push Apart' members m disjoint.0 apart, AreDisjoint-push members m disjoint.1 (All-tail Apart other members free))

All-filter_back : (P : Member → Type 0) (test : Member → Bool) (front members : List Member) → All P (front ++ members) → All P (front ++ filter test members)
All-filter_back P test [] members all = All-filter test P members all
All-filter_back P test (m ∷ front) members all = All-cons P m (front ++ filter test members) (All-head P m (front ++ members) all) (All-filter_back P test front members (All-tail P m (front ++ members) all))

-- fewer members after a front are as disjoint
pub AreDisjoint-filter : (test : Member → Bool) (front members : List Member) → AreDisjoint (front ++ members) → AreDisjoint (front ++ filter test members)
AreDisjoint-filter test [] [] disjoint = tt
AreDisjoint-filter test [] (m ∷ members) disjoint =
    let rest = AreDisjoint-filter test [] members disjoint.1 in
    elim (test m) as (λ kept. AreDisjoint (cond kept (m ∷ filter test members) (filter test members))) [
      | true ↦ (All-filter test (λ o. ¬ Overlaps o.span m.span) members disjoint.0, rest)
      | false ↦ rest
    ]
AreDisjoint-filter test (m ∷ front) members disjoint =
    (All-filter_back (λ o. ¬ Overlaps o.span m.span) test front members disjoint.0, AreDisjoint-filter test front members disjoint.1)

length-filter_le : (test : Member → Bool) (members : List Member) → length (filter test members) ≤ length members
length-filter_le test [] = omega arith
length-filter_le test (m ∷ members) =
    let rest = length-filter_le test members in
    elim (test m) as (λ kept. length (cond kept (m ∷ filter test members) (filter test members)) ≤ length (m ∷ members)) [ true ↦ omega arith | false ↦ omega arith ]

pub lawful_after : (u : Update) (s : State) → IsLawful s → Fits u s → IsLawful (after u s)
lawful_after (Register m) s lawful fits = record { registered = AreDisjoint-push s.registered m lawful.registered fits; objects = lawful.objects; room = lawful.room }
lawful_after (Deregister base) s lawful fits = record { registered = AreDisjoint-filter (λ m. not (eqb m.span.first base)) [] s.registered lawful.registered; objects = lawful.objects; room = lawful.room }
lawful_after (Replace m) s lawful fits = record { registered = AreDisjoint-with_payload m s.registered lawful.registered; objects = lawful.objects; room = lawful.room }
lawful_after (Load m) s lawful fits = record {
  registered = lawful.registered;
  objects = rw (← append_assoc s.fixed s.loaded (m ∷ [])) (AreDisjoint-push (objects s) m lawful.objects fits.0);
  room = rw length-append (let limit : length s.loaded < s.loads = fits.1 in omega arith);
}
lawful_after (Unload base) s lawful fits = record {
  registered = lawful.registered;
  objects = AreDisjoint-filter (λ m. not (eqb m.span.first base)) s.fixed s.loaded lawful.objects;
  room = (let fewer = length-filter_le (λ m. not (eqb m.span.first base)) s.loaded in let limit = lawful.room in omega arith);
}

pub lawful_history : (s : State) (history : List Update) → IsLawful s → IsHistory s history → IsLawful (state_after s history)
lawful_history s [] lawful is = lawful
lawful_history s (u ∷ history) lawful is = lawful_history (after u s) history (lawful_after u s lawful is.0) is.1

found_first : (first m : Member) (members : List Member) (pc : ℕ) (b : Bool) → contains first.span pc ≡ b → ¬ Overlaps m.span first.span → IsTrue (contains m.span pc) → member_at pc members ≡ Some m → cond b (Some first) (member_at pc members) ≡ Some m
found_first first m members pc true is apart holds rest = absurd (apart (pc, (holds, is)))
found_first first m members pc false is apart holds rest = rest

-- of disjoint members the one that contains an address is the one that is found
pub member_at-contains : (members : List Member) (m : Member) (pc : ℕ) → AreDisjoint members → Contains members m → IsTrue (contains m.span pc) → member_at pc members ≡ Some m
member_at-contains [] m pc disjoint (k, within, is) holds = absurd (omega arith)
member_at-contains (first ∷ members) m pc disjoint listed holds =
    let none : Contains [] m → ⊥ = λ (k, within, is). omega arith in
    elim (Contains-append_cases (first ∷ []) members m listed) [
      | inl here ↦ elim (Contains-push_cases [] first m here) [
        | inl nowhere ↦ absurd (none nowhere)
        | inr same ↦ (let in_first : contains first.span pc ≡ true = rw same holds in rw in_first (ap Some same))
      ]
      | inr later ↦
          found_first first m members pc (contains first.span pc) refl (All-contains (λ o. ¬ Overlaps o.span first.span) members m disjoint.0 later) holds (member_at-contains members m pc disjoint.1 later holds)
    ]
