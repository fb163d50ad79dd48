-- Steps to the end of the bytes are a whole part, where each step is exact and takes a byte at least.
use Rattle.std.proofs.Common.{◌≡◌, ℕ, zero, suc, ◌+◌, ◌-◌, ◌<◌, ◌≤◌, List, [], ◌∷◌, ◌++◌, length, Bool, true, false, cond, Result, Ok, Err, nat_eq, refl, sym, ap, subst, ◌∙◌, append_assoc, length-append, arith}
use Rattle.std.proofs.lemmas.Bool.{ne_eqb, eqb-true, eq-eqb, eqb-false}
use Rattle.std.proofs.lemmas.List.{nil_from_length}
use Rattle.eh_bytes.specs.CursorData.{CursorData}
use Rattle.eh_bytes.specs.Results.{◌and_then◌}
use Rattle.eh_bytes.specs.Grammar.{Part}
use Rattle.eh_bytes.specs.Steps.{AreSteps, run, steps_from}
use Rattle.eh_bytes.proofs.Results.{ok_is}
use Rattle.eh_bytes.proofs.Exact.{left, Takes, IsExact}
use Rattle.eh_bytes.proofs.Wholes.{IsWhole}

-- each step is exact and takes a byte at least
pub record AreSound {F S X : Type 0} (one : S → Part F (X × S)) : Type 0 where
  pub exact : (s : S) → IsExact (one s)
  pub grows : (s : S) (p : ℕ) (front : List ℕ) (x : X × S) → (one s).Spells p front x → 1 ≤ length front

-- ---- steps are what reading gives

at_the_end : {S : Type 0} (p : ℕ) (text : List ℕ) (s t : S) → text ≡ [] → s ≡ t → (let now : S × CursorData = (s, left p text) in let then : S × CursorData = (t, left (p + length text) []) in now ≡ then)
at_the_end {S} p text s t none same =
    let place : p ≡ p + length text = omega (arith, ap length none) in
    ap (λ (v : S). (v, left p text)) same ∙ ap (λ (l : List ℕ). (t, left p l)) none ∙ ap (λ (q : ℕ). (t, left q [])) place

steps_read : {F S X : Type 0} (n : ℕ) (one : S → Part F (X × S)) (steps : List X) (p : ℕ) (s : S) (text : List ℕ) (t : S) → AreSound one → length text ≤ n → AreSteps one p s text steps t
    → run n one s (left p text) ≡ Ok (t, left (p + length text) [])
unfolding run
steps_read {F} {S} {X} zero one [] p s text t sound le a = ap (λ (z : S × CursorData). Ok z) (at_the_end p text s t a.0 a.1)
steps_read {F} {S} {X} zero one (x ∷ xs) p s text t sound le a = absurd (omega (arith, sound.grows s p a.1 (x, a.0) a.4, ap length a.3, length-append a.1 a.2))
steps_read {F} {S} {X} (suc n) one [] p s text t sound le a =
    let none : nat_eq (length text) 0 ≡ true = eq-eqb (length text) 0 (ap length a.0) in
    rw none (ap (λ (z : S × CursorData). Ok z) (at_the_end p text s t a.0 a.1))
steps_read {F} {S} {X} (suc n) one (x ∷ xs) p s text t sound le a =
    let grown = sound.grows s p a.1 (x, a.0) a.4 in
    let size : length text ≡ length a.1 + length a.2 = ap length a.3 ∙ length-append a.1 a.2 in
    let some : nat_eq (length (a.1 ++ a.2)) 0 ≡ false = ne_eqb (length (a.1 ++ a.2)) 0 (λ e. absurd (omega (arith, length-append a.1 a.2))) in
    let first = (sound.exact s).again p a.1 a.2 (x, a.0) a.4 in
    let later = steps_read n one xs (p + length a.1) a.0 a.2 t sound (omega arith) a.5 in
    let place : p + length a.1 + length a.2 ≡ p + length text = omega arith in
    ap (λ (l : List ℕ). run (suc n) one s (left p l)) a.3 ∙ rw (some, first, later) refl ∙ ap (λ (q : ℕ). Ok (t, left q [])) place

refusal_read : {F S X : Type 0} (n : ℕ) (one : S → Part F (X × S)) (steps : List X) (p : ℕ) (s m : S) (front back : List ℕ) (f : F) → AreSound one → length (front ++ back) ≤ n
    → AreSteps one p s front steps m → 0 < length back → (one m).Refuses (p + length front) back f → run n one s (left p (front ++ back)) ≡ Err f
unfolding run
refusal_read {F} {S} {X} zero one steps p s m front back f sound le a some refusal = absurd (omega (arith, length-append front back))
refusal_read {F} {S} {X} (suc n) one [] p s m front back f sound le a some refusal =
    let whole : front ++ back ≡ back = ap (λ (l : List ℕ). l ++ back) a.0 in
    let place : p + length front ≡ p = omega (arith, ap length a.0) in
    let here : (one s).Refuses p back f =
    subst (λ (q : ℕ). (one s).Refuses q back f) place (subst (λ (k : S). (one k).Refuses (p + length front) back f) (sym a.1) refusal) in
    let on : nat_eq (length back) 0 ≡ false = ne_eqb (length back) 0 (λ e. absurd (omega arith)) in
    let stopped = (sound.exact s).refused p back f here in
    ap (λ (l : List ℕ). run (suc n) one s (left p l)) whole ∙ rw (on, stopped) refl
refusal_read {F} {S} {X} (suc n) one (x ∷ xs) p s m front back f sound le a some refusal =
    let grown = sound.grows s p a.1 (x, a.0) a.4 in
    let regrouped : front ++ back ≡ a.1 ++ (a.2 ++ back) = ap (λ (l : List ℕ). l ++ back) a.3 ∙ append_assoc a.1 a.2 back in
    let on : nat_eq (length (a.1 ++ (a.2 ++ back))) 0 ≡ false = ne_eqb (length (a.1 ++ (a.2 ++ back))) 0 (λ e. absurd (omega (arith, length-append a.1 (a.2 ++ back)))) in
    let first = (sound.exact s).again p a.1 (a.2 ++ back) (x, a.0) a.4 in
    let place : p + length front ≡ p + length a.1 + length a.2 = omega (arith, ap length a.3, length-append a.1 a.2) in
    let there = subst (λ (q : ℕ). (one m).Refuses q back f) place refusal in
    let later = refusal_read n one xs (p + length a.1) a.0 m a.2 back f sound (omega (arith, grown, ap length regrouped, length-append a.1 (a.2 ++ back))) a.5 some there in
    ap (λ (l : List ℕ). run (suc n) one s (left p l)) regrouped ∙ rw (on, first, later) refl

-- ---- and what reading gives are steps, or a refusal after steps

abbrev Ends : {F S X : Type 0} → (S → Part F (X × S)) → S → CursorData → S × CursorData → Type 0
Ends {F} {S} {X} one s r z = (z.1 ≡ left (r.at + length r.bytes) []) × ((steps : List X) × AreSteps one r.at s r.bytes steps z.0)

abbrev Stops : {F S X : Type 0} → (S → Part F (X × S)) → S → CursorData → F → Type 0
Stops {F} {S} {X} one s r f = (steps_from one s).Refuses r.at r.bytes f

abbrev Outcome : {F S X : Type 0} → (S → Part F (X × S)) → S → CursorData → Result (S × CursorData) F → Type 0
Outcome {F} {S} {X} one s r (Ok z) = Ends one s r z
Outcome {F} {S} {X} one s r (Err f) = Stops one s r f

outcome_later : {F S X : Type 0} (one : S → Part F (X × S)) (s : S) (r : CursorData) (x : X × S) (mid : CursorData) (m : Result (S × CursorData) F) → Takes (one s) r x mid → Outcome one x.1 mid m → Outcome one s r m
outcome_later {F} {S} {X} one s r x mid (Ok z) t o =
    let size : mid.at + length mid.bytes ≡ r.at + length r.bytes = omega (arith, t.place, ap length t.parts, length-append t.front mid.bytes) in (
      o.0 ∙ ap (λ (q : ℕ). left q []) size,
      (x.0 ∷ o.1.0, (x.1, t.front, mid.bytes, t.parts, t.spells, subst (λ (p : ℕ). AreSteps one p x.1 mid.bytes o.1.0 z.0) t.place o.1.1)),
    )
outcome_later {F} {S} {X} one s r x mid (Err f) t o =
    let whole : r.bytes ≡ (t.front ++ o.2) ++ o.3 = t.parts ∙ ap (λ (l : List ℕ). t.front ++ l) o.4 ∙ sym (append_assoc t.front o.2 o.3) in
    let place : mid.at + length o.2 ≡ r.at + length (t.front ++ o.2) = omega (arith, t.place, length-append t.front o.2) in
    (x.0 ∷ o.0, o.1, t.front ++ o.2, o.3, whole, (x.1, t.front, o.2, refl, t.spells, subst (λ (p : ℕ). AreSteps one p x.1 o.2 o.0 o.1) t.place o.5), o.6, subst (λ (q : ℕ). (one o.1).Refuses q o.3 f) place o.7)

outcome_step : {F S X : Type 0} (n : ℕ) (one : S → Part F (X × S)) (s : S) (r : CursorData) (m : Result ((X × S) × CursorData) F) → AreSound one → (one s).read r ≡ m → 0 < length r.bytes → length r.bytes ≤ suc n
    → ((x : X × S) (mid : CursorData) → length mid.bytes ≤ n → Outcome one x.1 mid (run n one x.1 mid)) → Outcome one s r (◌and_then◌ m (λ x. run n one x.0.1 x.1))
outcome_step {F} {S} {X} n one s r (Ok x) sound e some le more =
    let t = (sound.exact s).takes r x.0 x.1 e in
    let grown = sound.grows s r.at t.front x.0 t.spells in
    outcome_later one s r x.0 x.1 (run n one x.0.1 x.1) t (more x.0 x.1 (omega (arith, grown, ap length t.parts, length-append t.front x.1.bytes)))
outcome_step {F} {S} {X} n one s r (Err f) sound e some le more =
    let refusal = (sound.exact s).refuses r f e in
    let place : r.at ≡ r.at + 0 = omega arith in
    ([], s, [], r.bytes, refl, (refl, refl), some, subst (λ (q : ℕ). (one s).Refuses q r.bytes f) place refusal)

ended : {F S X : Type 0} (one : S → Part F (X × S)) (s : S) (r : CursorData) → length r.bytes ≤ 0 → Ends one s r (s, r)
ended {F} {S} {X} one s r le =
    let none : r.bytes ≡ [] = nil_from_length r.bytes (omega arith) in
    let place : r.at ≡ r.at + length r.bytes = omega arith in
    (ap (λ (l : List ℕ). left r.at l) none ∙ ap (λ (q : ℕ). left q []) place, ([], (none, refl)))

outcome_test : {F S X : Type 0} (n : ℕ) (one : S → Part F (X × S)) (s : S) (r : CursorData) (b : Bool) → AreSound one → nat_eq (length r.bytes) 0 ≡ b → length r.bytes ≤ suc n
    → ((x : X × S) (mid : CursorData) → length mid.bytes ≤ n → Outcome one x.1 mid (run n one x.1 mid)) → Outcome one s r (cond b (Ok (s, r)) (◌and_then◌ ((one s).read r) (λ x. run n one x.0.1 x.1)))
outcome_test {F} {S} {X} n one s r true sound e le more = ended one s r (omega (arith, eqb-true _ _ e))
outcome_test {F} {S} {X} n one s r false sound e le more =
    let other : length r.bytes ≡ 0 → ⊥ = eqb-false _ _ e in
    outcome_step n one s r ((one s).read r) sound refl (omega arith) le more

run_outcome : {F S X : Type 0} (n : ℕ) (one : S → Part F (X × S)) (s : S) (r : CursorData) → AreSound one → length r.bytes ≤ n → Outcome one s r (run n one s r)
unfolding run
run_outcome {F} {S} {X} zero one s r sound le = ended one s r le
run_outcome {F} {S} {X} (suc n) one s r sound le = outcome_test n one s r (nat_eq (length r.bytes) 0) sound refl le (λ x mid h. run_outcome n one x.1 mid sound h)

outcome_is : {F S X : Type 0} (one : S → Part F (X × S)) (s : S) (r : CursorData) (m k : Result (S × CursorData) F) → m ≡ k → Outcome one s r m → Outcome one s r k
outcome_is {F} {S} {X} one s r m k e o = subst (λ (v : Result (S × CursorData) F). Outcome one s r v) e o

pub steps_from_whole : {F S X : Type 0} (one : S → Part F (X × S)) (s : S) → AreSound one → IsWhole (steps_from one s)
steps_from_whole {F} {S} {X} one s sound = record {
  takes = λ r t behind e.
      let o = outcome_is one s r (run (length r.bytes) one s r) (Ok (t, behind)) e (run_outcome (length r.bytes) one s r sound (omega arith)) in
      record { nothing = o.0; spells = o.1 };
  refuses = λ r f e. outcome_is one s r (run (length r.bytes) one s r) (Err f) e (run_outcome (length r.bytes) one s r sound (omega arith));
  again = λ p text t a. steps_read (length text) one a.0 p s text t sound (omega arith) a.1;
  refused = λ p bytes f a.
      ap (λ (l : List ℕ). run (length bytes) one s (left p l)) a.4 ∙ refusal_read (length bytes) one a.0 p s a.1 a.2 a.3 f sound (omega (arith, ap length a.4)) a.5 a.6 a.7;
}

-- ---- with more turns than bytes, reading gives the same

enough : {F S X : Type 0} (n : ℕ) (one : S → Part F (X × S)) (s : S) (r : CursorData) (v : Result (S × CursorData) F) → AreSound one → length r.bytes ≤ n → Outcome one s r v → run n one s r ≡ v
enough {F} {S} {X} n one s r (Ok z) sound le o = steps_read n one o.1.0 r.at s r.bytes z.0 sound le o.1.1 ∙ ap (λ (b : CursorData). Ok (z.0, b)) (sym o.0)
enough {F} {S} {X} n one s r (Err f) sound le o = ap (λ (l : List ℕ). run n one s (left r.at l)) o.4 ∙ refusal_read n one o.0 r.at s o.1 o.2 o.3 f sound (omega (arith, ap length o.4)) o.5 o.6 o.7

pub run_enough : {F S X : Type 0} (n m : ℕ) (one : S → Part F (X × S)) (s : S) (r : CursorData) → AreSound one → length r.bytes ≤ n → length r.bytes ≤ m → run n one s r ≡ run m one s r
run_enough {F} {S} {X} n m one s r sound le less = enough n one s r (run m one s r) sound le (run_outcome m one s r sound less)

-- one step, and then those from the state after it
pub read_step : {F S X : Type 0} (one : S → Part F (X × S)) (s : S) (r : CursorData) (x : X × S) (mid : CursorData) → AreSound one → 0 < length r.bytes → (one s).read r ≡ Ok (x, mid)
    → (steps_from one s).read r ≡ (steps_from one x.1).read mid
unfolding run
read_step {F} {S} {X} one s r x mid sound some e =
    let t = (sound.exact s).takes r x mid e in
    let grown = sound.grows s r.at t.front x t.spells in
    let less : length mid.bytes ≤ length r.bytes - 1 = omega (arith, ap length t.parts, length-append t.front mid.bytes) in
    let size : length r.bytes ≡ suc (length r.bytes - 1) = omega arith in
    let on : nat_eq (length r.bytes) 0 ≡ false = ne_eqb (length r.bytes) 0 (λ none. absurd (omega arith)) in
    let first : run (suc (length r.bytes - 1)) one s r ≡ run (length r.bytes - 1) one x.1 mid = rw (on, e) refl in
    ap (λ (k : ℕ). run k one s r) size ∙ first ∙ run_enough (length r.bytes - 1) (length mid.bytes) one x.1 mid sound less (omega arith)

pub read_refusal : {F S X : Type 0} (one : S → Part F (X × S)) (s : S) (r : CursorData) (f : F) → 0 < length r.bytes → (one s).read r ≡ Err f → (steps_from one s).read r ≡ Err f
unfolding run
read_refusal {F} {S} {X} one s r f some e =
    let size : length r.bytes ≡ suc (length r.bytes - 1) = omega arith in
    let on : nat_eq (length r.bytes) 0 ≡ false = ne_eqb (length r.bytes) 0 (λ none. absurd (omega arith)) in
    let first : run (suc (length r.bytes - 1)) one s r ≡ Err f = rw (on, e) refl in
    ap (λ (k : ℕ). run k one s r) size ∙ first

pub read_end : {F S X : Type 0} (one : S → Part F (X × S)) (s : S) (r : CursorData) → length r.bytes ≤ 0 → (steps_from one s).read r ≡ Ok (s, r)
unfolding run
read_end {F} {S} {X} one s r le =
    let none : length r.bytes ≡ 0 = omega arith in
    ap (λ (k : ℕ). run k one s r) none

pub step_shrinks : {F S X : Type 0} (one : S → Part F (X × S)) (s : S) (r : CursorData) (x : X × S) (mid : CursorData) → AreSound one → (one s).read r ≡ Ok (x, mid) → length mid.bytes < length r.bytes
step_shrinks {F} {S} {X} one s r x mid sound e =
    let t = (sound.exact s).takes r x mid e in
    let grown = sound.grows s r.at t.front x t.spells in
    omega (arith, ap length t.parts, length-append t.front mid.bytes)

-- ---- the next step of those that the bytes spell

pub no_steps : {F S X : Type 0} (one : S → Part F (X × S)) (p : ℕ) (s : S) (text : List ℕ) (steps : List X) (t : S) → AreSound one → AreSteps one p s text steps t → length text ≤ 0 → steps ≡ []
no_steps {F} {S} {X} one p s text [] t sound a le = refl
no_steps {F} {S} {X} one p s text (x ∷ xs) t sound a le = absurd (omega (arith, sound.grows s p a.1 (x, a.0) a.4, ap length a.3, length-append a.1 a.2))

pub next_step : {F S X : Type 0} (one : S → Part F (X × S)) (r : CursorData) (s : S) (steps : List X) (t : S) (x : X) (m : S) (mid : CursorData) → AreSound one → 0 < length r.bytes → AreSteps one r.at s r.bytes steps t
    → (one s).read r ≡ Ok ((x, m), mid) → (more : List X) × (steps ≡ x ∷ more) × AreSteps one mid.at m mid.bytes more t
next_step {F} {S} {X} one r s [] t x m mid sound some a e = absurd (omega (arith, ap length a.0))
next_step {F} {S} {X} one r s (y ∷ ys) t x m mid sound some a e =
    let first : (one s).read r ≡ Ok ((y, a.0), left (r.at + length a.1) a.2) = ap (λ (l : List ℕ). (one s).read (left r.at l)) a.3 ∙ (sound.exact s).again r.at a.1 a.2 (y, a.0) a.4 in
    let same : ((y, a.0), left (r.at + length a.1) a.2) ≡ ((x, m), mid) = ok_is {F = F} ((y, a.0), left (r.at + length a.1) a.2) ((x, m), mid) (sym first ∙ e) in
    let found : (z : (X × S) × CursorData) → Type 0 = λ z. (more : List X) × (y ∷ ys ≡ z.0.0 ∷ more) × AreSteps one z.1.at z.0.1 z.1.bytes more t in
    subst found same (ys, refl, a.5)

pub no_refusal : {F S X : Type 0} (one : S → Part F (X × S)) (r : CursorData) (s : S) (steps : List X) (t : S) (f : F) → AreSound one → 0 < length r.bytes → AreSteps one r.at s r.bytes steps t
    → (one s).read r ≡ Err f → ⊥
no_refusal {F} {S} {X} one r s [] t f sound some a e = omega (arith, ap length a.0)
no_refusal {F} {S} {X} one r s (y ∷ ys) t f sound some a e =
    let first : (one s).read r ≡ Ok ((y, a.0), left (r.at + length a.1) a.2) = ap (λ (l : List ℕ). (one s).read (left r.at l)) a.3 ∙ (sound.exact s).again r.at a.1 a.2 (y, a.0) a.4 in
    let both = sym first ∙ e in cc

-- the bytes spell one list of steps
pub steps_unique : {F S X : Type 0} (one : S → Part F (X × S)) (p : ℕ) (s : S) (text : List ℕ) (xs : List X) (t : S) (ys : List X) (u : S) → AreSound one
    → AreSteps one p s text xs t → AreSteps one p s text ys u → xs ≡ ys
steps_unique {F} {S} {X} one p s text [] t ys u sound a b = sym (no_steps one p s text ys u sound b (omega (arith, ap length a.0)))
steps_unique {F} {S} {X} one p s text (x ∷ xs) t ys u sound a b =
    let grown = sound.grows s p a.1 (x, a.0) a.4 in
    let some : 0 < length text = omega (arith, grown, ap length a.3, length-append a.1 a.2) in
    let first : (one s).read (left p text) ≡ Ok ((x, a.0), left (p + length a.1) a.2) = ap (λ (l : List ℕ). (one s).read (left p l)) a.3 ∙ (sound.exact s).again p a.1 a.2 (x, a.0) a.4 in
    let n = next_step one (left p text) s ys u x a.0 (left (p + length a.1) a.2) sound some b first in
    ap (λ (l : List X). x ∷ l) (steps_unique one (p + length a.1) a.0 a.2 xs t n.0 u sound a.5 n.2) ∙ sym n.1
