-- What is counted over vectors in vectors.
use Rattle.std.proofs.Common.{◌≡◌, ◌∙◌, ℕ, ◌+◌, ◌^◌, ◌<◌, ◌≤◌, List, [], ◌∷◌, length, map, Bool, true, false, is_some, refl, sym, ap, arith}
use Rattle.std.specs.Prelude.{if◌then◌else◌}
use Rattle.std.specs.List.{sum_by}
use Rattle.std.proofs.lemmas.List.{length-map}
use Rattle.std.proofs.lemmas.List.Sums.{sum_by-cons, sum_by-le-sum_by}
use Rattle.unwind_step.specs.Backtrace.{hit_of}
use Rattle.script_text.specs.declared.journal.Answer.{Answer}
use Rattle.script_text.specs.declared.journal.Answer.TheVariants.{Register, Deregister, Replace, Load, Unload, Find, Unwind}
use Rattle.script_generator.specs.Summaries.{counted_in, counted_total, thread_total, IsCountable}
use Rattle.script_generator.specs.declared.summing.Summary.{Summary}
use Rattle.script_generator.specs.declared.counting.Counted.{Counted}
use Rattle.script_generator.specs.declared.counting.Counted.TheVariants.{Events, Hits, Misses}

abbrev summary_with : ℕ → ℕ → ℕ → ℕ → ℕ → ℕ → Summary
summary_with t e u h m f = record { threads = t; events = e; updates = u; hits = h; misses = m; frames = f }

sum_map : {X Y : Type 0} (f : Y → ℕ) (g : X → Y) (xs : List X) → sum_by f (map g xs) ≡ sum_by (λ x. f (g x)) xs
sum_map f g [] = refl
sum_map f g (x ∷ xs) = sum_by-cons f (g x) (map g xs) ∙ ap (λ n. f (g x) + n) (sum_map f g xs) ∙ sym (sum_by-cons (λ x. f (g x)) x xs)

sum_same : {X : Type 0} (f g : X → ℕ) (xs : List X) → ((x : X) → f x ≡ g x) → sum_by f xs ≡ sum_by g xs
sum_same f g [] same = refl
sum_same f g (x ∷ xs) same =
    omega (arith, sum_by-cons f x xs, sum_by-cons g x xs, same x, sum_same f g xs same)

module _ {V W : Type 0} (threads_of : V → List W) (answers_of : W → List Answer) where
  pub total_is : (what : Counted) (rounds : List V) → counted_total what (map (λ r. map answers_of (threads_of r)) rounds) ≡ sum_by (λ r. sum_by (λ t. sum_by (counted_in what) (answers_of t)) (threads_of r)) rounds
  total_is what rounds =
      sum_map (sum_by (sum_by (counted_in what))) (λ r. map answers_of (threads_of r)) rounds
      ∙ sum_same _ _ rounds (λ r. sum_map (sum_by (counted_in what)) answers_of (threads_of r))

  pub threads_are : (rounds : List V) → thread_total (map (λ r. map answers_of (threads_of r)) rounds) ≡ sum_by (λ r. length (threads_of r)) rounds
  threads_are rounds = sum_map length (λ r. map answers_of (threads_of r)) rounds ∙ sum_same _ _ rounds (λ r. length-map (threads_of r) answers_of)

-- an event is a hit or a miss once at the most
once : (b : Bool) → ((if b then 1 else 0) ≤ 1) × ((if b then 0 else 1) ≤ 1)
once true = (omega arith, omega arith)
once false = (omega arith, omega arith)

pub hit_or_miss_once : (a : Answer) → (counted_in Hits a ≤ 1) × (counted_in Misses a ≤ 1)
hit_or_miss_once (Find pc place) = once (is_some (hit_of place))
hit_or_miss_once _ = (omega arith, omega arith)

no_more : (what : Counted) → ((a : Answer) → counted_in what a ≤ 1) → (rounds : List (List (List Answer))) → counted_total what rounds ≤ counted_total Events rounds
no_more what each rounds =
    sum_by-le-sum_by _ _ rounds (λ threads. sum_by-le-sum_by _ _ threads (λ answers. sum_by-le-sum_by (counted_in what) (counted_in Events) answers each))

pub few : {V W : Type 0} (threads_of : V → List W) (answers_of : W → List Answer) (what : Counted) (rounds : List V) → ((a : Answer) → counted_in what a ≤ 1) → IsCountable (map (λ r. map answers_of (threads_of r)) rounds)
    → sum_by (λ r. sum_by (λ t. sum_by (counted_in what) (answers_of t)) (threads_of r)) rounds < 2 ^ 32
few threads_of answers_of what rounds each countable =
    omega (arith, total_is threads_of answers_of what rounds, no_more what each (map (λ r. map answers_of (threads_of r)) rounds), countable.1)

pub summary_is : (t e u h m f t' e' u' h' m' f' : ℕ) → t ≡ t' → e ≡ e' → u ≡ u' → h ≡ h' → m ≡ m' → f ≡ f' → summary_with t e u h m f ≡ summary_with t' e' u' h' m' f'
summary_is t e u h m f t' e' u' h' m' f' t-is e-is u-is h-is m-is f-is = rw (t-is, e-is, u-is, h-is, m-is, f-is) refl
