-- Texts of numbered items, written one after another.
use Rattle.std.proofs.Common.{◌≡◌, ℕ, ◌+◌, ◌<◌, ◌≤◌, List, ◌++◌, length, take, drop, get_or, Option, sym, subst, arith}
use Rattle.std.specs.List.{AllZip}
use Rattle.std.proofs.lemmas.List.{take_all}
use Rattle.script_text.specs.Text.{numbered}
use Rattle.script_text.proofs.Numbered.{numbered-take_more, numbered-parts}
use Rattle.run_ports.specs.Ports.{Gains, GainsPart}
use Rattle.run_ports.proofs.Pieces.{Gains-more, GainsPart-more, GainsPart-wider}
use Rattle.run_engine.specs.Kept.{zip_with}
use Rattle.run_engine.proofs.Lists.{AllZip-length}
use Rattle.run_engine.proofs.Told.{zip_at, zip_length}

-- The texts of the first items were written, and then the next one's, or a part of it
module _ {X : Type 0} (text : ℕ → X → List ℕ) (xs : List X) (i : ℕ) (x : X) (within : i < length xs) (is : x ≡ get_or xs i x) where
  pub gains_more : (a b c : Option (List ℕ)) → Gains a b (numbered text 1 (take i xs)) → Gains b c (text (i + 1) x) → Gains a c (numbered text 1 (take (i + 1) xs))
  gains_more a b c first second =
      let P : List ℕ → Type 0 = Gains a c in
      subst P (sym (numbered-take_more text xs i x within is)) (Gains-more a b c (numbered text 1 (take i xs)) (text (i + 1) x) first second)

  pub gains_part : (a b c : Option (List ℕ)) → Gains a b (numbered text 1 (take i xs)) → GainsPart b c (text (i + 1) x) → GainsPart a c (numbered text 1 xs)
  gains_part a b c first second =
      let P : List ℕ → Type 0 = GainsPart a c in
      let Q : List ℕ → Type 0 = λ front. GainsPart a c (front ++ numbered text (1 + length (take (i + 1) xs)) (drop (i + 1) xs)) in
      subst P (sym (numbered-parts text xs i x within is)) (subst Q (sym (numbered-take_more text xs i x within is)) (GainsPart-wider a c (numbered text 1 (take i xs) ++ text (i + 1) x) _ (GainsPart-more a b c (numbered text 1 (take i xs)) (text (i + 1) x) first second)))

-- the same of what two lists give, place by place
module _ {A B C : Type 0} (f : A → B → C) (R : A → B → Type 0) (xs : List A) (ys : List B) (all : AllZip R xs ys) where
  zip_full : length (zip_with f xs ys) ≡ length xs
  zip_full =
      let same = AllZip-length R xs ys all in
      let long = zip_length f xs ys (omega (arith, same)) in
      omega (arith, same, long)

  pub zip_gains_all : (text : ℕ → C → List ℕ) (i : ℕ) → length xs ≤ i → (a b : Option (List ℕ)) → Gains a b (numbered text 1 (take i (zip_with f xs ys))) → Gains a b (numbered text 1 (zip_with f xs ys))
  zip_gains_all text i ended a b gains =
      let P : List C → Type 0 = λ cs. Gains a b (numbered text 1 cs) in
      subst P (take_all i (zip_with f xs ys) (omega (arith, zip_full, ended))) gains

  module _ (i : ℕ) (within : i < length xs) where
    pub zip_within : i < length ys
    zip_within = (let same = AllZip-length R xs ys all in omega (arith, same, within))

    module _ (text : ℕ → C → List ℕ) (x : A) (y : B) (x_is : x ≡ get_or xs i x) (y_is : y ≡ get_or ys i y) (a b c : Option (List ℕ)) (first : Gains a b (numbered text 1 (take i (zip_with f xs ys)))) where
      there : i < length (zip_with f xs ys)
      there = omega (arith, zip_full, within)

      given : f x y ≡ get_or (zip_with f xs ys) i (f x y)
      given = zip_at f xs ys i x y within zip_within x_is y_is

      pub zip_gains_more : Gains b c (text (i + 1) (f x y)) → Gains a c (numbered text 1 (take (i + 1) (zip_with f xs ys)))
      zip_gains_more = gains_more text (zip_with f xs ys) i (f x y) there given a b c first

      pub zip_gains_part : GainsPart b c (text (i + 1) (f x y)) → GainsPart a c (numbered text 1 (zip_with f xs ys))
      zip_gains_part = gains_part text (zip_with f xs ys) i (f x y) there given a b c first
