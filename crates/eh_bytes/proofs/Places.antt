-- Parts that are alike spell the same texts wherever they stand: what differs is the places in their faults alone.
use Rattle.std.proofs.Common.{ℕ, ◌+◌, List, [], ◌∷◌, length, Bool, Option, Some, None, refl}
use Rattle.eh_bytes.specs.Grammar.{Part, ◌>>=◌, give, here, check, found, lift}
use Rattle.eh_bytes.specs.Steps.{AreSteps}

pub record AreAlike {F A : Type 0} (g h : Part F A) : Type 0 where
  pub same : (p q : ℕ) (text : List ℕ) (x : A) → g.Spells p text x → h.Spells q text x

pub then_alike : {F A B : Type 0} (g k : Part F A) (h l : A → Part F B) → AreAlike g k → ((x : A) → AreAlike (h x) (l x)) → AreAlike (g >>= h) (k >>= l)
then_alike g k h l first second = record {
  same = λ p q text y s.
      (s.0, s.1, s.2, s.3, first.same p q s.1 s.0 s.4, (second s.0).same (p + length s.1) (q + length s.1) s.2 y s.5);
}

pub here_alike : {F B : Type 0} (h l : ℕ → Part F B) → ((at place : ℕ) → AreAlike (h at) (l place)) → AreAlike (here >>= h) (here >>= l)
here_alike h l second = record {
  same = λ p q text y s.
      (q, s.1, s.2, s.3, (s.4.0, refl), (second s.0 q).same (p + length s.1) (q + length s.1) s.2 y s.5);
}

pub give_alike : {F A : Type 0} (x : A) → AreAlike (give {F = F} x) (give x)
give_alike x = record { same = λ p q text y s. s }

pub check_alike : {F : Type 0} (b : Bool) (f g : F) → AreAlike (check b f) (check b g)
check_alike b f g = record { same = λ p q text y s. s }

pub found_alike : {F A : Type 0} (o : Option A) (f g : F) → AreAlike (found o f) (found o g)
found_alike None f g = record { same = λ p q text y s. s }
found_alike (Some x) f g = record { same = λ p q text y s. s }

pub lift_alike : {F G A : Type 0} (place : F → G) (g k : Part F A) → AreAlike g k → AreAlike (lift place g) (lift place k)
lift_alike place g k alike = record { same = alike.same }

-- steps, each of which is alike, from one place and from another
pub steps_alike : {F S X : Type 0} (one : S → Part F (X × S)) → ((s : S) → AreAlike (one s) (one s)) → (p q : ℕ) (s t : S) (text : List ℕ) (steps : List X)
    → AreSteps one p s text steps t → AreSteps one q s text steps t
steps_alike one alike p q s t text [] a = a
steps_alike one alike p q s t text (x ∷ xs) a =
    (a.0, a.1, a.2, a.3, (alike s).same p q a.1 (x, a.0) a.4, steps_alike one alike (p + length a.1) (q + length a.1) a.0 t a.2 xs a.5)
