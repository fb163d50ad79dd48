-- A turn of a search that has no branch: a flag that is 1 while all turns held, and how it goes on.
use Rattle.std.proofs.Common.{◌≡◌, ℕ, ◌+◌, ◌<◌, ◌≤◌, ◌&&◌, Bool, true, false, refl, sym, ◌∙◌, subst, arith, if◌then◌else◌, true≢false}

-- the flag after one more turn
after_turn : (ahead low : Bool) (flag : ℕ) → flag ≡ (if ahead then 1 else 0) → (if low then flag else 0) ≡ (if ahead && low then 1 else 0)
after_turn true true flag e = e
after_turn false true flag e = e
after_turn true false flag e = refl
after_turn false false flag e = refl

-- the number of turns that held so far, while all of them did or no longer
pub record Goes (ahead : Bool) (turns held : ℕ) : Type 0 where
  pub few : held ≤ turns
  pub all_so : ahead ≡ true → held ≡ turns
  pub fewer : ahead ≡ false → held < turns

goes_on : (ahead low : Bool) (turns held : ℕ) → held ≤ turns → (ahead ≡ true → held ≡ turns) → (ahead ≡ false → held < turns) → Goes (ahead && low) (turns + 1) (held + (if ahead && low then 1 else 0))
goes_on true true turns held few all_so fewer = record {
  few = omega (arith, few);
  all_so = λ _. let e = all_so refl in omega (arith, e);
  fewer = λ e. absurd (true≢false e);
}
goes_on true false turns held few all_so fewer = record {
  few = omega (arith, few);
  all_so = λ e. absurd (true≢false (sym e));
  fewer = λ _. let e = all_so refl in omega (arith, e);
}
goes_on false low turns held few all_so fewer = record {
  few = omega (arith, few);
  all_so = λ e. absurd (true≢false (sym e));
  fewer = λ _. let l = fewer refl in omega (arith, l);
}

-- a flag tells whether all turns held
abbrev pub Turned : ℕ → ℕ → ℕ → Type 0
Turned flag turns held = (ahead : Bool) × (flag ≡ (if ahead then 1 else 0)) × Goes ahead turns held

pub all_turned : (turns : ℕ) → Turned 1 turns turns
all_turned turns = (true, refl, record { few = omega arith; all_so = λ _. refl; fewer = λ e. absurd (true≢false e) })

pub turned_on : (low : Bool) (flag next turns held : ℕ) (w : Turned flag turns held) → next ≡ (if low then flag else 0) → ((if w.0 && low then 1 else 0) ≡ next) × Turned next (turns + 1) (held + next)
turned_on low flag next turns held w is =
    let number = sym (is ∙ after_turn w.0 low flag w.1) in
    (number, (w.0 && low, sym number, subst (λ n. Goes (w.0 && low) (turns + 1) (held + n)) number (goes_on w.0 low turns held w.2.few w.2.all_so w.2.fewer)))
