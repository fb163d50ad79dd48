-- A part is whole where it takes all that is left, and reading it and its two relations agree.
use Rattle.std.proofs.Common.{◌≡◌, ℕ, ◌+◌, List, [], ◌++◌, length, take, Bool, true, false, Result, Ok, Err, refl, sym, ap, subst, ◌∙◌, length-append, arith, inl, inr}
use Rattle.std.proofs.lemmas.List.{append-nil}
use Rattle.eh_bytes.specs.CursorData.{CursorData}
use Rattle.eh_bytes.specs.Results.{◌and_then◌}
use Rattle.eh_bytes.specs.Grammar.{Part, ◌>>=◌, give, when, lift, filled, with_rest, ended, bytes_of}
use Rattle.eh_bytes.proofs.Results.{ok_is, bind_ok, bind_err, with_fault_ok, with_fault_err}
use Rattle.eh_bytes.proofs.Exact.{left, IsExact, then_refuses, then_refused, data_takes, data_refuses, data_again, data_refused}

-- the part spells all that is left
pub record TakesAll {F A : Type 0} (g : Part F A) (r : CursorData) (x : A) (behind : CursorData) : Type 0 where
  pub nothing : behind ≡ left (r.at + length r.bytes) []
  pub spells : g.Spells r.at r.bytes x

pub record IsWhole {F A : Type 0} (g : Part F A) : Type 0 where
  pub takes : (r : CursorData) (x : A) (behind : CursorData) → g.read r ≡ Ok (x, behind) → TakesAll g r x behind
  pub refuses : (r : CursorData) (f : F) → g.read r ≡ Err f → g.Refuses r.at r.bytes f
  pub again : (p : ℕ) (text : List ℕ) (x : A) → g.Spells p text x → g.read (left p text) ≡ Ok (x, left (p + length text) [])
  pub refused : (p : ℕ) (bytes : List ℕ) (f : F) → g.Refuses p bytes f → g.read (left p bytes) ≡ Err f

-- ---- a part and then a whole one

pub then_whole : {F A B : Type 0} (g : Part F A) (h : A → Part F B) → IsExact g → ((x : A) → IsWhole (h x)) → IsWhole (g >>= h)
then_whole {F} {A} {B} g h eg eh = record {
  takes = λ r y behind e.
      let a = bind_ok (g.read r) (λ z. (h z.0).read z.1) (y, behind) e in
      let s = eg.takes r a.0.0 a.0.1 a.1 in
      let t = (eh a.0.0).takes a.0.1 y behind a.2 in
      let size : a.0.1.at + length a.0.1.bytes ≡ r.at + length r.bytes = omega (arith, s.place, ap length s.parts, length-append s.front a.0.1.bytes) in
      record {
        nothing = t.nothing ∙ ap (λ (q : ℕ). left q []) size;
        spells = (a.0.0, s.front, a.0.1.bytes, s.parts, s.spells, subst (λ (p : ℕ). (h a.0.0).Spells p a.0.1.bytes y) s.place t.spells);
      };
  refuses = then_refuses g h eg (λ x. (eh x).refuses);
  again = λ p text y s.
      let first = eg.again p s.1 s.2 s.0 s.4 in
      let second = (eh s.0).again (p + length s.1) s.2 y s.5 in
      let place : p + length s.1 + length s.2 ≡ p + length text = omega (arith, length-append s.1 s.2, ap length s.3) in
      let whole : ◌and_then◌ (g.read (left p (s.1 ++ s.2))) (λ z. (h z.0).read z.1) ≡ Ok (y, left (p + length s.1 + length s.2) []) = rw first second in
      ap (λ (bs : List ℕ). ◌and_then◌ (g.read (left p bs)) (λ z. (h z.0).read z.1)) s.3 ∙ whole ∙ ap (λ (q : ℕ). Ok (y, left q [])) place;
  refused = then_refused g h eg (λ x. (eh x).refused);
}

-- a whole part, whose value is looked at in another way
pub give_whole : {F A B : Type 0} (g : Part F A) (k : A → B) → IsWhole g → IsWhole (g >>= λ x. give (k x))
give_whole {F} {A} {B} g k eg = record {
  takes = λ r y behind e.
      let a = bind_ok (g.read r) (λ z. Ok (k z.0, z.1)) (y, behind) e in
      let t = eg.takes r a.0.0 a.0.1 a.1 in
      let same : (k a.0.0, a.0.1) ≡ (y, behind) = ok_is {F = F} (k a.0.0, a.0.1) (y, behind) a.2 in
      let made : TakesAll (g >>= λ x. give (k x)) r (k a.0.0) a.0.1 = record { nothing = t.nothing; spells = (a.0.0, r.bytes, [], sym (append-nil r.bytes), t.spells, (refl, refl)) } in
      subst (λ (z : B × CursorData). TakesAll (g >>= λ x. give (k x)) r z.0 z.1) same made;
  refuses = λ r f e.
      elim (bind_err (g.read r) (λ z. Ok (k z.0, z.1)) f e) [
        | inl stopped ↦ inl (eg.refuses r f stopped)
        | inr a ↦ absurd (let never = a.2 in cc)
      ];
  again = λ p text y s.
      let whole : text ≡ s.1 = s.3 ∙ ap (λ (l : List ℕ). s.1 ++ l) s.5.0 ∙ append-nil s.1 in
      let first = eg.again p s.1 s.0 s.4 in
      let found : ◌and_then◌ (g.read (left p s.1)) (λ z. Ok (k z.0, z.1)) ≡ Ok (k s.0, left (p + length s.1) []) = rw first refl in
      ap (λ (bs : List ℕ). ◌and_then◌ (g.read (left p bs)) (λ z. Ok (k z.0, z.1))) whole ∙ found ∙ ap (λ (v : B). Ok (v, left (p + length s.1) [])) s.5.1
      ∙ ap (λ (q : ℕ). Ok (y, left (p + q) [])) (ap length (sym whole));
  refused = λ p bytes f s. elim s [ inl stopped ↦ rw (eg.refused p bytes f stopped) refl | inr a ↦ absurd a.5 ];
}

pub when_whole : {F A : Type 0} (b : Bool) (g h : Part F A) → IsWhole g → IsWhole h → IsWhole (when b g h)
when_whole true g h eg eh = record {
  takes = λ r y behind e. let t = eg.takes r y behind e in record { nothing = t.nothing; spells = inl (refl, t.spells) };
  refuses = λ r f e. inl (refl, eg.refuses r f e);
  again = λ p text y s. elim s [ inl t ↦ eg.again p text y t.1 | inr t ↦ absurd (let never = t.0 in cc) ];
  refused = λ p bytes f s. elim s [ inl t ↦ eg.refused p bytes f t.1 | inr t ↦ absurd (let never = t.0 in cc) ];
}
when_whole false g h eg eh = record {
  takes = λ r y behind e. let t = eh.takes r y behind e in record { nothing = t.nothing; spells = inr (refl, t.spells) };
  refuses = λ r f e. inr (refl, eh.refuses r f e);
  again = λ p text y s. elim s [ inl t ↦ absurd (let never = t.0 in cc) | inr t ↦ eh.again p text y t.1 ];
  refused = λ p bytes f s. elim s [ inl t ↦ absurd (let never = t.0 in cc) | inr t ↦ eh.refused p bytes f t.1 ];
}

pub lift_whole : {F G A : Type 0} (place : F → G) (g : Part F A) → IsWhole g → IsWhole (lift place g)
lift_whole {F} {G} {A} place g eg = record {
  takes = λ r y behind e.
      let t = eg.takes r y behind (with_fault_ok place (g.read r) (y, behind) e) in
      record { nothing = t.nothing; spells = t.spells };
  refuses = λ r f e.
      let p = with_fault_err place (g.read r) f e in
      (p.0, eg.refuses r p.0 p.1, p.2);
  again = λ p text y s. rw (eg.again p text y s) refl;
  refused = λ p bytes f s. rw (eg.refused p bytes s.0 s.1) (ap (λ (v : G). Err v) (sym s.2));
}

-- ---- a test at the end

with_rest_ok : {F A : Type 0} (m : Result A F) (r behind : CursorData) (y : A) → with_rest m r ≡ Ok (y, behind) → (m ≡ Ok y) × (r ≡ behind)
with_rest_ok {F} {A} (Ok x) r behind y e =
    let same : (x, r) ≡ (y, behind) = ok_is {F = F} (x, r) (y, behind) e in
    (ap (λ (z : A × CursorData). Ok z.0) same, ap (λ (z : A × CursorData). z.1) same)
with_rest_ok {F} {A} (Err d) r behind y e = absurd cc

with_rest_err : {F A : Type 0} (m : Result A F) (r : CursorData) (f : F) → with_rest m r ≡ Err f → m ≡ Err f
with_rest_err (Ok x) r f e = absurd cc
with_rest_err (Err d) r f e = let same : d ≡ f = cc in ap (λ v. Err v) same

pub ended_whole : {F A B : Type 0} (g : Part F A) (test : ℕ → A → Result B F) → IsWhole g → IsWhole (ended g test)
ended_whole {F} {A} {B} g test eg = record {
  takes = λ r y behind e.
      let a = bind_ok (g.read r) (λ x. with_rest (test x.1.at x.0) x.1) (y, behind) e in
      let t = eg.takes r a.0.0 a.0.1 a.1 in
      let w = with_rest_ok (test a.0.1.at a.0.0) a.0.1 behind y a.2 in
      let place : a.0.1.at ≡ r.at + length r.bytes = ap (λ (z : CursorData). z.at) t.nothing in
      record {
        nothing = sym w.1 ∙ t.nothing;
        spells = (a.0.0, t.spells, ap (λ (q : ℕ). test q a.0.0) (sym place) ∙ w.0);
      };
  refuses = λ r f e.
      elim (bind_err (g.read r) (λ x. with_rest (test x.1.at x.0) x.1) f e) [
        | inl stopped ↦ inl (eg.refuses r f stopped)
        | inr a ↦
            let t = eg.takes r a.0.0 a.0.1 a.1 in
            let place : a.0.1.at ≡ r.at + length r.bytes = ap (λ (z : CursorData). z.at) t.nothing in
            inr (a.0.0, t.spells, ap (λ (q : ℕ). test q a.0.0) (sym place) ∙ with_rest_err (test a.0.1.at a.0.0) a.0.1 f a.2)
      ];
  again = λ p text y s. rw (eg.again p text s.0 s.1, s.2) refl;
  refused = λ p bytes f s.
      elim s [
        | inl stopped ↦ rw (eg.refused p bytes f stopped) refl
        | inr a ↦ rw (eg.again p bytes a.0 a.1, a.2) refl
      ];
}

pub bytes_of_whole : {F A : Type 0} (g : Part F A) → IsWhole g → IsWhole (bytes_of g)
bytes_of_whole {F} {A} g eg = record {
  takes = λ r y behind e.
      let a = bind_ok (g.read r) (λ x. Ok (r.bytes, x.1)) (y, behind) e in
      let t = eg.takes r a.0.0 a.0.1 a.1 in
      let same : (r.bytes, a.0.1) ≡ (y, behind) = ok_is {F = F} (r.bytes, a.0.1) (y, behind) a.2 in
      let made : TakesAll (bytes_of g) r r.bytes a.0.1 = record { nothing = t.nothing; spells = ((a.0.0, t.spells), refl) } in
      subst (λ (z : List ℕ × CursorData). TakesAll (bytes_of g) r z.0 z.1) same made;
  refuses = λ r f e.
      elim (bind_err (g.read r) (λ x. Ok (r.bytes, x.1)) f e) [
        | inl stopped ↦ eg.refuses r f stopped
        | inr a ↦ absurd (let never = a.2 in cc)
      ];
  again = λ p text y s. rw (eg.again p text s.0.0 s.0.1) (ap (λ (bs : List ℕ). Ok (bs, left (p + length text) [])) s.1);
  refused = λ p bytes f s. rw (eg.refused p bytes f s) refl;
}

-- data that a whole part fills
pub filled_exact : {F A : Type 0} (short : F) (n : ℕ) (g : Part F A) → IsWhole g → IsExact (filled short n g)
filled_exact short n g eg = record {
  takes = λ r y behind e. data_takes short n g (filled short n g) r y behind e (λ x rest size read. (size, (eg.takes (left r.at (take n r.bytes)) x rest read).spells));
  refuses = data_refuses short n g eg.refuses;
  again = λ p front back y s. data_again short n g p front back y (left (p + length front) []) s.0 (eg.again p front y s.1);
  refused = data_refused short n g eg.refused;
}
