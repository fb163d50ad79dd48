-- A part is exact where reading it and its two relations agree. Each way to make parts keeps that.
use Rattle.std.proofs.Common.{◌≡◌, ℕ, ◌+◌, ◌≤◌, List, [], ◌∷◌, ◌++◌, length, take, drop, Bool, true, false, Option, Some, None, Result, Ok, Err, nat_lt, refl, sym, ap, subst, ◌∙◌, append_assoc, length-append, arith, inl, inr}
use Rattle.std.proofs.lemmas.Bool.{ltb-false, ltb-true, le-ltb, lt-ltb}
use Rattle.std.proofs.lemmas.List.{take-append-drop, take_at, drop_at, length-take}
use Rattle.eh_bytes.specs.CursorData.{CursorData, skipped}
use Rattle.eh_bytes.specs.Results.{◌and_then◌}
use Rattle.eh_bytes.specs.Grammar.{Part, ◌>>=◌, give, here, refuse, when, check, found, given, lift, block}
use Rattle.eh_bytes.proofs.Results.{ok_is, err_is, bind_ok, bind_err, with_fault_ok, with_fault_err, cond_err, cond_errs, guarded}

-- what is left at a place
abbrev pub left : ℕ → List ℕ → CursorData
left p bytes = record { bytes = bytes; at = p }

-- a text at the front spells x, and leads from r to what is left
pub record Takes {F A : Type 0} (g : Part F A) (r : CursorData) (x : A) (behind : CursorData) : Type 0 where
  pub front : List ℕ
  pub parts : r.bytes ≡ front ++ behind.bytes
  pub place : behind.at ≡ r.at + length front
  pub spells : g.Spells r.at front x

pub record IsExact {F A : Type 0} (g : Part F A) : Type 0 where
  pub takes : (r : CursorData) (x : A) (behind : CursorData) → g.read r ≡ Ok (x, behind) → Takes g r x behind
  pub refuses : (r : CursorData) (f : F) → g.read r ≡ Err f → g.Refuses r.at r.bytes f
  pub again : (p : ℕ) (front back : List ℕ) (x : A) → g.Spells p front x → g.read (left p (front ++ back)) ≡ Ok (x, left (p + length front) back)
  pub refused : (p : ℕ) (bytes : List ℕ) (f : F) → g.Refuses p bytes f → g.read (left p bytes) ≡ Err f

-- ---- one part and then another

Takes-then : {F A B : Type 0} (g : Part F A) (h : A → Part F B) (r : CursorData) (x : A) (mid : CursorData) (y : B) (behind : CursorData)
    → Takes g r x mid → Takes (h x) mid y behind → Takes (g >>= h) r y behind
Takes-then g h r x mid y behind s t =
    record {
      front = s.front ++ t.front;
      parts = s.parts ∙ ap (λ (bs : List ℕ). s.front ++ bs) t.parts ∙ sym (append_assoc s.front t.front behind.bytes);
      place = omega (arith, s.place, t.place, length-append s.front t.front);
      spells = (x, s.front, t.front, refl, s.spells, subst (λ (p : ℕ). (h x).Spells p t.front y) s.place t.spells);
    }

pub then_refuses : {F A B : Type 0} (g : Part F A) (h : A → Part F B) → IsExact g
    → ((x : A) (r : CursorData) (f : F) → (h x).read r ≡ Err f → (h x).Refuses r.at r.bytes f) → (r : CursorData) (f : F) → (g >>= h).read r ≡ Err f → (g >>= h).Refuses r.at r.bytes f
then_refuses g h eg refuses r f e =
    elim (bind_err (g.read r) (λ z. (h z.0).read z.1) f e) [
      | inl stopped ↦ inl (eg.refuses r f stopped)
      | inr a ↦
          let s = eg.takes r a.0.0 a.0.1 a.1 in
          inr (a.0.0, s.front, a.0.1.bytes, s.parts, s.spells, subst (λ (p : ℕ). (h a.0.0).Refuses p a.0.1.bytes f) s.place (refuses a.0.0 a.0.1 f a.2))
    ]

pub then_refused : {F A B : Type 0} (g : Part F A) (h : A → Part F B) → IsExact g
    → ((x : A) (p : ℕ) (bytes : List ℕ) (f : F) → (h x).Refuses p bytes f → (h x).read (left p bytes) ≡ Err f) → (p : ℕ) (bytes : List ℕ) (f : F) → (g >>= h).Refuses p bytes f → (g >>= h).read (left p bytes) ≡ Err f
then_refused g h eg refused p bytes f (inl stopped) = rw (eg.refused p bytes f stopped) refl
then_refused g h eg refused p bytes f (inr a) =
    let first = eg.again p a.1 a.2 a.0 a.4 in
    let whole : ◌and_then◌ (g.read (left p (a.1 ++ a.2))) (λ z. (h z.0).read z.1) ≡ Err f = rw first (refused a.0 (p + length a.1) a.2 f a.5) in
    ap (λ (bs : List ℕ). ◌and_then◌ (g.read (left p bs)) (λ z. (h z.0).read z.1)) a.3 ∙ whole

pub then_exact : {F A B : Type 0} (g : Part F A) (h : A → Part F B) → IsExact g → ((x : A) → IsExact (h x)) → IsExact (g >>= h)
then_exact {F} {A} {B} g h eg eh = record {
  takes = λ r y behind e.
      let a = bind_ok (g.read r) (λ z. (h z.0).read z.1) (y, behind) e in
      Takes-then g h r a.0.0 a.0.1 y behind (eg.takes r a.0.0 a.0.1 a.1) ((eh a.0.0).takes a.0.1 y behind a.2);
  refuses = then_refuses g h eg (λ x. (eh x).refuses);
  again = λ p front back y s.
      let first = eg.again p s.1 (s.2 ++ back) s.0 s.4 in
      let second = (eh s.0).again (p + length s.1) s.2 back y s.5 in
      let regrouped : front ++ back ≡ s.1 ++ (s.2 ++ back) = ap (λ (bs : List ℕ). bs ++ back) s.3 ∙ append_assoc s.1 s.2 back in
      let place : p + length s.1 + length s.2 ≡ p + length front = omega (arith, length-append s.1 s.2, ap length s.3) in
      let whole : ◌and_then◌ (g.read (left p (s.1 ++ (s.2 ++ back)))) (λ z. (h z.0).read z.1) ≡ Ok (y, left (p + length s.1 + length s.2) back) = rw first second in
      ap (λ (bs : List ℕ). ◌and_then◌ (g.read (left p bs)) (λ z. (h z.0).read z.1)) regrouped ∙ whole ∙ ap (λ (q : ℕ). Ok (y, left q back)) place;
  refused = then_refused g h eg (λ x. (eh x).refused);
}

-- ---- no bytes

no_text : (p : ℕ) (front back : List ℕ) → front ≡ [] → left p (front ++ back) ≡ left (p + length front) back
no_text p [] back e = ap (λ (q : ℕ). left q back) (omega arith)
no_text p (b ∷ bs) back e = absurd cc

stays : {F A : Type 0} (g : Part F A) (r : CursorData) (x : A) → g.Spells r.at [] x → Takes g r x r
stays g r x s = record { front = []; parts = refl; place = omega arith; spells = s }

pub give_exact : {F A : Type 0} (x : A) → IsExact (give {F = F} x)
give_exact {F} {A} x = record {
  takes = λ r y behind e.
      let same : (x, r) ≡ (y, behind) = ok_is {F = F} (x, r) (y, behind) e in
      subst (λ (z : A × CursorData). Takes (give {F = F} x) r z.0 z.1) same (stays (give {F = F} x) r x (refl, refl));
  refuses = λ r f e. absurd cc;
  again = λ p front back y s. ap (λ (z : CursorData). Ok (x, z)) (no_text p front back s.0) ∙ ap (λ (v : A). Ok (v, left (p + length front) back)) s.1;
  refused = λ p bytes f s. absurd s;
}

pub here_exact : {F : Type 0} → IsExact (here {F = F})
here_exact {F} = record {
  takes = λ r y behind e.
      let same : (r.at, r) ≡ (y, behind) = ok_is {F = F} (r.at, r) (y, behind) e in
      subst (λ (z : ℕ × CursorData). Takes (here {F = F}) r z.0 z.1) same (stays (here {F = F}) r r.at (refl, refl));
  refuses = λ r f e. absurd cc;
  again = λ p front back y s. ap (λ (z : CursorData). Ok (p, z)) (no_text p front back s.0) ∙ ap (λ (v : ℕ). Ok (v, left (p + length front) back)) s.1;
  refused = λ p bytes f s. absurd s;
}

pub refuse_exact : {F A : Type 0} (f : F) → IsExact (refuse {A = A} f)
refuse_exact {F} {A} f = record {
  takes = λ r y behind e. absurd cc;
  refuses = λ r e same. sym (err_is {A = A × CursorData} f e same);
  again = λ p front back y s. absurd s;
  refused = λ p bytes e s. ap (λ (v : F). Err v) (sym s);
}

-- ---- choices

pub when_exact : {F A : Type 0} (b : Bool) (g h : Part F A) → IsExact g → IsExact h → IsExact (when b g h)
when_exact true g h eg eh = record {
  takes = λ r y behind e. let t = eg.takes r y behind e in record { front = t.front; parts = t.parts; place = t.place; spells = inl (refl, t.spells) };
  refuses = λ r f e. inl (refl, eg.refuses r f e);
  again = λ p front back y s. elim s [ inl t ↦ eg.again p front back y t.1 | inr t ↦ absurd (let no = t.0 in cc) ];
  refused = λ p bytes f s. elim s [ inl t ↦ eg.refused p bytes f t.1 | inr t ↦ absurd (let no = t.0 in cc) ];
}
when_exact false g h eg eh = record {
  takes = λ r y behind e. let t = eh.takes r y behind e in record { front = t.front; parts = t.parts; place = t.place; spells = inr (refl, t.spells) };
  refuses = λ r f e. inr (refl, eh.refuses r f e);
  again = λ p front back y s. elim s [ inl t ↦ absurd (let no = t.0 in cc) | inr t ↦ eh.again p front back y t.1 ];
  refused = λ p bytes f s. elim s [ inl t ↦ absurd (let no = t.0 in cc) | inr t ↦ eh.refused p bytes f t.1 ];
}

pub check_exact : {F : Type 0} (b : Bool) (f : F) → IsExact (check b f)
check_exact b f = when_exact b (give tt) (refuse f) (give_exact tt) (refuse_exact f)

pub found_exact : {F A : Type 0} (o : Option A) (f : F) → IsExact (found o f)
found_exact None f = refuse_exact f
found_exact (Some x) f = give_exact x

pub given_exact : {F A : Type 0} (m : Result A F) → IsExact (given m)
given_exact (Ok x) = give_exact x
given_exact (Err f) = refuse_exact f

-- ---- faults seen in another way

pub lift_exact : {F G A : Type 0} (place : F → G) (g : Part F A) → IsExact g → IsExact (lift place g)
lift_exact {F} {G} {A} place g eg = record {
  takes = λ r y behind e.
      let t = eg.takes r y behind (with_fault_ok place (g.read r) (y, behind) e) in
      record { front = t.front; parts = t.parts; place = t.place; spells = t.spells };
  refuses = λ r f e.
      let p = with_fault_err place (g.read r) f e in
      (p.0, eg.refuses r p.0 p.1, p.2);
  again = λ p front back y s. rw (eg.again p front back y s) refl;
  refused = λ p bytes f s. rw (eg.refused p bytes s.0 s.1) (ap (λ (v : G). Err v) (sym s.2));
}

-- ---- data of a stated length

-- what they hold is read, and what is behind them is left: also where they are wholly a part
pub data_takes : {F A : Type 0} (short : F) (n : ℕ) (g d : Part F A) (r : CursorData) (y : A) (behind : CursorData) → (block short n g).read r ≡ Ok (y, behind)
    → ((x : A) (rest : CursorData) → length (take n r.bytes) ≡ n → g.read (left r.at (take n r.bytes)) ≡ Ok (x, rest) → d.Spells r.at (take n r.bytes) x) → Takes d r y behind
data_takes {F} {A} short n g d r y behind e spells =
    let inside = left r.at (take n r.bytes) in
    let opened = guarded {A = CursorData × CursorData} {B = A × CursorData} (nat_lt (length r.bytes) n) short (inside, skipped n r) (λ d. ◌and_then◌ (g.read d.0) (λ z. Ok (z.0, d.1))) in
    let a = cond_err (nat_lt (length r.bytes) n) short (◌and_then◌ (g.read inside) (λ z. Ok (z.0, skipped n r))) (y, behind) (sym opened ∙ e) in
    let long : n ≤ length r.bytes = ltb-false _ _ a.0 in
    let b = bind_ok (g.read inside) (λ z. Ok (z.0, skipped n r)) (y, behind) a.1 in
    let size : length (take n r.bytes) ≡ n = omega (arith, length-take n r.bytes) in
    let made : Takes d r b.0.0 (skipped n r) = record {
      front = take n r.bytes;
      parts = sym (take-append-drop n r.bytes);
      place = omega (arith, size);
      spells = spells b.0.0 b.0.1 size b.1;
    } in
    let same : (b.0.0, skipped n r) ≡ (y, behind) = ok_is {F = F} (b.0.0, skipped n r) (y, behind) b.2 in
    subst (λ (z : A × CursorData). Takes d r z.0 z.1) {x = (b.0.0, skipped n r)} {y = (y, behind)} same made

pub data_refuses : {F A : Type 0} (short : F) (n : ℕ) (g : Part F A) → ((r : CursorData) (f : F) → g.read r ≡ Err f → g.Refuses r.at r.bytes f)
    → (r : CursorData) (f : F) → (block short n g).read r ≡ Err f → (block short n g).Refuses r.at r.bytes f
data_refuses {F} {A} short n g refuses r f e =
    let inside = left r.at (take n r.bytes) in
    let opened = guarded {A = CursorData × CursorData} {B = A × CursorData} (nat_lt (length r.bytes) n) short (inside, skipped n r) (λ d. ◌and_then◌ (g.read d.0) (λ z. Ok (z.0, d.1))) in
    elim (cond_errs (nat_lt (length r.bytes) n) short (◌and_then◌ (g.read inside) (λ z. Ok (z.0, skipped n r))) f (sym opened ∙ e)) [
      | inl a ↦ inl (ltb-true _ _ a.0, a.1)
      | inr a ↦
          let long : n ≤ length r.bytes = ltb-false _ _ a.0 in
          let size : length (take n r.bytes) ≡ n = omega (arith, length-take n r.bytes) in
          elim (bind_err (g.read inside) (λ z. Ok (z.0, skipped n r)) f a.1) [
            | inl stopped ↦ inr (take n r.bytes, drop n r.bytes, sym (take-append-drop n r.bytes), size, refuses inside f stopped)
            | inr b ↦ absurd (let no = b.2 in cc)
          ]
    ]

pub data_again : {F A : Type 0} (short : F) (n : ℕ) (g : Part F A) (p : ℕ) (front back : List ℕ) (y : A) (rest : CursorData) → length front ≡ n → g.read (left p front) ≡ Ok (y, rest)
    → (block short n g).read (left p (front ++ back)) ≡ Ok (y, left (p + length front) back)
data_again short n g p front back y rest size whole =
    let long : nat_lt (length (front ++ back)) n ≡ false = le-ltb _ _ (omega (arith, size, length-append front back)) in
    let held : take n (front ++ back) ≡ front = take_at front back n size in
    let behind : drop n (front ++ back) ≡ back = drop_at front back n size in
    rw (long, held, behind, whole, size) refl

pub data_refused : {F A : Type 0} (short : F) (n : ℕ) (g : Part F A) → ((p : ℕ) (bytes : List ℕ) (f : F) → g.Refuses p bytes f → g.read (left p bytes) ≡ Err f)
    → (p : ℕ) (bytes : List ℕ) (f : F) → (block short n g).Refuses p bytes f → (block short n g).read (left p bytes) ≡ Err f
data_refused {F} short n g refused p bytes f (inl a) = let tooshort : nat_lt (length bytes) n ≡ true = lt-ltb _ _ a.0 in rw tooshort (ap (λ (v : F). Err v) (sym a.1))
data_refused short n g refused p bytes f (inr a) =
    let long : nat_lt (length bytes) n ≡ false = le-ltb _ _ (omega (arith, ap length a.2, length-append a.0 a.1, a.3)) in
    let held : take n bytes ≡ a.0 = ap (take n) a.2 ∙ take_at a.0 a.1 n a.3 in
    rw (long, held, refused p a.0 f a.4) refl

pub block_exact : {F A : Type 0} (short : F) (n : ℕ) (g : Part F A) → IsExact g → IsExact (block short n g)
block_exact short n g eg = record {
  takes = λ r y behind e.
      data_takes short n g (block short n g) r y behind e (λ x rest size read. let t = eg.takes (left r.at (take n r.bytes)) x rest read in (size, (t.front, rest.bytes, t.parts, t.spells)));
  refuses = data_refuses short n g eg.refuses;
  again = λ p front back y s.
      let first = eg.again p s.1.0 s.1.1 y s.1.3 in
      data_again short n g p front back y (left (p + length s.1.0) s.1.1) s.0 (ap (λ (bs : List ℕ). g.read (left p bs)) s.1.2 ∙ first);
  refused = data_refused short n g eg.refused;
}

-- ---- a part that is stated in another way

pub restated_exact : {F A : Type 0} (g h : Part F A) → ((r : CursorData) → h.read r ≡ g.read r)
    → ((p : ℕ) (text : List ℕ) (x : A) → (g.Spells p text x → h.Spells p text x) × (h.Spells p text x → g.Spells p text x))
    → ((p : ℕ) (bytes : List ℕ) (f : F) → (g.Refuses p bytes f → h.Refuses p bytes f) × (h.Refuses p bytes f → g.Refuses p bytes f))
    → IsExact g → IsExact h
restated_exact g h reads spells refuses eg = record {
  takes = λ r x behind e. let t = eg.takes r x behind (sym (reads r) ∙ e) in record { front = t.front; parts = t.parts; place = t.place; spells = (spells r.at t.front x).0 t.spells };
  refuses = λ r f e. (refuses r.at r.bytes f).0 (eg.refuses r f (sym (reads r) ∙ e));
  again = λ p front back x s. reads (left p (front ++ back)) ∙ eg.again p front back x ((spells p front x).1 s);
  refused = λ p bytes f s. reads (left p bytes) ∙ eg.refused p bytes f ((refuses p bytes f).1 s);
}
