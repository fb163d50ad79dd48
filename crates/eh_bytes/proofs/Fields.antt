-- The parts that are read at once are exact: numbers of fixed width, LEB128 numbers and texts.
use Rattle.std.proofs.Common.{◌≡◌, ℕ, suc, ◌+◌, ◌^◌, ◌<◌, ◌≤◌, ◌⊎◌, List, [], ◌∷◌, ◌++◌, length, take, drop, Bool, true, false, cond, Option, Some, None, Result, Ok, Err, nat_lt, nat_eq, refl, sym, ap, subst, ◌∙◌, append_assoc, length-append, arith, inl, inr}
use Rattle.std.specs.Option.{option_map}
use Rattle.std.proofs.lemmas.Bool.{ltb-false, ltb-true, le-ltb, lt-ltb, eqb-true}
use Rattle.std.proofs.lemmas.List.{take-append-drop, take_at, drop_at, length-take}
use Rattle.byteorder.specs.Endian.{little_number}
use Rattle.byteorder.specs.Numbers.{little_from-append}
use Rattle.eh_bytes.specs.declared.fault.ByteFault.{ByteFault}
use Rattle.eh_bytes.specs.declared.fault.ByteFault.TheVariants as bytes
use Rattle.eh_bytes.specs.CursorData.{CursorData, skipped, text_len, text_of, text_at}
use Rattle.eh_bytes.specs.Leb.{IsLeb, leb_len, uleb_value, sleb_value, fits_signed, uleb_of, sleb_of}
use Rattle.eh_bytes.specs.Fields.{fixed, uleb, sleb, text}
use Rattle.eh_bytes.proofs.Results.{ok_is, guard_ok, guard_err, fits_ok, fits_err}
use Rattle.eh_bytes.specs.Grammar.{Part}
use Rattle.eh_bytes.proofs.Exact.{left, Takes, IsExact, restated_exact}

-- ---- numbers of fixed width

front_of : (n : ℕ) (r : CursorData) → n ≤ length r.bytes → length (take n r.bytes) ≡ n
front_of n r le = omega (arith, length-take n r.bytes)

number_front : (n : ℕ) (bytes : List ℕ) → n ≤ length bytes → little_number n (take n bytes) ≡ little_number n bytes
number_front n bytes le =
    sym (little_from-append n (take n bytes) (drop n bytes) (omega (arith, length-take n bytes))) ∙ ap (little_number n) (take-append-drop n bytes)

pub fixed_exact : (n : ℕ) → IsExact (fixed n)
fixed_exact n = record {
  takes = λ r x behind e.
      let g = guard_ok (nat_lt (length r.bytes) n) (bytes.Short r.at) (little_number n r.bytes, skipped n r) (x, behind) e in
      let long : n ≤ length r.bytes = ltb-false _ _ g.0 in
      let made : Takes (fixed n) r (little_number n r.bytes) (skipped n r) = record {
        front = take n r.bytes;
        parts = sym (take-append-drop n r.bytes);
        place = omega (arith, front_of n r long);
        spells = (front_of n r long, number_front n r.bytes long);
      } in
      subst (λ (z : ℕ × CursorData). Takes (fixed n) r z.0 z.1) g.1 made;
  refuses = λ r f e.
      let g = guard_err (nat_lt (length r.bytes) n) (bytes.Short r.at) f (little_number n r.bytes, skipped n r) e in
      (ltb-true _ _ g.0, g.1);
  again = λ p front back x s.
      let long : nat_lt (length (front ++ back)) n ≡ false = le-ltb _ _ (omega (arith, s.0, length-append front back)) in
      let behind : drop n (front ++ back) ≡ back = drop_at front back n s.0 in
      let value : little_number n (front ++ back) ≡ x = little_from-append n front back (omega (arith, s.0)) ∙ s.1 in
      rw (long, behind, value, s.0) refl;
  refused = λ p bytes f s. let tooshort : nat_lt (length bytes) n ≡ true = lt-ltb _ _ s.0 in rw tooshort (ap (λ (v : ByteFault). Err v) (sym s.1));
}

-- ---- where a number ends

map_suc : (o : Option ℕ) (n : ℕ) → option_map suc o ≡ Some n → (m : ℕ) × (o ≡ Some m) × (suc m ≡ n)
map_suc None n e = absurd cc
map_suc (Some m) n e = (m, refl, cc)

leb_grow : (b : Bool) (o more : Option ℕ) (n : ℕ) → ((m : ℕ) → o ≡ Some m → more ≡ Some m) → cond b (Some 1) (option_map suc o) ≡ Some n → cond b (Some 1) (option_map suc more) ≡ Some n
leb_grow true o more n h e = e
leb_grow false o more n h e = let a = map_suc o n e in ap (option_map suc) (h a.0 a.1) ∙ ap (λ (k : ℕ). Some k) a.2

-- a number goes no further where more bytes follow
pub leb_len-append : (xs ys : List ℕ) (n : ℕ) → leb_len xs ≡ Some n → leb_len (xs ++ ys) ≡ Some n
unfolding leb_len
leb_len-append [] ys n e = absurd cc
leb_len-append (b ∷ bs) ys n e = leb_grow (nat_lt b 128) (leb_len bs) (leb_len (bs ++ ys)) n (leb_len-append bs ys) e

leb_take : (b : ℕ) (bs : List ℕ) (n : ℕ) (t : Bool) → nat_lt b 128 ≡ t → ((m : ℕ) → leb_len bs ≡ Some m → (m ≤ length bs) × (leb_len (take m bs) ≡ Some m))
    → cond t (Some 1) (option_map suc (leb_len bs)) ≡ Some n → (n ≤ suc (length bs)) × (leb_len (take n (b ∷ bs)) ≡ Some n)
unfolding leb_len
leb_take b bs n true low more e =
    let same : 1 ≡ n = cc in
    subst (λ (k : ℕ). (k ≤ suc (length bs)) × (leb_len (take k (b ∷ bs)) ≡ Some k)) same (omega arith, rw low refl)
leb_take b bs n false high more e =
    let a = map_suc (leb_len bs) n e in
    let h = more a.0 a.1 in
    subst (λ (k : ℕ). (k ≤ suc (length bs)) × (leb_len (take k (b ∷ bs)) ≡ Some k)) a.2 (omega (arith, h.0), rw (high, h.1) refl)

-- the bytes up to the end of a number are one number
pub leb_len-take : (xs : List ℕ) (n : ℕ) → leb_len xs ≡ Some n → (n ≤ length xs) × (leb_len (take n xs) ≡ Some n)
unfolding leb_len
leb_len-take [] n e = absurd cc
leb_len-take (b ∷ bs) n e = leb_take b bs n (nat_lt b 128) refl (leb_len-take bs) e

IsLeb-take : (xs : List ℕ) (n : ℕ) → leb_len xs ≡ Some n → (length (take n xs) ≡ n) × IsLeb (take n xs)
IsLeb-take xs n e =
    let a = leb_len-take xs n e in
    let size : length (take n xs) ≡ n = omega (arith, a.0, length-take n xs) in
    (size, a.1 ∙ ap (λ (k : ℕ). Some k) (sym size))

-- ---- numbers of any length

-- a number with its value, which fits or does not
abbrev leb_read : {V : Type 0} → (List ℕ → V) → (List ℕ → Bool) → CursorData → Option ℕ → Result (V × CursorData) ByteFault
leb_read value fits r None = Err (bytes.Short r.at)
leb_read value fits r (Some n) = cond (fits (take n r.bytes)) (Ok (value (take n r.bytes), skipped n r)) (Err (bytes.TooWide r.at))

abbrev leb : {V : Type 0} → (List ℕ → V) → (List ℕ → Bool) → Part ByteFault V
leb value fits = record {
  Spells = λ p text x. IsLeb text × (fits text ≡ true) × (value text ≡ x);
  Refuses = λ p bs f.
      ((leb_len bs ≡ None) × (f ≡ bytes.Short p))
      ⊎ ((text : List ℕ) × (back : List ℕ) × (bs ≡ text ++ back) × IsLeb text × (fits text ≡ false) × (f ≡ bytes.TooWide p));
  read = λ r. leb_read value fits r (leb_len r.bytes);
}

leb_some : {V : Type 0} (value : List ℕ → V) (fits : List ℕ → Bool) (r : CursorData) (o : Option ℕ) (x : V) (behind : CursorData) → leb_read value fits r o ≡ Ok (x, behind)
    → (n : ℕ) × (o ≡ Some n) × (fits (take n r.bytes) ≡ true) × (let made : V × CursorData = (value (take n r.bytes), skipped n r) in made ≡ (x, behind))
leb_some value fits r None x behind e = absurd cc
leb_some value fits r (Some n) x behind e =
    let g = fits_ok (fits (take n r.bytes)) (bytes.TooWide r.at) (value (take n r.bytes), skipped n r) (x, behind) e in
    (n, refl, g.0, g.1)

leb_none : {V : Type 0} (value : List ℕ → V) (fits : List ℕ → Bool) (r : CursorData) (o : Option ℕ) (e : ByteFault) → leb_read value fits r o ≡ Err e
    → ((o ≡ None) × (e ≡ bytes.Short r.at)) ⊎ ((n : ℕ) × (o ≡ Some n) × (fits (take n r.bytes) ≡ false) × (e ≡ bytes.TooWide r.at))
leb_none value fits r None e same = inl (refl, sym (let made : bytes.Short r.at ≡ e = cc in made))
leb_none value fits r (Some n) e same =
    let g = fits_err (fits (take n r.bytes)) (bytes.TooWide r.at) e (value (take n r.bytes), skipped n r) same in
    inr (n, refl, g.0, g.1)

leb_exact : {V : Type 0} (value : List ℕ → V) (fits : List ℕ → Bool) → IsExact (leb value fits)
leb_exact {V} value fits = record {
  takes = λ r x behind e.
      let a = leb_some value fits r (leb_len r.bytes) x behind e in
      let is = IsLeb-take r.bytes a.0 a.1 in
      let made : Takes (leb value fits) r (value (take a.0 r.bytes)) (skipped a.0 r) = record {
        front = take a.0 r.bytes;
        parts = sym (take-append-drop a.0 r.bytes);
        place = omega (arith, is.0);
        spells = (is.1, a.2, refl);
      } in
      subst (λ (z : V × CursorData). Takes (leb value fits) r z.0 z.1) a.3 made;
  refuses = λ r f e.
      elim (leb_none value fits r (leb_len r.bytes) f e) [
        | inl a ↦ inl (a.0, a.1)
        | inr a ↦
            let is = IsLeb-take r.bytes a.0 a.1 in
            inr (take a.0 r.bytes, drop a.0 r.bytes, sym (take-append-drop a.0 r.bytes), is.1, a.2, a.3)
      ];
  again = λ p front back x s.
      let ends = leb_len-append front back (length front) s.0 in
      let held : take (length front) (front ++ back) ≡ front = take_at front back (length front) refl in
      let behind : drop (length front) (front ++ back) ≡ back = drop_at front back (length front) refl in
      rw (ends, held, behind, s.1, s.2) refl;
  refused = λ p bytes f s.
      elim s [
        | inl a ↦ rw a.0 (ap (λ (v : ByteFault). Err v) (sym a.1))
        | inr a ↦
            let ends : leb_len bytes ≡ Some (length a.0) = ap leb_len a.2 ∙ leb_len-append a.0 a.1 (length a.0) a.3 in
            let held : take (length a.0) bytes ≡ a.0 = ap (take (length a.0)) a.2 ∙ take_at a.0 a.1 (length a.0) refl in
            rw (ends, held, a.4) (ap (λ (v : ByteFault). Err v) (sym a.5))
      ];
}

abbrev fits_unsigned : List ℕ → Bool
fits_unsigned text = nat_lt (uleb_value text) (2 ^ 64)

uleb_read : (r : CursorData) (o : Option ℕ) → uleb_of r o ≡ leb_read uleb_value fits_unsigned r o
unfolding uleb_of
uleb_read r None = refl
uleb_read r (Some n) = refl

pub uleb_exact : IsExact uleb
uleb_exact =
    restated_exact (leb uleb_value fits_unsigned) uleb (λ r. uleb_read r (leb_len r.bytes))
    (λ p text x. (λ s. (s.0, ltb-true _ _ s.1, s.2), λ s. (s.0, lt-ltb _ _ s.1, s.2)))
    (λ p bytes f. (
      λ s. elim s [ inl a ↦ inl a | inr a ↦ inr (a.0, a.1, a.2, a.3, ltb-false _ _ a.4, a.5) ],
      λ s. elim s [ inl a ↦ inl a | inr a ↦ inr (a.0, a.1, a.2, a.3, le-ltb _ _ a.4, a.5) ],
    ))
    (leb_exact uleb_value fits_unsigned)

sleb_read : (r : CursorData) (o : Option ℕ) → sleb_of r o ≡ leb_read sleb_value (λ text. fits_signed (sleb_value text)) r o
unfolding sleb_of
sleb_read r None = refl
sleb_read r (Some n) = refl

pub sleb_exact : IsExact sleb
sleb_exact =
    restated_exact (leb sleb_value (λ text. fits_signed (sleb_value text))) sleb (λ r. sleb_read r (leb_len r.bytes)) (λ p text x. (λ s. s, λ s. s)) (λ p bytes f. (λ s. s, λ s. s))
    (leb_exact sleb_value (λ text. fits_signed (sleb_value text)))

-- ---- texts

text_take : (b : ℕ) (bs : List ℕ) (n : ℕ) (t : Bool) → nat_eq b 0 ≡ t
    → ((m : ℕ) → text_len bs ≡ Some m → (m < length bs) × (text_len (take m bs) ≡ None) × (bs ≡ take m bs ++ 0 ∷ drop (m + 1) bs))
    → cond t (Some 0) (option_map suc (text_len bs)) ≡ Some n
    → (n < suc (length bs)) × (text_len (take n (b ∷ bs)) ≡ None) × (b ∷ bs ≡ take n (b ∷ bs) ++ 0 ∷ drop (n + 1) (b ∷ bs))
unfolding text_len
text_take b bs n true low more e =
    let same : 0 ≡ n = cc in
    let none : b ≡ 0 = eqb-true _ _ low in
    subst (λ (k : ℕ). (k < suc (length bs)) × (text_len (take k (b ∷ bs)) ≡ None) × (b ∷ bs ≡ take k (b ∷ bs) ++ 0 ∷ drop (k + 1) (b ∷ bs))) same (omega arith, refl, ap (λ (k : ℕ). k ∷ bs) none)
text_take b bs n false high more e =
    let a = map_suc (text_len bs) n e in
    let h = more a.0 a.1 in
    let tail : drop (a.0 + 1) bs ≡ drop (suc a.0 + 1) (b ∷ bs) = let k : suc a.0 + 1 ≡ suc (a.0 + 1) = omega arith in rw k refl in
    let whole : b ∷ bs ≡ b ∷ (take a.0 bs ++ 0 ∷ drop (suc a.0 + 1) (b ∷ bs)) = ap (λ (l : List ℕ). b ∷ l) (h.2 ∙ ap (λ (l : List ℕ). take a.0 bs ++ 0 ∷ l) tail) in
    subst (λ (k : ℕ). (k < suc (length bs)) × (text_len (take k (b ∷ bs)) ≡ None) × (b ∷ bs ≡ take k (b ∷ bs) ++ 0 ∷ drop (k + 1) (b ∷ bs))) a.2 (omega (arith, h.0), rw (high, h.1) refl, whole)

-- what stands before the first 0, and after it
text_len-take : (xs : List ℕ) (n : ℕ) → text_len xs ≡ Some n → (n < length xs) × (text_len (take n xs) ≡ None) × (xs ≡ take n xs ++ 0 ∷ drop (n + 1) xs)
unfolding text_len
text_len-take [] n e = absurd cc
text_len-take (b ∷ bs) n e = text_take b bs n (nat_eq b 0) refl (text_len-take bs) e

text_step : (t : Bool) (o more : Option ℕ) (k : ℕ) → (o ≡ None → more ≡ Some k) → cond t (Some 0) (option_map suc o) ≡ None → cond t (Some 0) (option_map suc more) ≡ Some (suc k)
text_step true o more k h e = absurd cc
text_step false None more k h e = let found : more ≡ Some k = h refl in rw found refl
text_step false (Some m) more k h e = absurd cc

text_len-whole : (xs ys : List ℕ) → text_len xs ≡ None → text_len (xs ++ 0 ∷ ys) ≡ Some (length xs)
unfolding text_len
text_len-whole [] ys e = refl
text_len-whole (b ∷ bs) ys e = text_step (nat_eq b 0) (text_len bs) (text_len (bs ++ 0 ∷ ys)) (length bs) (text_len-whole bs ys) e

text_some : (r : CursorData) (o : Option ℕ) (x : List ℕ) (behind : CursorData) → text_of r o ≡ Ok (x, behind)
    → (n : ℕ) × (o ≡ Some n) × (let made : List ℕ × CursorData = (take n r.bytes, skipped (n + 1) r) in made ≡ (x, behind))
unfolding text_of
text_some r None x behind e = absurd cc
text_some r (Some n) x behind e = (n, refl, ok_is {F = ByteFault} (take n r.bytes, skipped (n + 1) r) (x, behind) e)

text_none : (r : CursorData) (o : Option ℕ) (e : ByteFault) → text_of r o ≡ Err e → (o ≡ None) × (e ≡ bytes.Short r.at)
unfolding text_of
text_none r None e same = (refl, sym (let made : bytes.Short r.at ≡ e = cc in made))
text_none r (Some n) e same = absurd cc

pub text_exact : IsExact text
unfolding text_of
text_exact = record {
  takes = λ r x behind e.
      let a = text_some r (text_len r.bytes) x behind e in
      let t = text_len-take r.bytes a.0 a.1 in
      let made : Takes text r (take a.0 r.bytes) (skipped (a.0 + 1) r) = record {
        front = take a.0 r.bytes ++ 0 ∷ [];
        parts = t.2 ∙ sym (append_assoc (take a.0 r.bytes) (0 ∷ []) (drop (a.0 + 1) r.bytes));
        place = omega (arith, t.0, length-take a.0 r.bytes, length-append (take a.0 r.bytes) (0 ∷ []));
        spells = (t.1, refl);
      } in
      subst (λ (z : List ℕ × CursorData). Takes text r z.0 z.1) a.2 made;
  refuses = λ r f e.
      let a = text_none r (text_len r.bytes) f e in
      (a.0, a.1);
  again = λ p front back x s.
      let regrouped : front ++ back ≡ x ++ 0 ∷ back = ap (λ (l : List ℕ). l ++ back) s.1 ∙ append_assoc x (0 ∷ []) back in
      let ends : text_len (x ++ 0 ∷ back) ≡ Some (length x) = text_len-whole x back s.0 in
      let held : take (length x) (x ++ 0 ∷ back) ≡ x = take_at x (0 ∷ back) (length x) refl in
      let size : length front ≡ length x + 1 = ap length s.1 ∙ length-append x (0 ∷ []) in
      let behind : drop (length x + 1) (x ++ 0 ∷ back) ≡ back =
      ap (drop (length x + 1)) (sym (append_assoc x (0 ∷ []) back)) ∙ drop_at (x ++ 0 ∷ []) back (length x + 1) (length-append x (0 ∷ [])) in
      let whole : text_at (left p (x ++ 0 ∷ back)) ≡ Ok (x, left (p + (length x + 1)) back) = rw (ends, held, behind) refl in
      ap (λ (l : List ℕ). text_at (left p l)) regrouped ∙ whole ∙ ap (λ (k : ℕ). Ok (x, left (p + k) back)) (sym size);
  refused = λ p bytes f s. rw s.0 (ap (λ (v : ByteFault). Err v) (sym s.1));
}
