-- Regions that ascend: their ends, and where a word can stand.
use Rattle.std.proofs.Common.{◌≡◌, ℕ, ◌-◌, ◌^◌, ◌<◌, ◌≤◌, List, [], ◌∷◌, ◌++◌, length, Bool, true, false, Option, Some, None, slice_get, get_or, cond, refl, sym, ap, subst, ◌∙◌, arith}
use Rattle.std.specs.Option.{option_map}
use native.Mathlib.Numerals.{unary_clauses}
use Rattle.frame_expr.specs.Regions.{RegionData, end, regions_end, AreFrom, holds_bytes, region_at}

pub last_end : (rs : List RegionData) (x : RegionData) → slice_get rs (length rs - 1) ≡ Some x → regions_end rs ≡ end x
last_end [] x e = grind (arith, e)
last_end (r ∷ []) x e = grind (arith, e)
last_end (r ∷ q ∷ rs) x e = last_end (q ∷ rs) x (simp unary_clauses (simp unary_clauses at e))

pub last_fits : (low : ℕ) (rs : List RegionData) (x : RegionData) → AreFrom low rs → slice_get rs (length rs - 1) ≡ Some x → end x < 2 ^ 64
last_fits low [] x all e = grind (arith, e)
last_fits low (r ∷ []) x all e = grind (arith, e, all.2)
last_fits low (r ∷ q ∷ rs) x all e = last_fits (end r) (q ∷ rs) x all.3 (simp unary_clauses (simp unary_clauses at e))

end_above : (q : RegionData) (qs : List RegionData) → AreFrom (end q) qs → end q ≤ regions_end (q ∷ qs)
end_above q [] all = omega arith
end_above q (p ∷ ps) all = let more = end_above p ps all.3 in omega (arith, all.0, more)

pub one_more : (low : ℕ) (rs : List RegionData) (r : RegionData) → AreFrom low rs → low ≤ r.address → regions_end rs ≤ r.address → 0 < length r.bytes → end r < 2 ^ 64
    → AreFrom low (rs ++ r ∷ [])
one_more low [] r all above last some fits = (above, some, fits, tt)
one_more low (q ∷ []) r all above last some fits = (all.0, all.1, all.2, (last, some, fits, tt))
one_more low (q ∷ p ∷ ps) r all above last some fits =
    let high = end_above q (p ∷ ps) all.3 in
    (all.0, all.1, all.2, one_more (end q) (p ∷ ps) r all.3 (omega (arith, high, last)) last some fits)

-- ---- parts

pub front_ascends : (low : ℕ) (xs ys : List RegionData) → AreFrom low (xs ++ ys) → AreFrom low xs
front_ascends low [] ys all = tt
front_ascends low (x ∷ xs) ys all = (all.0, all.1, all.2, front_ascends (end x) xs ys all.3)

pub back_ascends : (low : ℕ) (xs ys : List RegionData) → AreFrom low (xs ++ ys) → (high : ℕ) × AreFrom high ys
back_ascends low [] ys all = (low, all)
back_ascends low (x ∷ xs) ys all = back_ascends (end x) xs ys all.3

low_first : (low : ℕ) (xs : List RegionData) (y : RegionData) (ys : List RegionData) → AreFrom low (xs ++ y ∷ ys) → low ≤ y.address
low_first low [] y ys all = all.0
low_first low (x ∷ xs) y ys all = let more = low_first (end x) xs y ys all.3 in omega (arith, all.0, more)

-- ---- the region that holds so many bytes

no_hold_above : (n a : ℕ) (r : RegionData) → a < r.address → holds_bytes n a r ≡ false
no_hold_above n a r lt = grind (arith, lt)

no_hold_below : (n a : ℕ) (r : RegionData) → 0 < n → end r ≤ a → holds_bytes n a r ≡ false
no_hold_below n a r some le = grind (arith, some, le)

unheld : (n a : ℕ) (r : RegionData) (rs : List RegionData) → holds_bytes n a r ≡ false → region_at n a (r ∷ rs) ≡ region_at n a rs
unfolding region_at
unheld n a r rs out = rw out refl

same_if : (b : Bool) (x y z : Option RegionData) → y ≡ z → cond b x y ≡ cond b x z
same_if true x y z e = refl
same_if false x y z e = e

nothing_above : (n a low : ℕ) (rs : List RegionData) → AreFrom low rs → a < low → region_at n a rs ≡ None
unfolding region_at
nothing_above n a low [] all lt = refl
nothing_above n a low (r ∷ rs) all lt =
    unheld n a r rs (no_hold_above n a r (omega (arith, all.0, lt))) ∙ nothing_above n a (end r) rs all.3 (omega (arith, all.0, lt))

in_back : (n a low : ℕ) (xs : List RegionData) (y : RegionData) (ys : List RegionData) → 0 < n → AreFrom low (xs ++ y ∷ ys) → y.address ≤ a
    → region_at n a (xs ++ y ∷ ys) ≡ region_at n a (y ∷ ys)
in_back n a low [] y ys some all le = refl
in_back n a low (x ∷ xs) y ys some all le =
    let high = low_first (end x) xs y ys all.3 in
    unheld n a x (xs ++ y ∷ ys) (no_hold_below n a x some (omega (arith, high, le))) ∙ in_back n a (end x) xs y ys some all.3 le

in_front : (n a low : ℕ) (xs : List RegionData) (y : RegionData) (ys : List RegionData) → AreFrom low (xs ++ y ∷ ys) → a < y.address
    → region_at n a (xs ++ y ∷ ys) ≡ region_at n a xs
unfolding region_at
in_front n a low [] y ys all lt =
    unheld n a y ys (no_hold_above n a y lt) ∙ nothing_above n a (end y) ys all.3 (omega (arith, lt))
in_front n a low (x ∷ xs) y ys all lt =
    same_if (holds_bytes n a x) (Some x) (region_at n a (xs ++ y ∷ ys)) (region_at n a xs) (in_front n a (end x) xs y ys all.3 lt)

-- ---- halves

-- of any number of bytes, the region that holds them among all stands among those that are left
abbrev pub AreAlikeAt : ℕ → List RegionData → List RegionData → Type 0
AreAlikeAt a xs ys = (n : ℕ) → 0 < n → region_at n a xs ≡ region_at n a ys

pub in_upper_half : (a low : ℕ) (left front back : List RegionData) (y : RegionData) → left ≡ front ++ back → 0 < length back → y ≡ get_or back 0 y → AreFrom low left → y.address ≤ a
    → (high : ℕ) × AreFrom high back × AreAlikeAt a back left
in_upper_half a low left front [] y parts some is all le = absurd (omega (arith, some))
in_upper_half a low left front (z ∷ zs) y parts some is all le =
    let here : AreFrom low (front ++ z ∷ zs) = subst (λ (rs : List RegionData). AreFrom low rs) parts all in
    let there = back_ascends low front (z ∷ zs) here in
    let above : z.address ≤ a = subst (λ (r : RegionData). r.address ≤ a) is le in
    (there.0, there.1, λ n many. sym (ap (region_at n a) parts ∙ in_back n a low front z zs many here above))

pub in_lower_half : (a low : ℕ) (left front back : List RegionData) (y : RegionData) → left ≡ front ++ back → 0 < length back → y ≡ get_or back 0 y → AreFrom low left → a < y.address
    → (high : ℕ) × AreFrom high front × AreAlikeAt a front left
in_lower_half a low left front [] y parts some is all lt = absurd (omega (arith, some))
in_lower_half a low left front (z ∷ zs) y parts some is all lt =
    let here : AreFrom low (front ++ z ∷ zs) = subst (λ (rs : List RegionData). AreFrom low rs) parts all in
    let below : a < z.address = subst (λ (r : RegionData). a < r.address) is lt in
    (low, front_ascends low front (z ∷ zs) here, λ n many. sym (ap (region_at n a) parts ∙ in_front n a low front z zs here below))

pub in_none : (n a : ℕ) (left : List RegionData) → length left < 1 → region_at n a left ≡ None
unfolding region_at
in_none n a [] lt = refl
in_none n a (y ∷ ys) lt = absurd (omega (arith, lt))

pub in_the_one : (n a : ℕ) (left : List RegionData) (y : RegionData) → length left ≤ 1 → 1 ≤ length left → y ≡ get_or left 0 y → region_at n a left ≡ cond (holds_bytes n a y) (Some y) None
unfolding region_at
in_the_one n a [] y le some is = absurd (omega (arith, some))
in_the_one n a (z ∷ []) y le some is = ap (λ (r : RegionData). cond (holds_bytes n a r) (Some r) None) (sym is)
in_the_one n a (z ∷ w ∷ zs) y le some is = absurd (omega (arith, le))

pub first_fits : (low : ℕ) (left : List RegionData) (y : RegionData) → AreFrom low left → 1 ≤ length left → y ≡ get_or left 0 y → end y < 2 ^ 64
first_fits low [] y all some is = absurd (omega (arith, some))
first_fits low (z ∷ zs) y all some is = subst (λ (r : RegionData). end r < 2 ^ 64) (sym is) all.2

-- ---- what stands in the region

pub in_no_region : {X : Type 0} (f : RegionData → X) (n a : ℕ) (rs : List RegionData) → region_at n a rs ≡ None → None ≡ option_map f (region_at n a rs)
in_no_region f n a rs e = rw e refl

in_held : {X : Type 0} (f : RegionData → X) (b : Bool) (r : RegionData) → cond b (Some (f r)) None ≡ option_map f (cond b (Some r) None)
in_held f true r = refl
in_held f false r = refl

pub in_the_region : {X : Type 0} (f : RegionData → X) (n a : ℕ) (rs : List RegionData) (r : RegionData) → region_at n a rs ≡ cond (holds_bytes n a r) (Some r) None
    → cond (holds_bytes n a r) (Some (f r)) None ≡ option_map f (region_at n a rs)
in_the_region f n a rs r e = in_held f (holds_bytes n a r) r ∙ ap (option_map f) (sym e)
