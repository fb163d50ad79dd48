-- Lists without what stands at a place, and what stands there brought to the front.
use Rattle.std.proofs.Common.{◌≡◌, ◌≢◌, ℕ, zero, suc, ◌+◌, ◌-◌, ◌<◌, List, [], ◌∷◌, ◌++◌, length, take, drop, get_or, set, sym, refl, ap, subst, ◌∙◌, arith}
use Rattle.std.specs.List.{AllByRecursion, copy_within}
use Rattle.frame_cache.specs.Order.{StandOnce, AreSlots, but_nth, brought}

pub all_at : {A : Type 0} (P : A → Type 0) (xs : List A) (n : ℕ) (d : A) → n < length xs → AllByRecursion P xs → P (get_or xs n d)
all_at P [] n d within h = absurd (omega (arith, within))
all_at P (x ∷ xs) zero d within h = h.0
all_at P (x ∷ xs) (suc n) d within h = all_at P xs n d (omega (arith, within)) h.1

pub all_but : {A : Type 0} (P : A → Type 0) (xs : List A) (n : ℕ) → AllByRecursion P xs → AllByRecursion P (but_nth n xs)
all_but P [] n h = tt
all_but P (x ∷ xs) zero h = h.1
all_but P (x ∷ xs) (suc n) h = (h.0, all_but P xs n h.1)

pub but_count : {A : Type 0} (xs : List A) (n : ℕ) → n < length xs → suc (length (but_nth n xs)) ≡ length xs
but_count [] n within = absurd (omega (arith, within))
but_count (x ∷ xs) zero within = refl
but_count (x ∷ xs) (suc n) within = ap suc (but_count xs n (omega (arith, within)))

but_apart : (xs : List ℕ) (n : ℕ) → StandOnce xs → StandOnce (but_nth n xs)
but_apart [] n h = tt
but_apart (x ∷ xs) zero h = h.1
but_apart (x ∷ xs) (suc n) h = (all_but (λ y. y ≢ x) xs n h.0, but_apart xs n h.1)

-- what stood at the place stands nowhere else
pub apart_at : (xs : List ℕ) (n : ℕ) → n < length xs → StandOnce xs → AllByRecursion (λ y. y ≢ get_or xs n 0) (but_nth n xs)
apart_at [] n within h = tt
apart_at (x ∷ xs) zero within h = h.0
apart_at (x ∷ xs) (suc n) within h =
    let there : n < length xs = omega (arith, within) in
    ((λ e. all_at (λ y. y ≢ x) xs n 0 there h.0 (sym e)), apart_at xs n there h.1)

pub slots_brought : (xs : List ℕ) (n : ℕ) → n < 8 → AreSlots xs → AreSlots (brought n xs)
slots_brought xs n within s =
    let count = s.count in
    let there : n < length xs = omega (arith, within, count) in
    record {
      count = (let c = but_count xs n there in omega (arith, c, count));
      apart = (apart_at xs n there s.apart, but_apart xs n s.apart);
      inside = (all_at (λ slot. slot < 8) xs n 0 there s.inside, all_but (λ slot. slot < 8) xs n s.inside);
    }

but_parted : {A : Type 0} (xs : List A) (n : ℕ) → but_nth n xs ≡ take n xs ++ drop (suc n) xs
but_parted [] zero = refl
but_parted [] (suc n) = refl
but_parted (x ∷ xs) zero = refl
but_parted (x ∷ xs) (suc n) = ap (λ z. x ∷ z) (but_parted xs n)

-- what stands before a place is moved up by one, and what stood there put in front
moved_up : (xs : List ℕ) (n : ℕ) → n < length xs → set (copy_within xs 0 n 1) 0 (get_or xs n 0) ≡ brought n xs
moved_up [] n within = absurd (omega (arith, within))
moved_up (x ∷ xs) n within =
    let all : n - 0 ≡ n = omega arith in
    let next : 1 + n ≡ suc n = omega arith in
    ap (λ k. get_or (x ∷ xs) n 0 ∷ (take k (x ∷ xs) ++ drop (1 + k) (x ∷ xs))) all
    ∙ (ap (λ k. get_or (x ∷ xs) n 0 ∷ (take n (x ∷ xs) ++ drop k (x ∷ xs))) next ∙ ap (λ z. get_or (x ∷ xs) n 0 ∷ z) (sym (but_parted (x ∷ xs) n)))

pub slots_moved_up : (xs ys : List ℕ) (n : ℕ) → n < 8 → ys ≡ copy_within xs 0 n 1 → AreSlots xs → AreSlots (set ys 0 (get_or xs n 0))
slots_moved_up xs ys n within is s =
    let count = s.count in
    subst AreSlots (sym (ap (λ zs. set zs 0 (get_or xs n 0)) is ∙ moved_up xs n (omega (arith, within, count)))) (slots_brought xs n within s)
