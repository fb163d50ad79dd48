-- Results one after another, and after tests.
use Rattle.std.proofs.Common.{◌≡◌, ◌⊎◌, Bool, true, false, cond, Result, Ok, Err, refl, sym, ap, inl, inr}
use Rattle.eh_bytes.specs.Results.{◌and_then◌, with_fault}

pub ok_is : {A F : Type 0} (x y : A) → (let made : A → Result A F = λ v. Ok v in made x ≡ made y) → x ≡ y
ok_is x y e = cc

pub err_is : {A F : Type 0} (x y : F) → (let made : F → Result A F = λ v. Err v in made x ≡ made y) → x ≡ y
err_is x y e = cc

-- ---- one after another

pub bind_ok : {A B F : Type 0} (m : Result A F) (f : A → Result B F) (y : B)
    → (m and_then f) ≡ Ok y → (x : A) × (m ≡ Ok x) × (f x ≡ Ok y)
bind_ok (Ok x) f y e = (x, refl, e)
bind_ok (Err d) f y e = absurd cc

pub bind_err : {A B F : Type 0} (m : Result A F) (f : A → Result B F) (d : F)
    → (m and_then f) ≡ Err d → (m ≡ Err d) ⊎ ((x : A) × (m ≡ Ok x) × (f x ≡ Err d))
bind_err (Ok x) f d e = inr (x, refl, e)
bind_err (Err c) f d e = inl (let same : c ≡ d = cc in ap (λ v. Err v) same)

-- ---- faults seen in another way

pub with_fault_ok : {A F G : Type 0} (place : F → G) (m : Result A F) (x : A) → with_fault place m ≡ Ok x → m ≡ Ok x
with_fault_ok place (Ok y) x e = let same : y ≡ x = cc in ap (λ v. Ok v) same
with_fault_ok place (Err d) x e = absurd cc

pub with_fault_err : {A F G : Type 0} (place : F → G) (m : Result A F) (f : G)
    → with_fault place m ≡ Err f → (e : F) × (m ≡ Err e) × (f ≡ place e)
with_fault_err place (Ok y) f e = absurd cc
with_fault_err {A} place (Err d) f e = (d, refl, sym (err_is {A = A} (place d) f e))

-- ---- after tests

pub cond_err : {A F : Type 0} (b : Bool) (d : F) (m : Result A F) (x : A) → cond b (Err d) m ≡ Ok x → (b ≡ false) × (m ≡ Ok x)
cond_err true d m x e = absurd cc
cond_err false d m x e = (refl, e)

pub cond_errs : {A F : Type 0} (b : Bool) (d : F) (m : Result A F) (f : F)
    → cond b (Err d) m ≡ Err f → ((b ≡ true) × (f ≡ d)) ⊎ ((b ≡ false) × (m ≡ Err f))
cond_errs {A} true d m f e = inl (refl, sym (err_is {A = A} d f e))
cond_errs false d m f e = inr (refl, e)

pub guarded : {A B F : Type 0} (b : Bool) (d : F) (x : A) (k : A → Result B F) → (cond b (Err d) (Ok x) and_then k) ≡ cond b (Err d) (k x)
guarded true d x k = refl
guarded false d x k = refl

pub guard_ok : {A F : Type 0} (b : Bool) (d : F) (x y : A) → cond b (Err d) (Ok x) ≡ Ok y → (b ≡ false) × (x ≡ y)
guard_ok true d x y e = absurd cc
guard_ok false d x y e = (refl, cc)

pub guard_err : {A F : Type 0} (b : Bool) (d f : F) (x : A) → cond b (Err d) (Ok x) ≡ Err f → (b ≡ true) × (f ≡ d)
guard_err true d f x e = (refl, cc)
guard_err false d f x e = absurd cc

pub fits_ok : {A F : Type 0} (b : Bool) (d : F) (x y : A) → cond b (Ok x) (Err d) ≡ Ok y → (b ≡ true) × (x ≡ y)
fits_ok true d x y e = (refl, cc)
fits_ok false d x y e = absurd cc

pub fits_err : {A F : Type 0} (b : Bool) (d f : F) (x : A) → cond b (Ok x) (Err d) ≡ Err f → (b ≡ false) × (f ≡ d)
fits_err true d f x e = absurd cc
fits_err false d f x e = (refl, cc)
