-- Modules that ascend: their ends, and where that of an address stands.
use Rattle.std.proofs.Common.{◌≡◌, ℕ, ◌-◌, ◌<◌, ◌≤◌, List, [], ◌∷◌, ◌++◌, length, Bool, true, false, Option, Some, None, slice_get, get_or, cond, refl, sym, ap, subst, ◌∙◌, arith}
use native.Mathlib.Numerals.{unary_clauses}
use Rattle.stack_walk.specs.Modules.{ModuleData, AreModulesFrom, has_code_at, module_at, module_end, modules_end}

pub last_module_end : (ms : List ModuleData) (x : ModuleData) → slice_get ms (length ms - 1) ≡ Some x → modules_end ms ≡ module_end x
last_module_end [] x e = grind (arith, e)
last_module_end (m ∷ []) x e = grind (arith, e)
last_module_end (m ∷ n ∷ ms) x e = last_module_end (n ∷ ms) x (simp unary_clauses (simp unary_clauses at e))

pub module_more : (low : ℕ) (ms : List ModuleData) (m : ModuleData) → AreModulesFrom low ms → low ≤ m.first → modules_end ms ≤ m.first → AreModulesFrom low (ms ++ m ∷ [])
module_more low [] m all above last = (above, tt)
module_more low (n ∷ []) m all above last = (all.0, (last, tt))
module_more low (n ∷ k ∷ ms) m all above last =
    let high : module_end n ≤ m.first = high_end n (k ∷ ms) all.1 last in
    (all.0, module_more (module_end n) (k ∷ ms) m all.1 high last)
  where
    high_end : (n : ModuleData) (ks : List ModuleData) → AreModulesFrom (module_end n) ks → modules_end (n ∷ ks) ≤ m.first → module_end n ≤ m.first
    high_end n [] all last = last
    high_end n (k ∷ ks) all last = let more = high_end k ks all.1 last in omega (arith, more, all.0)

-- ---- parts

front_modules : (low : ℕ) (xs ys : List ModuleData) → AreModulesFrom low (xs ++ ys) → AreModulesFrom low xs
front_modules low [] ys all = tt
front_modules low (x ∷ xs) ys all = (all.0, front_modules (module_end x) xs ys all.1)

back_modules : (low : ℕ) (xs ys : List ModuleData) → AreModulesFrom low (xs ++ ys) → (high : ℕ) × AreModulesFrom high ys
back_modules low [] ys all = (low, all)
back_modules low (x ∷ xs) ys all = back_modules (module_end x) xs ys all.1

low_module : (low : ℕ) (xs : List ModuleData) (y : ModuleData) (ys : List ModuleData) → AreModulesFrom low (xs ++ y ∷ ys) → low ≤ y.first
low_module low [] y ys all = all.0
low_module low (x ∷ xs) y ys all = let more = low_module (module_end x) xs y ys all.1 in omega (arith, all.0, more)

-- ---- the module that has an address

no_code_below : (pc : ℕ) (m : ModuleData) → pc < m.first → has_code_at pc m ≡ false
no_code_below pc m lt = grind (arith, lt)

no_code_above : (pc : ℕ) (m : ModuleData) → module_end m ≤ pc → has_code_at pc m ≡ false
no_code_above pc m le = grind (arith, le)

passed_by : (pc : ℕ) (m : ModuleData) (ms : List ModuleData) → has_code_at pc m ≡ false → module_at pc (m ∷ ms) ≡ module_at pc ms
unfolding module_at
passed_by pc m ms out = rw out refl

same_found : (b : Bool) (x y z : Option ModuleData) → y ≡ z → cond b x y ≡ cond b x z
same_found true x y z e = refl
same_found false x y z e = e

none_above : (pc low : ℕ) (ms : List ModuleData) → AreModulesFrom low ms → pc < low → module_at pc ms ≡ None
unfolding module_at
none_above pc low [] all lt = refl
none_above pc low (m ∷ ms) all lt =
    passed_by pc m ms (no_code_below pc m (omega (arith, all.0, lt))) ∙ none_above pc (module_end m) ms all.1 (omega (arith, all.0, lt))

module_in_back : (pc low : ℕ) (xs : List ModuleData) (y : ModuleData) (ys : List ModuleData) → AreModulesFrom low (xs ++ y ∷ ys) → y.first ≤ pc
    → module_at pc (xs ++ y ∷ ys) ≡ module_at pc (y ∷ ys)
module_in_back pc low [] y ys all le = refl
module_in_back pc low (x ∷ xs) y ys all le =
    let high = low_module (module_end x) xs y ys all.1 in
    passed_by pc x (xs ++ y ∷ ys) (no_code_above pc x (omega (arith, high, le))) ∙ module_in_back pc (module_end x) xs y ys all.1 le

module_in_front : (pc low : ℕ) (xs : List ModuleData) (y : ModuleData) (ys : List ModuleData) → AreModulesFrom low (xs ++ y ∷ ys) → pc < y.first
    → module_at pc (xs ++ y ∷ ys) ≡ module_at pc xs
unfolding module_at
module_in_front pc low [] y ys all lt =
    passed_by pc y ys (no_code_below pc y lt) ∙ none_above pc (module_end y) ys all.1 (omega (arith, lt))
module_in_front pc low (x ∷ xs) y ys all lt =
    same_found (has_code_at pc x) (Some x) (module_at pc (xs ++ y ∷ ys)) (module_at pc xs) (module_in_front pc (module_end x) xs y ys all.1 lt)

-- ---- halves

pub upper_modules : (pc low : ℕ) (left front back : List ModuleData) (y : ModuleData) → left ≡ front ++ back → 0 < length back → y ≡ get_or back 0 y → AreModulesFrom low left → y.first ≤ pc
    → (high : ℕ) × AreModulesFrom high back × (module_at pc back ≡ module_at pc left)
upper_modules pc low left front [] y parts some is all le = absurd (omega (arith, some))
upper_modules pc low left front (z ∷ zs) y parts some is all le =
    let here : AreModulesFrom low (front ++ z ∷ zs) = subst (λ (ms : List ModuleData). AreModulesFrom low ms) parts all in
    let there = back_modules low front (z ∷ zs) here in
    let above : z.first ≤ pc = subst (λ (m : ModuleData). m.first ≤ pc) is le in
    (there.0, there.1, sym (ap (module_at pc) parts ∙ module_in_back pc low front z zs here above))

pub lower_modules : (pc low : ℕ) (left front back : List ModuleData) (y : ModuleData) → left ≡ front ++ back → 0 < length back → y ≡ get_or back 0 y → AreModulesFrom low left → pc < y.first
    → (high : ℕ) × AreModulesFrom high front × (module_at pc front ≡ module_at pc left)
lower_modules pc low left front [] y parts some is all lt = absurd (omega (arith, some))
lower_modules pc low left front (z ∷ zs) y parts some is all lt =
    let here : AreModulesFrom low (front ++ z ∷ zs) = subst (λ (ms : List ModuleData). AreModulesFrom low ms) parts all in
    let below : pc < z.first = subst (λ (m : ModuleData). pc < m.first) is lt in
    (low, front_modules low front (z ∷ zs) here, sym (ap (module_at pc) parts ∙ module_in_front pc low front z zs here below))

pub in_no_module : (pc : ℕ) (left : List ModuleData) → length left < 1 → module_at pc left ≡ None
unfolding module_at
in_no_module pc [] lt = refl
in_no_module pc (y ∷ ys) lt = absurd (omega (arith, lt))

pub answer_of_one : (pc : ℕ) (left : List ModuleData) (y : ModuleData) (b : Bool) → length left ≤ 1 → 1 ≤ length left → y ≡ get_or left 0 y → has_code_at pc y ≡ b → cond b (Some y) None ≡ module_at pc left
unfolding module_at
answer_of_one pc [] y b le some is has = absurd (omega (arith, some))
answer_of_one pc (z ∷ []) y b le some is has = ap (λ (k : Bool). cond k (Some y) None) (sym has) ∙ ap (λ (m : ModuleData). cond (has_code_at pc m) (Some m) None) is
answer_of_one pc (z ∷ w ∷ zs) y b le some is has = absurd (omega (arith, le))
