-- Members that ascend are not more than those of any list that has them all.
use Rattle.std.proofs.Common.{◌≡◌, ◌≢◌, ℕ, zero, suc, ◌+◌, ◌<◌, ◌≤◌, List, [], ◌∷◌, length, get_or, Contains, sym, refl, ap, ◌∙◌, subst, arith}
use Rattle.reg_model.specs.declared.span.Member.{Member}
use Rattle.tree_shape.specs.NodeData.{EntriesWithin}

-- the list without the one at k
abbrev pub drop_one : List Member → ℕ → List Member
drop_one [] k = []
drop_one (y ∷ ys) zero = ys
drop_one (y ∷ ys) (suc k) = y ∷ drop_one ys k

pub length_drop_one : (ys : List Member) (k : ℕ) → k < length ys → suc (length (drop_one ys k)) ≡ length ys
length_drop_one [] k h = absurd (omega arith)
length_drop_one (y ∷ ys) zero h = refl
length_drop_one (y ∷ ys) (suc k) h = ap suc (length_drop_one ys k (omega arith))

pub contains_drop_one : (ys : List Member) (k : ℕ) (y x : Member) → k < length ys → get_or ys k y ≡ y → y ≢ x → Contains ys x → Contains (drop_one ys k) x
contains_drop_one [] k y x h is ne c = absurd (omega (arith, h))
contains_drop_one (z ∷ ys) zero y x h is ne (zero, l, e) = absurd (ne (sym is ∙ e))
contains_drop_one (z ∷ ys) zero y x h is ne (suc j, l, e) = (j, omega (arith, l), e)
contains_drop_one (z ∷ ys) (suc k) y x h is ne (zero, l, e) = (0, omega arith, e)
contains_drop_one (z ∷ ys) (suc k) y x h is ne (suc j, l, e) = let r = contains_drop_one ys k y x (omega (arith, h)) is ne (j, omega (arith, l), e) in (suc r.0, (let s = r.1 in omega (arith, s)), r.2)

entries_above : (low high : ℕ) (xs : List Member) (z : Member) → EntriesWithin low high xs → Contains xs z → low ≤ z.span.first
entries_above low high [] z h (k, l, e) = absurd (omega (arith, l))
entries_above low high (x ∷ xs) z h (zero, l, e) = let a = h.0.0 in subst (λ m. low ≤ m.span.first) e a
entries_above low high (x ∷ xs) z h (suc k, l, e) = let r = entries_above (x.span.last + 1) high xs z (h.0.2, h.1.1) (k, omega (arith, l), e) in let a = h.0.0 in let b = h.0.1 in omega (arith, r, a, b)

pub ascending_fit : (low high : ℕ) (xs ys : List Member) → EntriesWithin low high xs → ((x : Member) → Contains xs x → Contains ys x) → length xs ≤ length ys
ascending_fit low high [] ys h all = omega arith
ascending_fit low high (x ∷ xs) ys h all =
    let c = all x (0, omega arith, refl) in
    let other : (z : Member) → Contains xs z → x ≢ z = (λ z in_rest same. let above = entries_above (x.span.last + 1) high xs z (h.0.2, h.1.1) in_rest in let b = h.0.1 in let e : z.span.first ≡ x.span.first = ap (λ m. m.span.first) (sym same) in omega (arith, above, b, e)) in
    let rest = ascending_fit (x.span.last + 1) high xs (drop_one ys c.0) (h.0.2, h.1.1) (λ z in_rest. contains_drop_one ys c.0 x z c.1 c.2 (other z in_rest) (all z (suc in_rest.0, (let l = in_rest.1 in omega (arith, l)), in_rest.2))) in
    let len = length_drop_one ys c.0 c.1 in omega (arith, rest, len)
