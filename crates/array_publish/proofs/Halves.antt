-- Halves of members that ascend.
use Rattle.std.proofs.Common.{◌≡◌, ℕ, ◌+◌, ◌<◌, ◌≤◌, List, [], ◌∷◌, ◌++◌, length, get_or, sym, refl, ap, ◌∙◌, subst, arith, Option, Some, None}
use Rattle.std.proofs.lemmas.List.Folds.{find-append}
use Rattle.std.specs.Option.{option_or}
use Rattle.reg_model.specs.SpanData.{contains}
use Rattle.reg_model.specs.Query.{member_at}
use Rattle.reg_model.specs.declared.span.Member.{Member}
use Rattle.segment_array.specs.Ascending.{AscendFrom}
use Rattle.segment_array.proofs.Places.{front_ascends, none_above, unheld_below}

-- the rest behind a part in front, and where that begins
back_ascends : (low : ℕ) (xs : List Member) (y : Member) (ys : List Member) → AscendFrom low (xs ++ y ∷ ys) → (high : ℕ) × (AscendFrom high (y ∷ ys) × (low ≤ high))
back_ascends low [] y ys h = (low, (h, omega arith))
back_ascends low (x ∷ xs) y ys h = let r = back_ascends (x.span.last + 1) xs y ys h.2 in let a = h.0 in let b = h.1 in let l = r.1.1 in (r.0, (r.1.0, omega (arith, a, b, l)))

-- the members in front of one end below it
none_in_front : (pc low : ℕ) (xs : List Member) (y : Member) (ys : List Member) → AscendFrom low (xs ++ y ∷ ys) → y.span.first ≤ pc → member_at pc xs ≡ None
none_in_front pc low [] y ys h le = refl
none_in_front pc low (x ∷ xs) y ys h le =
    let r = back_ascends (x.span.last + 1) xs y ys h.2 in let a = r.1.1 in let b = r.1.0.0 in
    rw (unheld_below x pc (omega (arith, a, b, le))) (none_in_front pc (x.span.last + 1) xs y ys h.2 le)

pub in_upper_half : (pc low : ℕ) (left front back : List Member) (y : Member) → left ≡ front ++ back → 0 < length back → y ≡ get_or back 0 y → AscendFrom low left → y.span.first ≤ pc → (high : ℕ) × AscendFrom high back × (member_at pc back ≡ member_at pc left)
in_upper_half pc low left front [] y parts some is h le = absurd (omega (arith, some))
in_upper_half pc low left front (z ∷ zs) y parts some is h le =
    let here : AscendFrom low (front ++ z ∷ zs) = subst (AscendFrom low) parts h in
    let there = back_ascends low front z zs here in
    let none = none_in_front pc low front z zs here (subst (λ (m : Member). m.span.first ≤ pc) is le) in
    (there.0, there.1.0, sym (ap (member_at pc) parts ∙ (find-append (λ (m : Member). contains m.span pc) front (z ∷ zs) ∙ ap (λ o. option_or o (member_at pc (z ∷ zs))) none)))

or_none : {A : Type 0} (o p : Option A) → p ≡ None → option_or o p ≡ o
or_none None p e = e
or_none (Some a) p e = refl

pub in_lower_half : (pc low : ℕ) (left front back : List Member) (y : Member) → left ≡ front ++ back → 0 < length back → y ≡ get_or back 0 y → AscendFrom low left → pc < y.span.first → (high : ℕ) × AscendFrom high front × (member_at pc front ≡ member_at pc left)
in_lower_half pc low left front [] y parts some is h less = absurd (omega (arith, some))
in_lower_half pc low left front (z ∷ zs) y parts some is h less =
    let here : AscendFrom low (front ++ z ∷ zs) = subst (AscendFrom low) parts h in
    let there = back_ascends low front z zs here in
    let from : AscendFrom z.span.first (z ∷ zs) = (omega arith, there.1.0.1, there.1.0.2) in
    let none = none_above pc z.span.first (z ∷ zs) from (subst (λ (m : Member). pc < m.span.first) is less) in
    (low, front_ascends low front (z ∷ zs) here, sym (ap (member_at pc) parts ∙ (find-append (λ (m : Member). contains m.span pc) front (z ∷ zs) ∙ or_none (member_at pc front) (member_at pc (z ∷ zs)) none)))
