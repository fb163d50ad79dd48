-- The search of a held leaf: how many of its entries begin at or below an address.
use Rattle.std.proofs.Common.{◌≡◌, ℕ, zero, suc, ◌+◌, ◌*◌, ◌<◌, ◌≤◌, Bool, true, false, List, [], ◌∷◌, length, drop, min, Some, nat_le, if◌then◌else◌, refl, ap, sym, ◌∙◌, subst, arith, leb-true, leb-false}
use Rattle.std.proofs.lemmas.Bool.{le-ltb, lt-ltb}
use Rattle.std.specs.List.{slice_get}
use native.Mathlib.Decide.{ℕ_discrete}
use Rattle.reg_model.specs.declared.span.Member.{Member}
use Rattle.tree_shape.specs.NodeData.{NodeData, IsLeaf, entries_of, place_for}
use Rattle.std.proofs.lemmas.Option.{none-some, same_Some}
use Rattle.word_rule.specs.declared.log.Log.{Log}
use Rattle.word_rule.specs.Spelling.{node_word}
use Rattle.node_store.specs.Holding.{SpellsHeld}
use Rattle.node_store.specs.Outlines.{IsCountOf}
use Rattle.node_store.proofs.LeafWords.{Leaf, entries_few, entry_stands}

-- so many entries were looked at: all that were begin at or below the address while the flag is 1
pub record Looked (pc : ℕ) (xs : List Member) (turns ahead begun : ℕ) : Type 0 where
  pub flag : ahead ≤ 1
  pub most : begun ≤ turns
  pub all : ahead ≡ 1 → begun ≡ turns
  pub left_so : ahead ≡ 1 → turns ≤ length xs → place_for pc xs ≡ place_for pc (drop turns xs) + turns
  pub shut : ahead ≡ 0 → begun ≤ length xs → place_for pc xs ≡ begun
  pub full : length xs ≤ begun → place_for pc xs ≡ length xs

pub looked_none : (pc : ℕ) (xs : List Member) → Looked pc xs 0 1 0
looked_none pc xs = record {
  flag = omega arith;
  most = omega arith;
  all = λ _. refl;
  left_so = λ _ _. omega arith;
  shut = λ e. absurd (omega (arith, e));
  full = λ none. empty xs none;
}
  where
    empty : (ys : List Member) → length ys ≤ 0 → place_for pc ys ≡ length ys
    empty [] none = refl
    empty (y ∷ ys) none = absurd (omega (arith, none))

-- the entry of a turn
at_turn : (turn : ℕ) (xs : List Member) → turn < length xs → (m : Member) × ((slice_get xs turn ≡ Some m) × (drop turn xs ≡ m ∷ drop (suc turn) xs))
at_turn turn [] less = absurd (omega (arith, less))
at_turn zero (x ∷ xs) less = (x, (refl, refl))
at_turn (suc turn) (x ∷ xs) less = at_turn turn xs (omega (arith, less))

none_left : (k : ℕ) (xs : List Member) → length xs ≤ k → drop k xs ≡ []
none_left zero [] few = refl
none_left zero (x ∷ xs) few = absurd (omega (arith, few))
none_left (suc k) [] few = refl
none_left (suc k) (x ∷ xs) few = none_left k xs (omega (arith, few))

begins_above : (pc : ℕ) (m : Member) (xs : List Member) → false ≡ nat_le m.span.first pc → place_for pc (m ∷ xs) ≡ 0
begins_above pc m xs above = ap (λ b. if b then 0 else (place_for pc xs + 1)) (lt-ltb pc m.span.first (leb-false m.span.first pc (sym above)))

begins_below : (pc : ℕ) (m : Member) (xs : List Member) → true ≡ nat_le m.span.first pc → place_for pc (m ∷ xs) ≡ place_for pc xs + 1
begins_below pc m xs below = ap (λ b. if b then 0 else (place_for pc xs + 1)) (le-ltb pc m.span.first (leb-true m.span.first pc (sym below)))

-- one more was looked at
pub looked_on : (pc : ℕ) (xs : List Member) (turns ahead begun : ℕ) → Looked pc xs turns ahead begun → (low : Bool) → ((m : Member) → slice_get xs turns ≡ Some m → low ≡ nat_le m.span.first pc) → (next : ℕ) → next ≡ (if low then ahead else 0) → Looked pc xs (turns + 1) next (begun + next)
looked_on pc xs turns ahead begun w false tells next is =
    let most = w.most in record {
      flag = omega (arith, is);
      most = omega (arith, most, is);
      all = λ e. absurd (omega (arith, e, is));
      left_so = λ e. absurd (omega (arith, e, is));
      shut = λ _ few. shut_now (ℕ_discrete ahead 0) (omega (arith, few, is));
      full = λ few. let f = w.full (omega (arith, few, is)) in f;
    }
  where
    at_this : ahead ≡ 1 → begun < length xs → place_for pc xs ≡ begun
    at_this e less =
        let here = w.all e in
        let m = at_turn turns xs (omega (arith, less, here)) in
        let stops : place_for pc (drop turns xs) ≡ 0 = ap (place_for pc) m.1.1 ∙ begins_above pc m.0 (drop (suc turns) xs) (tells m.0 m.1.0) in
        let so_far = w.left_so e (omega (arith, less, here)) in
        omega (arith, so_far, stops, here)

    in_list : ahead ≡ 1 → begun ≤ length xs → Dec (begun ≡ length xs) → place_for pc xs ≡ begun
    in_list e few (yes same) = let all = w.full (omega (arith, same)) in omega (arith, all, same)
    in_list e few (no ne) = at_this e (omega (arith, few, ne))

    shut_now : Dec (ahead ≡ 0) → begun ≤ length xs → place_for pc xs ≡ begun + next
    shut_now (yes e) few = let s = w.shut e few in omega (arith, s, is)
    shut_now (no ne) few = let flag = w.flag in let s = in_list (omega (arith, ne, flag)) few (ℕ_discrete begun (length xs)) in omega (arith, s, is)
looked_on pc xs turns ahead begun w true tells next is =
    let most = w.most in
    let flag = w.flag in record {
      flag = omega (arith, is, flag);
      most = omega (arith, most, is, flag);
      all = λ e. let a = w.all (omega (arith, e, is)) in omega (arith, a, e);
      left_so = λ e few. opened (omega (arith, e, is)) few;
      shut = λ e few. let s = w.shut (omega (arith, e, is)) (omega (arith, few, e)) in omega (arith, s, e);
      full = λ few. full_now (ℕ_discrete next 0) few;
    }
  where
    opened : ahead ≡ 1 → turns + 1 ≤ length xs → place_for pc xs ≡ place_for pc (drop (turns + 1) xs) + (turns + 1)
    opened e few =
        let m = at_turn turns xs (omega (arith, few)) in
        let goes : place_for pc (drop turns xs) ≡ place_for pc (drop (suc turns) xs) + 1 = ap (place_for pc) m.1.1 ∙ begins_below pc m.0 (drop (suc turns) xs) (tells m.0 m.1.0) in
        let so_far = w.left_so e (omega (arith, few)) in
        let next_is : suc turns ≡ turns + 1 = omega arith in
        let there = ap (λ k. place_for pc (drop k xs)) next_is in
        omega (arith, so_far, goes, there)

    at_end : ahead ≡ 1 → begun + 1 ≡ length xs → place_for pc xs ≡ length xs
    at_end e last =
        let here = w.all e in
        let none = ap (place_for pc) (none_left (turns + 1) xs (omega (arith, last, here))) in
        let so_far = opened e (omega (arith, last, here)) in
        omega (arith, so_far, none, last, here)

    full_here : ahead ≡ 1 → length xs ≤ begun + 1 → Dec (begun + 1 ≡ length xs) → place_for pc xs ≡ length xs
    full_here e few (yes last) = at_end e last
    full_here e few (no ne) = w.full (omega (arith, few, ne))

    full_now : Dec (next ≡ 0) → length xs ≤ begun + next → place_for pc xs ≡ length xs
    full_now (yes e) few = w.full (omega (arith, few, e))
    full_now (no ne) few = let flag = w.flag in full_here (omega (arith, ne, is, flag)) (omega (arith, few, is, flag)) (ℕ_discrete (begun + 1) (length xs))

-- all were looked at
pub looked_all : (pc : ℕ) (xs : List Member) (ahead begun count : ℕ) → Looked pc xs 10 ahead begun → length xs ≤ 10 → count ≡ length xs → min begun count ≡ place_for pc xs
looked_all pc xs ahead begun count w few is = go (nat_le (length xs) begun) refl
  where
    shut_or_open : begun < length xs → Dec (ahead ≡ 0) → place_for pc xs ≡ begun
    shut_or_open less (yes e) = w.shut e (omega (arith, less))
    shut_or_open less (no ne) = let flag = w.flag in let all = w.all (omega (arith, ne, flag)) in absurd (omega (arith, all, less, few))

    go : (b : Bool) → nat_le (length xs) begun ≡ b → min begun count ≡ place_for pc xs
    go true e = let more = leb-true (length xs) begun e in let full = w.full more in omega (arith, more, full, is)
    go false e = let less = leb-false (length xs) begun e in let shut = shut_or_open less (ℕ_discrete ahead 0) in omega (arith, less, shut, is)

-- the count of a leaf that is held
pub few_entries : (n count : ℕ) (s : NodeData) (v : Log) → SpellsHeld n s v → IsLeaf s → IsCountOf count s.body → (count ≡ length (entries_of s)) × (count ≤ 10)
few_entries n count s v held leaf is =
    let few = entries_few n s v held leaf in
    let same : count ≡ length (entries_of s) = subst (IsCountOf count) leaf is in
    (same, omega (arith, same, few))

-- where the entry of a turn begins
pub begins_at : (words : List ℕ) (s : NodeData) → Leaf words s → (turn : ℕ) (m : Member) → turn < length (entries_of s) → slice_get (entries_of s) turn ≡ Some m → m.span.first ≡ node_word words (6 + 3 * turn)
begins_at words s x turn m less is =
    let count = x.count in
    let there = entry_stands words 6 (node_word words 5) (entries_of s) x.entries turn (omega (arith, less, count)) (6 + 3 * turn) refl in
    ap (λ (z : Member). z.span.first) (same_Some _ _ (sym is ∙ there.0))

-- a place at which an entry stands is inside
pub inside_list : (xs : List Member) (turn : ℕ) (m : Member) → slice_get xs turn ≡ Some m → turn < length xs
inside_list [] turn m is = absurd (none-some m is)
inside_list (x ∷ xs) zero m is = omega arith
inside_list (x ∷ xs) (suc turn) m is = let rest = inside_list xs turn m is in omega (arith, rest)
