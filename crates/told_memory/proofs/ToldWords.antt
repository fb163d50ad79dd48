-- The words of memory that is lent, and of words told one by one.
use Rattle.std.proofs.Common.{rules, ◌≡◌, ◌≢◌, ℕ, ◌<◌, ◌≤◌, ◌-◌, ◌^◌, List, [], ◌∷◌, ◌++◌, length, map, Bool, true, false, Some, None, cond, refl, ap, subst, arith}
use Rattle.std.specs.Option.{option_map}
use Rattle.std.proofs.lemmas.List.{append-nil}
use Rattle.byteorder.specs.Endian.{little_bytes, little_number}
use Rattle.byteorder.specs.Numbers.{length-bytes_low_first, little_number-reads_back}
use Rattle.told_memory.specs.Telling.{told_region}
use Rattle.frame_expr.specs.Regions.{RegionData, holds_bytes, region_at, tail_in, word_at}
use Rattle.told_memory.specs.declared.told.ToldWord.{ToldWord}

abbrev eight : ℕ → RegionData → ℕ
eight a r = little_number 8 (tail_in a r)

pub word_in_first : (a : ℕ) (r : RegionData) (rs : List RegionData) (n : ℕ) → word_at a (r ∷ []) ≡ Some n → word_at a (r ∷ rs) ≡ Some n
unfolding word_at region_at
word_in_first a r rs n is = go (holds_bytes 8 a r) is
  where
    go : (b : Bool) → option_map (eight a) (cond b (Some r) None) ≡ Some n → option_map (eight a) (cond b (Some r) (region_at 8 a rs)) ≡ Some n
    go true held = held
    go false held = absurd (search rules)

pub word_after_first : (a : ℕ) (r : RegionData) (rs : List RegionData) → word_at a (r ∷ []) ≡ None → word_at a (r ∷ rs) ≡ word_at a rs
unfolding word_at region_at
word_after_first a r rs is = go (holds_bytes 8 a r) is
  where
    go : (b : Bool) → option_map (eight a) (cond b (Some r) None) ≡ None → option_map (eight a) (cond b (Some r) (region_at 8 a rs)) ≡ option_map (eight a) (region_at 8 a rs)
    go true held = absurd (search rules)
    go false held = refl

-- a told word stands at its own address
reads_back : (w : ToldWord) → w.word < 2 ^ 64 → eight w.address (told_region w) ≡ w.word
reads_back w fits =
    let none : w.address - w.address ≡ 0 = omega arith in
    let whole : little_number 8 (little_bytes 8 w.word ++ []) ≡ w.word = little_number-reads_back 8 w.word [] fits in
    rw none (subst (λ (bytes : List ℕ). little_number 8 bytes ≡ w.word) (append-nil (little_bytes 8 w.word)) whole)

held_there : (a : ℕ) (w : ToldWord) → w.address ≡ a → holds_bytes 8 a (told_region w) ≡ true
held_there a w is = let eight_bytes = length-bytes_low_first 8 w.word in grind (arith, is, eight_bytes)

-- and at no other
unheld_elsewhere : (a : ℕ) (w : ToldWord) → w.address ≢ a → holds_bytes 8 a (told_region w) ≡ false
unheld_elsewhere a w other = let eight_bytes = length-bytes_low_first 8 w.word in grind (arith, other, eight_bytes)

pub told_there : (a : ℕ) (w : ToldWord) (ws : List ToldWord) → w.word < 2 ^ 64 → w.address ≡ a → word_at a (map told_region (w ∷ ws)) ≡ Some w.word
unfolding word_at region_at
told_there a w ws fits is =
    rw (held_there a w is) (ap Some (subst (λ (x : ℕ). eight x (told_region w) ≡ w.word) is (reads_back w fits)))

pub told_elsewhere : (a : ℕ) (w : ToldWord) (ws : List ToldWord) → w.address ≢ a → word_at a (map told_region (w ∷ ws)) ≡ word_at a (map told_region ws)
unfolding word_at region_at
told_elsewhere a w ws other = rw (unheld_elsewhere a w other) refl

pub none_told : (a : ℕ) (ws : List ToldWord) → length ws ≤ 0 → word_at a (map told_region ws) ≡ None
unfolding word_at region_at
none_told a [] none = refl
none_told a (w ∷ ws) none = absurd (omega (arith, none))
