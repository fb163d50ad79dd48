-- How many words of a series are at or below an address, from the words that were loaded.
use Rattle.std.proofs.Common.{◌≡◌, ℕ, ◌+◌, ◌*◌, ◌-◌, ◌<◌, ◌≤◌, ◌⊎◌, inl, inr, ⊎_elim, refl, sym, subst, arith, nat_le, Bool, true, false, if◌then◌else◌, leb-true, leb-false}
use Rattle.word_rule.specs.declared.log.Terms.{Terms}
use Rattle.word_rule.specs.CallerData.{CallerData}
use Rattle.array_publish.specs.CopyLoads.{LoadsCopy, IsTold}
use Rattle.array_publish.specs.Search.{CountsBegun, series_word}
use Rattle.array_publish.specs.declared.search.Series.{Series}
use Rattle.array_publish.proofs.CopyWalks.{agreed_before}

-- ---- each word is looked at

pub none_counted : (t : Terms) (c : ℕ) (k : CallerData) (pc : ℕ) (s : Series) → CountsBegun t c k pc s 0 0
none_counted t c k pc s copy agrees up = (inl refl, inl refl)

pub counted_later : (t : Terms) (c : ℕ) (k k' : CallerData) (pc : ℕ) (s : Series) (upto n : ℕ) → LoadsCopy t c k k' → CountsBegun t c k pc s upto n → CountsBegun t c k' pc s upto n
counted_later t c k k' pc s upto n p h copy agrees up = h copy (agreed_before t c k k' copy p agrees) up

pub one_counted : (t : Terms) (c : ℕ) (k k' : CallerData) (pc : ℕ) (s : Series) (upto n value : ℕ) → LoadsCopy t c k k' → n ≤ upto → upto < s.length → CountsBegun t c k pc s upto n → IsTold t c k' (s.place + s.apart * upto) value → CountsBegun t c k' pc s (upto + 1) (n + (if nat_le value pc then 1 else 0))
one_counted t c k k' pc s upto n value p few inside was told copy agrees up = go (nat_le value pc) refl
  where
    before : ((n ≡ 0) ⊎ (series_word copy s (n - 1) ≤ pc)) × ((n ≡ upto) ⊎ (pc < series_word copy s n))
    before = counted_later t c k k' pc s upto n p was copy agrees up

    is : series_word copy s upto ≡ value
    is = told copy agrees

    go : (b : Bool) → nat_le value pc ≡ b
        → ((n + (if b then 1 else 0) ≡ 0) ⊎ (series_word copy s (n + (if b then 1 else 0) - 1) ≤ pc)) × ((n + (if b then 1 else 0) ≡ upto + 1) ⊎ (pc < series_word copy s (n + (if b then 1 else 0))))
    go true e =
        let low = leb-true value pc e in let same = is in
        let all : n ≡ upto = ⊎_elim (λ (z : n ≡ upto). z) (λ (z : pc < series_word copy s n). let u = up n upto few inside in absurd (omega (arith, u, same, low, z))) before.1 in
        let here : series_word copy s upto ≤ pc = omega (arith, same, low) in
        (inr (subst (λ i. series_word copy s i ≤ pc) (omega (arith, all)) here), inl (omega (arith, all)))
    go false e =
        let high = leb-false value pc e in let same = is in
        let none : n ≡ n + 0 = omega arith in
        let here : pc < series_word copy s upto = omega (arith, same, high) in (
          subst (λ i. (i ≡ 0) ⊎ (series_word copy s (i - 1) ≤ pc)) none before.0,
          inr (subst (λ i. pc < series_word copy s i) none (⊎_elim (λ (z : n ≡ upto). subst (λ i. pc < series_word copy s i) (sym z) here) (λ (z : pc < series_word copy s n). z) before.1)),
        )

-- a word that is looked at counts once at most
pub counted_at_most : (value pc number : ℕ) → (if nat_le value pc then number else 0) ≤ number
counted_at_most value pc number = go (nat_le value pc)
  where
    go : (b : Bool) → (if b then number else 0) ≤ number
    go true = omega arith
    go false = omega arith
