-- What one word of the table becomes, of all words as the invariant reads them.
use Rattle.std.proofs.Common.{◌≡◌, ◌≢◌, ℕ, zero, suc, ◌+◌, ◌-◌, ◌*◌, ◌<◌, ◌≤◌, List, [], ◌∷◌, length, get_or, set, take, drop, sym, refl, ap, ◌∙◌, subst, arith, Bool, true, false, nat_lt, if◌then◌else◌, get_or-set_other, get_or-set_same, eq-eqb, ne_eqb, ◌==◌, lt_of_not-le}
use native.Mathlib.Decide.{ℕ_discrete, dec_le}
use borrow.Author.Tests.{lt-ltb, le-ltb}
use Rattle.word_rule.specs.declared.log.Terms.{Terms}
use Rattle.word_rule.specs.Places.{copy_place, copy_words, word_count}
use Rattle.word_rule.specs.SharedWords.{SharedWords, memory_of, part, copy_of, updated}

-- a list with an item put where it stands already
pub set_same : (words : List ℕ) (j : ℕ) → set words j (get_or words j 0) ≡ words
set_same [] j = refl
set_same (x ∷ words) zero = refl
set_same (x ∷ words) (suc j) = ap (λ ws. x ∷ ws) (set_same words j)

drop_below : (words : List ℕ) (j x k : ℕ) → j < k → drop k (set words j x) ≡ drop k words
drop_below [] j x k h = refl
drop_below (y ∷ words) j x zero h = absurd (omega arith)
drop_below (y ∷ words) zero x (suc k) h = refl
drop_below (y ∷ words) (suc j) x (suc k) h = drop_below words j x k (omega arith)

take_above : (words : List ℕ) (j x m : ℕ) → m ≤ j → take m (set words j x) ≡ take m words
take_above [] j x m h = refl
take_above (y ∷ words) j x zero h = refl
take_above (y ∷ words) zero x (suc m) h = absurd (omega arith)
take_above (y ∷ words) (suc j) x (suc m) h = ap (λ ws. y ∷ ws) (take_above words j x m (omega arith))

take_inside : (words : List ℕ) (j x m : ℕ) → j < m → take m (set words j x) ≡ set (take m words) j x
take_inside [] j x zero h = absurd (omega arith)
take_inside [] j x (suc m) h = refl
take_inside (y ∷ words) j x zero h = absurd (omega arith)
take_inside (y ∷ words) zero x (suc m) h = refl
take_inside (y ∷ words) (suc j) x (suc m) h = ap (λ ws. y ∷ ws) (take_inside words j x m (omega arith))

drop_from : (words : List ℕ) (k j x : ℕ) → drop k (set words (k + j) x) ≡ set (drop k words) j x
drop_from words zero j x = let e : zero + j ≡ j = omega arith in ap (λ i. set words i x) e
drop_from [] (suc k) j x = refl
drop_from (y ∷ words) (suc k) j x = (let e : suc k + j ≡ suc (k + j) = omega arith in ap (λ i. drop (suc k) (set (y ∷ words) i x)) e) ∙ drop_from words k j x

-- a part before the word, after it, and around it
part_after : (words : List ℕ) (size k j x : ℕ) → j < k → part size k (set words j x) ≡ part size k words
part_after words size k j x h = ap (take size) (drop_below words j x k h)

pub part_before : (words : List ℕ) (size k j x : ℕ) → k + size ≤ j → part size k (set words j x) ≡ part size k words
part_before words size k j x h =
    let e : k + (j - k) ≡ j = omega (arith, h) in
    ap (λ i. part size k (set words i x)) (sym e) ∙ (ap (take size) (drop_from words k (j - k) x) ∙ take_above (drop k words) (j - k) x size (omega (arith, h)))

pub part_inside : (words : List ℕ) (size k j x : ℕ) → j < size → part size k (set words (k + j) x) ≡ set (part size k words) j x
part_inside words size k j x h = ap (take size) (drop_from words k j x) ∙ take_inside (drop k words) j x size h

take_nil : (size : ℕ) → ◌≡◌ {A = List ℕ} (take size []) []
take_nil zero = refl
take_nil (suc size) = refl

get_part : (words : List ℕ) (size k j : ℕ) → j < size → get_or (part size k words) j 0 ≡ get_or words (k + j) 0
get_part words size zero j h = let e : j ≡ zero + j = omega arith in get_taken words size j h ∙ ap (λ i. get_or words i 0) e
  where
    get_taken : (ws : List ℕ) (m i : ℕ) → i < m → get_or (take m ws) i 0 ≡ get_or ws i 0
    get_taken [] zero i l = refl
    get_taken [] (suc m) i l = refl
    get_taken (y ∷ ws) zero i l = absurd (omega arith)
    get_taken (y ∷ ws) (suc m) zero l = refl
    get_taken (y ∷ ws) (suc m) (suc i) l = get_taken ws m i (omega arith)
get_part [] size (suc k) j h = ap (λ ws. get_or ws j 0) (take_nil size)
get_part (y ∷ words) size (suc k) j h = get_part words size k j h ∙ (let e : suc (k + j) ≡ suc k + j = omega arith in ap (λ i. get_or (y ∷ words) i 0) e)

length_taken : (ws : List ℕ) (m : ℕ) → m ≤ length ws → length (take m ws) ≡ m
length_taken ws zero h = refl
length_taken [] (suc m) h = absurd (omega arith)
length_taken (y ∷ ws) (suc m) h = ap suc (length_taken ws m (omega arith))

length_part : (words : List ℕ) (size k : ℕ) → k + size ≤ length words → length (part size k words) ≡ size
length_part words size zero h = length_taken words size (omega arith)
length_part [] size (suc k) h = absurd (omega arith)
length_part (y ∷ words) size (suc k) h = length_part words size k (omega arith)

pub copy_length : (t : Terms) (words : List ℕ) → length words ≡ word_count t → (c : ℕ) → c < 2 → length (copy_of t words c) ≡ copy_words t
copy_length t words wide zero two = length_part words (copy_words t) (copy_place t 0) (omega (arith, wide))
copy_length t words wide (suc zero) two = length_part words (copy_words t) (copy_place t 1) (omega (arith, wide))
copy_length t words wide (suc (suc c)) two = absurd (omega (arith, two))

pub content_length : (t : Terms) (words : List ℕ) → length words ≡ word_count t → (n : ℕ) → n < t.nodes → length ((memory_of t words).nodes.contents n) ≡ 35
content_length t words wide n less = rw (lt-ltb n t.nodes less) (length_part words 35 (4 + 36 * n + 1) (omega (arith, wide, less)))

-- what is said of a test is said of both its answers
by_below : (n m : ℕ) (P : Bool → Type 0) → (n < m → P true) → (m ≤ n → P false) → P (nat_lt n m)
by_below n m P less more = go (dec_le m n)
  where
    go : Dec (m ≤ n) → P (nat_lt n m)
    go (yes h) = subst P (sym (le-ltb n m h)) (more h)
    go (no h) = subst P (sym (lt-ltb n m (lt_of_not-le h))) (less (lt_of_not-le h))

pub by_same : (n m : ℕ) (P : Bool → Type 0) → (n ≡ m → P true) → (n ≢ m → P false) → P (n == m)
by_same n m P same other = go (ℕ_discrete n m)
  where
    go : Dec (n ≡ m) → P (n == m)
    go (yes e) = subst P (sym (eq-eqb n m e)) (same e)
    go (no ne) = subst P (sym (ne_eqb n m ne)) (other ne)

module _ (t : Terms) (words : List ℕ) (wide : length words ≡ word_count t) (x : ℕ) where
  abbrev m : SharedWords
  m = memory_of t words

  -- what a word at this place leaves of the nodes and of the copies
  versions_stay : (j : ℕ) → ((n : ℕ) → n < t.nodes → 4 + 36 * n ≢ j) → (n : ℕ) → (memory_of t (set words j x)).nodes.versions n ≡ m.nodes.versions n
  versions_stay j far n = by_below n t.nodes (λ b. (if b then get_or (set words j x) (4 + 36 * n) 0 else 0) ≡ (if b then get_or words (4 + 36 * n) 0 else 0))
      (λ less. get_or-set_other words j (4 + 36 * n) x 0 (far n less)) (λ more. refl)

  contents_stay : (j : ℕ) → ((n : ℕ) → n < t.nodes → part 35 (4 + 36 * n + 1) (set words j x) ≡ part 35 (4 + 36 * n + 1) words) → (n : ℕ) → (memory_of t (set words j x)).nodes.contents n ≡ m.nodes.contents n
  contents_stay j same n = by_below n t.nodes (λ b. ◌≡◌ {A = List ℕ} (if b then part 35 (4 + 36 * n + 1) (set words j x) else []) (if b then part 35 (4 + 36 * n + 1) words else []))
      (λ less. same n less) (λ more. refl)

  copies_stay : (j : ℕ) → ((c : ℕ) → c < 2 → part (copy_words t) (copy_place t c) (set words j x) ≡ part (copy_words t) (copy_place t c) words) → (c : ℕ) → copy_of t (set words j x) c ≡ copy_of t words c
  copies_stay j same c = by_below c 2 (λ b. ◌≡◌ {A = List ℕ} (if b then part (copy_words t) (copy_place t c) (set words j x) else []) (if b then part (copy_words t) (copy_place t c) words else []))
      (λ less. same c less) (λ more. refl)

  -- words below the copies leave them as they are
  low_copies : (j : ℕ) → j < 4 + 36 * t.nodes → (c : ℕ) → copy_of t (set words j x) c ≡ copy_of t words c
  low_copies j low = copies_stay j (λ c less. part_after words (copy_words t) (copy_place t c) j x (omega (arith, low)))

  low_contents : (j : ℕ) → j < 4 → (n : ℕ) → (memory_of t (set words j x)).nodes.contents n ≡ m.nodes.contents n
  low_contents j low = contents_stay j (λ n less. part_after words 35 (4 + 36 * n + 1) j x (omega (arith, low)))

  low_versions : (j : ℕ) → j < 4 → (n : ℕ) → (memory_of t (set words j x)).nodes.versions n ≡ m.nodes.versions n
  low_versions j low = versions_stay j (λ n less e. omega (arith, e, low))

  here : (j : ℕ) → j < word_count t → get_or (set words j x) j 0 ≡ x
  here j room = get_or-set_same words j x 0 (omega (arith, wide, room))

  there : (j k : ℕ) → k ≢ j → get_or (set words j x) k 0 ≡ get_or words k 0
  there j k far = get_or-set_other words j k x 0 far

  pub set_clock : memory_of t (set words 0 x) ≡ record m { clock = x }
  set_clock i = record {
    clock = here 0 (omega arith) i;
    loader = there 0 2 (λ e. omega (arith, e)) i;
    nodes = record { head = there 0 1 (λ e. omega (arith, e)) i; versions = λ n. low_versions 0 (omega arith) n i; contents = λ n. low_contents 0 (omega arith) n i };
    copies = λ c. low_copies 0 (omega arith) c i;
  }

  pub set_head : memory_of t (set words 1 x) ≡ record m { nodes = record m.nodes { head = x } }
  set_head i = record {
    clock = there 1 0 (λ e. omega (arith, e)) i;
    loader = there 1 2 (λ e. omega (arith, e)) i;
    nodes = record { head = here 1 (omega arith) i; versions = λ n. low_versions 1 (omega arith) n i; contents = λ n. low_contents 1 (omega arith) n i };
    copies = λ c. low_copies 1 (omega arith) c i;
  }

  pub set_loader : memory_of t (set words 2 x) ≡ record m { loader = x }
  set_loader i = record {
    clock = there 2 0 (λ e. omega (arith, e)) i;
    loader = here 2 (omega arith) i;
    nodes = record { head = there 2 1 (λ e. omega (arith, e)) i; versions = λ n. low_versions 2 (omega arith) n i; contents = λ n. low_contents 2 (omega arith) n i };
    copies = λ c. low_copies 2 (omega arith) c i;
  }

  -- the version word of a node
  pub set_version : (a : ℕ) → a < t.nodes → memory_of t (set words (4 + 36 * a) x) ≡ record m { nodes = record m.nodes { versions = updated m.nodes.versions a x } }
  set_version a within i = record {
    clock = there (4 + 36 * a) 0 (λ e. omega (arith, e)) i;
    loader = there (4 + 36 * a) 2 (λ e. omega (arith, e)) i;
    nodes = record { head = there (4 + 36 * a) 1 (λ e. omega (arith, e)) i; versions = λ n. version_at n i; contents = λ n. contents_stay (4 + 36 * a) content_at n i };
    copies = λ c. low_copies (4 + 36 * a) (omega (arith, within)) c i;
  }
    where
      content_at : (n : ℕ) → n < t.nodes → part 35 (4 + 36 * n + 1) (set words (4 + 36 * a) x) ≡ part 35 (4 + 36 * n + 1) words
      content_at n less = go (dec_le a n)
        where
          go : Dec (a ≤ n) → part 35 (4 + 36 * n + 1) (set words (4 + 36 * a) x) ≡ part 35 (4 + 36 * n + 1) words
          go (yes h) = part_after words 35 (4 + 36 * n + 1) (4 + 36 * a) x (omega (arith, h))
          go (no h) = let l = lt_of_not-le h in part_before words 35 (4 + 36 * n + 1) (4 + 36 * a) x (omega (arith, l))

      version_at : (n : ℕ) → (memory_of t (set words (4 + 36 * a) x)).nodes.versions n ≡ updated m.nodes.versions a x n
      version_at n = by_same n a (λ b. (memory_of t (set words (4 + 36 * a) x)).nodes.versions n ≡ (if b then x else m.nodes.versions n))
          (λ e. by_below n t.nodes (λ b. (if b then get_or (set words (4 + 36 * a) x) (4 + 36 * n) 0 else 0) ≡ x)
          (λ less. (let z : 4 + 36 * n ≡ 4 + 36 * a = omega (arith, e) in ap (λ k. get_or (set words (4 + 36 * a) x) k 0) z) ∙ here (4 + 36 * a) (omega (arith, within)))
          (λ more. absurd (omega (arith, more, e, within))))
          (λ far. by_below n t.nodes (λ b. (if b then get_or (set words (4 + 36 * a) x) (4 + 36 * n) 0 else 0) ≡ (if b then get_or words (4 + 36 * n) 0 else 0))
          (λ less. there (4 + 36 * a) (4 + 36 * n) (λ e. far (omega (arith, e)))) (λ more. refl))

  -- a word of a node after its version word
  pub set_content : (a at : ℕ) → a < t.nodes → 1 ≤ at → at ≤ 35 → memory_of t (set words (4 + 36 * a + at) x) ≡ record m { nodes = record m.nodes { contents = updated m.nodes.contents a (set (m.nodes.contents a) (at - 1) x) } }
  set_content a at within low high i = record {
    clock = there (4 + 36 * a + at) 0 (λ e. omega (arith, e)) i;
    loader = there (4 + 36 * a + at) 2 (λ e. omega (arith, e)) i;
    nodes = record {
      head = there (4 + 36 * a + at) 1 (λ e. omega (arith, e)) i;
      versions = λ n. versions_stay (4 + 36 * a + at) (λ b less e. omega (arith, e, low, high)) n i;
      contents = λ n. content_at n i;
    };
    copies = λ c. low_copies (4 + 36 * a + at) (omega (arith, within, high)) c i;
  }
    where
      is_in : (y z : List ℕ) → ◌≡◌ {A = List ℕ} (if nat_lt a t.nodes then y else z) y
      is_in y z = rw (lt-ltb a t.nodes within) refl

      elsewhere : (n : ℕ) → n ≢ a → part 35 (4 + 36 * n + 1) (set words (4 + 36 * a + at) x) ≡ part 35 (4 + 36 * n + 1) words
      elsewhere n ne = go (dec_le a n)
        where
          go : Dec (a ≤ n) → part 35 (4 + 36 * n + 1) (set words (4 + 36 * a + at) x) ≡ part 35 (4 + 36 * n + 1) words
          go (yes h) = part_after words 35 (4 + 36 * n + 1) (4 + 36 * a + at) x (omega (arith, h, ne, high))
          go (no h) = let l = lt_of_not-le h in part_before words 35 (4 + 36 * n + 1) (4 + 36 * a + at) x (omega (arith, l, low))

      content_at : (n : ℕ) → (memory_of t (set words (4 + 36 * a + at) x)).nodes.contents n ≡ updated m.nodes.contents a (set (m.nodes.contents a) (at - 1) x) n
      content_at n = by_same n a (λ b. (memory_of t (set words (4 + 36 * a + at) x)).nodes.contents n ≡ (if b then set (m.nodes.contents a) (at - 1) x else m.nodes.contents n))
          (λ e. ap (memory_of t (set words (4 + 36 * a + at) x)).nodes.contents e ∙ (is_in (part 35 (4 + 36 * a + 1) (set words (4 + 36 * a + at) x)) []
          ∙ ((let z : 4 + 36 * a + at ≡ 4 + 36 * a + 1 + (at - 1) = omega (arith, low) in ap (λ k. part 35 (4 + 36 * a + 1) (set words k x)) z)
          ∙ (part_inside words 35 (4 + 36 * a + 1) (at - 1) x (omega (arith, low, high)) ∙ ap (λ ws. set ws (at - 1) x) (sym (is_in (part 35 (4 + 36 * a + 1) words) []))))))
          (λ ne. by_below n t.nodes (λ b. ◌≡◌ {A = List ℕ} (if b then part 35 (4 + 36 * n + 1) (set words (4 + 36 * a + at) x) else []) (if b then part 35 (4 + 36 * n + 1) words else []))
          (λ less. elsewhere n ne) (λ more. refl))

  -- a word of copy 0 or 1
  pub set_copy : (c k : ℕ) → c < 2 → k < copy_words t → memory_of t (set words (copy_place t c + k) x) ≡ record m { copies = updated m.copies c (set (m.copies c) k x) }
  set_copy c k two inside i = record {
    clock = there (copy_place t c + k) 0 (λ e. omega (arith, e)) i;
    loader = there (copy_place t c + k) 2 (λ e. omega (arith, e)) i;
    nodes = record {
      head = there (copy_place t c + k) 1 (λ e. omega (arith, e)) i;
      versions = λ n. versions_stay (copy_place t c + k) (λ a less e. omega (arith, less, e)) n i;
      contents = λ n. contents_stay (copy_place t c + k) (λ a less. part_before words 35 (4 + 36 * a + 1) (copy_place t c + k) x (omega (arith, less))) n i;
    };
    copies = λ d. copy_at d i;
  }
    where
      far : (d e : ℕ) → d < 2 → e < 2 → d ≢ e → part (copy_words t) (copy_place t d) (set words (copy_place t e + k) x) ≡ part (copy_words t) (copy_place t d) words
      far zero zero a b ne = absurd (ne refl)
      far zero (suc zero) a b ne = part_before words (copy_words t) (copy_place t 0) (copy_place t 1 + k) x (omega (arith, inside))
      far (suc zero) zero a b ne = part_after words (copy_words t) (copy_place t 1) (copy_place t 0 + k) x (omega (arith, inside))
      far (suc zero) (suc zero) a b ne = absurd (ne refl)
      far (suc (suc d)) e a b ne = absurd (omega (arith, a))
      far zero (suc (suc e)) a b ne = absurd (omega (arith, b))
      far (suc zero) (suc (suc e)) a b ne = absurd (omega (arith, b))

      is_two : {A : Type 0} (yes_case no_case : A) → (if nat_lt c 2 then yes_case else no_case) ≡ yes_case
      is_two y n = rw (lt-ltb c 2 two) refl

      copy_at : (d : ℕ) → copy_of t (set words (copy_place t c + k) x) d ≡ updated m.copies c (set (m.copies c) k x) d
      copy_at d = by_same d c (λ b. copy_of t (set words (copy_place t c + k) x) d ≡ (if b then set (m.copies c) k x else m.copies d))
          (λ e. ap (copy_of t (set words (copy_place t c + k) x)) e ∙ (is_two (part (copy_words t) (copy_place t c) (set words (copy_place t c + k) x)) []
          ∙ (part_inside words (copy_words t) (copy_place t c) k x inside ∙ ap (λ ws. set ws k x) (sym (is_two (part (copy_words t) (copy_place t c) words) [])))))
          (λ ne. by_below d 2 (λ b. ◌≡◌ {A = List ℕ} (if b then part (copy_words t) (copy_place t d) (set words (copy_place t c + k) x) else []) (if b then part (copy_words t) (copy_place t d) words else []))
          (λ less. far d c less two ne) (λ more. refl))

-- what a load finds
pub load_version_at : (t : Terms) (words : List ℕ) (n : ℕ) → n < t.nodes → (memory_of t words).nodes.versions n ≡ get_or words (4 + 36 * n) 0
load_version_at t words n less = rw (lt-ltb n t.nodes less) refl

pub load_content_at : (t : Terms) (words : List ℕ) (n at : ℕ) → n < t.nodes → 1 ≤ at → at ≤ 35 → get_or ((memory_of t words).nodes.contents n) (at - 1) 0 ≡ get_or words (4 + 36 * n + at) 0
load_content_at t words n at less low high =
    let e : 4 + 36 * n + 1 + (at - 1) ≡ 4 + 36 * n + at = omega (arith, low) in
    (rw (lt-ltb n t.nodes less) (get_part words 35 (4 + 36 * n + 1) (at - 1) (omega (arith, low, high)))) ∙ ap (λ k. get_or words k 0) e

pub load_copy_at : (t : Terms) (words : List ℕ) (c at : ℕ) → c < 2 → copy_place t c ≤ at → at < copy_place t c + copy_words t → get_or (copy_of t words c) (at - copy_place t c) 0 ≡ get_or words at 0
load_copy_at t words c at two low high =
    let e : copy_place t c + (at - copy_place t c) ≡ at = omega (arith, low) in
    (rw (lt-ltb c 2 two) (get_part words (copy_words t) (copy_place t c) (at - copy_place t c) (omega (arith, low, high)))) ∙ ap (λ k. get_or words k 0) e
