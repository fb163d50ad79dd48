-- Lines of things that are read one after another.
use Rattle.std.proofs.Common.{◌≡◌, ℕ, ◌+◌, List, [], ◌∷◌, ◌++◌, length, refl, sym, ap, ap₂, subst, ◌∙◌, append_assoc, append-nil, arith}
use Rattle.std.specs.List.{AllZip}
use Rattle.journal_reader.specs.JournalLines.{numbered_lines}
use Rattle.journal_reader.specs.ReadLines.{AreBarred, AreBarredBy, IsStuck}

-- what bars the one bars the other
pub barred_by : {A B : Type 0} (told : A → Type 0) (lines : A → List (List ℕ)) (told' : B → Type 0) (lines' : B → List (List ℕ)) (before before' left : List (List ℕ))
    → ((front : List (List ℕ)) → AreBarred told lines before front → AreBarred told' lines' before' front)
    → AreBarredBy told lines before left → AreBarredBy told' lines' before' left
barred_by told lines told' lines' before before' [] carry barred = barred
barred_by told lines told' lines' before before' (line ∷ []) carry barred = carry [] barred
barred_by told lines told' lines' before before' (line ∷ next ∷ others) carry barred = λ rest. carry (line ∷ rest) (barred rest)

-- nothing of the lines was read, and nothing that is told begins with them
pub stuck_here : {A : Type 0} (told : A → Type 0) (lines : A → List (List ℕ)) (some : A) → told some → (all : List (List ℕ)) → AreBarredBy told lines [] all → IsStuck told lines all all
stuck_here told lines some is_told all barred = record { before = []; cut = refl; some = some; is_told = is_told; others = lines some; begun = refl; barred = barred }

-- one thing is followed by another
module _ {A B C : Type 0} (first : A → Type 0) (first_lines : A → List (List ℕ)) (second : B → Type 0) (second_lines : B → List (List ℕ)) (both : C → Type 0) (both_lines : C → List (List ℕ))
    (pair : A → B → C) (paired : (a : A) (b : B) → first a → second b → both (pair a b)) (spelled : (a : A) (b : B) → both_lines (pair a b) ≡ first_lines a ++ second_lines b)
    (parts : (c : C) → both c → (a : A) × (b : B) × first a × second b × (both_lines c ≡ first_lines a ++ second_lines b))
    (unique : (a a' : A) (xs ys : List (List ℕ)) → first a → first a' → first_lines a ++ xs ≡ first_lines a' ++ ys → (a ≡ a') × (xs ≡ ys))
  where
    pub stuck_first : (b : B) → second b → (all left : List (List ℕ)) → IsStuck first first_lines all left → IsStuck both both_lines all left
    stuck_first b told all left stuck = record {
      before = stuck.before;
      cut = stuck.cut;
      some = pair stuck.some b;
      is_told = paired stuck.some b stuck.is_told told;
      others = stuck.others ++ second_lines b;
      begun = spelled stuck.some b ∙ ap (λ (x : List (List ℕ)). x ++ second_lines b) stuck.begun ∙ append_assoc stuck.before stuck.others (second_lines b);
      barred = barred_by first first_lines both both_lines stuck.before stuck.before left
          (λ front bars c others is e. let p = parts c is in
          bars p.0 (second_lines p.1 ++ others) p.2 (e ∙ ap (λ (x : List (List ℕ)). x ++ others) p.4 ∙ append_assoc (first_lines p.0) (second_lines p.1) others)) stuck.barred;
    }

    pub stuck_second : (a : A) → first a → (all left : List (List ℕ)) → IsStuck second second_lines all left → IsStuck both both_lines (first_lines a ++ all) left
    stuck_second a told all left stuck = record {
      before = first_lines a ++ stuck.before;
      cut = ap (λ (x : List (List ℕ)). first_lines a ++ x) stuck.cut ∙ sym (append_assoc (first_lines a) stuck.before left);
      some = pair a stuck.some;
      is_told = paired a stuck.some told stuck.is_told;
      others = stuck.others;
      begun = spelled a stuck.some ∙ ap (λ (x : List (List ℕ)). first_lines a ++ x) stuck.begun ∙ sym (append_assoc (first_lines a) stuck.before stuck.others);
      barred = barred_by second second_lines both both_lines stuck.before (first_lines a ++ stuck.before) left
          (λ front bars c others is e. let p = parts c is in
          let q = unique a p.0 (stuck.before ++ front) (second_lines p.1 ++ others) told p.2
          (sym (append_assoc (first_lines a) stuck.before front) ∙ e ∙ ap (λ (x : List (List ℕ)). x ++ others) p.4 ∙ append_assoc (first_lines p.0) (second_lines p.1) others) in
          bars p.1 others p.3 q.1) stuck.barred;
    }

-- the items of a list, each with a number
module _ {E A : Type 0} (told : E → A → Type 0) (lines : ℕ → A → List (List ℕ))
    (unique : (e : E) (n : ℕ) (a a' : A) (xs ys : List (List ℕ)) → told e a → told e a' → lines n a ++ xs ≡ lines n a' ++ ys → (a ≡ a') × (xs ≡ ys))
    (some : (e : E) → (a : A) × told e a)
  where
    pub some_all : (es : List E) → (told_xs : List A) × AllZip told es told_xs
    some_all [] = ([], tt)
    some_all (e ∷ es) = let a = some e in let rest = some_all es in (a.0 ∷ rest.0, (a.1, rest.1))

    pub unique_all : (es : List E) (n : ℕ) (told_xs bs : List A) (xs ys : List (List ℕ)) → AllZip told es told_xs → AllZip told es bs → numbered_lines lines n told_xs ++ xs ≡ numbered_lines lines n bs ++ ys → (told_xs ≡ bs) × (xs ≡ ys)
    unique_all [] n [] [] xs ys p q e = (refl, e)
    unique_all [] n [] (b ∷ bs) xs ys p q e = absurd q
    unique_all [] n (a ∷ told_xs) bs xs ys p q e = absurd p
    unique_all (e ∷ es) n [] bs xs ys p q h = absurd p
    unique_all (e ∷ es) n (a ∷ told_xs) [] xs ys p q h = absurd q
    unique_all (e ∷ es) n (a ∷ told_xs) (b ∷ bs) xs ys p q h =
        let first = unique e n a b (numbered_lines lines (n + 1) told_xs ++ xs) (numbered_lines lines (n + 1) bs ++ ys) p.0 q.0
        (sym (append_assoc (lines n a) (numbered_lines lines (n + 1) told_xs) xs) ∙ h ∙ append_assoc (lines n b) (numbered_lines lines (n + 1) bs) ys) in
        let rest = unique_all es (n + 1) told_xs bs xs ys p.1 q.1 first.1 in
        (ap₂ (λ (x : A) (xs : List A). x ∷ xs) first.0 rest.0, rest.1)

    cons_parts : (e : E) (es : List E) (n : ℕ) (told_xs : List A) → AllZip told (e ∷ es) told_xs
        → (a : A) × (rest : List A) × told e a × AllZip told es rest × (numbered_lines lines n told_xs ≡ lines n a ++ numbered_lines lines (n + 1) rest)
    cons_parts e es n [] p = absurd p
    cons_parts e es n (a ∷ told_xs) p = (a, told_xs, p.0, p.1, refl)

    -- the first items were read, and the next one is stuck
    pub stuck_at : (front : List E) (e : E) (back : List E) (n place : ℕ) (told_xs : List A) (all left : List (List ℕ)) → AllZip told front told_xs → place ≡ n + length front → IsStuck (told e) (lines place) all left
        → IsStuck (AllZip told (front ++ e ∷ back)) (numbered_lines lines n) (numbered_lines lines n told_xs ++ all) left
    stuck_at [] e back n place [] all left p at stuck =
        let same : place ≡ n = omega arith in
        let rest = some_all back in
        stuck_first (told e) (lines n) (AllZip told back) (numbered_lines lines (n + 1)) (AllZip told (e ∷ back)) (numbered_lines lines n)
        (λ x rest. x ∷ rest) (λ x rest p q. (p, q)) (λ x rest. refl) (cons_parts e back n) (unique e n)
        rest.0 rest.1 all left (subst (λ (k : ℕ). IsStuck (told e) (lines k) all left) same stuck)
    stuck_at [] e back n place (a ∷ told_xs) all left p at stuck = absurd p
    stuck_at (f ∷ front) e back n place [] all left p at stuck = absurd p
    stuck_at (f ∷ front) e back n place (a ∷ told_xs) all left p at stuck =
        let more = stuck_at front e back (n + 1) place told_xs all left p.1 (omega arith) stuck in
        let whole = stuck_second (told f) (lines n) (AllZip told (front ++ e ∷ back)) (numbered_lines lines (n + 1)) (AllZip told (f ∷ (front ++ e ∷ back))) (numbered_lines lines n)
        (λ x rest. x ∷ rest) (λ x rest p q. (p, q)) (λ x rest. refl) (cons_parts f (front ++ e ∷ back) n) (unique f n)
        a p.0 (numbered_lines lines (n + 1) told_xs ++ all) left more in
        subst (λ (x : List (List ℕ)). IsStuck (AllZip told (f ∷ (front ++ e ∷ back))) (numbered_lines lines n) x left) (sym (append_assoc (lines n a) (numbered_lines lines (n + 1) told_xs) all)) whole

    -- one more was read
    pub read_more : (front : List E) (e : E) (n place : ℕ) (told_xs : List A) (a : A) (all mid left : List (List ℕ)) → AllZip told front told_xs → place ≡ n + length front → told e a → all ≡ numbered_lines lines n told_xs ++ mid → mid ≡ lines place a ++ left
        → AllZip told (front ++ e ∷ []) (told_xs ++ a ∷ []) × (all ≡ numbered_lines lines n (told_xs ++ a ∷ []) ++ left)
    read_more [] e n place [] a all mid left p at told_a first second =
        let same : place ≡ n = omega arith in
        ((told_a, tt), first ∙ second ∙ ap (λ (k : ℕ). lines k a ++ left) same ∙ ap (λ (x : List (List ℕ)). x ++ left) (sym (append-nil (lines n a))))
    read_more [] e n place (b ∷ told_xs) a all mid left p at told_a first second = absurd p
    read_more (f ∷ front) e n place [] a all mid left p at told_a first second = absurd p
    read_more (f ∷ front) e n place (b ∷ told_xs) a all mid left p at told_a first second =
        let rest = read_more front e (n + 1) place told_xs a (numbered_lines lines (n + 1) told_xs ++ mid) mid left p.1 (omega arith) told_a refl second in
        ((p.0, rest.0), first ∙ append_assoc (lines n b) (numbered_lines lines (n + 1) told_xs) mid ∙ ap (λ (x : List (List ℕ)). lines n b ++ x) rest.1 ∙ sym (append_assoc (lines n b) (numbered_lines lines (n + 1) (told_xs ++ a ∷ [])) left))
