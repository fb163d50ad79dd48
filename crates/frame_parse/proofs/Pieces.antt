-- The addresses in pieces: what they tell, as they are put together.
use Rattle.std.proofs.Common.{Option, ◌≡◌, ◌≢◌, ℕ, zero, suc, ◌+◌, ◌<◌, ◌≤◌, ◌^◌, Bool, cond, List, [], ◌∷◌, ◌++◌, length, get_or, drop, true, false, Some, None, nat_le, nat_lt, refl, sym, ap, subst, ◌∙◌, arith, append_assoc, length-append, leb-true, leb-false, le-leb}
use Rattle.std.proofs.lemmas.Bool.{lt-leb, lt-ltb, le-ltb}
use Rattle.std.specs.List.{find}
use Rattle.std.specs.Prelude.{slice_get, option_and_then, IfSome, ◌&&◌}
use Rattle.frame_parse.specs.declared.cover_pieces.CoverPiece.{CoverPiece}
use Rattle.frame_parse.specs.declared.records.FdeEntry.{FdeEntry}
use Rattle.frame_parse.specs.Lookups.{entry_covers, cover_number, piece_number, number_or, IsUpTo, Falls, TellsCovers, IsOverlay}

-- ---- what pieces tell

pub piece_number-append : (pc : ℕ) (xs ys : List CoverPiece) (below : Option ℕ) → piece_number pc (xs ++ ys) below ≡ piece_number pc xs (piece_number pc ys below)
piece_number-append pc [] ys below = refl
piece_number-append pc (x ∷ xs) ys below = ap (λ (o : Option ℕ). cond (nat_le x.first pc) x.fde o) (piece_number-append pc xs ys below)

-- ---- none begins above one before it

up_to_higher : (n m : ℕ) (xs : List CoverPiece) → n ≤ m → IsUpTo n xs → IsUpTo m xs
up_to_higher n m [] le h = tt
up_to_higher n m (x ∷ xs) le h = (let up = h.0 in omega (arith, up), up_to_higher n m xs le h.1)

up_to_same : (n : ℕ) (out xs : List CoverPiece) (p x : CoverPiece) → p.first ≡ x.first → IsUpTo n (out ++ x ∷ xs) → IsUpTo n (out ++ p ∷ xs)
up_to_same n [] xs p x same h = (let up = h.0 in omega (arith, up, same), h.1)
up_to_same n (z ∷ out) xs p x same h = (h.0, up_to_same n out xs p x same h.1)

-- a piece in the place of one that begins where it does
pub falls_same : (out xs : List CoverPiece) (p x : CoverPiece) → p.first ≡ x.first → Falls (out ++ x ∷ xs) → Falls (out ++ p ∷ xs)
falls_same [] xs p x same h = (up_to_higher x.first p.first xs (omega (arith, same)) h.0, h.1)
falls_same (z ∷ out) xs p x same h = (up_to_same z.first out xs p x same h.0, falls_same out xs p x same h.1)

up_to_between : (n : ℕ) (out xs ys : List CoverPiece) (p x : CoverPiece) → p.first ≡ x.first → IsUpTo n (out ++ x ∷ xs) → IsUpTo n (out ++ ys) → IsUpTo n (out ++ p ∷ ys)
up_to_between n [] xs ys p x same h k = (let up = h.0 in omega (arith, up, same), k)
up_to_between n (z ∷ out) xs ys p x same h k = (h.0, up_to_between n out xs ys p x same h.1 k.1)

-- a piece before others that begin no higher
pub falls_between : (out xs ys : List CoverPiece) (p x y : CoverPiece) → p.first ≡ x.first → y.first ≤ p.first → Falls (out ++ x ∷ xs) → Falls (out ++ y ∷ ys) → Falls (out ++ p ∷ y ∷ ys)
falls_between [] xs ys p x y same le h k = ((le, up_to_higher y.first p.first ys le k.0), k)
falls_between (z ∷ out) xs ys p x y same le h k = (up_to_between z.first out xs (y ∷ ys) p x same h.0 k.0, falls_between out xs ys p x y same le h.1 k.1)

-- ---- two lists of pieces, put together from the highest down

abbrev pub both_tell : ℕ → List CoverPiece → List CoverPiece → Option ℕ
both_tell pc earlier later = number_or (piece_number pc earlier None) (piece_number pc later None)

-- so much is done, and this is left of both
pub record IsOverlaid (earlier later done left right : List CoverPiece) : Type 0 where
  pub left_falls : Falls (done ++ left)
  pub right_falls : Falls (done ++ right)
  pub tells : (pc : ℕ) → piece_number pc done (both_tell pc left right) ≡ both_tell pc earlier later

pub nothing_done : (earlier later : List CoverPiece) → Falls earlier → Falls later → IsOverlaid earlier later [] earlier later
nothing_done earlier later first second = record { left_falls = first; right_falls = second; tells = λ pc. refl }

-- the higher of two pieces
pub record IsHigher (x y p : CoverPiece) : Type 0 where
  pub first : p.first ≡ cond (nat_le x.first y.first) y.first x.first
  pub fde : p.fde ≡ number_or x.fde y.fde

number_or-none : (o : Option ℕ) → number_or o None ≡ o
number_or-none (Some n) = refl
number_or-none None = refl

-- it begins where the higher one does, and up to an address the lower one does too
tests_of : (pc : ℕ) (high low p : CoverPiece) (b : Bool) → nat_le high.first pc ≡ b → p.first ≡ high.first → low.first ≤ high.first → (nat_le p.first pc ≡ b) × (b ≡ true → nat_le low.first pc ≡ true)
tests_of pc high low p b e at le = (ap (λ (n : ℕ). nat_le n pc) at ∙ e, λ up. let reached = leb-true _ _ (e ∙ up) in le-leb _ _ (omega (arith, le)))

-- what the piece tells and what is left tell together what was left before
tell_left : (pc : ℕ) (x y p : CoverPiece) (xs ys : List CoverPiece) (b : Bool) → nat_le x.first pc ≡ b → p.first ≡ x.first → y.first ≤ x.first → p.fde ≡ number_or x.fde y.fde
    → piece_number pc (p ∷ []) (both_tell pc xs (y ∷ ys)) ≡ both_tell pc (x ∷ xs) (y ∷ ys)
tell_left pc x y p xs ys true e at le is = let tests = tests_of pc x y p true e at le in rw (tests.0, tests.1 refl, e) is
tell_left pc x y p xs ys false e at le is = let tests = tests_of pc x y p false e at le in rw (tests.0, e) refl

tell_right : (pc : ℕ) (x y p : CoverPiece) (xs ys : List CoverPiece) (b : Bool) → nat_le y.first pc ≡ b → p.first ≡ y.first → x.first ≤ y.first → p.fde ≡ number_or x.fde y.fde
    → piece_number pc (p ∷ []) (both_tell pc (x ∷ xs) ys) ≡ both_tell pc (x ∷ xs) (y ∷ ys)
tell_right pc x y p xs ys true e at le is = let tests = tests_of pc y x p true e at le in rw (tests.0, tests.1 refl, e) is
tell_right pc x y p xs ys false e at le is = let tests = tests_of pc y x p false e at le in rw (tests.0, e) refl

tell_both : (pc : ℕ) (x y p : CoverPiece) (xs ys : List CoverPiece) (b : Bool) → nat_le x.first pc ≡ b → p.first ≡ x.first → y.first ≡ x.first → p.fde ≡ number_or x.fde y.fde
    → piece_number pc (p ∷ []) (both_tell pc xs ys) ≡ both_tell pc (x ∷ xs) (y ∷ ys)
tell_both pc x y p xs ys true e at same is =
    let here : nat_le p.first pc ≡ true = ap (λ (n : ℕ). nat_le n pc) at ∙ e in
    let there : nat_le y.first pc ≡ true = ap (λ (n : ℕ). nat_le n pc) same ∙ e in
    rw (here, there, e) is
tell_both pc x y p xs ys false e at same is =
    let here : nat_le p.first pc ≡ false = ap (λ (n : ℕ). nat_le n pc) at ∙ e in
    let there : nat_le y.first pc ≡ false = ap (λ (n : ℕ). nat_le n pc) same ∙ e in
    rw (here, there, e) refl

-- one piece more
told_on : (earlier later done left right ls rs : List CoverPiece) (p : CoverPiece) → IsOverlaid earlier later done left right
    → ((pc : ℕ) → piece_number pc (p ∷ []) (both_tell pc ls rs) ≡ both_tell pc left right) → (pc : ℕ) → piece_number pc (done ++ p ∷ []) (both_tell pc ls rs) ≡ both_tell pc earlier later
told_on earlier later done left right ls rs p was same pc =
    piece_number-append pc done (p ∷ []) (both_tell pc ls rs)
    ∙ ap (λ (o : Option ℕ). piece_number pc done o) (same pc)
    ∙ was.tells pc

regrouped : (done xs : List CoverPiece) (p : CoverPiece) → Falls (done ++ p ∷ xs) → Falls ((done ++ p ∷ []) ++ xs)
regrouped done xs p h = subst (λ (l : List CoverPiece). Falls l) (sym (append_assoc done (p ∷ []) xs)) h

pub left_done : (earlier later done xs ys : List CoverPiece) (x y p : CoverPiece) → IsOverlaid earlier later done (x ∷ xs) (y ∷ ys) → IsHigher x y p → y.first < x.first → IsOverlaid earlier later (done ++ p ∷ []) xs (y ∷ ys)
left_done earlier later done xs ys x y p was is lt =
    let at : p.first ≡ x.first = is.first ∙ ap (λ (b : Bool). cond b y.first x.first) (lt-leb _ _ lt) in
    record {
      left_falls = regrouped done xs p (falls_same done xs p x at was.left_falls);
      right_falls = regrouped done (y ∷ ys) p (falls_between done xs ys p x y at (omega (arith, at)) was.left_falls was.right_falls);
      tells = told_on earlier later done (x ∷ xs) (y ∷ ys) xs (y ∷ ys) p was (λ pc. tell_left pc x y p xs ys (nat_le x.first pc) refl at (omega arith) is.fde);
    }

pub right_done : (earlier later done xs ys : List CoverPiece) (x y p : CoverPiece) → IsOverlaid earlier later done (x ∷ xs) (y ∷ ys) → IsHigher x y p → x.first < y.first → IsOverlaid earlier later (done ++ p ∷ []) (x ∷ xs) ys
right_done earlier later done xs ys x y p was is lt =
    let at : p.first ≡ y.first = is.first ∙ ap (λ (b : Bool). cond b y.first x.first) (le-leb _ _ (omega arith)) in
    record {
      left_falls = regrouped done (x ∷ xs) p (falls_between done ys xs p y x at (omega (arith, at)) was.right_falls was.left_falls);
      right_falls = regrouped done ys p (falls_same done ys p y at was.right_falls);
      tells = told_on earlier later done (x ∷ xs) (y ∷ ys) (x ∷ xs) ys p was (λ pc. tell_right pc x y p xs ys (nat_le y.first pc) refl at (omega arith) is.fde);
    }

pub both_done : (earlier later done xs ys : List CoverPiece) (x y p : CoverPiece) → IsOverlaid earlier later done (x ∷ xs) (y ∷ ys) → IsHigher x y p → x.first ≤ y.first → y.first ≤ x.first → IsOverlaid earlier later (done ++ p ∷ []) xs ys
both_done earlier later done xs ys x y p was is le ge =
    let same : y.first ≡ x.first = omega arith in
    let at : p.first ≡ x.first = is.first ∙ ap (λ (b : Bool). cond b y.first x.first) (le-leb _ _ le) ∙ same in
    record {
      left_falls = regrouped done xs p (falls_same done xs p x at was.left_falls);
      right_falls = regrouped done ys p (falls_same done ys p y (at ∙ sym same) was.right_falls);
      tells = told_on earlier later done (x ∷ xs) (y ∷ ys) xs ys p was (λ pc. tell_both pc x y p xs ys (nat_le x.first pc) refl at same is.fde);
    }

-- the same where both lists are told by their first pieces
abbrev pub no_piece : CoverPiece
no_piece = record { first = 0; fde = None }

pub heads : (l : List CoverPiece) (d : CoverPiece) → length l ≢ 0 → l ≡ get_or l 0 d ∷ drop 1 l
heads [] d some = absurd (some refl)
heads (x ∷ xs) d some = refl

module _ (earlier later done left right xs ys : List CoverPiece) (x y p : CoverPiece) (was : IsOverlaid earlier later done left right) (first : left ≡ x ∷ xs) (second : right ≡ y ∷ ys) (is : IsHigher x y p) where
  here : IsOverlaid earlier later done (x ∷ xs) (y ∷ ys)
  here = subst (λ (l : List CoverPiece). IsOverlaid earlier later done (x ∷ xs) l) second (subst (λ (l : List CoverPiece). IsOverlaid earlier later done l right) first was)

  pub left_on : y.first < x.first → IsOverlaid earlier later (done ++ p ∷ []) xs right
  left_on lt = subst (λ (l : List CoverPiece). IsOverlaid earlier later (done ++ p ∷ []) xs l) (sym second) (left_done earlier later done xs ys x y p here is lt)

  pub right_on : x.first < y.first → IsOverlaid earlier later (done ++ p ∷ []) left ys
  right_on lt = subst (λ (l : List CoverPiece). IsOverlaid earlier later (done ++ p ∷ []) l ys) (sym first) (right_done earlier later done xs ys x y p here is lt)

  pub both_on : x.first ≤ y.first → y.first ≤ x.first → IsOverlaid earlier later (done ++ p ∷ []) xs ys
  both_on le ge = both_done earlier later done xs ys x y p here is le ge

-- one of both is done
pub left_alone : (earlier later done left : List CoverPiece) → IsOverlaid earlier later done left [] → IsOverlay earlier later (done ++ left)
left_alone earlier later done left was = record {
  falls = was.left_falls;
  tells = λ pc.
      piece_number-append pc done left None
      ∙ ap (λ (o : Option ℕ). piece_number pc done o) (sym (number_or-none (piece_number pc left None)))
      ∙ was.tells pc;
}

pub right_alone : (earlier later done right : List CoverPiece) → IsOverlaid earlier later done [] right → IsOverlay earlier later (done ++ right)
right_alone earlier later done right was = record {
  falls = was.right_falls;
  tells = λ pc. piece_number-append pc done right None ∙ was.tells pc;
}

-- ---- the FDEs

pub no_fdes : (n : ℕ) → TellsCovers n [] []
no_fdes n = record { falls = tt; tells = λ pc lt. refl }

number_or-cond : (n : ℕ) (b : Bool) (o later : Option ℕ) → cond b (Some n) (number_or o later) ≡ number_or (cond b (Some n) o) later
number_or-cond n true o later = refl
number_or-cond n false o later = refl

cover_number-append : (pc n : ℕ) (fs gs : List FdeEntry) → cover_number pc n (fs ++ gs) ≡ number_or (cover_number pc n fs) (cover_number pc (n + length fs) gs)
cover_number-append pc n [] gs = ap (λ (k : ℕ). cover_number pc k gs) (omega arith)
cover_number-append pc n (f ∷ fs) gs =
    ap (λ (o : Option ℕ). cond (entry_covers pc f) (Some n) o) (cover_number-append pc (n + 1) fs gs)
    ∙ ap (λ (k : ℕ). cond (entry_covers pc f) (Some n) (number_or (cover_number pc (n + 1) fs) (cover_number pc k gs))) (let same : n + 1 + length fs ≡ n + length (f ∷ fs) = omega arith in same)
    ∙ number_or-cond n (entry_covers pc f) (cover_number pc (n + 1) fs) (cover_number pc (n + length (f ∷ fs)) gs)

pub both_halves : (n k : ℕ) (fdes fs gs : List FdeEntry) (earlier later pieces : List CoverPiece) → fdes ≡ fs ++ gs → k ≡ n + length fs → TellsCovers n fs earlier → TellsCovers k gs later → IsOverlay earlier later pieces → TellsCovers n fdes pieces
both_halves n k fdes fs gs earlier later pieces are at first second over = record {
  falls = over.falls;
  tells = λ pc lt.
      over.tells pc
      ∙ ap (λ (o : Option ℕ). number_or o (piece_number pc later None)) (first.tells pc lt)
      ∙ ap (λ (o : Option ℕ). number_or (cover_number pc n fs) o) (second.tells pc lt ∙ ap (λ (m : ℕ). cover_number pc m gs) at)
      ∙ sym (cover_number-append pc n fs gs)
      ∙ ap (λ (l : List FdeEntry). cover_number pc n l) (sym are);
}

abbrev piece : ℕ → Option ℕ → CoverPiece
piece first fde = record { first = first; fde = fde }

-- an FDE that ends
pub one_fde : (n end : ℕ) (f : FdeEntry) → end ≡ f.first + f.range → TellsCovers n (f ∷ []) (piece end None ∷ piece f.first (Some n) ∷ [])
one_fde n end f is = record {
  falls = ((omega (arith, is), tt), (tt, tt));
  tells = λ pc lt. by pc (nat_le end pc) refl;
}
  where
    by : (pc : ℕ) (b : Bool) → nat_le end pc ≡ b → cond (nat_le end pc) None (cond (nat_le f.first pc) (Some n) None) ≡ cond (nat_le f.first pc && nat_lt pc (f.first + f.range)) (Some n) None
    by pc true e =
        let up = leb-true _ _ e in
        let out : nat_lt pc (f.first + f.range) ≡ false = le-ltb _ _ (omega arith) in
        let low : nat_le f.first pc ≡ true = le-leb _ _ (omega arith) in
        rw (e, out, low) refl
    by pc false e =
        let up = leb-false _ _ e in
        let inside : nat_lt pc (f.first + f.range) ≡ true = lt-ltb _ _ (omega arith) in
        rw (e, inside) (within (nat_le f.first pc))
      where
        within : (b : Bool) → cond b (Some n) None ≡ cond (b && true) (Some n) None
        within true = refl
        within false = refl

-- an FDE that covers all addresses from its first one on
pub endless_fde : (n : ℕ) (f : FdeEntry) → 2 ^ 64 ≤ f.first + f.range → TellsCovers n (f ∷ []) (piece f.first (Some n) ∷ [])
endless_fde n f is = record {
  falls = (tt, tt);
  tells = λ pc lt.
      let inside : nat_lt pc (f.first + f.range) ≡ true = lt-ltb _ _ (omega (arith, lt, is)) in
      rw inside (within (nat_le f.first pc));
}
  where
    within : (b : Bool) → cond b (Some n) None ≡ cond (b && true) (Some n) None
    within true = refl
    within false = refl

-- ---- by their numbers

seam : (fs gs : List FdeEntry) (g : FdeEntry) → slice_get (fs ++ g ∷ gs) (length fs) ≡ Some g
seam [] gs g = refl
seam (f ∷ fs) gs g = seam fs gs g

pub record IsNumberOfCover (pc : ℕ) (all fs : List FdeEntry) (o : Option ℕ) : Type 0 where
  pub value : option_and_then (slice_get all) o ≡ find (entry_covers pc) fs
  pub within : IfSome o (λ i. i < length all)

number_here : (pc n : ℕ) (before fs : List FdeEntry) (f : FdeEntry) (b : Bool) → entry_covers pc f ≡ b → n ≡ length before → IsNumberOfCover pc (before ++ f ∷ fs) fs (cover_number pc (n + 1) fs)
    → IsNumberOfCover pc (before ++ f ∷ fs) (f ∷ fs) (cover_number pc n (f ∷ fs))
number_here pc n before fs f true e at later =
    record {
      value = rw e (ap (λ (k : ℕ). slice_get (before ++ f ∷ fs) k) at ∙ seam before fs f);
      within = rw e (omega (arith, at, length-append before (f ∷ fs)));
    }
number_here pc n before fs f false e at later = record { value = rw e later.value; within = rw e later.within }

numbered : (pc n : ℕ) (before fs : List FdeEntry) → n ≡ length before → IsNumberOfCover pc (before ++ fs) fs (cover_number pc n fs)
numbered pc n before [] at = record { value = refl; within = tt }
numbered pc n before (f ∷ fs) at =
    number_here pc n before fs f (entry_covers pc f) refl at
    (subst (λ (l : List FdeEntry). IsNumberOfCover pc l fs (cover_number pc (n + 1) fs)) (append_assoc before (f ∷ []) fs)
    (numbered pc (n + 1) (before ++ f ∷ []) fs (omega (arith, at, length-append before (f ∷ [])))))

pub cover_of_pieces : (pc : ℕ) (fdes : List FdeEntry) (pieces : List CoverPiece) → pc < 2 ^ 64 → TellsCovers 0 fdes pieces → IsNumberOfCover pc fdes fdes (piece_number pc pieces None)
cover_of_pieces pc fdes pieces lt is = subst (λ (o : Option ℕ). IsNumberOfCover pc fdes fdes o) (sym (is.tells pc lt)) (numbered pc 0 [] fdes refl)

-- ---- the search

-- none of a falling list begins above its first
below_first : (n : ℕ) (xs : List CoverPiece) (j : ℕ) (d : CoverPiece) → IsUpTo n xs → j < length xs → (get_or xs j d).first ≤ n
below_first n [] j d h lt = absurd (omega arith)
below_first n (x ∷ xs) zero d h lt = h.0
below_first n (x ∷ xs) (suc j) d h lt = below_first n xs j d h.1 (omega arith)

pub they_fall : (xs : List CoverPiece) (i j : ℕ) (d : CoverPiece) → Falls xs → i ≤ j → j < length xs → (get_or xs j d).first ≤ (get_or xs i d).first
they_fall [] i j d h le lt = absurd (omega arith)
they_fall (x ∷ xs) zero zero d h le lt = omega arith
they_fall (x ∷ xs) zero (suc j) d h le lt = below_first x.first xs j d h.0 (omega arith)
they_fall (x ∷ xs) (suc i) zero d h le lt = absurd (omega arith)
they_fall (x ∷ xs) (suc i) (suc j) d h le lt = they_fall xs i j d h.1 (omega arith) (omega arith)

-- the pieces below a place begin above an address, those from another place on don't
pub record AreBetween (pc low high : ℕ) (xs : List CoverPiece) : Type 0 where
  pub within : high ≤ length xs
  pub ordered : low ≤ high
  pub above : (k : ℕ) (d : CoverPiece) → k < low → pc < (get_or xs k d).first
  pub reached : (k : ℕ) (d : CoverPiece) → high ≤ k → k < length xs → (get_or xs k d).first ≤ pc

pub any_piece : (pc : ℕ) (xs : List CoverPiece) → AreBetween pc 0 (length xs) xs
any_piece pc xs = record { within = omega arith; ordered = omega arith; above = λ k d lt. absurd (omega arith); reached = λ k d ge lt. absurd (omega arith) }

pub any_default : (xs : List CoverPiece) (k : ℕ) (c d : CoverPiece) → k < length xs → get_or xs k c ≡ get_or xs k d
any_default [] k c d lt = absurd (omega arith)
any_default (x ∷ xs) zero c d lt = refl
any_default (x ∷ xs) (suc k) c d lt = any_default xs k c d (omega arith)

pub lower_ones : (pc low high middle : ℕ) (xs : List CoverPiece) (c : CoverPiece) → Falls xs → AreBetween pc low high xs → middle < high → low ≤ middle → pc < (get_or xs middle c).first → AreBetween pc (middle + 1) high xs
lower_ones pc low high middle xs c falls was lt le beyond =
    let inside = was.within in record {
      within = was.within;
      ordered = omega arith;
      above = λ k d less.
          let down = they_fall xs k middle d falls (omega arith) (omega (arith, inside)) in
          let same = ap (λ (x : CoverPiece). x.first) (any_default xs middle c d (omega (arith, inside))) in
          omega (arith, down, same, beyond);
      reached = was.reached;
    }

pub higher_ones : (pc low high middle : ℕ) (xs : List CoverPiece) (c : CoverPiece) → Falls xs → AreBetween pc low high xs → middle < high → low ≤ middle → (get_or xs middle c).first ≤ pc → AreBetween pc low middle xs
higher_ones pc low high middle xs c falls was lt le here =
    let inside = was.within in record {
      within = omega (arith, inside);
      ordered = le;
      above = was.above;
      reached = λ k d ge less.
          let down = they_fall xs middle k d falls ge less in
          let same = ap (λ (x : CoverPiece). x.first) (any_default xs middle c d (omega (arith, inside))) in
          omega (arith, down, same, here);
    }

pub found_at : (pc : ℕ) (xs : List CoverPiece) (i : ℕ) (c : CoverPiece) → ((k : ℕ) (d : CoverPiece) → k < i → pc < (get_or xs k d).first) → (get_or xs i c).first ≤ pc → i < length xs → (get_or xs i c).fde ≡ piece_number pc xs None
found_at pc [] i c above here lt = absurd (omega arith)
found_at pc (x ∷ xs) zero c above here lt =
    let reached : nat_le x.first pc ≡ true = le-leb _ _ here in
    rw reached refl
found_at pc (x ∷ xs) (suc i) c above here lt =
    let not : nat_le x.first pc ≡ false = lt-leb _ _ (above 0 x (omega arith)) in
    rw not (found_at pc xs i c (λ k d less. above (suc k) d (omega arith)) here (omega arith))

pub none_at : (pc : ℕ) (xs : List CoverPiece) → ((k : ℕ) (d : CoverPiece) → k < length xs → pc < (get_or xs k d).first) → None ≡ piece_number pc xs None
none_at pc [] above = refl
none_at pc (x ∷ xs) above =
    let not : nat_le x.first pc ≡ false = lt-leb _ _ (above 0 x (omega arith)) in
    rw not (none_at pc xs (λ k d less. above (suc k) d (omega arith)))
