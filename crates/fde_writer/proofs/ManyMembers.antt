-- What putting many members and taking many away make of the caller that updates the registry.
use Rattle.std.proofs.Common.{◌≡◌, ℕ, ◌+◌, ◌≤◌, ◌<◌, List, [], ◌∷◌, ◌++◌, Bool, false, cond, eqb, refl, sym, ap, ◌∙◌, subst, arith, length, take, drop, get_or, set, zero, suc, inl, inr}
use Rattle.std.specs.List.{All, Contains, count_by}
use Rattle.std.proofs.lemmas.Bool.{ne_eqb}
use Rattle.std.proofs.lemmas.List.{map-append, take-append-drop, take_more}
use Rattle.std.proofs.lemmas.List.Elements.{All-cons, All-contains, All-contains_itself, All-head, All-nil, All-tail, Contains-append_left, Contains-append_right}
use Rattle.reg_model.specs.declared.answer.Half.{Half}
use Rattle.reg_model.specs.declared.span.Member.{Member}
use Rattle.sole_writer.specs.Writers.{WriterData}
use Rattle.fde_members.proofs.Covers.{first_or_later}
use Rattle.fde_writer.specs.Places.{HoldsAtLeast, PlaceData, placed_members, passes}
use Rattle.fde_writer.specs.Puttings.{IsPutFault, IsUndone, MayUndo, Puts, PutsNone, StopsPutting, StopsTaking, TakesAway, UnlessStuck, writer_state, writer_updates}
use Rattle.fde_writer.specs.Runs.{Runs, numbers_told}
use Rattle.fde_writer.specs.declared.outcome.Numbers.{Numbers}
use Rattle.fde_writer.specs.declared.putting.PutFault.{PutFault}
use Rattle.fde_writer.specs.declared.putting.PutFault.TheVariants as fault
use Rattle.fde_writer.proofs.Calls.{full_within, none_among, overlap_within, runs_more, runs_none, runs_then, taken_within}
use Rattle.fde_writer.proofs.Counts.{count-append}
use Rattle.fde_writer.proofs.Gaining.{gained_held, gained_lost, gained_stopped, gained_then_stopped, gains_none, gains_then}
use Rattle.fde_writer.proofs.OneMember.{one}

-- which number one update has
one_is : (old new number : ℕ) → new ≡ old + 1 → one number ≡ numbers_told old new → number ≡ old + 1
one_is old new number next told =
    let apart : eqb old new ≡ false = ne_eqb old new (λ same. omega (arith, next, same)) in
    let last : number ≡ new = ap (λ (n : Numbers). n.last) (told ∙ ap (λ (b : Bool). cond b (record { first = 0; last = 0 }) (record { first = old + 1; last = new })) apart) in
    last ∙ next

-- the numbers so far, and the next one
abbrev pub CountsOn : Numbers → ℕ → Numbers → Type 0
CountsOn n number n' = (old now : ℕ) → n ≡ numbers_told old now → old ≤ now → number ≡ now + 1 → n' ≡ numbers_told old number

told_then : (n n' : Numbers) (number w v u k : ℕ) → CountsOn n number n' → n ≡ numbers_told w v → v ≡ w + k → one number ≡ numbers_told v u → u ≡ v + 1 → n' ≡ numbers_told w u
told_then n n' number w v u k on told up one_told next =
    let is : number ≡ v + 1 = one_is v u number next one_told in
    subst (λ (x : ℕ). n' ≡ numbers_told w x) (is ∙ sym next) (on w v told (omega (arith, up)) is)

pub takes_none : (w : WriterData) (n : Numbers) → w.stuck ≡ false → ((now : ℕ) → n ≡ numbers_told now now) → TakesAway [] n w w
takes_none w n free none = record { loses = gains_none (writer_state w); runs = runs_none [] w; count = omega arith; told = none (writer_updates w); free = free }

pub takes_then : (ps : List PlaceData) (p : PlaceData) (n n' : Numbers) (number : ℕ) (w v u : WriterData) → TakesAway ps n w v → TakesAway (p ∷ []) (one number) v u → CountsOn n number n' → TakesAway (ps ++ p ∷ []) n' w u
takes_then ps p n n' number w v u first then on = record {
  loses = λ half test. (let x = first.loses half test in let y = then.loses half test in let e = count-append (passes half test) ps (p ∷ []) in omega (arith, x, y, e));
  runs = (let longer : length (ps ++ p ∷ []) ≡ length ps + 1 = Rattle.std.proofs.lemmas.List.length_push ps p in runs_more [] [] (length ps + 1) (length (ps ++ p ∷ [])) w u (λ m there. there) (omega (arith, longer)) (runs_then [] (length ps) 1 w v u first.runs then.runs));
  count = (let longer : length (ps ++ p ∷ []) ≡ length ps + 1 = Rattle.std.proofs.lemmas.List.length_push ps p in let x = first.count in let y = then.count in omega (arith, longer, x, y));
  told = told_then n n' number (writer_updates w) (writer_updates v) (writer_updates u) (length ps) on first.told first.count then.told then.count;
  free = then.free;
}

-- the places, parted at one of them
parted : (ps : List PlaceData) (i : ℕ) (d : PlaceData) → i < length ps → (half : Half) (test : Member → Bool) → count_by (passes half test) ps ≡ count_by (passes half test) (take i ps) + (count_by (passes half test) (get_or ps i d ∷ []) + count_by (passes half test) (drop (i + 1) ps))
parted ps i d within half test =
    let whole : take (i + 1) ps ++ drop (i + 1) ps ≡ ps = take-append-drop (i + 1) ps in
    let one_more = take_more ps i d within in
    let a = count-append (passes half test) (take (i + 1) ps) (drop (i + 1) ps) in
    let b = count-append (passes half test) (take i ps) (get_or ps i d ∷ []) in
    let c : count_by (passes half test) (take (i + 1) ps) ≡ count_by (passes half test) (take i ps ++ get_or ps i d ∷ []) = ap (count_by (passes half test)) one_more in
    let e : count_by (passes half test) (take (i + 1) ps ++ drop (i + 1) ps) ≡ count_by (passes half test) ps = ap (count_by (passes half test)) whole in
    omega (arith, a, b, c, e)

-- the next one is still there
pub next_there : (ps : List PlaceData) (i : ℕ) (d : PlaceData) (n : Numbers) (w v : WriterData) → i < length ps → HoldsAtLeast (writer_state w) ps → TakesAway (take i ps) n w v → HoldsAtLeast (writer_state v) (get_or ps i d ∷ [])
next_there ps i d n w v within holds taken half test =
    (let h = holds half test in let l = taken.loses half test in let p = parted ps i d within half test in omega (arith, h, l, p))

pub stops_then : (ps : List PlaceData) (i : ℕ) (d : PlaceData) (n : Numbers) (w v u : WriterData) → i < length ps → length (take i ps) ≡ i → TakesAway (take i ps) n w v → StopsTaking (get_or ps i d ∷ []) v u → StopsTaking ps w u
stops_then ps i d n w v u within long taken stops = record {
  keeps = λ half test. (let l = taken.loses half test in let k = stops.keeps half test in let p = parted ps i d within half test in omega (arith, l, k, p));
  cause = taken_within [] [] (λ m there. there) (length (take i ps)) 1 (length ps) w v u (omega (arith, long, within)) taken.runs stops.cause;
  stopped = stops.stopped;
}

pub puts_none : (w : WriterData) (n : Numbers) → w.stuck ≡ false → ((now : ℕ) → n ≡ numbers_told now now) → Puts [] 0 [] n w w
puts_none w n free none = record { whole = refl; gains = gains_none (writer_state w); runs = runs_none [] w; count = omega arith; told = none (writer_updates w); free = free }

pub puts_then : (ps : List PlaceData) (p : PlaceData) (a : ℕ) (n n' : Numbers) (number : ℕ) (w v u : WriterData) → Puts (placed_members ps) a ps n w v → Puts (p.member ∷ []) 2 (p ∷ []) (one number) v u → CountsOn n number n'
    → Puts (placed_members (ps ++ p ∷ [])) (a + 2) (ps ++ p ∷ []) n' w u
puts_then ps p a n n' number w v u first then on =
    let all : placed_members (ps ++ p ∷ []) ≡ placed_members ps ++ p.member ∷ [] = map-append (λ q. q.member) ps (p ∷ []) in
    let longer : length (ps ++ p ∷ []) ≡ length ps + 1 = Rattle.std.proofs.lemmas.List.length_push ps p in
    let left = runs_more (placed_members ps) (placed_members (ps ++ p ∷ [])) a a w v (λ m there. subst (λ (ms : List Member). Contains ms m) (sym all) (Contains-append_left (placed_members ps) (p.member ∷ []) m there)) (omega arith) first.runs in
    let right = runs_more (p.member ∷ []) (placed_members (ps ++ p ∷ [])) 2 2 v u (λ m there. subst (λ (ms : List Member). Contains ms m) (sym all) (Contains-append_right (placed_members ps) (p.member ∷ []) m there)) (omega arith) then.runs in
    record {
      whole = refl;
      gains = gains_then ps (p ∷ []) (writer_state w) (writer_state v) (writer_state u) first.gains then.gains;
      runs = runs_then (placed_members (ps ++ p ∷ [])) a 2 w v u left right;
      count = (let x = first.count in let y = then.count in omega (arith, longer, x, y));
      told = told_then n n' number (writer_updates w) (writer_updates v) (writer_updates u) (length ps) on first.told first.count then.told then.count;
      free = then.free;
    }

-- A fault at one member, after others were put, and what undoing them makes of it.
module _ (ms : List Member) (c a : ℕ) (ps : List PlaceData) (m : Member) (n : Numbers) (w v u t : WriterData) (put : Puts (placed_members ps) a ps n w v)
    (before : (x : Member) → Contains (placed_members ps) x → Contains ms x) (here : (x : Member) → Contains (m ∷ []) x → Contains ms x) (enough : a + 2 + length ps ≤ c) where
  runs_before : Runs ms a w v
  runs_before = runs_more (placed_members ps) ms a a w v before (omega arith) put.runs

  undone : PutsNone (m ∷ []) 2 v u → (k : Numbers) → TakesAway ps k u t → PutsNone ms c w t
  undone none k taken = record {
    same = gained_lost ps (writer_state w) (writer_state v) (writer_state u) (writer_state t) put.gains none.same taken.loses;
    runs = runs_more ms ms (a + 2 + length ps) c w t (λ x there. there) enough
        (runs_then ms (a + 2) (length ps) w u t (runs_then ms a 2 w v u runs_before (runs_more (m ∷ []) ms 2 2 v u here (omega arith) none.runs)) (runs_more [] ms (length ps) (length ps) u t (none_among ms) (omega arith) taken.runs));
    free = taken.free;
  }

  half_undone : PutsNone (m ∷ []) 2 v u → StopsTaking ps u t → StopsPutting ms c w t
  half_undone none stops = record {
    keeps = gained_stopped ps (writer_state w) (writer_state v) (writer_state u) (writer_state t) put.gains none.same stops.keeps;
    cause = taken_within [] ms (none_among ms) (a + 2) (length ps) c w u t enough
        (runs_then ms a 2 w v u runs_before (runs_more (m ∷ []) ms 2 2 v u here (omega arith) none.runs)) stops.cause;
    stopped = stops.stopped;
  }

  pub undone_fault : (f g : PutFault) → IsPutFault (m ∷ []) 2 v u f → IsUndone ps u t f g → IsPutFault ms c w t g
  undone_fault fault.Stuck g is un = subst (IsPutFault ms c w t) (sym un.0) (subst (λ (x : WriterData). StopsPutting ms c w x) (sym un.1) record {
    keeps = gained_then_stopped ps (writer_state w) (writer_state v) (writer_state u) put.gains is.keeps;
    cause = taken_within (m ∷ []) ms here a 2 c w v u (omega (arith, enough)) runs_before is.cause;
    stopped = is.stopped;
  })
  undone_fault fault.Overlap g is un =
      let taken_runs = λ (k : Numbers) (taken : TakesAway ps k u t). runs_more [] ms (length ps) (length ps) u t (none_among ms) (omega arith) taken.runs in
      elim un [
        | inl back ↦ subst (IsPutFault ms c w t) (sym back.0) (undone is.0 back.1.0 back.1.1, overlap_within (m ∷ []) ms here a (length ps) w v u t runs_before is.1 (taken_runs back.1.0 back.1.1))
        | inr stopped ↦ subst (IsPutFault ms c w t) (sym stopped.0) (half_undone is.0 stopped.1)
      ]
  undone_fault fault.Full g is un =
      let taken_runs = λ (k : Numbers) (taken : TakesAway ps k u t). runs_more [] ms (length ps) (length ps) u t (none_among ms) (omega arith) taken.runs in
      elim un [
        | inl back ↦ subst (IsPutFault ms c w t) (sym back.0) (undone is.0 back.1.0 back.1.1, full_within (m ∷ []) ms here a (length ps) w v u t runs_before is.1 (taken_runs back.1.0 back.1.1))
        | inr stopped ↦ subst (IsPutFault ms c w t) (sym stopped.0) (half_undone is.0 stopped.1)
      ]

-- it may be undone
pub may_undo : (ps : List PlaceData) (m : Member) (a : ℕ) (n : Numbers) (w v u : WriterData) (f : PutFault) → Puts (placed_members ps) a ps n w v → IsPutFault (m ∷ []) 2 v u f → a + 2 + length ps ≤ w.me.left → UnlessStuck f (MayUndo ps u)
may_undo ps m a n w v u fault.Stuck put is enough = tt
may_undo ps m a n w v u fault.Overlap put is enough = record { free = is.0.free; left = (let x = put.runs.left in let y = is.0.runs.left in omega (arith, enough, x, y)); there = λ half test. (let g = gained_held ps (writer_state w) (writer_state v) put.gains half test in let s = is.0.same half test in omega (arith, g, s)) }
may_undo ps m a n w v u fault.Full put is enough = record { free = is.0.free; left = (let x = put.runs.left in let y = is.0.runs.left in omega (arith, enough, x, y)); there = λ half test. (let g = gained_held ps (writer_state w) (writer_state v) put.gains half test in let s = is.0.same half test in omega (arith, g, s)) }

-- ---- places of a list

unmapped : (P : Member → Type 0) (ps : List PlaceData) → All P (placed_members ps) → All (λ p. P p.member) ps
unmapped P [] all = All-nil (λ (p : PlaceData). P p.member)
unmapped P (p ∷ ps) all = All-cons (λ q. P q.member) p ps (All-head P p.member (placed_members ps) all) (unmapped P ps (All-tail P p.member (placed_members ps) all))

-- what holds of all members holds of that of a place
pub member_has : (P : Member → Type 0) (ps : List PlaceData) (i : ℕ) (x : PlaceData) → All P (placed_members ps) → i < length ps → x ≡ get_or ps i x → P x.member
member_has P ps i x all within is = All-contains (λ p. P p.member) ps x (unmapped P ps all) (i, within, sym is)

-- a place's member is among all
pub member_among : (ps : List PlaceData) (i : ℕ) (x : PlaceData) → i < length ps → x ≡ get_or ps i x → Contains (placed_members ps) x.member
member_among ps i x within is = member_has (Contains (placed_members ps)) ps i x (All-contains_itself (placed_members ps)) within is

-- and so are those of the first places
pub first_among : (ps : List PlaceData) (i : ℕ) (m : Member) → Contains (placed_members (take i ps)) m → Contains (placed_members ps) m
first_among ps i m there =
    let whole : placed_members (take i ps) ++ placed_members (drop i ps) ≡ placed_members ps = sym (map-append (λ p. p.member) (take i ps) (drop i ps)) ∙ ap placed_members (take-append-drop i ps) in
    subst (λ (ms : List Member). Contains ms m) whole (Contains-append_left (placed_members (take i ps)) (placed_members (drop i ps)) m there)

-- another half for a member changes no member
pub same_member : (ps : List PlaceData) (i : ℕ) (p x : PlaceData) → x ≡ get_or ps i x → p.member ≡ x.member → placed_members (set ps i p) ≡ placed_members ps
same_member [] i p x is same = refl
same_member (q ∷ ps) zero p x is same = ap (λ (m : Member). m ∷ placed_members ps) (same ∙ ap (λ (y : PlaceData). y.member) is)
same_member (q ∷ ps) (suc i) p x is same = ap (λ (ms : List Member). q.member ∷ ms) (same_member ps i p x is same)

pub among_one : (m x : Member) (ms : List Member) → Contains ms m → Contains (m ∷ []) x → Contains ms x
among_one m x ms there one = elim (first_or_later m [] x one) [
  | inl same ↦ subst (Contains ms) (sym same) there
  | inr later ↦ absurd (let within = later.1 in omega (arith, within))
]
