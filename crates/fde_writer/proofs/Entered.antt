-- What entering a section under its key makes of the book.
use Rattle.std.proofs.Common.{◌≡◌, ℕ, ◌+◌, ◌*◌, List, [], ◌∷◌, ◌++◌, Option, Some, None, IfSome, IfNone, sym, ap, ◌∙◌, subst, arith, inl, inr, ◌⊎◌, length, length-append}
use Rattle.std.specs.List.{Contains, sum_by}
use Rattle.std.proofs.lemmas.List.{length-map, same_from_push}
use Rattle.std.proofs.lemmas.List.Elements.{Contains-push_cases}
use Rattle.std.proofs.lemmas.List.Sums.{sum_by_push}
use Rattle.reg_model.specs.declared.span.Member.{Member}
use Rattle.sole_writer.specs.Writers.{WriterData}
use Rattle.fde_writer.specs.Places.{PlaceData, placed_members}
use Rattle.fde_writer.specs.Puttings.{Enters, Puts}
use Rattle.fde_writer.specs.Standing.{HasAsMany, HasMembersOf, LeavesStanding, Rewrites, StandingData, Standings, all_standing, standing_sum, standing_under}
use Rattle.fde_writer.specs.declared.outcome.Numbers.{Numbers}

-- a section that was pushed, or another of before
of_pushed : (key : ℕ) (x : StandingData) (es fs : Standings) → Rewrites key (standing_under key es) (standing_under key es ++ x ∷ []) es fs → (y : StandingData) → Contains (all_standing fs) y → Contains (all_standing es) y ⊎ (x ≡ y)
of_pushed key x es fs pushes y there = elim (pushes.kept y there) [
  | inl before ↦ inl before
  | inr now ↦ elim (Contains-push_cases (standing_under key es) x y now) [
    | inl was ↦ inl (pushes.listed y was)
    | inr is ↦ inr is
  ]
]

itself : (x y : StandingData) → x ≡ y → HasMembersOf x y
itself x y same = record { section = ap (λ (z : StandingData). z.section) (sym same); members = ap (λ (z : StandingData). placed_members z.places) (sym same) }

pub entered : (key : ℕ) (x : StandingData) (numbers : Numbers) (places : List PlaceData) (w w' : WriterData) (es fs gs : Standings) → Puts (placed_members x.places) (2 * length x.places) places numbers w w'
    → Rewrites key (standing_under key es) (standing_under key es ++ x ∷ []) es fs
    → ((earlier : List StandingData) (z : StandingData) → standing_under key fs ≡ earlier ++ z ∷ [] → Rewrites key (earlier ++ z ∷ []) (earlier ++ record z { places = places } ∷ []) fs gs)
    → Enters key x numbers w w' es gs
entered key x numbers places w w' es fs gs puts pushes settles =
    let under = standing_under key es in
    let now : StandingData = record x { places = places } in
    let set = settles under x pushes.after in
    record {
      places = places;
      puts = puts;
      here = set.after;
      others = λ other apart. set.others other apart ∙ pushes.others other apart;
      weighs = λ f. (let a = pushes.weighs f in let b = set.weighs f in let p = sum_by_push f under x in let q = sum_by_push f under now in omega (arith, a, b, p, q));
      of_before = λ y there. elim (set.kept y there) [
        | inl between ↦ elim (of_pushed key x es fs pushes y between) [ inl before ↦ inl before | inr same ↦ inr (itself x y same) ]
        | inr after ↦ elim (Contains-push_cases under now y after) [
          | inl was ↦ inl (pushes.listed y was)
          | inr same ↦ inr (record { section = ap (λ (z : StandingData). z.section) (sym same); members = ap (λ (z : StandingData). placed_members z.places) (sym same) ∙ puts.whole })
        ]
      ];
    }

-- as many members were put as were entered
pub as_many : (key : ℕ) (x : StandingData) (numbers : Numbers) (places : List PlaceData) (w w' : WriterData) (es fs : Standings) → Puts (placed_members x.places) (2 * length x.places) places numbers w w'
    → Rewrites key (standing_under key es) (standing_under key es ++ x ∷ []) es fs → HasAsMany places (standing_under key fs)
as_many key x numbers places w w' es fs puts pushes = λ earlier z e.
    let member : PlaceData → Member = λ p. p.member in
    let put : length (placed_members places) ≡ length places = length-map places member in
    let entered : length (placed_members x.places) ≡ length x.places = length-map x.places member in
    let same = same_from_push (standing_under key es) earlier x z (sym pushes.after ∙ e) in
    sym put ∙ ap length puts.whole ∙ entered ∙ ap (λ (y : StandingData). length y.places) same.1

-- where each member was put as it was entered
pub entered_alike : (key : ℕ) (x : StandingData) (numbers : Numbers) (places : List PlaceData) (w w' : WriterData) (es fs : Standings) → Puts (placed_members x.places) (2 * length x.places) places numbers w w'
    → Rewrites key (standing_under key es) (standing_under key es ++ x ∷ []) es fs → places ≡ x.places → Enters key x numbers w w' es fs
entered_alike key x numbers places w w' es fs puts pushes same = record {
  places = places;
  puts = puts;
  here = subst (λ (ps : List PlaceData). standing_under key fs ≡ standing_under key es ++ record x { places = ps } ∷ []) (sym same) pushes.after;
  others = pushes.others;
  weighs = λ f. subst (λ (ps : List PlaceData). standing_sum f fs ≡ standing_sum f es + f (record x { places = ps })) (sym same) (let a = pushes.weighs f in let p = sum_by_push f (standing_under key es) x in omega (arith, a, p));
  of_before = λ y there. elim (of_pushed key x es fs pushes y there) [ inl before ↦ inl before | inr is ↦ inr (itself x y is) ];
}

-- a section that was pushed and taken out again
pub left : (key : ℕ) (x : StandingData) (r : Option StandingData) (es fs gs : Standings) → Rewrites key (standing_under key es) (standing_under key es ++ x ∷ []) es fs
    → IfSome r (λ y. Rewrites key (standing_under key gs ++ y ∷ []) (standing_under key gs) fs gs) → IfNone r ((standing_under key fs ≡ []) × (gs ≡ fs)) → LeavesStanding x es gs
left key x None es fs gs pushes pops none =
    absurd (let e : length (standing_under key es ++ x ∷ []) ≡ 0 = ap length (sym pushes.after ∙ none.0) in let n = length-append (standing_under key es) (x ∷ []) in omega (arith, e, n))
left key x (Some y) es fs gs pushes pops none =
    let under = standing_under key es in
    let parts = same_from_push under (standing_under key gs) x y (sym pushes.after ∙ pops.before) in
    record {
      same = λ other. (elim (Rattle.std.proofs.lemmas.Bool.Decides.eqb_tells other key) [
        | inl same ↦ subst (λ (k : ℕ). standing_under k gs ≡ standing_under k es) (sym same.1) (sym parts.0)
        | inr apart ↦ pops.others other apart.1 ∙ pushes.others other apart.1
      ]);
      weighs = λ f. (let a = pushes.weighs f in let b = pops.weighs f in let p = sum_by_push f under x in let q = sum_by_push f (standing_under key gs) y in
          let same_x : f x ≡ f y = ap f parts.1 in let same_u : sum_by f under ≡ sum_by f (standing_under key gs) = ap (sum_by f) parts.0 in omega (arith, a, b, p, q, same_x, same_u));
      of_before = λ z there. elim (pops.kept z there) [
        | inl between ↦ elim (of_pushed key x es fs pushes z between) [ inl before ↦ inl before | inr same ↦ inr (itself x z same) ]
        | inr now ↦ inl (pushes.listed z (subst (λ (u : List StandingData). Contains u z) (sym parts.0) now))
      ];
    }
