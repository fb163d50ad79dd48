-- Looking through call sites gives the one that counts, or the first that is refused before it.
use Rattle.std.proofs.Common.{◌≡◌, ℕ, zero, suc, ◌+◌, ◌-◌, ◌<◌, ◌≤◌, List, [], ◌∷◌, ◌++◌, length, Bool, true, false, cond, Option, Some, None, Result, Ok, Err, nat_eq, refl, sym, ap, subst, ◌∙◌, append_assoc, length-append, arith, inl, inr}
use Rattle.std.proofs.lemmas.Bool.{ne_eqb, eqb-true, eq-eqb, eqb-false}
use Rattle.std.proofs.lemmas.List.{nil_from_length}
use Rattle.eh_bytes.specs.CursorData.{CursorData}
use Rattle.eh_bytes.specs.Results.{◌and_then◌}
use Rattle.eh_bytes.proofs.Results.{ok_is, bind_ok, bind_err}
use Rattle.eh_bytes.proofs.Exact.{left, Takes, IsExact, then_exact, here_exact}
use Rattle.eh_bytes.proofs.Wholes.{TakesAll, IsWhole, filled_exact}
use Rattle.raise_phases.specs.declared.call_sites.CallSite.{CallSite}
use Rattle.raise_phases.specs.declared.call_sites.TableHeader.{TableHeader}
use Rattle.raise_phases.specs.declared.fault.LsdaFault.{LsdaFault}
use Rattle.raise_phases.specs.declared.fault.LsdaFault.TheVariants.{Short}
use Rattle.raise_phases.specs.CallSites.{call_site, site_covers, ArePassed, CountsIn, IsRefusedIn, look_through, covering_read, covering_site, sized_sites}
use Rattle.raise_phases.proofs.Fields.{call_site_exact, site_grows}

-- ---- what the bytes spell is found

some_bytes : (front back : List ℕ) → 1 ≤ length front → nat_eq (length (front ++ back)) 0 ≡ false
some_bytes front back some = ne_eqb (length (front ++ back)) 0 (λ e. absurd (omega (arith, e, some, length-append front back)))

passed_look : (n e d : ℕ) (passed : List CallSite) (p : ℕ) (text : List ℕ) → length text ≤ n → ArePassed e d p text passed → look_through n e d (left p text) ≡ Ok None
unfolding look_through
passed_look zero e d [] p text le a = refl
passed_look zero e d (s ∷ ss) p text le a = absurd (omega (arith, le, site_grows e p a.0 s a.3, ap length a.2, length-append a.0 a.1))
passed_look (suc n) e d [] p text le a =
    let none : nat_eq (length text) 0 ≡ true = eq-eqb (length text) 0 (ap length a) in
    rw none refl
passed_look (suc n) e d (s ∷ ss) p text le a =
    let grown = site_grows e p a.0 s a.3 in
    let some = some_bytes a.0 a.1 grown in
    let first = (call_site_exact e).again p a.0 a.1 s a.3 in
    let later = passed_look n e d ss (p + length a.0) a.1 (omega (arith, le, grown, ap length a.2, length-append a.0 a.1)) a.5 in
    ap (λ (l : List ℕ). look_through (suc n) e d (left p l)) a.2 ∙ rw (some, first, a.4, later) refl

counted_look : (n e d : ℕ) (passed : List CallSite) (p : ℕ) (front own back : List ℕ) (s : CallSite) → length (front ++ (own ++ back)) ≤ n → ArePassed e d p front passed
    → (call_site e).Spells (p + length front) own s → site_covers d s ≡ true → look_through n e d (left p (front ++ (own ++ back))) ≡ Ok (Some s)
unfolding look_through
counted_look zero e d passed p front own back s le a spells covers =
    absurd (omega (arith, le, site_grows e (p + length front) own s spells, length-append front (own ++ back), length-append own back))
counted_look (suc n) e d [] p front own back s le a spells covers =
    let whole : front ++ (own ++ back) ≡ own ++ back = ap (λ (l : List ℕ). l ++ (own ++ back)) a in
    let place : p + length front ≡ p = omega (arith, ap length a) in
    let here : (call_site e).Spells p own s = subst (λ (q : ℕ). (call_site e).Spells q own s) place spells in
    let some = some_bytes own back (site_grows e p own s here) in
    let first = (call_site_exact e).again p own back s here in
    ap (λ (l : List ℕ). look_through (suc n) e d (left p l)) whole ∙ rw (some, first, covers) refl
counted_look (suc n) e d (x ∷ xs) p front own back s le a spells covers =
    let grown = site_grows e p a.0 x a.3 in
    let rest = own ++ back in
    let regrouped : front ++ rest ≡ a.0 ++ (a.1 ++ rest) = ap (λ (l : List ℕ). l ++ rest) a.2 ∙ append_assoc a.0 a.1 rest in
    let some = some_bytes a.0 (a.1 ++ rest) grown in
    let first = (call_site_exact e).again p a.0 (a.1 ++ rest) x a.3 in
    let place : p + length front ≡ p + length a.0 + length a.1 = omega (arith, ap length a.2, length-append a.0 a.1) in
    let there = subst (λ (q : ℕ). (call_site e).Spells q own s) place spells in
    let later = counted_look n e d xs (p + length a.0) a.1 own back s (omega (arith, le, grown, ap length regrouped, length-append a.0 (a.1 ++ rest))) a.5 there covers in
    ap (λ (l : List ℕ). look_through (suc n) e d (left p l)) regrouped ∙ rw (some, first, a.4, later) refl

refused_look : (n e d : ℕ) (passed : List CallSite) (p : ℕ) (front back : List ℕ) (f : LsdaFault) → length (front ++ back) ≤ n → ArePassed e d p front passed
    → 0 < length back → (call_site e).Refuses (p + length front) back f → look_through n e d (left p (front ++ back)) ≡ Err f
unfolding look_through
refused_look zero e d passed p front back f le a some refusal = absurd (omega (arith, le, some, length-append front back))
refused_look (suc n) e d [] p front back f le a some refusal =
    let whole : front ++ back ≡ back = ap (λ (l : List ℕ). l ++ back) a in
    let place : p + length front ≡ p = omega (arith, ap length a) in
    let here = subst (λ (q : ℕ). (call_site e).Refuses q back f) place refusal in
    let on : nat_eq (length back) 0 ≡ false = ne_eqb (length back) 0 (λ e. absurd (omega (arith, e, some))) in
    let stopped = (call_site_exact e).refused p back f here in
    ap (λ (l : List ℕ). look_through (suc n) e d (left p l)) whole ∙ rw (on, stopped) refl
refused_look (suc n) e d (x ∷ xs) p front back f le a some refusal =
    let grown = site_grows e p a.0 x a.3 in
    let regrouped : front ++ back ≡ a.0 ++ (a.1 ++ back) = ap (λ (l : List ℕ). l ++ back) a.2 ∙ append_assoc a.0 a.1 back in
    let on = some_bytes a.0 (a.1 ++ back) grown in
    let first = (call_site_exact e).again p a.0 (a.1 ++ back) x a.3 in
    let place : p + length front ≡ p + length a.0 + length a.1 = omega (arith, ap length a.2, length-append a.0 a.1) in
    let there = subst (λ (q : ℕ). (call_site e).Refuses q back f) place refusal in
    let later = refused_look n e d xs (p + length a.0) a.1 back f (omega (arith, le, grown, ap length regrouped, length-append a.0 (a.1 ++ back))) a.5 some there in
    ap (λ (l : List ℕ). look_through (suc n) e d (left p l)) regrouped ∙ rw (on, first, a.4, later) refl

counts_look : (n e d p : ℕ) (text : List ℕ) (y : Option CallSite) → length text ≤ n → CountsIn e d p text y → look_through n e d (left p text) ≡ Ok y
counts_look n e d p text None le a = passed_look n e d a.0 p text le a.1
counts_look n e d p text (Some s) le a =
    ap (λ (l : List ℕ). look_through n e d (left p l)) a.4 ∙ counted_look n e d a.0 p a.1 a.2 a.3 s (omega (arith, le, ap length a.4)) a.5 a.6 a.7

refuses_look : (n e d p : ℕ) (bytes : List ℕ) (f : LsdaFault) → length bytes ≤ n → IsRefusedIn e d p bytes f → look_through n e d (left p bytes) ≡ Err f
refuses_look n e d p bytes f le a =
    ap (λ (l : List ℕ). look_through n e d (left p l)) a.3 ∙ refused_look n e d a.0 p a.1 a.2 f (omega (arith, le, ap length a.3)) a.4 a.5 a.6

-- ---- and what is found is spelled

abbrev Outcome : ℕ → ℕ → CursorData → Result (Option CallSite) LsdaFault → Type 0
Outcome e d r (Ok y) = CountsIn e d r.at r.bytes y
Outcome e d r (Err f) = IsRefusedIn e d r.at r.bytes f

outcome_later : (e d : ℕ) (r : CursorData) (s : CallSite) (mid : CursorData) (m : Result (Option CallSite) LsdaFault) → Takes (call_site e) r s mid → site_covers d s ≡ false → Outcome e d mid m → Outcome e d r m
outcome_later e d r s mid (Ok None) t out o =
    (s ∷ o.0, (t.front, mid.bytes, t.parts, t.spells, out, subst (λ (p : ℕ). ArePassed e d p mid.bytes o.0) t.place o.1))
outcome_later e d r s mid (Ok (Some y)) t out o =
    let whole : r.bytes ≡ (t.front ++ o.1) ++ (o.2 ++ o.3) = t.parts ∙ ap (λ (l : List ℕ). t.front ++ l) o.4 ∙ sym (append_assoc t.front o.1 (o.2 ++ o.3)) in
    let place : mid.at + length o.1 ≡ r.at + length (t.front ++ o.1) = omega (arith, t.place, length-append t.front o.1) in (
      s ∷ o.0,
      t.front ++ o.1,
      o.2,
      o.3,
      whole,
      (t.front, o.1, refl, t.spells, out, subst (λ (p : ℕ). ArePassed e d p o.1 o.0) t.place o.5),
      subst (λ (q : ℕ). (call_site e).Spells q o.2 y) place o.6,
      o.7,
    )
outcome_later e d r s mid (Err f) t out o =
    let whole : r.bytes ≡ (t.front ++ o.1) ++ o.2 = t.parts ∙ ap (λ (l : List ℕ). t.front ++ l) o.3 ∙ sym (append_assoc t.front o.1 o.2) in
    let place : mid.at + length o.1 ≡ r.at + length (t.front ++ o.1) = omega (arith, t.place, length-append t.front o.1) in (
      s ∷ o.0,
      t.front ++ o.1,
      o.2,
      whole,
      (t.front, o.1, refl, t.spells, out, subst (λ (p : ℕ). ArePassed e d p o.1 o.0) t.place o.4),
      o.5,
      subst (λ (q : ℕ). (call_site e).Refuses q o.2 f) place o.6,
    )

outcome_tested : (n e d : ℕ) (r : CursorData) (s : CallSite) (mid : CursorData) (b : Bool) → Takes (call_site e) r s mid → site_covers d s ≡ b → Outcome e d mid (look_through n e d mid)
    → Outcome e d r (cond b (Ok (Some s)) (look_through n e d mid))
outcome_tested n e d r s mid true t in_it later =
    let place : r.at ≡ r.at + 0 = omega arith in
    ([], [], t.front, mid.bytes, t.parts, refl, subst (λ (q : ℕ). (call_site e).Spells q t.front s) place t.spells, in_it)
outcome_tested n e d r s mid false t out later = outcome_later e d r s mid (look_through n e d mid) t out later

outcome_step : (n e d : ℕ) (r : CursorData) (m : Result (CallSite × CursorData) LsdaFault) → (call_site e).read r ≡ m → 0 < length r.bytes → length r.bytes ≤ suc n
    → ((mid : CursorData) → length mid.bytes ≤ n → Outcome e d mid (look_through n e d mid))
    → Outcome e d r (◌and_then◌ m (λ x. cond (site_covers d x.0) (Ok (Some x.0)) (look_through n e d x.1)))
outcome_step n e d r (Ok x) eq some le more =
    let t = (call_site_exact e).takes r x.0 x.1 eq in
    let grown = site_grows e r.at t.front x.0 t.spells in
    outcome_tested n e d r x.0 x.1 (site_covers d x.0) t refl (more x.1 (omega (arith, le, grown, ap length t.parts, length-append t.front x.1.bytes)))
outcome_step n e d r (Err f) eq some le more =
    let refusal = (call_site_exact e).refuses r f eq in
    let place : r.at ≡ r.at + 0 = omega arith in
    ([], [], r.bytes, refl, refl, some, subst (λ (q : ℕ). (call_site e).Refuses q r.bytes f) place refusal)

outcome_test : (n e d : ℕ) (r : CursorData) (b : Bool) → nat_eq (length r.bytes) 0 ≡ b → length r.bytes ≤ suc n → ((mid : CursorData) → length mid.bytes ≤ n → Outcome e d mid (look_through n e d mid))
    → Outcome e d r (cond b (Ok None) (◌and_then◌ ((call_site e).read r) (λ x. cond (site_covers d x.0) (Ok (Some x.0)) (look_through n e d x.1))))
outcome_test n e d r true eq le more = ([], nil_from_length r.bytes (eqb-true _ _ eq))
outcome_test n e d r false eq le more =
    let other : length r.bytes ≡ 0 → ⊥ = eqb-false _ _ eq in
    outcome_step n e d r ((call_site e).read r) refl (omega arith) le more

look_outcome : (n e d : ℕ) (r : CursorData) → length r.bytes ≤ n → Outcome e d r (look_through n e d r)
unfolding look_through
look_outcome zero e d r le = ([], nil_from_length r.bytes (omega (arith, le)))
look_outcome (suc n) e d r le = outcome_test n e d r (nat_eq (length r.bytes) 0) refl le (λ mid h. look_outcome n e d mid h)

outcome_is : (e d : ℕ) (r : CursorData) (m k : Result (Option CallSite) LsdaFault) → m ≡ k → Outcome e d r m → Outcome e d r k
outcome_is e d r m k eq o = subst (λ (v : Result (Option CallSite) LsdaFault). Outcome e d r v) eq o

covering_whole : (e d : ℕ) → IsWhole (covering_site e d)
unfolding covering_site
covering_whole e d = record {
  takes = λ r y behind eq.
      let a = bind_ok (covering_read e d r) (λ s. Ok (s, left (r.at + length r.bytes) [])) (y, behind) eq in
      let o = outcome_is e d r (covering_read e d r) (Ok a.0) a.1 (look_outcome (length r.bytes) e d r (omega arith)) in
      let same : (a.0, left (r.at + length r.bytes) []) ≡ (y, behind) = ok_is {F = LsdaFault} (a.0, left (r.at + length r.bytes) []) (y, behind) a.2 in
      let made : TakesAll (covering_site e d) r a.0 (left (r.at + length r.bytes) []) = record { nothing = refl; spells = o } in
      subst (λ (z : Option CallSite × CursorData). TakesAll (covering_site e d) r z.0 z.1) same made;
  refuses = λ r f eq.
      elim (bind_err (covering_read e d r) (λ s. Ok (s, left (r.at + length r.bytes) [])) f eq) [
        | inl stopped ↦ outcome_is e d r (covering_read e d r) (Err f) stopped (look_outcome (length r.bytes) e d r (omega arith))
        | inr a ↦ absurd (let never = a.2 in cc)
      ];
  again = λ p text y s. rw (counts_look (length text) e d p text y (omega arith) s) refl;
  refused = λ p bytes f s. rw (refuses_look (length bytes) e d p bytes f (omega arith) s) refl;
}

pub sized_exact : (d : ℕ) (h : TableHeader) → IsExact (sized_sites d h)
unfolding sized_sites
sized_exact d h = then_exact _ _ here_exact (λ at. filled_exact (Short at) h.length _ (covering_whole h.encoding d))

-- ---- with more turns than bytes, looking gives the same

enough : (n e d : ℕ) (r : CursorData) (v : Result (Option CallSite) LsdaFault) → length r.bytes ≤ n → Outcome e d r v → look_through n e d r ≡ v
enough n e d r (Ok y) le o = counts_look n e d r.at r.bytes y le o
enough n e d r (Err f) le o = refuses_look n e d r.at r.bytes f le o

look_enough : (n m e d : ℕ) (r : CursorData) → length r.bytes ≤ n → length r.bytes ≤ m → look_through n e d r ≡ look_through m e d r
look_enough n m e d r le less = enough n e d r (look_through m e d r) le (look_outcome m e d r less)

-- ---- call site by call site

pub site_shrinks : (e : ℕ) (r : CursorData) (s : CallSite) (mid : CursorData) → (call_site e).read r ≡ Ok (s, mid) → length mid.bytes < length r.bytes
site_shrinks e r s mid eq =
    let t = (call_site_exact e).takes r s mid eq in
    let grown = site_grows e r.at t.front s t.spells in
    omega (arith, grown, ap length t.parts, length-append t.front mid.bytes)

pub site_passed : (e d : ℕ) (r : CursorData) (s : CallSite) (mid : CursorData) → 0 < length r.bytes → (call_site e).read r ≡ Ok (s, mid) → site_covers d s ≡ false
    → covering_read e d r ≡ covering_read e d mid
unfolding look_through
site_passed e d r s mid some eq out =
    let less = site_shrinks e r s mid eq in
    let size : length r.bytes ≡ suc (length r.bytes - 1) = omega (arith, some) in
    let on : nat_eq (length r.bytes) 0 ≡ false = ne_eqb (length r.bytes) 0 (λ none. absurd (omega (arith, none, some))) in
    let first : look_through (suc (length r.bytes - 1)) e d r ≡ look_through (length r.bytes - 1) e d mid = rw (on, eq, out) refl in
    ap (λ (k : ℕ). look_through k e d r) size ∙ first ∙ look_enough (length r.bytes - 1) (length mid.bytes) e d mid (omega (arith, less)) (omega arith)

pub site_found : (e d : ℕ) (r : CursorData) (s : CallSite) (mid : CursorData) → 0 < length r.bytes → (call_site e).read r ≡ Ok (s, mid) → site_covers d s ≡ true
    → covering_read e d r ≡ Ok (Some s)
unfolding look_through
site_found e d r s mid some eq covers =
    let size : length r.bytes ≡ suc (length r.bytes - 1) = omega (arith, some) in
    let on : nat_eq (length r.bytes) 0 ≡ false = ne_eqb (length r.bytes) 0 (λ none. absurd (omega (arith, none, some))) in
    let first : look_through (suc (length r.bytes - 1)) e d r ≡ Ok (Some s) = rw (on, eq, covers) refl in
    ap (λ (k : ℕ). look_through k e d r) size ∙ first

pub site_refused : (e d : ℕ) (r : CursorData) (f : LsdaFault) → 0 < length r.bytes → (call_site e).read r ≡ Err f → covering_read e d r ≡ Err f
unfolding look_through
site_refused e d r f some eq =
    let size : length r.bytes ≡ suc (length r.bytes - 1) = omega (arith, some) in
    let on : nat_eq (length r.bytes) 0 ≡ false = ne_eqb (length r.bytes) 0 (λ none. absurd (omega (arith, none, some))) in
    let first : look_through (suc (length r.bytes - 1)) e d r ≡ Err f = rw (on, eq) refl in
    ap (λ (k : ℕ). look_through k e d r) size ∙ first

pub no_site : (e d : ℕ) (r : CursorData) → length r.bytes ≤ 0 → covering_read e d r ≡ Ok None
unfolding look_through
no_site e d r le =
    let none : length r.bytes ≡ 0 = omega (arith, le) in
    ap (λ (k : ℕ). look_through k e d r) none
