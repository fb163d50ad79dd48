-- That no two entries have one span: as entries move, come and go.
use Rattle.std.proofs.Common.{◌≡◌, ◌≢◌, ℕ, zero, suc, List, [], ◌∷◌, take, sym, refl, ap, subst, ◌∙◌, Bool, true, false, Some, None, cond, ◌==◌}
use Rattle.std.proofs.lemmas.Bool.{false≢true}
use Rattle.std.specs.List.{AllByRecursion}
use Rattle.reg_model.specs.Query.{member_at}
use Rattle.reg_model.specs.SpanData.{SpanData, contains}
use Rattle.reg_model.specs.declared.span.Member.{Member}
use Rattle.word_rule.proofs.Each.{all_with}
use Rattle.word_rule.proofs.TreeRefusals.{found_there}
use Rattle.frame_cache.specs.CacheData.{HaveOwnSpans, but_found, kept_entries}
use Rattle.frame_cache.proofs.Fitting.{others_are}

abbrev Differs : SpanData → Member → Type 0
Differs span other = other.span ≢ span

pub own_kept : (stamp before : ℕ) (entries : List Member) → HaveOwnSpans entries → HaveOwnSpans (kept_entries stamp before entries)
own_kept stamp before entries own = go (stamp == before)
  where
    go : (b : Bool) → HaveOwnSpans (cond b entries [])
    go true = own
    go false = tt

-- the one that is found comes first
pub own_front : (pc : ℕ) (m : Member) (entries : List Member) → member_at pc entries ≡ Some m → HaveOwnSpans entries → HaveOwnSpans (m ∷ but_found pc entries)
own_front pc m [] found own = absurd cc
own_front pc m (x ∷ entries) found own = go (contains x.span pc) found (λ found. own_front pc m entries found own.1)
  where
    go : (b : Bool) → cond b (Some x) (member_at pc entries) ≡ Some m → (member_at pc entries ≡ Some m → HaveOwnSpans (m ∷ but_found pc entries)) → HaveOwnSpans (m ∷ cond b entries (x ∷ but_found pc entries))
    go true found front = subst (λ z. HaveOwnSpans (z ∷ entries)) (let e : x ≡ m = cc in e) own
    go false found front =
        let rest = front found in
        let apart : m.span ≢ x.span = all_with (Differs x.span) entries m own.0 (found_there pc entries m found).0 in
        (((λ e. apart (sym e)), rest.0), (others_are (Differs x.span) pc entries own.0, rest.1))

none_has : (pc : ℕ) (m : Member) (entries : List Member) → member_at pc entries ≡ None → contains m.span pc ≡ true → AllByRecursion (Differs m.span) entries
none_has pc m [] none here = tt
none_has pc m (x ∷ entries) none here = go (contains x.span pc) refl none (λ none. none_has pc m entries none here)
  where
    go : (b : Bool) → contains x.span pc ≡ b → cond b (Some x) (member_at pc entries) ≡ None → (member_at pc entries ≡ None → AllByRecursion (Differs m.span) entries) → AllByRecursion (Differs m.span) (x ∷ entries)
    go true is none rest = absurd cc
    go false is none rest = ((λ e. false≢true (sym is ∙ (ap (λ (span : SpanData). contains span pc) e ∙ here))), rest none)

first_apart : (span : SpanData) (n : ℕ) (entries : List Member) → AllByRecursion (Differs span) entries → AllByRecursion (Differs span) (take n entries)
first_apart span zero entries all = tt
first_apart span (suc n) [] all = tt
first_apart span (suc n) (x ∷ entries) all = (all.0, first_apart span n entries all.1)

own_first : (n : ℕ) (entries : List Member) → HaveOwnSpans entries → HaveOwnSpans (take n entries)
own_first zero entries own = tt
own_first (suc n) [] own = tt
own_first (suc n) (x ∷ entries) own = (first_apart x.span n entries own.0, own_first n entries own.1)

kept_none : (pc stamp before : ℕ) (entries : List Member) → member_at pc entries ≡ None → member_at pc (kept_entries stamp before entries) ≡ None
kept_none pc stamp before entries none = go (stamp == before)
  where
    go : (b : Bool) → member_at pc (cond b entries []) ≡ None
    go true = none
    go false = refl

-- a new one comes first, at a stamp
pub own_entry : (pc stamp before : ℕ) (m : Member) (entries : List Member) → member_at pc entries ≡ None → contains m.span pc ≡ true → HaveOwnSpans entries → HaveOwnSpans (take 8 (m ∷ kept_entries stamp before entries))
own_entry pc stamp before m entries none here own =
    let kept = kept_entries stamp before entries in
    own_first 8 (m ∷ kept) (none_has pc m kept (kept_none pc stamp before entries none) here, own_kept stamp before entries own)
