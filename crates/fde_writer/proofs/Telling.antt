-- What hits and misses of a registry tell of sections.
use Rattle.std.proofs.Common.{◌≡◌, ℕ, ◌+◌, ◌-◌, ◌<◌, ◌^◌, List, [], ◌∷◌, Bool, true, false, cond, None, Some, refl, sym, ap, ◌∙◌, subst, arith, leb, ltb, inl, inr, ◌⊎◌, map, take, true≢false}
use Rattle.std.specs.List.{All, Contains, filter}
use Rattle.std.proofs.lemmas.Bool.{and_parts, le-leb, ltb-true}
use Rattle.std.proofs.lemmas.List.Elements.{All-take, Contains-append_right}
use Rattle.frame_parse.specs.Entries.{FdeRecord}
use Rattle.frame_parse.specs.Sections.{SectionData, covers}
use Rattle.fde_members.proofs.Covers.{first_or_later}
use Rattle.fde_members.specs.Members.{AddsOnly, LeadsToFde, fde_member, is_kept}
use Rattle.reg_model.specs.History.{state_after, state_at}
use Rattle.reg_model.specs.Query.{query}
use Rattle.reg_model.specs.SpanData.{contains}
use Rattle.reg_model.specs.State.{State, opening}
use Rattle.reg_model.specs.declared.answer.Half.{Half}
use Rattle.reg_model.specs.declared.answer.Half.TheVariants as half
use Rattle.reg_model.specs.declared.answer.Update.{Update}
use Rattle.reg_model.specs.declared.span.Member.{Member}
use Rattle.word_rule.specs.Callers.{start}
use Rattle.fde_writer.specs.Places.{PlaceData, placed_members}
use Rattle.fde_writer.specs.Sections.{FdeWriterData, IsFdeWriter, IsStanding, StandsIn}
use Rattle.fde_writer.specs.Standing.{StandingData}

pub given_hit : ((low loads : ℕ) (sections : List SectionData) (history : List Update) (h : Half) (pc : ℕ) (m : Member) → low < 2 ^ 64 → m.span.first < 2 ^ 64 → All (AddsOnly low sections) history → query h pc (state_after (opening [] loads) history) ≡ Some m → LeadsToFde low sections pc m)
    → (u : FdeWriterData) (k : ℕ) (h : Half) (pc : ℕ) (m : Member) → IsFdeWriter u → u.low < 2 ^ 64 → m.span.first < 2 ^ 64 → query h pc (state_at (start u.client.words.terms) u.client.me.log.past k) ≡ Some m → LeadsToFde u.low u.ever pc m
given_hit law u k h pc m is low first found =
    law u.low u.client.words.terms.loads u.ever (take k u.client.me.log.past) h pc m low first (All-take (AddsOnly u.low u.ever) k u.client.me.log.past is.added)
    (subst (λ (fixed : List Member). query h pc (state_after (opening fixed u.client.words.terms.loads) (take k u.client.me.log.past)) ≡ Some m) is.empty found)

-- the place of a member
placed : (ps : List PlaceData) (m : Member) → Contains (placed_members ps) m → (p : PlaceData) × (Contains ps p × (p.member ≡ m))
placed [] m there = absurd (let within = there.1 in omega (arith, within))
placed (p ∷ ps) m there = elim (first_or_later p.member (placed_members ps) m there) [
  | inl same ↦ (p, ((0, omega arith, refl), sym same))
  | inr later ↦ (let found = placed ps m later in (found.0, (Contains-append_right (p ∷ []) ps found.0 found.1.0, found.1.1)))
]

-- an FDE with addresses has its member among the section's
has_member : (low address : ℕ) (fs : List FdeRecord) (f : FdeRecord) → Contains fs f → is_kept f ≡ true → Contains (map (fde_member low address) (filter is_kept fs)) (fde_member low address f)
has_member low address [] f there kept = absurd (let within = there.1 in omega (arith, within))
has_member low address (g ∷ fs) f there kept = go (is_kept g) refl (λ later. has_member low address fs f later kept) (first_or_later g fs f there)
  where
    member : FdeRecord → Member
    member = fde_member low address

    go : (b : Bool) → is_kept g ≡ b → (Contains fs f → Contains (map member (filter is_kept fs)) (member f)) → (f ≡ g) ⊎ Contains fs f
        → Contains (map member (cond b (g ∷ filter is_kept fs) (filter is_kept fs))) (member f)
    go true is rest (inl same) = (0, omega arith, ap member (sym same))
    go true is rest (inr later) = Contains-append_right (member g ∷ []) (map member (filter is_kept fs)) (member f) (rest later)
    go false is rest (inl same) = absurd (true≢false (sym kept ∙ ap is_kept same ∙ is))
    go false is rest (inr later) = rest later

-- an address that an FDE covers is one of its member's
covered : (low address pc : ℕ) (f : FdeRecord) → covers pc f ≡ true → contains (fde_member low address f).span pc ≡ true
covered low address pc f has =
    let parts = and_parts (leb f.first pc) (ltb pc (f.first + f.range)) has in
    let below = ltb-true pc (f.first + f.range) parts.1 in
    let upto : leb pc (f.first + f.range - 1) ≡ true = le-leb pc (f.first + f.range - 1) (omega (arith, below)) in
    rw (parts.0, upto) refl

pub missed : ((s : State) (pc : ℕ) (m : Member) → query half.Registered pc s ≡ None → Contains s.registered m → contains m.span pc ≡ false)
    → ((s : State) (pc : ℕ) (m : Member) → query half.Loaded pc s ≡ None → Contains s.loaded m → contains m.span pc ≡ false)
    → (u : FdeWriterData) (x : StandingData) (s t : State) (pc : ℕ) (f : FdeRecord) → IsStanding u.low u.ever x → StandsIn half.Registered x s → StandsIn half.Loaded x t
    → query half.Registered pc s ≡ None → query half.Loaded pc t ≡ None → Contains x.section.fdes f → is_kept f ≡ true → covers pc f ≡ false
missed registered loaded u x s t pc f is in_s in_t none_s none_t among kept = go (covers pc f) refl
  where
    m : Member
    m = fde_member u.low x.section.address f

    p : (p : PlaceData) × (Contains x.places p × (p.member ≡ m))
    p = placed x.places m (subst (λ (ms : List Member). Contains ms m) (sym is.whole) (has_member u.low x.section.address x.section.fdes f among kept))

    free : (h : Half) → p.0.half ≡ h → contains m.span pc ≡ false
    free half.Registered here = subst (λ (y : Member). contains y.span pc ≡ false) p.1.1 (registered s pc p.0.member none_s (in_s p.0 p.1.0 here))
    free half.Loaded here = subst (λ (y : Member). contains y.span pc ≡ false) p.1.1 (loaded t pc p.0.member none_t (in_t p.0 p.1.0 here))

    go : (b : Bool) → covers pc f ≡ b → b ≡ false
    go false has = refl
    go true has = absurd (true≢false (sym (covered u.low x.section.address pc f has) ∙ free p.0.half refl))
