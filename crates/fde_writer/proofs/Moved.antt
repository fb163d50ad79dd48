-- The members of a section, moved to another registry.
use Rattle.std.proofs.Common.{◌≡◌, ℕ, ◌+◌, ◌≤◌, ◌<◌, ◌^◌, List, [], ◌∷◌, ◌++◌, Bool, true, false, cond, not, Some, refl, sym, ap, ◌∙◌, subst, arith, length, map, take, drop, get_or, append_assoc}
use Rattle.std.specs.List.{All, filter, find}
use Rattle.std.proofs.lemmas.List.{map-append, map_push, take-append-drop, take_all, take_more}
use Rattle.std.proofs.lemmas.List.Elements.{All-head, All-push, All-same, All-tail, All-weaker}
use Rattle.frame_parse.specs.Entries.{FdeRecord}
use Rattle.frame_parse.specs.Sections.{SectionData}
use Rattle.fde_members.specs.Members.{AreNear, distance, fde_address, fde_member, fde_place, is_kept, is_near, section_members}
use Rattle.fde_members.specs.declared.members.MembersFault.{MembersFault}
use Rattle.fde_members.specs.declared.members.MembersFault.TheVariants.{Far, NoMemory}
use Rattle.reg_model.specs.SpanData.{IsSpan}
use Rattle.reg_model.specs.declared.span.Member.{Member}
use Rattle.fde_writer.specs.Moves.{IsMoveFault, moved_member, moved_members}
use Rattle.fde_writer.specs.Outcomes.{IsRegistration, refused}
use Rattle.fde_writer.specs.Places.{PlaceData, placed_members}
use Rattle.fde_writer.specs.Sections.{FdeWriterData}

-- the first item that a test picks
first_picked : {X : Type 0} (test : X → Bool) (items : List X) (x : X) (rest : List X) → All (λ y. test y ≡ false) items → test x ≡ true → find test (items ++ x ∷ rest) ≡ Some x
first_picked test [] x rest none picks = ap (λ (b : Bool). cond b (Some x) (find test rest)) picks
first_picked test (y ∷ items) x rest none picks =
    ap (λ (b : Bool). cond b (Some y) (find test (items ++ x ∷ rest))) (All-head (λ z. test z ≡ false) y items none) ∙ first_picked test items x rest (All-tail (λ z. test z ≡ false) y items none) picks

next_member : (ps : List PlaceData) (i : ℕ) (x : PlaceData) → i < length ps → x ≡ get_or ps i x → placed_members (take (i + 1) ps) ≡ placed_members (take i ps) ++ x.member ∷ []
next_member ps i x within is =
    ap placed_members (take_more ps i x within ∙ ap (λ (y : PlaceData). take i ps ++ y ∷ []) (sym is)) ∙ map_push (λ (p : PlaceData). p.member) (take i ps) x

pub spans_more : (ps : List PlaceData) (i : ℕ) (x : PlaceData) → i < length ps → x ≡ get_or ps i x → All (λ m. IsSpan m.span) (placed_members (take i ps)) → IsSpan x.member.span → All (λ m. IsSpan m.span) (placed_members (take (i + 1) ps))
spans_more ps i x within is all span =
    All-same (λ (m : Member). IsSpan m.span) (placed_members (take (i + 1) ps)) (placed_members (take i ps) ++ x.member ∷ []) (next_member ps i x within is) (All-push (λ m. IsSpan m.span) (placed_members (take i ps)) x.member all span)

pub spans_all : (ps : List PlaceData) (i : ℕ) → length ps ≤ i → All (λ m. IsSpan m.span) (placed_members (take i ps)) → All (λ m. IsSpan m.span) (placed_members ps)
spans_all ps i end all = subst (λ (qs : List PlaceData). All (λ m. IsSpan m.span) (placed_members qs)) (take_all i ps end) all

pub move_fault : (from to : ℕ) (ps : List PlaceData) (i : ℕ) (x : PlaceData) (items : List Member) (fault : MembersFault) → i < length ps → x ≡ get_or ps i x → items ≡ moved_members from to (placed_members (take i ps)) → AreNear items
    → fault ≡ Far (moved_member from to x.member).payload → is_near (moved_member from to x.member) ≡ false → IsMoveFault from to (placed_members ps) fault
move_fault from to ps i x items fault within is so_far near told far =
    let m = moved_member from to x.member in
    let rest = moved_members from to (placed_members (drop (i + 1) ps)) in
    let parts : placed_members ps ≡ placed_members (take (i + 1) ps) ++ placed_members (drop (i + 1) ps) =
    ap placed_members (sym (take-append-drop (i + 1) ps)) ∙ map-append (λ (p : PlaceData). p.member) (take (i + 1) ps) (drop (i + 1) ps) in
    let whole : moved_members from to (placed_members ps) ≡ items ++ m ∷ rest =
    ap (moved_members from to) (parts ∙ ap (λ (ms : List Member). ms ++ placed_members (drop (i + 1) ps)) (next_member ps i x within is))
    ∙ map-append (moved_member from to) (placed_members (take i ps) ++ x.member ∷ []) (placed_members (drop (i + 1) ps))
    ∙ ap (λ (ms : List Member). ms ++ rest) (map_push (moved_member from to) (placed_members (take i ps)) x.member ∙ ap (λ (ms : List Member). ms ++ m ∷ []) (sym so_far))
    ∙ append_assoc items (m ∷ []) rest in
    subst (IsMoveFault from to (placed_members ps)) (sym told) (m, ap (find (λ y. not (is_near y))) whole ∙ first_picked (λ y. not (is_near y)) items m rest (All-weaker (λ y. is_near y ≡ true) (λ y. not (is_near y) ≡ false) (λ y is_so. ap not is_so) items near) (ap not far), refl)

-- the payloads of members of FDEs lead to these
abbrev pub PayloadsLead : Type 0
PayloadsLead = (low address : ℕ) (f : FdeRecord) → low < 2 ^ 64 → f.first < 2 ^ 64 → fde_address low (fde_member low address f) ≡ fde_place address f

each_moved : PayloadsLead → (from to address : ℕ) (fs : List FdeRecord) → from < 2 ^ 64 → All (λ m. IsSpan m.span) (map (fde_member from address) fs) → moved_members from to (map (fde_member from address) fs) ≡ map (fde_member to address) fs
each_moved lead from to address [] bound spans = refl
each_moved lead from to address (f ∷ fs) bound spans =
    let head : IsSpan (fde_member from address f).span = All-head (λ (m : Member). IsSpan m.span) (fde_member from address f) (map (fde_member from address) fs) spans in
    let low : f.first < 2 ^ 64 = (let a = head.ordered in let b = head.below_top in omega (arith, a, b)) in
    let here : moved_member from to (fde_member from address f) ≡ fde_member to address f = ap (λ (k : ℕ). record { span = (fde_member to address f).span; payload = distance to f.first k }) (lead from address f bound low) in
    let rest = each_moved lead from to address fs bound (All-tail (λ (m : Member). IsSpan m.span) (fde_member from address f) (map (fde_member from address) fs) spans) in
    ap (λ (m : Member). m ∷ moved_members from to (map (fde_member from address) fs)) here ∙ ap (λ (ms : List Member). fde_member to address f ∷ ms) rest

-- a section's members, moved, are its members there
pub section_moved : PayloadsLead → (from to : ℕ) (s : SectionData) (ms : List Member) → from < 2 ^ 64 → All (λ m. IsSpan m.span) ms → ms ≡ section_members from s → moved_members from to ms ≡ section_members to s
section_moved lead from to s ms bound spans is =
    ap (moved_members from to) is ∙ each_moved lead from to s.address (filter is_kept s.fdes) bound (subst (All (λ m. IsSpan m.span)) is spans)

-- how a move ends where a member would be too far from its FDE
pub move_refused : (key note from : ℕ) (s : SectionData) (ms : List Member) (u : FdeWriterData) (fault : MembersFault) → u.client.stuck ≡ false → moved_members from u.low ms ≡ section_members u.low s → IsMoveFault from u.low ms fault
    → IsRegistration key note s u u (refused fault)
move_refused key note from s ms u NoMemory free moved is = (free, refl)
move_refused key note from s ms u (Far d) free moved is =
    ((free, refl), record { member = is.0; first = subst (λ (xs : List Member). find (λ y. not (is_near y)) xs ≡ Some is.0) moved is.1; distance = is.2 })
