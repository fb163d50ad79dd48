-- The members of a section's FDEs, one after another.
use Rattle.std.proofs.Common.{◌≡◌, ℕ, ◌+◌, List, [], ◌∷◌, ◌++◌, length, drop, Bool, true, false, cond, suc, not, Some, refl, sym, ap, subst, ◌∙◌, append_assoc, append-nil, add-one}
use Rattle.std.specs.Prelude.{map}
use Rattle.std.specs.List.{All, find, filter, slice_get}
use Rattle.std.proofs.Math.Seq.{drop-cons, drop-length}
use Rattle.std.proofs.lemmas.Option.{slice_get_within, get_or_from_slice_get}
use Rattle.std.proofs.lemmas.List.Elements.{All-head, All-tail}
use Rattle.frame_parse.specs.Entries.{FdeRecord}
use Rattle.reg_model.specs.declared.span.Member.{Member}
use Rattle.frame_parse.specs.Sections.{SectionData}
use Rattle.fde_members.specs.Members.{AreNear, IsFaultOf, IsMembersFault, is_kept, is_near, fde_member, members_at, section_members}
use Rattle.fde_members.specs.declared.members.MembersFault.{MembersFault}
use Rattle.fde_members.specs.declared.members.MembersFault.TheVariants.{Far, NoMemory}
use Rattle.frame_parse.specs.Keeping.{EndsLow}

pub no_member_of : (low address : ℕ) (f : FdeRecord) → is_kept f ≡ false → members_at low address (f ∷ []) ≡ []
no_member_of low address f out = ap (λ (b : Bool). map (fde_member low address) (cond b (f ∷ []) [])) out

pub one_member_of : (low address : ℕ) (f : FdeRecord) → is_kept f ≡ true → members_at low address (f ∷ []) ≡ fde_member low address f ∷ []
one_member_of low address f kept = ap (λ (b : Bool). map (fde_member low address) (cond b (f ∷ []) [])) kept

-- those of one FDE, and of those behind it
one_and_more : (low address : ℕ) (f : FdeRecord) (fs : List FdeRecord) → members_at low address (f ∷ fs) ≡ members_at low address (f ∷ []) ++ members_at low address fs
one_and_more low address f fs =
    let kept : List FdeRecord = filter is_kept fs in
    elim (is_kept f) as (λ b. map (fde_member low address) (cond b (f ∷ kept) kept) ≡ map (fde_member low address) (cond b (f ∷ []) []) ++ map (fde_member low address) kept) [ true ↦ refl | false ↦ refl ]

drop_next : (fdes : List FdeRecord) (i : ℕ) (f : FdeRecord) → slice_get fdes i ≡ Some f → drop i fdes ≡ f ∷ drop (i + 1) fdes
drop_next fdes i f at =
    rw add-one (drop-cons fdes i f (slice_get_within fdes i f at) ∙ ap (λ (x : FdeRecord). x ∷ drop (suc i) fdes) (get_or_from_slice_get fdes i f f at))

-- so far, and the next one
pub listed_more : (low address : ℕ) (fdes : List FdeRecord) (i : ℕ) (f : FdeRecord) (whole items : List Member) → slice_get fdes i ≡ Some f → whole ≡ items ++ members_at low address (drop i fdes)
    → whole ≡ (items ++ members_at low address (f ∷ [])) ++ members_at low address (drop (i + 1) fdes)
listed_more low address fdes i f whole items at so_far =
    so_far ∙ ap (λ (fs : List FdeRecord). items ++ members_at low address fs) (drop_next fdes i f at)
    ∙ ap (λ (ms : List Member). items ++ ms) (one_and_more low address f (drop (i + 1) fdes))
    ∙ sym (append_assoc items (members_at low address (f ∷ [])) (members_at low address (drop (i + 1) fdes)))

-- behind near ones, one that is far is the first
first_far : (items : List Member) (m : Member) (rest : List Member) → AreNear items → is_near m ≡ false → find (λ x. not (is_near x)) (items ++ m ∷ rest) ≡ Some m
first_far [] m rest near far = ap (λ (b : Bool). cond (not b) (Some m) (find (λ x. not (is_near x)) rest)) far
first_far (x ∷ items) m rest near far =
    let first : is_near x ≡ true = All-head (λ y. is_near y ≡ true) x items near in
    let more = first_far items m rest (All-tail (λ y. is_near y ≡ true) x items near) far in
    ap (λ (b : Bool). cond (not b) (Some x) (find (λ y. not (is_near y)) (items ++ m ∷ rest))) first ∙ more

pub far_found : (low address : ℕ) (fdes : List FdeRecord) (i : ℕ) (f : FdeRecord) (whole items : List Member) → slice_get fdes i ≡ Some f → whole ≡ items ++ members_at low address (drop i fdes)
    → AreNear items → is_kept f ≡ true → is_near (fde_member low address f) ≡ false → find (λ x. not (is_near x)) whole ≡ Some (fde_member low address f)
far_found low address fdes i f whole items at so_far near kept far =
    let rest = members_at low address (drop (i + 1) fdes) in
    let parts : whole ≡ items ++ (fde_member low address f ∷ rest) =
    so_far ∙ ap (λ (fs : List FdeRecord). items ++ members_at low address fs) (drop_next fdes i f at)
    ∙ ap (λ (ms : List Member). items ++ ms) (one_and_more low address f (drop (i + 1) fdes) ∙ ap (λ (ms : List Member). ms ++ rest) (one_member_of low address f kept)) in
    ap (find (λ x. not (is_near x))) parts ∙ first_far items (fde_member low address f) rest near far

pub fault_told : (low : ℕ) (s : SectionData) (i : ℕ) (f : FdeRecord) (items : List Member) (fault : MembersFault) → slice_get s.fdes i ≡ Some f → section_members low s ≡ items ++ members_at low s.address (drop i s.fdes)
    → AreNear items → IsFaultOf low s.address f fault → IsMembersFault low s fault
fault_told low s i f items NoMemory at so_far near of = tt
fault_told low s i f items (Far d) at so_far near of =
    (fde_member low s.address f, far_found low s.address s.fdes i f (section_members low s) items at so_far near of.0 of.1, of.2)

pub ends_at : (fdes : List FdeRecord) (i : ℕ) (f : FdeRecord) → All EndsLow fdes → slice_get fdes i ≡ Some f → EndsLow f
ends_at fdes i f all at = subst EndsLow (get_or_from_slice_get fdes i f f at) (all i f (slice_get_within fdes i f at))

pub all_listed : (low address : ℕ) (fdes : List FdeRecord) (i : ℕ) (whole items : List Member) → i ≡ length fdes → whole ≡ items ++ members_at low address (drop i fdes) → items ≡ whole
all_listed low address fdes i whole items end so_far =
    let none : drop i fdes ≡ [] = ap (λ (k : ℕ). drop k fdes) end ∙ drop-length fdes in
    sym (so_far ∙ ap (λ (fs : List FdeRecord). items ++ members_at low address fs) none ∙ append-nil items)
