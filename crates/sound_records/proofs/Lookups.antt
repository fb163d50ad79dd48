-- Items begin one after another, so what stands first is told by where it begins.
use Rattle.std.proofs.Common.{◌≡◌, ℕ, zero, suc, ◌+◌, ◌<◌, ◌≤◌, List, [], ◌∷◌, length, Bool, true, false, cond, Option, Some, None, Result, Ok, Err, nat_lt, refl, sym, ap, subst, ◌∙◌, arith}
use Rattle.std.specs.Prelude.{IfNone, IfSome}
use Rattle.std.proofs.lemmas.Bool.{lt-ltb, le-ltb}
use Rattle.eh_bytes.specs.CursorData.{CursorData}
use Rattle.frame_parse.specs.declared.fault.FrameFault.{FrameFault}
use Rattle.frame_parse.specs.declared.fault.RecordFault.{RecordFault}
use Rattle.frame_parse.specs.declared.records.CieRecord.{CieRecord}
use Rattle.frame_parse.specs.Entries.{FdeRecord, Record, Cie, Fde}
use Rattle.frame_parse.specs.Keeping.{record_start}
use Rattle.frame_parse.specs.Records.{whole_record}
use Rattle.frame_parse.specs.Sections.{SectionData, is_end, with_record, fdes_of, covers, first_cover}
use Rattle.sound_records.specs.declared.refused.Claim.{Claim}
use Rattle.sound_records.specs.declared.refused.RefusedRecord.{RefusedRecord}
use Rattle.sound_records.specs.declared.answer.FdeAnswer.{FdeAnswer}
use Rattle.sound_records.specs.declared.answer.FdeAnswer.TheVariants.{Found, Claimed}
use Rattle.sound_records.specs.Items.{Item, Sound, Refused, by_result, extent, claimed, claims, items_from, items_of, sound_in, refused_in, answer_at}
use Rattle.sound_records.specs.Laws.{answer_of}
use Rattle.sound_records.specs.Sections.{SoundData, claim_among, first_claim, nearest, unless_before}
use Rattle.sound_records.proofs.Items.{extent_exact}
use Rattle.sound_records.proofs.SoFar.{Stand}

-- ---- items begin one after another

-- none begins before a place, and each record that is sound before all behind it
abbrev pub AreFrom : ℕ → List Item → Type 0
AreFrom p [] = Unit {0}
AreFrom p (Sound r ∷ is) = (p ≤ record_start r) × AreFrom (record_start r + 1) is
AreFrom p (Refused x ∷ is) = (p ≤ x.start) × AreFrom x.start is

from_lower : (p q : ℕ) (is : List Item) → q ≤ p → AreFrom p is → AreFrom q is
from_lower p q [] le a = tt
from_lower p q (Sound r ∷ is) le a = (let low = a.0 in omega arith, a.1)
from_lower p q (Refused x ∷ is) le a = (let low = a.0 in omega arith, a.1)

from_next : (b : Bool) (m : Result (Record × CursorData) FrameFault) (is : Record × CursorData → List Item) (more : List Item) (place : ℕ) (claim : Option Claim)
    → ((x : Record × CursorData) → m ≡ Ok x → (place ≤ record_start x.0) × AreFrom (record_start x.0 + 1) (is x)) → AreFrom place more
    → AreFrom place (cond b [] (by_result m (λ x. Sound x.0 ∷ is x) (λ f. Refused (record { start = place; fault = f; claim = claim }) ∷ more)))
from_next true m is more place claim each rest = tt
from_next false (Ok x) is more place claim each rest = each x refl
from_next false (Err f) is more place claim each rest = (omega arith, rest)

from_behind : (m : Result (Unit {0} × CursorData) RecordFault) (is : CursorData → List Item) (place : ℕ) → ((e : Unit {0} × CursorData) → m ≡ Ok e → AreFrom place (is e.1)) → AreFrom place (by_result m (λ e. is e.1) (λ _. []))
from_behind (Ok e) is place each = each e refl
from_behind (Err f) is place each = tt

items_ascend : Stand → (n section : ℕ) (earlier : List CieRecord) (r : CursorData) → AreFrom r.at (items_from n section earlier r)
unfolding items_from
items_ascend stand zero section earlier r = tt
items_ascend stand (suc n) section earlier r =
    from_next (is_end r.bytes) ((whole_record section earlier).read r) (λ x. items_from n section (with_record earlier x.0) x.1) (by_result ((extent r.at).read r) (λ e. items_from n section earlier e.1) (λ _. [])) r.at
    (claimed section earlier r)
    (λ x e.
    let s = stand section earlier r x.0 x.1 e in
    (omega (arith, s.begins), from_lower x.1.at (record_start x.0 + 1) (items_from n section (with_record earlier x.0) x.1) (omega (arith, s.begins, s.moves)) (items_ascend stand n section (with_record earlier x.0) x.1)))
    (from_behind ((extent r.at).read r) (λ c. items_from n section earlier c) r.at (λ e is.
    let t = (extent_exact r.at).takes r e.0 e.1 is in
    from_lower e.1.at r.at (items_from n section earlier e.1) (omega (arith, t.place)) (items_ascend stand n section earlier e.1)))

-- ---- what covers or claims an address

cover_choice : (p : ℕ) (b : Bool) (g f : FdeRecord) (o : Option FdeRecord) → p ≤ g.start → (o ≡ Some f → p ≤ f.start) → cond b (Some g) o ≡ Some f → p ≤ f.start
cover_choice p true g f o low more e = let same : g ≡ f = cc in subst (λ (k : FdeRecord). p ≤ k.start) same low
cover_choice p false g f o low more e = more e

cover_from : (pc p : ℕ) (is : List Item) (f : FdeRecord) → AreFrom p is → first_cover pc (fdes_of (sound_in is)) ≡ Some f → p ≤ f.start
cover_from pc p [] f a e = absurd cc
cover_from pc p (Sound (Cie c) ∷ is) f a e = let above = cover_from pc (c.start + 1) is f a.1 e in let low = a.0 in omega arith
cover_from pc p (Sound (Fde g) ∷ is) f a e =
    cover_choice p (covers pc g) g f (first_cover pc (fdes_of (sound_in is))) a.0 (λ h. let above = cover_from pc (g.start + 1) is f a.1 h in let low = a.0 in omega arith) e
cover_from pc p (Refused x ∷ is) f a e = let above = cover_from pc x.start is f a.1 e in let low = a.0 in omega arith

claim_choice : (p : ℕ) (b : Bool) (y x : RefusedRecord) (o : Option RefusedRecord) → p ≤ y.start → (o ≡ Some x → p ≤ x.start) → cond b (Some y) o ≡ Some x → p ≤ x.start
claim_choice p true y x o low more e = let same : y ≡ x = cc in subst (λ (k : RefusedRecord). p ≤ k.start) same low
claim_choice p false y x o low more e = more e

claim_from : (pc p : ℕ) (is : List Item) (x : RefusedRecord) → AreFrom p is → first_claim pc (refused_in is) ≡ Some x → p ≤ x.start
claim_from pc p [] x a e = absurd cc
claim_from pc p (Sound r ∷ is) x a e = let above = claim_from pc (record_start r + 1) is x a.1 e in let low = a.0 in omega arith
claim_from pc p (Refused y ∷ is) x a e =
    claim_choice p (claims pc y.claim) y x (first_claim pc (refused_in is)) a.0 (λ h. let above = claim_from pc y.start is x a.1 h in let low = a.0 in omega arith) e

-- an FDE stands before a refused record, or behind it
pub fde_before : (f : FdeRecord) (x : RefusedRecord) → f.start < x.start → nearest (Some f) (Some x) ≡ Found f
fde_before f x lt = ap (λ (b : Bool). cond b (Found f) (Claimed x)) (lt-ltb f.start x.start lt)

pub fde_behind : (f : FdeRecord) (x : RefusedRecord) → x.start ≤ f.start → nearest (Some f) (Some x) ≡ Claimed x
fde_behind f x le = ap (λ (b : Bool). cond b (Found f) (Claimed x)) (le-ltb f.start x.start le)

-- an FDE before every claim, and a claim before every FDE
fde_first : (f : FdeRecord) (o : Option RefusedRecord) → ((x : RefusedRecord) → o ≡ Some x → f.start < x.start) → nearest (Some f) o ≡ Found f
fde_first f None low = refl
fde_first f (Some x) low = fde_before f x (low x refl)

claim_first : (x : RefusedRecord) (o : Option FdeRecord) → ((f : FdeRecord) → o ≡ Some f → x.start ≤ f.start) → nearest o (Some x) ≡ Claimed x
claim_first x None low = refl
claim_first x (Some f) low = fde_behind f x (low f refl)

found_here : (b : Bool) (f : FdeRecord) (later : FdeAnswer FdeRecord) (o : Option FdeRecord) (claim : Option RefusedRecord) → later ≡ nearest o claim → nearest (Some f) claim ≡ Found f
    → cond b (Found f) later ≡ nearest (cond b (Some f) o) claim
found_here true f later o claim e first = sym first
found_here false f later o claim e first = e

claimed_here : (b : Bool) (x : RefusedRecord) (later : FdeAnswer FdeRecord) (o : Option FdeRecord) (claim : Option RefusedRecord) → later ≡ nearest o claim → nearest o (Some x) ≡ Claimed x
    → cond b (Claimed x) later ≡ nearest o (cond b (Some x) claim)
claimed_here true x later o claim e first = sym first
claimed_here false x later o claim e first = e

nearest_first : (pc p : ℕ) (is : List Item) → AreFrom p is → answer_at pc is ≡ nearest (first_cover pc (fdes_of (sound_in is))) (first_claim pc (refused_in is))
nearest_first pc p [] a = refl
nearest_first pc p (Sound (Cie c) ∷ is) a = nearest_first pc (c.start + 1) is a.1
nearest_first pc p (Sound (Fde f) ∷ is) a =
    found_here (covers pc f) f (answer_at pc is) (first_cover pc (fdes_of (sound_in is))) (first_claim pc (refused_in is)) (nearest_first pc (f.start + 1) is a.1)
    (fde_first f (first_claim pc (refused_in is)) (λ x e. let above = claim_from pc (f.start + 1) is x a.1 e in omega arith))
nearest_first pc p (Refused x ∷ is) a =
    claimed_here (claims pc x.claim) x (answer_at pc is) (first_cover pc (fdes_of (sound_in is))) (first_claim pc (refused_in is)) (nearest_first pc x.start is a.1)
    (claim_first x (first_cover pc (fdes_of (sound_in is))) (λ f e. cover_from pc x.start is f a.1 e))

-- of a whole section
pub answer_is_nearest : Stand → (pc address : ℕ) (bytes : List ℕ)
    → answer_at pc (items_of address bytes) ≡ nearest (first_cover pc (fdes_of (sound_in (items_of address bytes)))) (first_claim pc (refused_in (items_of address bytes)))
unfolding items_of
answer_is_nearest stand pc address bytes =
    nearest_first pc 0 (items_of address bytes) (items_ascend stand (suc (length bytes)) address [] (record { bytes = bytes; at = 0 }))

-- by what was found of its FDEs, and of its refused records
pub answer_by : Stand → (pc : ℕ) (s : SectionData) (refused : List RefusedRecord) (o : Option FdeRecord) (claim : Option RefusedRecord)
    → (s.fdes ≡ fdes_of (sound_in (items_of s.address s.bytes))) × (refused ≡ refused_in (items_of s.address s.bytes)) → o ≡ first_cover pc s.fdes → claim ≡ first_claim pc refused
    → nearest o claim ≡ answer_at pc (items_of s.address s.bytes)
answer_by stand pc s refused o claim are cover first =
    ap (λ (k : Option FdeRecord). nearest k claim) (cover ∙ ap (λ (fs : List FdeRecord). first_cover pc fs) are.0)
    ∙ ap (λ (k : Option RefusedRecord). nearest (first_cover pc (fdes_of (sound_in (items_of s.address s.bytes)))) k) (first ∙ ap (λ (xs : List RefusedRecord). first_claim pc xs) are.1)
    ∙ sym (answer_is_nearest stand pc s.address s.bytes)

-- the same of the section as contracts see it
pub answer_seen : Stand → (pc : ℕ) (s : SectionData) (refused : List RefusedRecord) (o : Option FdeRecord) (claim : Option RefusedRecord)
    → (s.fdes ≡ fdes_of (sound_in (items_of s.address s.bytes))) × (refused ≡ refused_in (items_of s.address s.bytes)) → o ≡ first_cover pc s.fdes → claim ≡ first_claim pc refused
    → (d : SoundData) → record { section = s; refused = refused } ≡ d → nearest o claim ≡ answer_at pc (items_of d.section.address d.section.bytes)
answer_seen stand pc s refused o claim are cover first d is =
    subst (λ (k : SoundData). nearest o claim ≡ answer_at pc (items_of k.section.address k.section.bytes)) is (answer_by stand pc s refused o claim are cover first)

-- the claim that answers, and where none does the section's own answer
abbrev pub ClaimAnswers : FdeAnswer FdeRecord → Option FdeRecord → Option RefusedRecord → Type 0
ClaimAnswers answer o claim = IfSome claim (λ x. answer ≡ Claimed x) × IfNone claim (answer ≡ answer_of o)

claim_choice_answers : (b : Bool) (f : FdeRecord) (x : RefusedRecord) → ClaimAnswers (cond b (Found f) (Claimed x)) (Some f) (cond b None (Some x))
claim_choice_answers true f x = (tt, refl)
claim_choice_answers false f x = (refl, tt)

nearest_claims : (o : Option FdeRecord) (claim : Option RefusedRecord) → ClaimAnswers (nearest o claim) o (unless_before claim o)
nearest_claims None None = (tt, refl)
nearest_claims (Some f) None = (tt, refl)
nearest_claims None (Some x) = (refl, tt)
nearest_claims (Some f) (Some x) = claim_choice_answers (nat_lt f.start x.start) f x

pub claim_seen : Stand → (pc : ℕ) (s : SectionData) (refused : List RefusedRecord) (claim : Option RefusedRecord)
    → (s.fdes ≡ fdes_of (sound_in (items_of s.address s.bytes))) × (refused ≡ refused_in (items_of s.address s.bytes)) → claim ≡ claim_among pc s.fdes refused
    → (d : SoundData) → record { section = s; refused = refused } ≡ d → ClaimAnswers (answer_at pc (items_of d.section.address d.section.bytes)) (first_cover pc d.section.fdes) claim
claim_seen stand pc s refused claim are is d seen =
    let o = first_cover pc s.fdes in
    let first = first_claim pc refused in
    let whole = subst (λ (k : FdeAnswer FdeRecord). ClaimAnswers k o (unless_before first o)) (answer_by stand pc s refused o first are refl refl) (nearest_claims o first) in
    let told = subst (λ (k : Option RefusedRecord). ClaimAnswers (answer_at pc (items_of s.address s.bytes)) o k) (sym is) whole in
    subst (λ (k : SoundData). ClaimAnswers (answer_at pc (items_of k.section.address k.section.bytes)) (first_cover pc k.section.fdes) claim) seen told
