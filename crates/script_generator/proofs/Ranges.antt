-- Numbers upwards, one after another.
use Rattle.std.proofs.Common.{◌≡◌, ◌∙◌, ℕ, ◌+◌, ◌<◌, ◌≤◌, List, [], ◌∷◌, ◌++◌, map, length, All, refl, sym, ap, arith, append-nil, subst}
use Rattle.std.specs.List.{range_with_len, flat_map}
use Rattle.std.proofs.Common.{take, get_or}
use Rattle.std.proofs.lemmas.List.{map-id, map_push, take_more}
use Rattle.std.proofs.lemmas.List.Elements.{All-push}
use Rattle.reg_model.specs.SpanData.{SpanData}
use Rattle.frame_parse.specs.Sections.{SectionData}
use Rattle.script_generator.specs.SectionBytes.{generated_section_bytes}
use Rattle.script_generator.specs.Generator.{AreGeneratedSections}
use Rattle.std.proofs.lemmas.List.Concat.{flat_map-append}
use Rattle.std.proofs.lemmas.List.FromFn.{map-range_with_len_more}
use Rattle.script_text.specs.declared.script.Event.{Event}
use Rattle.script_text.specs.declared.script.Event.TheVariants.{Unwind}
use Rattle.script_generator.specs.Generator.{image_order, activity_events, activity_of, generated_events}
use Rattle.script_generator.specs.declared.events.Activity.{Activity}
use Rattle.script_generator.specs.declared.events.Activity.TheVariants.{Adding, FindingEnds, RemovingEven, FindingBases}
use Rattle.script_generator.proofs.Runnable.{order_below, order_length}

pub range_more : (n : ℕ) → range_with_len 0 (n + 1) ≡ range_with_len 0 n ++ n ∷ []
range_more n =
    sym (map-id (range_with_len 0 (n + 1))) ∙ map-range_with_len_more (λ j. j) 0 n n (let e : 0 + n ≡ n = omega arith in e)
    ∙ ap (λ (xs : List ℕ). xs ++ n ∷ []) (map-id (range_with_len 0 n))

pub map_range_more : {X : Type 0} (f : ℕ → X) (n : ℕ) → map f (range_with_len 0 (n + 1)) ≡ map f (range_with_len 0 n) ++ f n ∷ []
map_range_more f n = map-range_with_len_more f 0 n n (let e : 0 + n ≡ n = omega arith in e)

pub flat_range_more : {X : Type 0} (f : ℕ → List X) (n : ℕ) → flat_map f (range_with_len 0 (n + 1)) ≡ flat_map f (range_with_len 0 n) ++ f n
flat_range_more f n =
    ap (flat_map f) (range_more n) ∙ flat_map-append f (range_with_len 0 n) (n ∷ []) ∙ ap (λ (xs : List _). flat_map f (range_with_len 0 n) ++ xs) (append-nil (f n))

-- ---- the events of a thread

pub is_order : (count thread : ℕ) (order : List ℕ) → count ≤ 500 → order ≡ image_order count thread → (length order ≤ 500) × All (λ image. image < length order) order
is_order count thread order few is =
    let long : length order ≡ count = ap length is ∙ order_length count thread in
    (omega (arith, long, few), subst (λ (n : ℕ). All (λ image. image < n) order) (sym long) (subst (All (λ image. image < count)) (sym is) (order_below count thread)))

-- what a activity adds is what the definition says
pub activity_added : (count thread : ℕ) (order : List ℕ) (activity : Activity) → order ≡ image_order count thread → flat_map (activity_events (length order) thread activity) order ≡ activity_of count thread activity
activity_added count thread order activity is = rw (is, order_length count thread) refl

pub all_activities : (count thread : ℕ) (e0 e1 e2 e3 e4 e5 : List Event) → e0 ≡ [] → e1 ≡ e0 ++ activity_of count thread Adding → e2 ≡ e1 ++ activity_of count thread FindingEnds → e3 ≡ e2 ++ Unwind thread ∷ [] → e4 ≡ e3 ++ activity_of count thread RemovingEven
    → e5 ≡ e4 ++ activity_of count thread FindingBases → e5 ≡ generated_events count thread
all_activities count thread e0 e1 e2 e3 e4 e5 none a b u c d =
    let A = activity_of count thread Adding in
    let B = activity_of count thread FindingEnds in
    let C = activity_of count thread RemovingEven in
    let D = activity_of count thread FindingBases in
    let first : e1 ≡ A = a ∙ ap (λ (xs : List Event). xs ++ A) none in
    let third : e3 ≡ (A ++ B) ++ Unwind thread ∷ [] = u ∙ ap (λ (xs : List Event). xs ++ Unwind thread ∷ []) (b ∙ ap (λ (xs : List Event). xs ++ B) first) in
    let fifth : e5 ≡ (((A ++ B) ++ Unwind thread ∷ []) ++ C) ++ D = d ∙ ap (λ (xs : List Event). xs ++ D) (c ∙ ap (λ (xs : List Event). xs ++ C) third) in
    fifth

-- ---- sections

-- the section of one more image
pub sections_more : (images : List SpanData) (sections : List SectionData) (i : ℕ) (image : SpanData) (section : SectionData) → i < length images → image ≡ get_or images i image → section.address ≡ image.first + 4096 → section.bytes ≡ generated_section_bytes
    → AreGeneratedSections (take i images) sections → AreGeneratedSections (take (i + 1) images) (sections ++ section ∷ [])
sections_more images sections i image section within is address bytes so_far =
    let next : take (i + 1) images ≡ take i images ++ image ∷ [] = take_more images i image within ∙ ap (λ (x : SpanData). take i images ++ x ∷ []) (sym is) in
    record {
      addresses =
          map_push (λ s. s.address) sections section ∙ ap (λ (xs : List ℕ). xs ++ section.address ∷ []) so_far.addresses
          ∙ ap (λ (n : ℕ). map (λ x. x.first + 4096) (take i images) ++ n ∷ []) address ∙ sym (ap (map (λ x. x.first + 4096)) next ∙ map_push (λ x. x.first + 4096) (take i images) image);
      bytes = All-push (λ s. s.bytes ≡ generated_section_bytes) sections section so_far.bytes bytes;
    }
