-- The generated script is within every limit.
use Rattle.std.proofs.Common.{◌≡◌, ◌∙◌, ℕ, zero, suc, ◌+◌, ◌*◌, ◌^◌, ◌<◌, ◌≤◌, List, [], ◌∷◌, ◌++◌, length, map, All, Bool, true, false, ◌&&◌, nat_lt, refl, sym, ap, subst, arith, length-append, replicate}
use Rattle.std.specs.Prelude.{reverse, count_by, if◌then◌else◌, ◌%◌, ◌==◌}
use Rattle.std.specs.List.{range_with_len, flat_map, list_all}
use Rattle.std.proofs.lemmas.Bool.{ltb-true, true≢false}
use Rattle.std.proofs.lemmas.Nat.{mul-le}
use Rattle.std.proofs.lemmas.List.Sums.{count_by-le-length}
use Rattle.std.proofs.lemmas.List.{length-map, length-reverse}
use Rattle.std.proofs.lemmas.List.Concat.{flat_map-cons, length-flat_map}
use Rattle.std.proofs.lemmas.List.Elements.{All-nil, All-cons, All-head, All-tail, All-append, All-replicate, All-map}
use Rattle.std.proofs.lemmas.List.FromFn.{length-range_with_len}
use Rattle.std.proofs.lemmas.List.Sorted.{All-permutation, IsPermutation-reverse}
use Rattle.byteorder.specs.Endian.{little_bytes}
use Rattle.byteorder.specs.Numbers.{length-bytes_low_first}
use Rattle.hex.specs.Hex.{IsBytes}
use Rattle.reg_model.specs.SpanData.{IsSpan}
use Rattle.script_text.specs.ScriptData.{ScriptData, Counts, IsEvent, IsThread, IsRound, IsSnapshot, IsSectionOf, IsRunnable, is_unwind, count_unwinds, counts_of}
use Rattle.script_text.specs.declared.script.Event.{Event}
use Rattle.script_text.specs.declared.script.Event.TheVariants.{Register, Deregister, Load, Unload, Find, Unwind}
use Rattle.script_generator.specs.Generator.{IsGenerated, IsImageCount, generated_base, generated_span, generated_images, images_up, generator_threads, generated_columns, generated_memory, generated_stack, image_order, activity_events, activity_of, generated_events, removing}
use Rattle.script_generator.specs.declared.events.Activity.{Activity}
use Rattle.script_generator.specs.declared.events.Activity.TheVariants.{Adding, FindingEnds, RemovingEven, FindingBases}

-- ---- lists

pub all_range : (P : ℕ → Type 0) (a n : ℕ) → ((i : ℕ) → i < a + n → P i) → All P (range_with_len a n)
all_range P a zero each = All-nil P
all_range P a (suc n) each = All-cons P a (range_with_len (a + 1) n) (each a (omega arith)) (all_range P (a + 1) n (λ i below. each i (omega (arith, below))))

all_flat : {X Y : Type 0} (P : Y → Type 0) (Q : X → Type 0) (f : X → List Y) (xs : List X) → All Q xs → ((x : X) → Q x → All P (f x)) → All P (flat_map f xs)
all_flat P Q f [] all each = All-nil P
all_flat P Q f (x ∷ xs) all each =
    subst (All P) (sym (flat_map-cons f x xs)) (All-append P (f x) (flat_map f xs) (each x (All-head Q x xs all)) (all_flat P Q f xs (All-tail Q x xs all) each))

flat_short : {X Y : Type 0} (f : X → List Y) (xs : List X) → ((x : X) → length (f x) ≤ 2) → length (flat_map f xs) ≤ 2 * length xs
flat_short f [] each = (let none : length (flat_map f []) ≡ 0 = refl in omega (arith, none))
flat_short f (x ∷ xs) each =
    let whole : length (flat_map f (x ∷ xs)) ≡ length (f x) + length (flat_map f xs) = ap length (flat_map-cons f x xs) ∙ length-append (f x) (flat_map f xs) in
    omega (arith, whole, each x, flat_short f xs each)

-- ---- images

span_is : (thread image : ℕ) → thread < 4 → image < 500 → IsSpan (generated_span thread image)
span_is thread image one_of few = record { ordered = omega arith; below_top = omega (arith, one_of, few) }

spans_are : (count : ℕ) → IsImageCount count → All IsSpan (generated_images (images_up count))
spans_are count is =
    all_flat IsSpan (λ t. t < 4) (λ t. map (generated_span t) (images_up count)) generator_threads (all_range (λ t. t < 4) 0 4 (λ t below. below))
    (λ t one_of. All-map IsSpan (generated_span t) (images_up count) (all_range (λ j. IsSpan (generated_span t j)) 0 count (λ j below. span_is t j one_of (omega (arith, below, is.1)))))

image_count : (count : ℕ) → length (generated_images (images_up count)) ≡ 4 * count
image_count count =
    let each : (t : ℕ) → length (map (generated_span t) (images_up count)) ≡ count = λ t. length-map (images_up count) (generated_span t) ∙ length-range_with_len 0 count in
    let whole = length-flat_map (λ t. map (generated_span t) (images_up count)) generator_threads in
    omega (arith, whole, each 0, each 1, each 2, each 3)

-- all are low
pub images_low : (count : ℕ) → count ≤ 500 → All (λ image. image.first < 2 ^ 35) (generated_images (images_up count))
images_low count few =
    all_flat (λ image. image.first < 2 ^ 35) (λ t. t < 4) (λ t. map (generated_span t) (images_up count)) generator_threads (all_range (λ t. t < 4) 0 4 (λ t below. below))
    (λ t one_of. All-map (λ image. image.first < 2 ^ 35) (generated_span t) (images_up count) (all_range (λ j. (generated_span t j).first < 2 ^ 35) 0 count (λ j below. omega (arith, below, few, one_of))))

-- ---- stacks

pub is_bytes : (xs : List ℕ) → list_all (λ b. nat_lt b 256) xs ≡ true → IsBytes xs
is_bytes [] all i = omega arith
is_bytes (x ∷ xs) all i = go (nat_lt x 256) refl (is_bytes xs) all i
  where
    go : (b : Bool) → nat_lt x 256 ≡ b → (list_all (λ b. nat_lt b 256) xs ≡ true → IsBytes xs) → (b && list_all (λ b. nat_lt b 256) xs) ≡ true → IsBytes (x ∷ xs)
    go true small later rest zero = ltb-true x 256 small
    go true small later rest (suc i) = later rest i
    go false small later rest i = absurd (true≢false (sym rest))

by_thread : (P : ℕ → Type 0) → P 0 → P 1 → P 2 → P 3 → (t : ℕ) → t < 4 → P t
by_thread P p0 p1 p2 p3 zero below = p0
by_thread P p0 p1 p2 p3 (suc zero) below = p1
by_thread P p0 p1 p2 p3 (suc (suc zero)) below = p2
by_thread P p0 p1 p2 p3 (suc (suc (suc zero))) below = p3
by_thread P p0 p1 p2 p3 (suc (suc (suc (suc t)))) below = absurd (omega (arith, below))

memory_bytes : (t : ℕ) → t < 4 → IsBytes (generated_memory t)
memory_bytes = by_thread (λ t. IsBytes (generated_memory t)) (is_bytes (generated_memory 0) refl) (is_bytes (generated_memory 1) refl) (is_bytes (generated_memory 2) refl) (is_bytes (generated_memory 3) refl)

memory_length : (t : ℕ) → length (generated_memory t) ≡ 32
memory_length t =
    let zeros : List ℕ = replicate 24 0 in
    let some : length zeros ≡ 24 = refl in
    let word = length-bytes_low_first 0 8 (generated_base t 0 + 32) in
    omega (arith, length-append (little_bytes 8 (generated_base t 0 + 32)) zeros, some, word)

columns_are : (t : ℕ) → t < 4 → All (λ n. n < 2 ^ 64) (generated_columns t)
columns_are t below =
    let P : ℕ → Type 0 = λ n. n < 2 ^ 64 in
    let zeros : List ℕ = replicate 8 0 in
    let last : All P ((generated_base t 0 + 37) ∷ []) = All-cons P (generated_base t 0 + 37) [] (omega (arith, below)) (All-nil P) in
    let middle : All P (28688 ∷ 28672 ∷ zeros) = All-cons P 28688 (28672 ∷ zeros) (omega arith) (All-cons P 28672 zeros (omega arith) (All-replicate P 8 0 (omega arith))) in
    All-append P (replicate 6 0 ++ (28688 ∷ 28672 ∷ zeros)) ((generated_base t 0 + 37) ∷ []) (All-append P (replicate 6 0) (28688 ∷ 28672 ∷ zeros) (All-replicate P 6 0 (omega arith)) middle) last

pub stack_is : (t : ℕ) → t < 4 → IsSnapshot (generated_stack t)
stack_is t below =
    let long = memory_length t in
    record {
      count = refl;
      columns = columns_are t below;
      regions = (omega arith, omega (arith, long), omega (arith, long), tt);
      bytes = All-cons (λ region. IsBytes region.bytes) _ [] (memory_bytes t below) (All-nil (λ region. IsBytes region.bytes));
      size = omega (arith, long);
    }

-- ---- events

pub up_within : (count most : ℕ) → count ≤ most → All (λ i. i < most) (images_up count)
up_within count most few = all_range (λ i. i < most) 0 count (λ i below. omega (arith, below, few))

up_below : (count : ℕ) → All (λ i. i < count) (images_up count)
up_below count = all_range (λ i. i < count) 0 count (λ i below. omega (arith, below))

pub order_below : (count thread : ℕ) → All (λ i. i < count) (image_order count thread)
order_below count thread = go (thread % 2 == 0)
  where
    go : (b : Bool) → All (λ i. i < count) (if b then images_up count else reverse (images_up count))
    go true = up_below count
    go false = All-permutation (λ i. i < count) (images_up count) (reverse (images_up count)) (IsPermutation-reverse (images_up count)) (up_below count)

pub order_length : (count thread : ℕ) → length (image_order count thread) ≡ count
order_length count thread = go (thread % 2 == 0)
  where
    go : (b : Bool) → length (if b then images_up count else reverse (images_up count)) ≡ count
    go true = length-range_with_len 0 count
    go false = length-reverse (images_up count) ∙ length-range_with_len 0 count

activity_short : (count thread : ℕ) (activity : Activity) (image : ℕ) → length (activity_events count thread activity image) ≤ 2
activity_short count thread Adding image = omega arith
activity_short count thread FindingEnds image = omega arith
activity_short count thread RemovingEven image = go (image % 2 == 0)
  where
    go : (b : Bool) → length (if b then removing thread image ∷ [] else []) ≤ 2
    go true = omega arith
    go false = omega arith
activity_short count thread FindingBases image = omega arith

pub events_few : (count thread : ℕ) → count ≤ 500 → length (generated_events count thread) ≤ 4001
events_few count thread few =
    let short : (activity : Activity) → length (activity_of count thread activity) ≤ 2 * count = λ activity. (let all = flat_short (activity_events count thread activity) (image_order count thread) (activity_short count thread activity) in omega (arith, all, order_length count thread)) in
    let A = activity_of count thread Adding in
    let B = activity_of count thread FindingEnds in
    let C = activity_of count thread RemovingEven in
    let D = activity_of count thread FindingBases in
    let one : length (Unwind thread ∷ []) ≡ 1 = refl in
    let a = length-append A B in
    let b = length-append (A ++ B) (Unwind thread ∷ []) in
    let c = length-append ((A ++ B) ++ (Unwind thread ∷ [])) C in
    let d = length-append (((A ++ B) ++ (Unwind thread ∷ [])) ++ C) D in
    omega (arith, one, a, b, c, d, few, short Adding, short FindingEnds, short RemovingEven, short FindingBases)

module _ (c : Counts) (count thread : ℕ) (few : count ≤ 500) (one_of : thread < 4) (images : 4 * count ≤ c.images) (stacks : 4 ≤ c.snapshots) where
  number_below : (image : ℕ) → image < count → thread * count + image < c.images
  number_below image below = (let scaled = mul-le thread count 3 count (omega (arith, one_of)) (omega arith) in omega (arith, scaled, below, images))

  adds : (b : Bool) (image : ℕ) → image < count → IsEvent c (if b then Register (thread * count + image) else Load (thread * count + image))
  adds true image below = number_below image below
  adds false image below = number_below image below

  base_below : (image : ℕ) → image < count → generated_base thread image + 48 < 2 ^ 64
  base_below image below = omega (arith, below, few, one_of)

  removes : (b : Bool) (image : ℕ) → image < count → IsEvent c (if b then Deregister (generated_base thread image) else Unload (generated_base thread image))
  removes true image below = (let small = base_below image below in omega (arith, small))
  removes false image below = (let small = base_below image below in omega (arith, small))

  each_event : (activity : Activity) (image : ℕ) → image < count → All (IsEvent c) (activity_events count thread activity image)
  each_event Adding image below = All-cons (IsEvent c) _ [] (adds (nat_lt thread 2) image below) (All-nil (IsEvent c))
  each_event FindingEnds image below =
      let small = base_below image below in
      let next = Find (generated_base thread image + 48) in
      All-cons (IsEvent c) (Find (generated_base thread image + 47)) (next ∷ []) (omega (arith, small)) (All-cons (IsEvent c) next [] small (All-nil (IsEvent c)))
  each_event RemovingEven image below = go (image % 2 == 0)
    where
      go : (b : Bool) → All (IsEvent c) (if b then removing thread image ∷ [] else [])
      go true = All-cons (IsEvent c) _ [] (removes (nat_lt thread 2) image below) (All-nil (IsEvent c))
      go false = All-nil (IsEvent c)
  each_event FindingBases image below = (let small = base_below image below in All-cons (IsEvent c) _ [] (omega (arith, small)) (All-nil (IsEvent c)))

  activity_is : (activity : Activity) → All (IsEvent c) (activity_of count thread activity)
  activity_is activity = all_flat (IsEvent c) (λ i. i < count) (activity_events count thread activity) (image_order count thread) (order_below count thread) (each_event activity)

  thread_is : IsThread c (generated_events count thread)
  thread_is =
      let P = IsEvent c in
      let A = activity_of count thread Adding in
      let B = activity_of count thread FindingEnds in
      let C = activity_of count thread RemovingEven in
      let D = activity_of count thread FindingBases in
      let U : List Event = Unwind thread ∷ [] in
      let unwinds : All P U = All-cons P (Unwind thread) [] (omega (arith, one_of, stacks)) (All-nil P) in
      let three = All-append P (A ++ B) U (All-append P A B (activity_is Adding) (activity_is FindingEnds)) unwinds in
      let all = All-append P (((A ++ B) ++ U) ++ C) D (All-append P ((A ++ B) ++ U) C three (activity_is RemovingEven)) (activity_is FindingBases) in
      (omega (arith, events_few count thread few), all)

round_is : (c : Counts) (count : ℕ) → count ≤ 500 → 4 * count ≤ c.images → 4 ≤ c.snapshots → IsRound c (map (generated_events count) generator_threads)
round_is c count few images stacks =
    let four : length (map (generated_events count) generator_threads) ≡ 4 = refl in
    (omega (arith, four), All-map (IsThread c) (generated_events count) generator_threads (all_range (λ t. IsThread c (generated_events count t)) 0 4 (λ t below. thread_is c count t few below images stacks)))

few_unwinds : (count : ℕ) → count ≤ 500 → count_unwinds (map (generated_events count) generator_threads ∷ []) ≤ 16384
few_unwinds count few =
    let each : (t : ℕ) → count_by is_unwind (generated_events count t) ≤ 4001 = λ t. (let all = count_by-le-length is_unwind (generated_events count t) in omega (arith, all, events_few count t few)) in
    omega (arith, each 0, each 1, each 2, each 3)

-- ---- the script

module _ (count : ℕ) (s : ScriptData) (is : IsImageCount count) (g : IsGenerated count s) (whole : All IsSectionOf s.sections) where
  images_length : length s.images ≡ 4 * count
  images_length = ap length g.images ∙ image_count count

  sections_length : length s.sections ≡ length s.images
  sections_length = sym (length-map s.sections (λ section. section.address)) ∙ ap length g.sections.addresses ∙ length-map s.images (λ image. image.first + 4096)

  snapshots_length : length s.snapshots ≡ 4
  snapshots_length = ap length g.snapshots

  pub runnable : IsRunnable s
  runnable = record {
    version = (omega (arith, g.version), omega (arith, g.version));
    nodes = (omega (arith, g.nodes), omega (arith, g.nodes));
    loads = (omega (arith, g.loads), omega (arith, g.loads));
    images = (omega (arith, images_length, is.1), subst (All IsSpan) (sym g.images) (spans_are count is));
    sections = (sections_length, whole);
    fixed = rw g.fixed (record { named = All-nil (λ image. image < length s.images); rising = tt });
    snapshots = (omega (arith, snapshots_length), subst (All IsSnapshot) (sym g.snapshots) (All-map IsSnapshot generated_stack generator_threads (all_range (λ t. IsSnapshot (generated_stack t)) 0 4 stack_is)));
    rounds = rw g.rounds (omega arith, All-cons (IsRound (counts_of s)) _ [] (round_is (counts_of s) count is.1 (omega (arith, images_length)) (omega (arith, snapshots_length))) (All-nil (IsRound (counts_of s))));
    unwinds = rw g.rounds (few_unwinds count is.1);
  }
