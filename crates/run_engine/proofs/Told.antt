-- What is kept of answers tells them.
use Rattle.std.proofs.Common.{◌≡◌, ℕ, ◌<◌, ◌≤◌, zero, suc, List, [], ◌∷◌, ◌++◌, length, get_or, refl, sym, ◌∙◌, ap, subst, arith}
use Rattle.std.specs.Iterator.{Yields}
use Rattle.std.specs.List.{All, AllZip}
use Rattle.std.specs.Vec.Iter.{into_iter_items, into_iter_steps}
use Rattle.std.specs.declared.vec.IntoIter.{IntoIter}
use Rattle.std.proofs.lemmas.List.{get_or_at, length-append}
use Rattle.std.proofs.lemmas.List.Elements.{All-cons, All-from_recursion, All-head, All-tail}
use Rattle.reg_model.specs.SpanData.{SpanData}
use Rattle.frame_parse.specs.Sections.{SectionData}
use Rattle.script_text.specs.ScriptData.{Counts, IsRound, IsThread, SnapshotData}
use Rattle.script_text.specs.declared.limits.TheConstants.{MOST_ROUNDS}
use Rattle.script_text.specs.Lawful.{AnswersEvent}
use Rattle.script_text.specs.Text.{IsPrintable}
use Rattle.script_text.specs.declared.script.Event.{Event}
use Rattle.script_text.specs.declared.script.Event.TheVariants as event
use Rattle.script_text.specs.declared.journal.Answer.{Answer}
use Rattle.script_text.specs.declared.journal.Answer.TheVariants.{Register, Deregister, Replace, Load, Unload, Find, Unwind}
use Rattle.run_engine.specs.Kept.{IsKeptPrintable, IsKeptRight, event_of, round_told, rounds_told, short_told, thread_told, told, zip_with}
use Rattle.run_engine.specs.Played.{IsPlayed, IsPlayedRound, IsPlayedThread, IsRightAnswer}
use Rattle.run_engine.specs.declared.kept.KeptAnswer.{KeptAnswer}
use Rattle.run_engine.specs.declared.kept.KeptAnswer.TheVariants as form
use Rattle.run_engine.proofs.Lists.{AllZip-length, AllZip-weaker}

-- ---- an answer

event_is : (happens : Event) (answer : Answer) → AnswersEvent happens answer → event_of answer ≡ happens
event_is (event.Register image) (Register asked answer) is = ap event.Register is
event_is (event.Deregister base) (Deregister asked answer) is = ap event.Deregister is
event_is (event.Replace image) (Replace asked answer) is = ap event.Replace is
event_is (event.Load image) (Load asked answer) is = ap event.Load is
event_is (event.Unload base) (Unload asked answer) is = ap event.Unload is
event_is (event.Find pc) (Find asked place) is = ap event.Find is.0
event_is (event.Unwind snapshot) (Unwind asked trace) is = ap event.Unwind is.0
event_is _ _ is = absurd is

module _ (images : List SpanData) (sections : List SectionData) (snapshots : List SnapshotData) (happens : Event) (answer : Answer) (kept : KeptAnswer) (right : IsRightAnswer sections snapshots happens answer) (is : told images (event_of answer) kept ≡ answer) where
  -- what was kept tells the answer beside the event
  pub told_is : told images happens kept ≡ answer
  told_is = ap (λ e. told images e kept) (sym (event_is happens answer right.0)) ∙ is

  pub kept_right : IsPrintable answer → IsKeptRight images sections snapshots happens kept
  kept_right printable =
      let P : Answer → Type 0 = λ a. IsRightAnswer sections snapshots happens a × IsPrintable a in
      subst P (sym told_is) (right, printable)

-- what isn't kept whole is a short form
pub short_is : (images : List SpanData) (happens : Event) (k : KeptAnswer) → ((whole : _) → ¬ (k ≡ form.Whole whole)) → told images happens k ≡ short_told images happens k
short_is images happens (form.Done number) other = refl
short_is images happens (form.DoneWith number image) other = refl
short_is images happens (form.Overlap image stamp) other = refl
short_is images happens (form.Refused stamp) other = refl
short_is images happens (form.Registered image stamp) other = refl
short_is images happens (form.Loaded stamp image loaded) other = refl
short_is images happens (form.Nowhere stamp loaded) other = refl
short_is images happens (form.Whole whole) other = absurd (other whole refl)

-- ---- two lists, place by place

module _ {A B C : Type 0} (f : A → B → C) where
  zip_push : (xs : List A) (ys : List B) (y : B) (d : A) → length ys < length xs → zip_with f xs (ys ++ y ∷ []) ≡ zip_with f xs ys ++ f (get_or xs (length ys) d) y ∷ []
  zip_push [] ys y d within = absurd (let no : ⊥ = omega arith in no)
  zip_push (x ∷ xs) [] y d within = refl
  zip_push (x ∷ xs) (z ∷ ys) y d within = ap (λ rest. f x z ∷ rest) (zip_push xs ys y d (omega arith))

  -- one more of the second list
  pub zip_next : (xs : List A) (ys : List B) (i : ℕ) (y : B) (d : A) → length ys ≡ i → i < length xs → zip_with f xs (ys ++ y ∷ []) ≡ zip_with f xs ys ++ f (get_or xs i d) y ∷ []
  zip_next xs ys i y d long within =
      zip_push xs ys y d (omega (arith, long, within)) ∙ ap (λ n. zip_with f xs ys ++ f (get_or xs n d) y ∷ []) long

  -- one more of both
  pub zip_more : (xs : List A) (ys : List B) (x : A) (y : B) → length xs ≡ length ys → zip_with f (xs ++ x ∷ []) (ys ++ y ∷ []) ≡ zip_with f xs ys ++ f x y ∷ []
  zip_more [] [] x y long = refl
  zip_more (a ∷ xs) (b ∷ ys) x y long = ap (λ rest. f a b ∷ rest) (zip_more xs ys x y (omega (arith, long)))
  zip_more [] (b ∷ ys) x y long = absurd (let no : ⊥ = omega (arith, long) in no)
  zip_more (a ∷ xs) [] x y long = absurd (let no : ⊥ = omega (arith, long) in no)

  pub zip_length : (xs : List A) (ys : List B) → length ys ≤ length xs → length (zip_with f xs ys) ≡ length ys
  zip_length xs [] long = refl
  zip_length [] (y ∷ ys) long = absurd (let no : ⊥ = omega (arith, long) in no)
  zip_length (x ∷ xs) (y ∷ ys) long = (let rest = zip_length xs ys (omega (arith, long)) in omega (arith, rest))

  pub zip_at : (xs : List A) (ys : List B) (i : ℕ) (x : A) (y : B) → i < length xs → i < length ys → x ≡ get_or xs i x → y ≡ get_or ys i y → f x y ≡ get_or (zip_with f xs ys) i (f x y)
  zip_at [] ys i x y first second x_is y_is = absurd (let no : ⊥ = omega (arith, first) in no)
  zip_at (a ∷ xs) [] i x y first second x_is y_is = absurd (let no : ⊥ = omega (arith, second) in no)
  zip_at (a ∷ xs) (b ∷ ys) zero x y first second x_is y_is = ap (λ z. f z y) x_is ∙ ap (f a) y_is
  zip_at (a ∷ xs) (b ∷ ys) (suc i) x y first second x_is y_is =
      zip_at xs ys i x y (omega (arith, first)) (omega (arith, second)) x_is y_is

  -- what holds of what two give, where it follows for each two
  pub zip_all : (R : A → B → Type 0) (P : C → Type 0) → ((x : A) (y : B) → R x y → P (f x y)) → (xs : List A) (ys : List B) → AllZip R xs ys → All P (zip_with f xs ys)
  zip_all R P from [] [] all = All-from_recursion P [] tt
  zip_all R P from (x ∷ xs) (y ∷ ys) all = All-cons P (f x y) (zip_with f xs ys) (from x y all.0) (zip_all R P from xs ys all.1)
  zip_all R P from [] (y ∷ ys) all = absurd all
  zip_all R P from (x ∷ xs) [] all = absurd all

  -- and beside the first one
  pub zip_beside : (R : A → B → Type 0) (P : A → C → Type 0) → ((x : A) (y : B) → R x y → P x (f x y)) → (xs : List A) (ys : List B) → AllZip R xs ys → AllZip P xs (zip_with f xs ys)
  zip_beside R P from [] [] all = tt
  zip_beside R P from (x ∷ xs) (y ∷ ys) all = (from x y all.0, zip_beside R P from xs ys all.1)
  zip_beside R P from [] (y ∷ ys) all = absurd all
  zip_beside R P from (x ∷ xs) [] all = absurd all

-- ---- what holds place by place

module _ {A B : Type 0} (R : A → B → Type 0) where
  pub AllZip-at : (xs : List A) (ys : List B) (i : ℕ) (x : A) (y : B) → AllZip R xs ys → i < length xs → x ≡ get_or xs i x → y ≡ get_or ys i y → R x y
  AllZip-at [] ys i x y all within x_is y_is = absurd (let no : ⊥ = omega (arith, within) in no)
  AllZip-at (a ∷ xs) [] i x y all within x_is y_is = absurd all
  AllZip-at (a ∷ xs) (b ∷ ys) zero x y all within x_is y_is =
      subst (λ z. R z y) (sym x_is) (subst (R a) (sym y_is) all.0)
  AllZip-at (a ∷ xs) (b ∷ ys) (suc i) x y all within x_is y_is =
      AllZip-at xs ys i x y all.1 (omega (arith, within)) x_is y_is

  -- beside all of the first list
  AllZip-first : (P : A → Type 0) (xs : List A) (ys : List B) → All P xs → AllZip R xs ys → AllZip (λ x y. P x × R x y) xs ys
  AllZip-first P [] [] each all = tt
  AllZip-first P (x ∷ xs) (y ∷ ys) each all = ((All-head P x xs each, all.0), AllZip-first P xs ys (All-tail P x xs each) all.1)
  AllZip-first P [] (y ∷ ys) each all = absurd all
  AllZip-first P (x ∷ xs) [] each all = absurd all

-- ---- what a vector gives when it is used up

module _ {X Z : Type 0} where
  -- what it has given, and what is left
  given_left : (s : IntoIter X Z) (xs : List X) (t : IntoIter X Z) → Yields into_iter_steps s xs t → into_iter_items s ≡ xs ++ into_iter_items t
  given_left s [] t given = ap into_iter_items given
  given_left s (x ∷ xs) t given = given.1.0 ∙ ap (λ ys. x ∷ ys) (given_left given.0 xs t given.2)

-- what stands beside the next one, and what is told of it
module _ {A X Z : Type 0} (R : A → X → Type 0) (beside : List A) (items : List X) (all : AllZip R beside items) (s t u : IntoIter X Z) (of : into_iter_items s ≡ items) (xs : List X) (x : X) (given : Yields into_iter_steps s xs t) (next : into_iter_items t ≡ x ∷ into_iter_items u) where
  whole : items ≡ xs ++ x ∷ into_iter_items u
  whole = sym of ∙ (given_left s xs t given ∙ ap (λ rest. xs ++ rest) next)

  next_within : length xs < length beside
  next_within =
      let same = AllZip-length R beside items all in
      let parts = ap length whole in
      let long = length-append xs (x ∷ into_iter_items u) in
      omega (arith, same, parts, long)

  module _ {C : Type 0} (f : A → X → C) (out : List C) (is : out ≡ zip_with f beside xs) (i : ℕ) (count : i ≡ length out) where
    next_at : length xs ≡ i
    next_at =
        let long = zip_length f beside xs (omega (arith, next_within)) in
        let same = ap length is in
        omega (arith, long, same, count)

    pub told_within : i < length beside
    told_within = omega (arith, next_within, next_at)

    pub told_holds : (a : A) → a ≡ get_or beside i a → R a x
    told_holds a a_is =
        let there : x ≡ get_or items (length xs) x = sym (ap (λ ys. get_or ys (length xs) x) whole ∙ get_or_at xs x (into_iter_items u) x (length xs) refl) in
        AllZip-at R beside items (length xs) a x all next_within (a_is ∙ ap (λ n. get_or beside n a) (sym next_at)) there

    pub told_next : (new : C) (a : A) → new ≡ f a x → a ≡ get_or beside i a → out ++ new ∷ [] ≡ zip_with f beside (xs ++ x ∷ [])
    told_next new a new_is a_is =
        ap (λ zs. zs ++ new ∷ []) is
        ∙ (ap (λ z. zip_with f beside xs ++ z ∷ []) (new_is ∙ ap (λ b. f b x) a_is) ∙ sym (zip_next f beside xs i x a next_at told_within))

-- ---- the answers of all rounds

module _ (images : List SpanData) (sections : List SectionData) (snapshots : List SnapshotData) where
  abbrev Right : Event → KeptAnswer → Type 0
  Right = IsKeptRight images sections snapshots

  -- they are right
  pub rounds_right : (rounds : List (List (List Event))) (kept : List (List (List KeptAnswer))) → AllZip (AllZip (AllZip Right)) rounds kept → AllZip (AllZip (AllZip (IsRightAnswer sections snapshots))) rounds (rounds_told images rounds kept)
  rounds_right =
      zip_beside (round_told images) (AllZip (AllZip Right)) (AllZip (AllZip (IsRightAnswer sections snapshots)))
      (zip_beside (thread_told images) (AllZip Right) (AllZip (IsRightAnswer sections snapshots))
      (zip_beside (told images) Right (IsRightAnswer sections snapshots) (λ happens k right. right.0)))

  -- they can be written
  pub rounds_printable : (rounds : List (List (List Event))) (kept : List (List (List KeptAnswer))) → AllZip (AllZip (AllZip Right)) rounds kept → AllZip (AllZip (AllZip (IsKeptPrintable images))) rounds kept
  rounds_printable = AllZip-weaker _ _ (AllZip-weaker _ _ (AllZip-weaker _ _ (λ happens k right. right.1)))

  -- they are few
  module _ (counts : Counts) where
    thread_played : (events : List Event) (kept : List KeptAnswer) → IsThread counts events × AllZip Right events kept → IsPlayedThread (thread_told images events kept)
    thread_played events kept is =
        let few = is.0.0 in
        let same = AllZip-length Right events kept is.1 in
        let long = zip_length (told images) events kept (omega (arith, same)) in
        (omega (arith, few, same, long), zip_all (told images) Right IsPrintable (λ happens k right. right.1) events kept is.1)

    round_played : (threads : List (List Event)) (kept : List (List KeptAnswer)) → IsRound counts threads × AllZip (AllZip Right) threads kept → IsPlayedRound (round_told images threads kept)
    round_played threads kept is =
        let few = is.0.0 in
        let same = AllZip-length (AllZip Right) threads kept is.1 in
        let long = zip_length (thread_told images) threads kept (omega (arith, same)) in (
          omega (arith, few, same, long),
          zip_all (thread_told images) (λ events k. IsThread counts events × AllZip Right events k) IsPlayedThread thread_played threads kept
              (AllZip-first (AllZip Right) (IsThread counts) threads kept is.0.1 is.1),
        )

    pub rounds_played : (rounds : List (List (List Event))) (kept : List (List (List KeptAnswer))) → (length rounds ≤ MOST_ROUNDS) × All (IsRound counts) rounds → AllZip (AllZip (AllZip Right)) rounds kept → IsPlayed (rounds_told images rounds kept)
    rounds_played rounds kept few right =
        let same = AllZip-length (AllZip (AllZip Right)) rounds kept right in
        let long = zip_length (round_told images) rounds kept (omega (arith, same)) in (
          (let most = few.0 in omega (arith, most, same, long)),
          zip_all (round_told images) (λ threads k. IsRound counts threads × AllZip (AllZip Right) threads k) IsPlayedRound round_played rounds kept
              (AllZip-first (AllZip (AllZip Right)) (IsRound counts) rounds kept few.1 right),
        )
