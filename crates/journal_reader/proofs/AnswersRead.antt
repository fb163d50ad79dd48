-- Answers: what is read is told and spelled so, and what is told is read from its text.
use Rattle.std.proofs.Common.{◌≡◌, ◌⊎◌, ℕ, ◌^◌, ◌<◌, Bool, true, false, cond, List, [], ◌∷◌, ◌++◌, length, Option, Some, None, IfSome, codes, refl, sym, ap, subst, inl, inr, ◌∙◌, append_assoc, append-nil, arith}
use Rattle.std.specs.Fmt.{decimal, digits}
use Rattle.std.specs.Str.{bytes_eq}
use Rattle.std.proofs.lemmas.Slice.Eq.{bytes_eq-Decides}
use Rattle.reg_model.specs.SpanData.{SpanData}
use Rattle.reg_model.specs.Receipt.{IsPlace}
use Rattle.reg_model.specs.declared.answer.Found.{Found}
use Rattle.reg_model.specs.declared.answer.Found.TheVariants.{Hit, Miss}
use Rattle.reg_model.specs.declared.answer.Place.{Place}
use Rattle.reg_model.specs.declared.answer.Inserted.{Inserted}
use Rattle.reg_model.specs.declared.answer.Inserted.TheVariants as inserted
use Rattle.reg_model.specs.declared.answer.Loading.{Loading}
use Rattle.reg_model.specs.declared.answer.Loading.TheVariants as loading
use Rattle.reg_model.specs.declared.answer.Removed.{Removed}
use Rattle.reg_model.specs.declared.answer.Removed.TheVariants as removed
use Rattle.reg_model.specs.declared.answer.Replaced.{Replaced}
use Rattle.reg_model.specs.declared.answer.Replaced.TheVariants as replaced
use Rattle.unwind_step.specs.declared.backtrace.End.{End}
use Rattle.unwind_step.specs.declared.backtrace.End.TheVariants as end
use Rattle.unwind_step.specs.declared.backtrace.FrameLine.{FrameLine}
use Rattle.script_text.specs.Digits.{hex}
use Rattle.script_text.specs.Fields.{decimal_in, hex_in, number_in}
use Rattle.script_text.specs.Text.{inserted_text, loading_text, removed_text, replaced_text, found_text, loaded_text, place_text, end_text}
use Rattle.script_text.specs.Lawful.{image_member}
use Rattle.script_text.proofs.Numbers.{decimal_again, hex_again}
use Rattle.journal_reader.specs.FirstNumbers.{decimal_first, hex_first, past_word}
use Rattle.journal_reader.specs.Told.{IsToldFound, IsToldPlace, IsToldInserted, IsToldLoading, IsToldRemoved, IsToldReplaced, IsToldFrame, IsToldEnd}
use Rattle.journal_reader.specs.Reading.{◌>?>◌, image_in, overlap_in, inserted_in, as_loading, loading_in, removed_in, as_replaced, replaced_in, found_first, if_last, loaded_in, place_from, told_place, frame_in, plain_end, end_in}
use Rattle.journal_reader.proofs.Options.{step_parts, going_parts}
use Rattle.script_text.proofs.Numbers.{decimal_is, hex_is}
use Rattle.journal_reader.proofs.FirstParts.{IsCut, past_is, decimal_first_again, hex_first_again, decimal_first_is, hex_first_is}
use Rattle.journal_reader.proofs.Members.{image_in_is, image_in_again, overlap_again, overlap_is}

module _ (images : List SpanData) (few : length images < 2 ^ 32) where
  -- ---- what is told is read from its text

  pub inserted_again : (answer : Inserted) → IsToldInserted images answer → inserted_in images (inserted_text answer) ≡ Some answer
  unfolding inserted_in past_word
  inserted_again (inserted.Done number) told = rw (decimal_again number told) refl
  inserted_again (inserted.Overlap m stamp) told = rw (overlap_again images few m stamp told.0 told.1) refl
  inserted_again (inserted.Full stamp) told = rw (decimal_again stamp told) refl
  inserted_again inserted.Spent told = absurd told

  pub loading_again : (answer : Loading) → IsToldLoading images answer → loading_in images (loading_text answer) ≡ Some answer
  unfolding loading_in
  loading_again (loading.Done number) told = rw (inserted_again (inserted.Done number) told) refl
  loading_again (loading.Overlap m stamp) told = rw (inserted_again (inserted.Overlap m stamp) told) refl
  loading_again (loading.LoadFull stamp) told = rw (inserted_again (inserted.Full stamp) told) refl
  loading_again loading.Spent told = absurd told

  pub removed_again : (answer : Removed) → IsToldRemoved images answer → removed_in images (removed_text answer) ≡ Some answer
  unfolding removed_in past_word
  removed_again (removed.Done number m) told =
      let named = told.1.named in
      let last = codes " image " ++ decimal m.payload in
      ap (λ (x : List ℕ). removed_in images (codes "done " ++ x)) (append_assoc (decimal number) (codes " image ") (decimal m.payload))
      ∙ rw (decimal_first_again number last told.0 refl, decimal_again m.payload (omega arith), image_in_again images few m told.1) refl
  removed_again (removed.NotFound stamp) told = rw (decimal_again stamp told) refl
  removed_again removed.Spent told = absurd told

  pub replaced_again : (answer : Replaced) → IsToldReplaced images answer → replaced_in images (replaced_text answer) ≡ Some answer
  unfolding replaced_in
  replaced_again (replaced.Done number payload) told = rw (removed_again (removed.Done number (image_member images payload)) (told.0, record { named = told.1; is = refl })) refl
  replaced_again (replaced.NotFound stamp) told = rw (removed_again (removed.NotFound stamp) told) refl
  replaced_again replaced.Spent told = absurd told

  none_is_no_number : (rest : List ℕ) → decimal_first (codes "none" ++ 32 ∷ rest) ≡ None
  unfolding decimal_first number_in digits
  none_is_no_number rest = refl

  pub found_again : (found : Found) (rest : List ℕ) → IsToldFound images found → IsCut rest → found_first images (found_text found ++ rest) ≡ Some (found, rest)
  unfolding found_first past_word
  found_again (Hit m stamp) rest told cut =
      let named = told.0.named in
      let last = codes " at " ++ (decimal stamp ++ rest) in
      let glued : ((decimal m.payload ++ codes " at ") ++ decimal stamp) ++ rest ≡ decimal m.payload ++ last = simp append_assoc in
      ap (found_first images) glued
      ∙ rw (decimal_first_again m.payload last (omega arith) refl, image_in_again images few m told.0, decimal_first_again stamp rest told.1 cut) refl
  found_again (Miss stamp) rest told cut =
      rw (none_is_no_number (codes "at " ++ (decimal stamp ++ rest)), decimal_first_again stamp rest told cut) refl

  pub loaded_again : (found : Found) → IsToldFound images found → loaded_in images (loaded_text (Some found)) ≡ Some found
  unfolding loaded_in past_word
  loaded_again found told =
      ap (λ (x : List ℕ). loaded_in images (codes " loaded " ++ x)) (sym (append-nil (found_text found)))
      ∙ rw (found_again found [] told tt) refl

  pub place_again : (place : Place) → IsToldPlace images place → told_place images (place_text place) ≡ Some place
  unfolding told_place past_word
  place_again place told = by place.registered place.loaded told.whole told.registered told.loaded
    where
      by : (registered : Found) (loaded : Option Found) → IsPlace (record { registered = registered; loaded = loaded }) → IsToldFound images registered → IfSome loaded (IsToldFound images)
          → told_place images (place_text (record { registered = registered; loaded = loaded })) ≡ Some (record { registered = registered; loaded = loaded })
      by (Hit m stamp) None whole first second = rw (found_again (Hit m stamp) [] first tt) refl
      by (Hit m stamp) (Some found) whole first second = absurd cc
      by (Miss stamp) None whole first second = absurd whole
      by (Miss stamp) (Some found) whole first second = rw (found_again (Miss stamp) (loaded_text (Some found)) first refl, loaded_again found second) refl

  pub end_again : (e : End) → IsToldEnd e → end_in (end_text e) ≡ Some e
  unfolding end_in past_word
  end_again end.NoObject told = refl
  end_again end.NoFde told = refl
  end_again end.NoRow told = refl
  end_again end.Undefined told = refl
  end_again (end.NoBytes address) told = rw (hex_again address told) refl
  end_again end.Long told = refl

  -- what the line of a frame says after its head
  abbrev pub frame_rest : FrameLine → List ℕ
  frame_rest line = hex line.pc ++ (codes " sp " ++ (hex line.sp ++ (codes " look " ++ (hex line.look ++ (codes " " ++ place_text line.place)))))

  pub frame_again : (line : FrameLine) → IsToldFrame images line → frame_in images (frame_rest line) ≡ Some line
  unfolding frame_in past_word
  frame_again line told =
      let place = codes " " ++ place_text line.place in
      let look = codes " look " ++ (hex line.look ++ place) in
      let sp = codes " sp " ++ (hex line.sp ++ look) in
      rw (hex_first_again line.pc sp told.pc refl, hex_first_again line.sp look told.sp refl, hex_first_again line.look place told.look refl, place_again line.place told.place) refl

  -- ---- what is read is told, and spelled so

  -- a word, and one thing after it
  after_word : {A X : Type 0} (word text rest : List ℕ) (read : Option A) (made : A → X) (IsRead : X → List ℕ → Type 0) → past_word word text ≡ Some rest → ((a : A) → read ≡ Some a → IsRead (made a) (word ++ rest)) → (answer : X) → (read >?> λ a. Some (made a)) ≡ Some answer → IsRead answer text
  after_word word text rest read made IsRead front is answer e =
      let q = step_parts read (λ a. Some (made a)) answer e in
      let same : made q.0 ≡ answer = cc in
      subst (λ x. IsRead x text) same (subst (IsRead (made q.0)) (sym (past_is word text rest front)) (is q.0 q.1))

  -- a word, and a decimal number after it
  number_after : {X : Type 0} (word text rest : List ℕ) (made : ℕ → X) (IsRead : X → List ℕ → Type 0) → past_word word text ≡ Some rest → ((n : ℕ) → n < 2 ^ 32 → IsRead (made n) (word ++ decimal n)) → (answer : X) → (decimal_in rest >?> λ n. Some (made n)) ≡ Some answer → IsRead answer text
  number_after word text rest made IsRead front is answer e =
      after_word word text rest (decimal_in rest) made IsRead front (λ n read. let number = decimal_is rest n read in subst (λ (x : List ℕ). IsRead (made n) (word ++ x)) (sym number.1) (is n number.0)) answer e

  abbrev IsReadInserted : Inserted → List ℕ → Type 0
  IsReadInserted answer text = IsToldInserted images answer × (text ≡ inserted_text answer)

  abbrev IsReadRemoved : Removed → List ℕ → Type 0
  IsReadRemoved answer text = IsToldRemoved images answer × (text ≡ removed_text answer)

  pub inserted_is : (text : List ℕ) (answer : Inserted) → inserted_in images text ≡ Some answer → IsReadInserted answer text
  unfolding inserted_in
  inserted_is text answer e =
      elim (going_parts (past_word (codes "done ") text) _ _ answer e) [
        | inl p ↦ number_after (codes "done ") text p.0 inserted.Done IsReadInserted p.1 (λ n lt. (lt, refl)) answer p.2
        | inr r ↦ elim (going_parts (past_word (codes "full at ") text) _ _ answer r.1) [
          | inl p ↦ number_after (codes "full at ") text p.0 inserted.Full IsReadInserted p.1 (λ n lt. (lt, refl)) answer p.2
          | inr s ↦
              let p = step_parts (past_word (codes "overlap ") text) _ answer s.1 in
              after_word (codes "overlap ") text p.0 (overlap_in images p.0) (λ found. inserted.Overlap found.0 found.1) IsReadInserted p.1 (λ found is. let over = overlap_is images few p.0 found.0 found.1 is in ((over.0, over.1), ap (λ (x : List ℕ). codes "overlap " ++ x) over.2)) answer p.2
        ]
      ]

  -- an answer that is read as another one, and spelled as it
  read_as : {X Y : Type 0} (text : List ℕ) (read : Option X) (other : X → Option Y) (IsRead : X → List ℕ → Type 0) (IsReadAs : Y → List ℕ → Type 0) → ((x : X) → read ≡ Some x → IsRead x text) → ((x : X) (y : Y) → other x ≡ Some y → IsRead x text → IsReadAs y text) → (answer : Y) → (read >?> other) ≡ Some answer → IsReadAs answer text
  read_as text read other IsRead IsReadAs is from answer e = (let p = step_parts read other answer e in from p.0 answer p.2 (is p.0 p.1))

  abbrev IsReadLoading : Loading → List ℕ → Type 0
  IsReadLoading answer text = IsToldLoading images answer × (text ≡ loading_text answer)

  loading_from : (text : List ℕ) (read : Inserted) (answer : Loading) → as_loading read ≡ Some answer → IsReadInserted read text → IsReadLoading answer text
  loading_from text (inserted.Done number) answer e is = (let same : loading.Done number ≡ answer = cc in subst (λ (x : Loading). IsReadLoading x text) same is)
  loading_from text (inserted.Overlap m stamp) answer e is = (let same : loading.Overlap m stamp ≡ answer = cc in subst (λ (x : Loading). IsReadLoading x text) same is)
  loading_from text (inserted.Full stamp) answer e is = (let same : loading.LoadFull stamp ≡ answer = cc in subst (λ (x : Loading). IsReadLoading x text) same is)
  loading_from text inserted.Spent answer e is = absurd is.0

  pub loading_is : (text : List ℕ) (answer : Loading) → loading_in images text ≡ Some answer → IsReadLoading answer text
  unfolding loading_in
  loading_is text answer e = read_as text (inserted_in images text) as_loading IsReadInserted IsReadLoading (inserted_is text) (loading_from text) answer e

  pub removed_is : (text : List ℕ) (answer : Removed) → removed_in images text ≡ Some answer → IsReadRemoved answer text
  unfolding removed_in
  removed_is text answer e =
      elim (going_parts (past_word (codes "done ") text) _ _ answer e) [
        | inl p ↦
            let a = step_parts (decimal_first p.0) _ answer p.2 in
            let b = step_parts (past_word (codes " image ") a.0.1) _ answer a.2 in
            let c = step_parts (decimal_in b.0) _ answer b.2 in
            let d = step_parts (image_in images c.0) _ answer c.2 in
            let front = past_is (codes "done ") text p.0 p.1 in
            let number = decimal_first_is p.0 a.0.0 a.0.1 a.1 in
            let mid = past_is (codes " image ") a.0.1 b.0 b.1 in
            let image = decimal_is b.0 c.0 c.1 in
            let member = image_in_is images few c.0 d.0 d.1 in
            let is : removed.Done a.0.0 d.0 ≡ answer = cc in
            let back : b.0 ≡ decimal d.0.payload = image.1 ∙ ap decimal (sym member.1) in
            subst (λ (x : Removed). IsReadRemoved x text) is (
              (number.0, member.0),
              front ∙ ap (λ (x : List ℕ). codes "done " ++ x) (number.1 ∙ ap (λ (x : List ℕ). decimal a.0.0 ++ x) (mid ∙ ap (λ (x : List ℕ). codes " image " ++ x) back)
                  ∙ sym (append_assoc (decimal a.0.0) (codes " image ") (decimal d.0.payload))),
            )
        | inr r ↦
            let p = step_parts (past_word (codes "absent at ") text) _ answer r.1 in
            number_after (codes "absent at ") text p.0 removed.NotFound IsReadRemoved p.1 (λ n lt. (lt, refl)) answer p.2
      ]

  abbrev IsReadReplaced : Replaced → List ℕ → Type 0
  IsReadReplaced answer text = IsToldReplaced images answer × (text ≡ replaced_text answer)

  replaced_from : (text : List ℕ) (read : Removed) (answer : Replaced) → as_replaced read ≡ Some answer → IsReadRemoved read text → IsReadReplaced answer text
  replaced_from text (removed.Done number m) answer e is = (let same : replaced.Done number m.payload ≡ answer = cc in subst (λ (x : Replaced). IsReadReplaced x text) same ((is.0.0, is.0.1.named), is.1))
  replaced_from text (removed.NotFound stamp) answer e is = (let same : replaced.NotFound stamp ≡ answer = cc in subst (λ (x : Replaced). IsReadReplaced x text) same is)
  replaced_from text removed.Spent answer e is = absurd is.0

  pub replaced_is : (text : List ℕ) (answer : Replaced) → replaced_in images text ≡ Some answer → IsReadReplaced answer text
  unfolding replaced_in
  replaced_is text answer e = read_as text (removed_in images text) as_replaced IsReadRemoved IsReadReplaced (removed_is text) (replaced_from text) answer e

  pub found_is : (text : List ℕ) (found : Found) (rest : List ℕ) → found_first images text ≡ Some (found, rest) → IsToldFound images found × (text ≡ found_text found ++ rest)
  unfolding found_first
  found_is text found rest e =
      elim (going_parts (decimal_first text) _ _ (found, rest) e) [
        | inl p ↦
            let a = step_parts (image_in images p.0.0) _ (found, rest) p.2 in
            let b = step_parts (past_word (codes " at ") p.0.1) _ (found, rest) a.2 in
            let c = step_parts (decimal_first b.0) _ (found, rest) b.2 in
            let image = decimal_first_is text p.0.0 p.0.1 p.1 in
            let member = image_in_is images few p.0.0 a.0 a.1 in
            let mid = past_is (codes " at ") p.0.1 b.0 b.1 in
            let stamp = decimal_first_is b.0 c.0.0 c.0.1 c.1 in
            let is : (Hit a.0 c.0.0, c.0.1) ≡ (found, rest) = cc in
            let glued : ((decimal a.0.payload ++ codes " at ") ++ decimal c.0.0) ++ c.0.1 ≡ decimal a.0.payload ++ (codes " at " ++ (decimal c.0.0 ++ c.0.1)) = simp append_assoc in
            subst (λ (x : Found × List ℕ). IsToldFound images x.0 × (text ≡ found_text x.0 ++ x.1)) is (
              (member.0, stamp.0),
              image.1 ∙ ap (λ (n : ℕ). decimal n ++ p.0.1) (sym member.1) ∙ ap (λ (x : List ℕ). decimal a.0.payload ++ x) (mid ∙ ap (λ (x : List ℕ). codes " at " ++ x) stamp.1) ∙ sym glued,
            )
        | inr r ↦
            let p = step_parts (past_word (codes "none at ") text) _ (found, rest) r.1 in
            let q = step_parts (decimal_first p.0) _ (found, rest) p.2 in
            let front = past_is (codes "none at ") text p.0 p.1 in
            let stamp = decimal_first_is p.0 q.0.0 q.0.1 q.1 in
            let is : (Miss q.0.0, q.0.1) ≡ (found, rest) = cc in
            subst (λ (x : Found × List ℕ). IsToldFound images x.0 × (text ≡ found_text x.0 ++ x.1)) is (stamp.0, front ∙ ap (λ (x : List ℕ). codes "none at " ++ x) stamp.1)
      ]

  last_is : (found last : Found) (rest : List ℕ) → if_last found rest ≡ Some last → (rest ≡ []) × (found ≡ last)
  last_is found last [] e = (refl, cc)
  last_is found last (b ∷ rest) e = absurd cc

  -- a word, what was found after it, and what follows that
  found_after : {A : Type 0} (word text : List ℕ) (next : Found × List ℕ → Option A) (made : A) → (past_word word text >?> λ rest. found_first images rest >?> next) ≡ Some made
      → (found : Found) × (rest : List ℕ) × IsToldFound images found × (text ≡ word ++ (found_text found ++ rest)) × (next (found, rest) ≡ Some made)
  found_after word text next made e =
      let p = step_parts (past_word word text) (λ rest. found_first images rest >?> next) made e in
      let q = step_parts (found_first images p.0) next made p.2 in
      let half = found_is p.0 q.0.0 q.0.1 q.1 in
      (q.0.0, q.0.1, half.0, past_is word text p.0 p.1 ∙ ap (λ (x : List ℕ). word ++ x) half.1, q.2)

  pub loaded_is : (text : List ℕ) (found : Found) → loaded_in images text ≡ Some found → IsToldFound images found × (text ≡ loaded_text (Some found))
  unfolding loaded_in
  loaded_is text found e =
      let p = found_after (codes " loaded ") text (λ x. if_last x.0 x.1) found e in
      let last = last_is p.0 found p.1 p.4 in
      subst (λ (x : Found). IsToldFound images x × (text ≡ loaded_text (Some x))) last.1 (
        p.2,
        p.3 ∙ ap (λ (x : List ℕ). codes " loaded " ++ x) (ap (λ (x : List ℕ). found_text p.0 ++ x) last.0 ∙ append-nil (found_text p.0)),
      )

  place_from_is : (registered : Found) (rest : List ℕ) (place : Place) → IsToldFound images registered → place_from images registered rest ≡ Some place → IsToldPlace images place × (codes "registered " ++ (found_text registered ++ rest) ≡ place_text place)
  place_from_is (Hit m stamp) rest place told e =
      let p = step_parts (if_last (Hit m stamp) rest) _ place e in
      let last = last_is (Hit m stamp) p.0 rest p.1 in
      let whole : Place = record { registered = Hit m stamp; loaded = None } in
      let read : Place = record { registered = p.0; loaded = None } in
      let made : read ≡ place = cc in
      let is : whole ≡ place = ap (λ (x : Found). record { registered = x; loaded = None }) last.1 ∙ made in
      subst (λ (x : Place). IsToldPlace images x × (codes "registered " ++ (found_text (Hit m stamp) ++ rest) ≡ place_text x)) is
      (record { whole = refl; registered = told; loaded = tt }, ap (λ (x : List ℕ). codes "registered " ++ (found_text (Hit m stamp) ++ x)) last.0)
  place_from_is (Miss stamp) rest place told e =
      let p = step_parts (loaded_in images rest) _ place e in
      let half = loaded_is rest p.0 p.1 in
      let whole : Place = record { registered = Miss stamp; loaded = Some p.0 } in
      let is : whole ≡ place = cc in
      subst (λ (x : Place). IsToldPlace images x × (codes "registered " ++ (found_text (Miss stamp) ++ rest) ≡ place_text x)) is
      (record { whole = tt; registered = told; loaded = half.0 }, ap (λ (x : List ℕ). codes "registered " ++ (found_text (Miss stamp) ++ x)) half.1)

  pub place_is : (text : List ℕ) (place : Place) → told_place images text ≡ Some place → IsToldPlace images place × (text ≡ place_text place)
  unfolding told_place
  place_is text place e =
      let p = found_after (codes "registered ") text (λ x. place_from images x.0 x.1) place e in
      let whole = place_from_is p.0 p.1 place p.2 p.4 in
      (whole.0, p.3 ∙ whole.1)

  pub frame_is : (text : List ℕ) (line : FrameLine) → frame_in images text ≡ Some line → IsToldFrame images line × (text ≡ frame_rest line)
  unfolding frame_in
  frame_is text line e =
      let a = step_parts (hex_first text) _ line e in
      let b = step_parts (past_word (codes " sp ") a.0.1) _ line a.2 in
      let c = step_parts (hex_first b.0) _ line b.2 in
      let d = step_parts (past_word (codes " look ") c.0.1) _ line c.2 in
      let f = step_parts (hex_first d.0) _ line d.2 in
      let g = step_parts (past_word (codes " ") f.0.1) _ line f.2 in
      let h = step_parts (told_place images g.0) _ line g.2 in
      let pc = hex_first_is text a.0.0 a.0.1 a.1 in
      let to_sp = past_is (codes " sp ") a.0.1 b.0 b.1 in
      let sp = hex_first_is b.0 c.0.0 c.0.1 c.1 in
      let to_look = past_is (codes " look ") c.0.1 d.0 d.1 in
      let look = hex_first_is d.0 f.0.0 f.0.1 f.1 in
      let to_place = past_is (codes " ") f.0.1 g.0 g.1 in
      let place = place_is g.0 h.0 h.1 in
      let whole : FrameLine = record { pc = a.0.0; sp = c.0.0; look = f.0.0; place = h.0 } in
      let is : whole ≡ line = cc in
      let glued : text ≡ frame_rest whole =
      pc.1 ∙ ap (λ (x : List ℕ). hex a.0.0 ++ x) (to_sp ∙ ap (λ (x : List ℕ). codes " sp " ++ x) (sp.1 ∙ ap (λ (x : List ℕ). hex c.0.0 ++ x)
      (to_look ∙ ap (λ (x : List ℕ). codes " look " ++ x) (look.1 ∙ ap (λ (x : List ℕ). hex f.0.0 ++ x) (to_place ∙ ap (λ (x : List ℕ). codes " " ++ x) place.1))))) in
      subst (λ (x : FrameLine). IsToldFrame images x × (text ≡ frame_rest x)) is (record { pc = pc.0; sp = sp.0; look = look.0; place = place.0 }, glued)

  test_parts : {A : Type 0} (t : Bool) (x y : A) (other : Option A) → cond t (Some x) other ≡ Some y → ((t ≡ true) × (x ≡ y)) ⊎ (other ≡ Some y)
  test_parts true x y other e = inl (refl, cc)
  test_parts false x y other e = inr e

  end_case : (word text : List ℕ) (e found : End) → bytes_eq text word ≡ true → e ≡ found → end_text e ≡ word → IsToldEnd e → IsToldEnd found × (text ≡ end_text found)
  end_case word text e found same is spelled told =
      subst (λ (x : End). IsToldEnd x × (text ≡ end_text x)) is (told, (bytes_eq-Decides text word).0 same ∙ sym spelled)

  plain_end_is : (text : List ℕ) (found : End) → plain_end text ≡ Some found → IsToldEnd found × (text ≡ end_text found)
  plain_end_is text found e =
      elim (test_parts (bytes_eq text (codes "noobject")) end.NoObject found _ e) [
        | inl p ↦ end_case (codes "noobject") text end.NoObject found p.0 p.1 refl tt
        | inr e ↦ elim (test_parts (bytes_eq text (codes "nofde")) end.NoFde found _ e) [
          | inl p ↦ end_case (codes "nofde") text end.NoFde found p.0 p.1 refl tt
          | inr e ↦ elim (test_parts (bytes_eq text (codes "norow")) end.NoRow found _ e) [
            | inl p ↦ end_case (codes "norow") text end.NoRow found p.0 p.1 refl tt
            | inr e ↦ elim (test_parts (bytes_eq text (codes "undefined")) end.Undefined found _ e) [
              | inl p ↦ end_case (codes "undefined") text end.Undefined found p.0 p.1 refl tt
              | inr e ↦ elim (test_parts (bytes_eq text (codes "long")) end.Long found _ e) [
                | inl p ↦ end_case (codes "long") text end.Long found p.0 p.1 refl tt
                | inr e ↦ absurd cc
              ]
            ]
          ]
        ]
      ]

  pub end_is : (text : List ℕ) (found : End) → end_in text ≡ Some found → IsToldEnd found × (text ≡ end_text found)
  unfolding end_in
  end_is text found e =
      elim (going_parts (past_word (codes "nobytes ") text) _ _ found e) [
        | inl p ↦ after_word (codes "nobytes ") text p.0 (hex_in p.0) end.NoBytes (λ x ys. IsToldEnd x × (ys ≡ end_text x)) p.1 (λ n is. let address = hex_is p.0 n is in (address.0, ap (λ (x : List ℕ). codes "nobytes " ++ x) address.1)) found p.2
        | inr r ↦ plain_end_is text found r.1
      ]
