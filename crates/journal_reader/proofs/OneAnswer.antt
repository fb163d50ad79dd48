-- A text tells one journal, or has one first bad line, and never both.
use Rattle.std.proofs.Common.{◌≡◌, ℕ, ◌^◌, ◌<◌, List, [], ◌∷◌, ◌++◌, length, refl, sym, ap, ap₂, subst, inl, inr, ◌∙◌, append_assoc, append-nil, arith}
use Rattle.std.proofs.lemmas.Grind.{flat_map-append}
use Rattle.std.proofs.lemmas.Bool.{cases_lt}
use Rattle.script_text.specs.Fields.{pieces}
use Rattle.script_text.specs.ScriptData.{ScriptData, IsRunnable}
use Rattle.script_text.specs.JournalData.{JournalData}
use Rattle.script_text.specs.Fields.{lines_text}
use Rattle.script_text.proofs.Joined.{join, join_pieces}
use Rattle.journal_reader.specs.FormFlaw.{TellsJournal, BeginsJournal, IsBadAfter, FormFlaw}
use Rattle.journal_reader.proofs.Journals.{told_once}

pub few_images : (script : ScriptData) → IsRunnable script → length script.images < 2 ^ 32
few_images script run = let bound = run.images in omega (arith, bound)

pub one_journal : (script : ScriptData) (text : List ℕ) (a b : JournalData) → IsRunnable script → TellsJournal script text a → TellsJournal script text b → a ≡ b
one_journal script text a b run p q = told_once script (few_images script run) text a b p q

-- one list of lines is a front of another
longer : (xs ys ps qs : List (List ℕ)) → xs ++ ps ≡ ys ++ qs → length xs < length ys → (a : List ℕ) × (more : List (List ℕ)) × (ys ≡ xs ++ a ∷ more) × (ps ≡ a ∷ (more ++ qs))
longer [] (y ∷ ys) ps qs e lt = (y, ys, refl, e)
longer [] [] ps qs e lt = absurd (omega arith)
longer (x ∷ xs) [] ps qs e lt = absurd (omega arith)
longer (x ∷ xs) (y ∷ ys) ps qs e lt =
    let tails : xs ++ ps ≡ ys ++ qs = cc in
    let heads : x ≡ y = cc in
    let r = longer xs ys ps qs tails (omega arith) in
    (r.0, r.1, ap₂ (λ (z : List ℕ) (zs : List (List ℕ)). z ∷ zs) (sym heads) r.2, r.3)

begins_front : (script : ScriptData) (xs ys : List (List ℕ)) → BeginsJournal script (xs ++ ys) → BeginsJournal script xs
begins_front script xs ys b =
    (b.0, lines_text ys ++ b.1, b.2, b.3 ∙ ap (λ (x : List ℕ). x ++ b.1) (flat_map-append (λ (line : List ℕ). line ++ 10 ∷ []) xs ys) ∙ append_assoc (lines_text xs) (lines_text ys) b.1)

bad_before : (script : ScriptData) (before others : List (List ℕ)) (line next : List ℕ) (more left : List (List ℕ)) → IsBadAfter script before line others → others ≡ more ++ next ∷ left → BeginsJournal script (before ++ line ∷ more) → ⊥
bad_before script before [] line next [] left bad is begun = absurd cc
bad_before script before [] line next (m ∷ more) left bad is begun = absurd cc
bad_before script before (o ∷ others) line next more left bad is begun =
    bad (begins_front script (before ++ line ∷ []) more (subst (BeginsJournal script) (sym (append_assoc before (line ∷ []) more)) begun))

none_later : (script : ScriptData) (text : List ℕ) (n m : ℕ) → FormFlaw script text n → FormFlaw script text m → n < m → ⊥
none_later script text n m p q lt =
    let r = longer p.before q.before (p.line ∷ p.others) (q.line ∷ q.others) (sym p.cut ∙ q.cut) (omega (arith, p.counted, q.counted)) in
    let line : p.line ≡ r.0 = cc (r.3) in
    let others : p.others ≡ r.1 ++ q.line ∷ q.others = cc (r.3) in
    bad_before script p.before p.others p.line q.line r.1 q.others p.bad others (subst (BeginsJournal script) (r.2 ∙ ap (λ (x : List ℕ). p.before ++ x ∷ r.1) (sym line)) q.begun)

pub one_line : (script : ScriptData) (text : List ℕ) (n m : ℕ) → FormFlaw script text n → FormFlaw script text m → n ≡ m
one_line script text n m p q =
    elim (cases_lt n m) [
      | inl lt ↦ absurd (none_later script text n m p q lt)
      | inr ge ↦ elim (cases_lt m n) [
        | inl lt ↦ absurd (none_later script text m n q p lt)
        | inr le ↦ omega arith
      ]
    ]

join_lines : (before : List (List ℕ)) (line : List ℕ) (others : List (List ℕ)) → join 10 (before ++ line ∷ others) ≡ lines_text before ++ join 10 (line ∷ others)
join_lines [] line others = refl
join_lines (b ∷ []) line others =
    sym (append_assoc b (10 ∷ []) (join 10 (line ∷ others))) ∙ ap (λ (x : List ℕ). x ++ join 10 (line ∷ others)) (sym (append-nil (b ++ 10 ∷ [])))
join_lines (b ∷ next ∷ before) line others =
    ap (λ (x : List ℕ). b ++ 10 ∷ x) (join_lines (next ∷ before) line others)
    ∙ sym (append_assoc b (10 ∷ []) (lines_text (next ∷ before) ++ join 10 (line ∷ others)))
    ∙ sym (append_assoc (b ++ 10 ∷ []) (lines_text (next ∷ before)) (join 10 (line ∷ others)))

told_bad : (script : ScriptData) (text : List ℕ) (journal : JournalData) (before others : List (List ℕ)) (line : List ℕ) → TellsJournal script text journal → pieces 10 text ≡ before ++ line ∷ others → IsBadAfter script before line others → ⊥
told_bad script text journal before [] line tells cut bad =
    bad journal (record { told = tells.told; spelled = tells.spelled ∙ sym (join_pieces 10 text) ∙ ap (join 10) cut ∙ join_lines before line [] })
told_bad script text journal before (next ∷ others) line tells cut bad =
    let rest = join 10 (next ∷ others) in
    bad (
      journal,
      rest,
      tells.told,
      tells.spelled ∙ sym (join_pieces 10 text) ∙ ap (join 10) cut ∙ join_lines before line (next ∷ others)
          ∙ ap (λ (x : List ℕ). lines_text before ++ x) (sym (append_assoc line (10 ∷ []) rest) ∙ ap (λ (x : List ℕ). x ++ rest) (sym (append-nil (line ++ 10 ∷ []))))
          ∙ sym (append_assoc (lines_text before) (lines_text (line ∷ [])) rest)
          ∙ ap (λ (x : List ℕ). x ++ rest) (sym (flat_map-append (λ (line : List ℕ). line ++ 10 ∷ []) before (line ∷ []))),
    )

pub never_told_and_bad : (script : ScriptData) (text : List ℕ) (journal : JournalData) (number : ℕ) → TellsJournal script text journal → FormFlaw script text number → ⊥
never_told_and_bad script text journal number tells flaw = told_bad script text journal flaw.before flaw.others flaw.line tells flaw.cut flaw.bad
