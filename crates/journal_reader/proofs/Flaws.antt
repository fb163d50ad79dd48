-- From what was read of a text's lines to the first bad one.
use Rattle.std.proofs.Common.{◌≡◌, ◌≢◌, ℕ, ◌+◌, ◌^◌, ◌<◌, ◌≤◌, true, false, eqb, List, [], ◌∷◌, ◌++◌, length, None, inl, inr, eqb-true, refl, sym, ap, ap₂, subst, ◌∙◌, append_assoc, append-nil, length-append, arith}
use Rattle.std.specs.List.{AllByRecursion, count_by}
use Rattle.std.proofs.lemmas.Grind.{flat_map-append}
use Rattle.script_text.specs.Fields.{pieces}
use Rattle.script_text.specs.ScriptData.{ScriptData}
use Rattle.script_text.specs.JournalData.{JournalData}
use Rattle.script_text.specs.Fields.{lines_text}
use Rattle.script_text.specs.Text.{journal_text}
use Rattle.script_text.proofs.Pieces.{some_pieces}
use Rattle.script_text.proofs.Joined.{Without, join, join_pieces, pieces_only}
use Rattle.journal_reader.specs.Told.{IsToldJournal}
use Rattle.journal_reader.specs.JournalLines.{journal_lines}
use Rattle.journal_reader.specs.ReadLines.{AreBarredBy, IsStuck}
use Rattle.journal_reader.specs.FormFlaw.{TellsJournal, BeginsJournal, IsBadAfter, FormFlaw}
use Rattle.journal_reader.specs.JournalRead.{ReadsJournal}
use Rattle.journal_reader.proofs.Cuts.{pieces_count}
use Rattle.journal_reader.proofs.Journals.{journal_unique}
use Rattle.journal_reader.proofs.TextLines.{journal_text_is, pieces_lines, journal_pieces, pieces_without}

last_parts : (xs ys : List (List ℕ)) (a b : List ℕ) → xs ++ a ∷ [] ≡ ys ++ b ∷ [] → (xs ≡ ys) × (a ≡ b)
last_parts [] [] a b e = (refl, cc)
last_parts [] (y ∷ ys) a b e = absurd (omega (arith, ap length e, length-append ys (b ∷ [])))
last_parts (x ∷ xs) [] a b e = absurd (omega (arith, ap length e, length-append xs (a ∷ [])))
last_parts (x ∷ xs) (y ∷ ys) a b e =
    let tails : xs ++ a ∷ [] ≡ ys ++ b ∷ [] = cc in
    let r = last_parts xs ys a b tails in
    let heads : x ≡ y = cc in
    (ap₂ (λ (z : List ℕ) (zs : List (List ℕ)). z ∷ zs) heads r.0, r.1)

each_before : (before others : List (List ℕ)) → AllByRecursion (Without 10) (before ++ others) → AllByRecursion (Without 10) before × AllByRecursion (Without 10) others
each_before [] others p = (tt, p)
each_before (line ∷ before) others p = let r = each_before before others p.1 in ((p.0, r.0), r.1)

begins : (script : ScriptData) (journal : JournalData) (before others : List (List ℕ)) → IsToldJournal script journal → journal_lines journal ≡ before ++ others → BeginsJournal script before
begins script journal before others told is =
    (journal, lines_text others, told, journal_text_is journal ∙ ap lines_text is ∙ flat_map-append (λ (line : List ℕ). line ++ 10 ∷ []) before others)

-- the lines of a journal whose text is this
cut_last : (text : List ℕ) (before : List (List ℕ)) (line : List ℕ) (journal : JournalData) → pieces 10 text ≡ before ++ line ∷ [] → journal_text journal ≡ lines_text before ++ line → journal_lines journal ++ [] ∷ [] ≡ before ++ line ∷ []
cut_last text before line journal cut is =
    let parts = each_before before (line ∷ []) (subst (AllByRecursion (Without 10)) cut (pieces_without text)) in
    sym (journal_pieces journal) ∙ pieces_lines (journal_text journal) before line is parts.0 ∙ ap (λ (x : List (List ℕ)). before ++ x) (pieces_only 10 line parts.1.0)

-- the lines of a journal whose text begins so
cut_more : (text : List ℕ) (before others : List (List ℕ)) (line : List ℕ) (journal : JournalData) (rest : List ℕ) → pieces 10 text ≡ before ++ line ∷ others → journal_text journal ≡ lines_text (before ++ line ∷ []) ++ rest → journal_lines journal ++ [] ∷ [] ≡ before ++ line ∷ pieces 10 rest
cut_more text before others line journal rest cut is =
    let parts = each_before before (line ∷ others) (subst (AllByRecursion (Without 10)) cut (pieces_without text)) in
    let both = all_joined before (line ∷ []) parts.0 (parts.1.0, tt) in
    sym (journal_pieces journal) ∙ pieces_lines (journal_text journal) (before ++ line ∷ []) rest is both ∙ append_assoc before (line ∷ []) (pieces 10 rest)
  where
    all_joined : (xs ys : List (List ℕ)) → AllByRecursion (Without 10) xs → AllByRecursion (Without 10) ys → AllByRecursion (Without 10) (xs ++ ys)
    all_joined [] ys p q = q
    all_joined (x ∷ xs) ys p q = (p.0, all_joined xs ys p.1 q)

counted_from : (number : ℕ) (all before left : List (List ℕ)) → all ≡ before ++ left → number + length left ≡ length all + 1 → number ≡ length before + 1
counted_from number all before left cut count = omega (arith, ap length cut, length-append before left, count)

stuck_bad : (script : ScriptData) (text : List ℕ) (before others : List (List ℕ)) (line : List ℕ) → pieces 10 text ≡ before ++ line ∷ others → AreBarredBy (IsToldJournal script) journal_lines before (line ∷ others) → IsBadAfter script before line others
stuck_bad script text before [] line cut barred =
    λ journal tells.
    let lines = (last_parts (journal_lines journal) before [] line (cut_last text before line journal cut tells.spelled)).0 in
    barred journal [] tells.told (ap (λ (x : List (List ℕ)). x ++ []) (sym lines))
stuck_bad script text before (next ∷ others) line cut barred =
    λ begun. barred (pieces 10 begun.1) begun.0 ([] ∷ []) begun.2 (sym (cut_more text before (next ∷ others) line begun.0 begun.1 cut begun.3))

-- the lines are stuck, so the next one is the first bad one
pub stuck_flaw : (script : ScriptData) (text : List ℕ) (left : List (List ℕ)) (number : ℕ) → IsStuck (IsToldJournal script) journal_lines (pieces 10 text) left → number + length left ≡ length (pieces 10 text) + 1 → FormFlaw script text number
stuck_flaw script text [] number stuck count = absurd stuck.barred
stuck_flaw script text (line ∷ others) number stuck count = record {
  before = stuck.before;
  line = line;
  others = others;
  cut = stuck.cut;
  counted = counted_from number (pieces 10 text) stuck.before (line ∷ others) stuck.cut count;
  begun = begins script stuck.some stuck.before stuck.others stuck.is_told stuck.begun;
  bad = stuck_bad script text stuck.before others line stuck.cut stuck.barred;
}

module _ (script : ScriptData) (few : length script.images < 2 ^ 32) (text : List ℕ) (journal : JournalData) (told : IsToldJournal script journal) where
  after_bad : (line : List ℕ) (others : List (List ℕ)) → pieces 10 text ≡ journal_lines journal ++ line ∷ others → line ∷ others ≢ [] ∷ [] → IsBadAfter script (journal_lines journal) line others
  after_bad line [] cut differs =
      λ other tells.
      let same = journal_unique script few other journal ([] ∷ []) (line ∷ []) tells.told told (cut_last text (journal_lines journal) line other cut tells.spelled) in
      differs (sym same.1)
  after_bad line (next ∷ others) cut differs =
      λ begun.
      let same = journal_unique script few begun.0 journal ([] ∷ []) (line ∷ pieces 10 begun.1) begun.2 told (cut_more text (journal_lines journal) (next ∷ others) line begun.0 begun.1 cut begun.3) in
      let some = some_pieces 10 begun.1 in
      let bad : [] ≡ some.0 ∷ some.1 = cc (same.1, some.2) in
      absurd cc

  -- a journal was read, and something follows it
  pub after_flaw : (left : List (List ℕ)) (number : ℕ) → pieces 10 text ≡ journal_lines journal ++ left → left ≢ [] ∷ [] → left ≢ [] → number + length left ≡ length (pieces 10 text) + 1 → FormFlaw script text number
  after_flaw [] number cut differs some count = absurd (some refl)
  after_flaw (line ∷ others) number cut differs some count = record {
    before = journal_lines journal;
    line = line;
    others = others;
    cut = cut;
    counted = counted_from number (pieces 10 text) (journal_lines journal) (line ∷ others) cut count;
    begun = begins script journal (journal_lines journal) [] told (sym (append-nil (journal_lines journal)));
    bad = after_bad line others cut differs;
  }

  -- a journal was read, and nothing follows it
  pub whole_tells : pieces 10 text ≡ journal_lines journal ++ [] ∷ [] → TellsJournal script text journal
  whole_tells cut = record {
    told = told;
    spelled = sym (join_pieces 10 (journal_text journal)) ∙ ap (join 10) (journal_pieces journal ∙ sym cut) ∙ join_pieces 10 text;
  }

-- ---- what was read of a text

pub nothing_left : (rest : List ℕ) → eqb (length rest) 0 ≡ true → pieces 10 rest ≡ [] ∷ []
nothing_left [] empty = refl
nothing_left (b ∷ rest) empty = absurd (omega (arith, eqb-true (length (b ∷ rest)) 0 empty))

pub something_left : (rest : List ℕ) → eqb (length rest) 0 ≡ false → pieces 10 rest ≢ [] ∷ []
something_left [] some is = absurd cc
something_left (b ∷ rest) some is =
    let same : b ∷ rest ≡ [] = sym (join_pieces 10 (b ∷ rest)) ∙ ap (join 10) is in
    absurd cc

pub left_fewer : (script : ScriptData) (text rest : List ℕ) → ReadsJournal script (pieces 10 text) None (pieces 10 rest) → count_by (λ b. eqb b 10) rest ≤ count_by (λ b. eqb b 10) text
left_fewer script text rest (inl stuck) = omega (arith, ap length stuck.cut, length-append stuck.before (pieces 10 rest), pieces_count text, pieces_count rest)
left_fewer script text rest (inr more) = omega (arith, ap length more.cut, length-append (journal_lines more.journal) (pieces 10 rest), pieces_count text, pieces_count rest)

pub flaw_of : (script : ScriptData) → length script.images < 2 ^ 32 → (text rest : List ℕ) (number : ℕ) → ReadsJournal script (pieces 10 text) None (pieces 10 rest) → number + length (pieces 10 rest) ≡ length (pieces 10 text) + 1 → FormFlaw script text number
flaw_of script few text rest number (inl stuck) count = stuck_flaw script text (pieces 10 rest) number stuck count
flaw_of script few text rest number (inr more) count =
    let some = some_pieces 10 rest in
    after_flaw script few text more.journal more.told (pieces 10 rest) number more.cut more.more (λ none. let bad : [] ≡ some.0 ∷ some.1 = sym none ∙ some.2 in absurd cc) count
