-- Lines that were read, one after another: what is read is a script.
use Rattle.std.proofs.Common.{◌≡◌, ℕ, ◌+◌, Bool, true, false, cond, List, [], ◌∷◌, ◌++◌, Result, Ok, Err, refl, sym, ap, subst, ◌∙◌, append_assoc, append-nil, arith}
use Rattle.std.specs.Option.{ok_or}
use Rattle.std.proofs.lemmas.Grind.{flat_map-append}
use Rattle.std.proofs.lemmas.List.Elements.{All-from_recursion}
use Rattle.reg_model.specs.SpanData.{IsSpan}
use Rattle.script_text.specs.ScriptData.{IsSectionOf}
use Rattle.script_text.specs.Statements.{kind_of_statement, statement_fields}
use Rattle.script_text.specs.Spelling.{Line, spelling_of, statement_text, statements_text, script_text, IsScript}
use Rattle.script_text.specs.Fields.{pieces, is_printable}
use Rattle.event_script.specs.Draft.{DraftData, nothing_known, may_come, is_ended, rounds_at, rounds_so_far}
use Rattle.event_script.specs.Reasons.{Says}
use Rattle.event_script.specs.Refusal.{whole_line}
use Rattle.event_script.specs.Reading.{kind_of, statement_of, added, by_word, after_line, at_end, BadLine, at_line, after_lines, outcome}
use Rattle.script_text.specs.declared.reason.Reason.{Reason}
use Rattle.script_text.specs.declared.reason.Reason.TheVariants as reason
use Rattle.event_script.specs.declared.reader.kinds.Stage.{Stage}
use Rattle.event_script.specs.declared.reader.kinds.Stage.TheVariants as stage
use Rattle.script_text.specs.declared.statement.Statement.{Statement}
use Rattle.script_text.proofs.Joined.{join, join_pieces, spelled_pieces}
use Rattle.event_script.proofs.Steps.{bind_ok, guard_last, guard_then, guard_else, kind_word}
use Rattle.event_script.proofs.Spoken.{same_kind, spoken}
use Rattle.event_script.specs.declared.reader.totals.Totals.{Totals}
use Rattle.event_script.proofs.EventTotals.{totals_of}
use Rattle.event_script.proofs.SoFar.{statements_at, statements_so_far, VersionAt, NodesAt, LoadsAt, ShapeAt, Sound, Step, no_events, no_threads, no_rounds, no_snapshots, no_fixed}
use Rattle.event_script.proofs.Sound.{statement_sound}

-- a line that was read says something that may come, and that is what it adds
pub record LineRead (known next : DraftData) (line : List ℕ) : Type 0 where
  pub statement : Statement
  pub says : Says (whole_line line) statement
  pub may : may_come known.script.version known.stage (kind_of_statement statement) ≡ true
  pub is : added known statement ≡ Ok next

module _ (known next : DraftData) (line : List ℕ) where
  pub words_read : (fields : Line) → pieces 32 line ≡ fields → by_word known fields ≡ Ok next → LineRead known next line
  unfolding by_word
  words_read [] is e = absurd cc
  words_read (word ∷ fields) is e =
      let k = bind_ok (ok_or (kind_of word) reason.Word) _ next e in
      let may = guard_then (may_come known.script.version known.stage k.0) reason.Word _ next k.2 in
      let s = bind_ok (statement_of k.0 fields) (λ s. added known s) next may.1 in
      let is_spoken = spoken k.0 fields s.0 s.1 in
      let same = (same_kind k.0 (kind_of_statement s.0) fields (statement_fields s.0) is_spoken.line).0 in
      record {
        statement = s.0;
        says = record { line = is ∙ ap (λ (w : List ℕ). w ∷ fields) (kind_word word k.0 k.1) ∙ is_spoken.line; form = is_spoken.form };
        may = sym (ap (may_come known.script.version known.stage) same) ∙ may.0;
        is = s.2;
      }

  pub line_read : after_line known line ≡ Ok next → LineRead known next line
  unfolding after_line
  line_read e =
      let open_still = guard_else (is_ended known.stage) reason.After _ next e in
      let printable = guard_then (is_printable line) reason.Byte (by_word known (pieces 32 line)) next open_still.1 in
      words_read (pieces 32 line) refl printable.1

  pub line_sound : Sound known → (r : LineRead known next line) → Step known next r.statement
  line_sound s r = statement_sound known.script known.snapshot known.threads known.events known.totals known.stage r.statement next r.may r.says.form s r.is

-- the text of a line that says this
pub said_text : (line : List ℕ) (s : Statement) → Says (whole_line line) s → statement_text s ≡ line ++ 10 ∷ []
said_text line s says = sym (ap spelling_of says.line) ∙ spelled_pieces line

-- the text of the lines so far
abbrev pub text_so_far : DraftData → List ℕ
text_so_far known = statements_text (statements_so_far known)

pub text_step : (known next : DraftData) (line : List ℕ) (s : Statement) → Says (whole_line line) s → Step known next s → text_so_far next ≡ text_so_far known ++ (line ++ 10 ∷ [])
text_step known next line s says step =
    ap statements_text step.statements ∙ flat_map-append statement_text (statements_so_far known) (s ∷ [])
    ∙ ap (λ (x : List ℕ). text_so_far known ++ x) (append-nil (statement_text s) ∙ said_text line s says)

-- the end of a script
pub record Ended (known : DraftData) (text : List ℕ) : Type 0 where
  pub sound : Sound known
  pub is_last : is_ended known.stage ≡ true
  pub is : text ≡ text_so_far known

pub end_sound : (known next : DraftData) (rest : List ℕ) → Sound known → at_end known rest ≡ Ok next → Ended next (text_so_far known ++ rest)
unfolding at_end
end_sound known next [] s e =
    let g = guard_last (is_ended known.stage) reason.Missing known next e in
    subst (λ (n : DraftData). Ended n (text_so_far known ++ [])) g.1 (record { sound = s; is_last = g.0; is = append-nil (text_so_far known) })
end_sound known next (b ∷ rest) s e = absurd (never (is_ended known.stage) e)
  where
    never : (t : Bool) → cond t (Err reason.After) (Err reason.Unended) ≡ Ok next → ⊥
    never true e = absurd cc
    never false e = absurd cc

abbrev pub numbered : DraftData → Result DraftData BadLine
numbered known = Ok known

pub numbered_ok : (number : ℕ) (given : Result DraftData Reason) (next : DraftData) → at_line number given ≡ Ok next → given ≡ Ok next
numbered_ok number (Ok known) next e = ap Ok (known_is known next e)
  where
    known_is : (known next : DraftData) → numbered known ≡ numbered next → known ≡ next
    known_is known next e = cc
numbered_ok number (Err why) next e = absurd cc

pub lines_sound : (known next : DraftData) (number : ℕ) (lines : List (List ℕ)) → Sound known → after_lines known number lines ≡ Ok next → Ended next (text_so_far known ++ join 10 lines)
unfolding after_lines
lines_sound known next number [] s e = end_sound known next [] s (numbered_ok number (at_end known []) next e)
lines_sound known next number (rest ∷ []) s e = end_sound known next rest s (numbered_ok number (at_end known rest) next e)
lines_sound known next number (line ∷ more ∷ others) s e =
    let a = bind_ok (at_line number (after_line known line)) (λ after. after_lines after (number + 1) (more ∷ others)) next e in
    let r = line_read known a.0 line (numbered_ok number (after_line known line) a.0 a.1) in
    let step = line_sound known a.0 line s r in
    let rest = lines_sound a.0 next (number + 1) (more ∷ others) step.sound a.2 in
    let regrouped : text_so_far a.0 ++ join 10 (more ∷ others) ≡ text_so_far known ++ join 10 (line ∷ more ∷ others) =
    ap (λ (x : List ℕ). x ++ join 10 (more ∷ others)) (text_step known a.0 line r.statement r.says step)
    ∙ append_assoc (text_so_far known) (line ++ 10 ∷ []) (join 10 (more ∷ others))
    ∙ ap (λ (x : List ℕ). text_so_far known ++ x) (append_assoc line (10 ∷ []) (join 10 (more ∷ others))) in
    subst (Ended next) regrouped rest

pub at_first : Sound nothing_known
at_first = record {
  each = refl;
  sections = All-from_recursion IsSectionOf [] tt;
  version = tt;
  nodes = tt;
  loads = tt;
  count = omega arith;
  spans = All-from_recursion IsSpan [] tt;
  fixed = no_fixed [];
  snapshots = no_snapshots;
  rounds = no_rounds (record { version = 0; images = 0; snapshots = 0 });
  threads = no_threads (record { version = 0; images = 0; snapshots = 0 });
  events = no_events (record { version = 0; images = 0; snapshots = 0 });
  totals = record { is = refl; few = omega arith };
  shape = (refl, refl, refl, refl, refl, refl);
}

pub script_from : (known : DraftData) (text : List ℕ) → Ended known text → IsScript text known.script
unfolding script_text
script_from known text e = by known.stage refl e.is_last
  where
    by : (at : Stage) → known.stage ≡ at → is_ended at ≡ true → IsScript text known.script
    by stage.Ended same is_last =
        let s = e.sound in
        let shape = subst (λ (x : Stage). ShapeAt x known) same s.shape in
        let here : rounds_so_far known ≡ known.script.rounds = ap (λ (x : Stage). rounds_at x known.script.rounds known.threads known.events) same in
        let totals : known.totals ≡ totals_of known.script.rounds = s.totals.is ∙ ap totals_of here in
        record {
          text = e.is ∙ ap (λ (x : Stage). statements_text (statements_at x known)) same;
          runnable = record {
            version = subst (λ (x : Stage). VersionAt x known.script.version) same s.version;
            nodes = subst (λ (x : Stage). NodesAt x known.script.nodes) same s.nodes;
            loads = subst (λ (x : Stage). LoadsAt x known.script.loads) same s.loads;
            images = (s.count, s.spans);
            sections = (s.each, s.sections);
            fixed = s.fixed;
            snapshots = s.snapshots;
            rounds = (shape, s.rounds);
            unwinds = (let few = s.totals.few in omega (arith, ap (λ (t : Totals). t.unwinds) totals));
          };
        }
    by _ same is_last = absurd cc

-- what is read is a script
pub outcome_sound : (bytes : List ℕ) (known : DraftData) → outcome bytes ≡ Ok known → IsScript bytes known.script
outcome_sound bytes known e =
    script_from known bytes (subst (Ended known) (join_pieces 10 bytes) (lines_sound nothing_known known 1 (pieces 10 bytes) at_first e))
