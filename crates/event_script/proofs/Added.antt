-- Lines that can be added one after another, and how they are read.
use Rattle.std.proofs.Common.{ap₂, ◌≡◌, ℕ, ◌+◌, ◌^◌, ◌<◌, true, false, cond, List, [], ◌∷◌, ◌++◌, length, map, Option, Result, Ok, Err, refl, sym, ap, subst, ◌∙◌, append_assoc, arith}
use Rattle.std.specs.List.{AllByRecursion}
use Rattle.std.specs.Option.{ok_or}
use Rattle.std.proofs.lemmas.Bool.{cond-true, cond-false}
use Rattle.std.proofs.lemmas.List.Elements.{recursion_from_All}
use Rattle.script_text.specs.Digits.{hex}
use Rattle.script_text.specs.Fields.{pieces, is_printable}
use Rattle.script_text.specs.Statements.{word_of, kind_of_statement, statement_fields, statement_line, HasForm}
use Rattle.script_text.specs.Spelling.{statement_text, statements_text}
use Rattle.event_script.specs.Draft.{DraftData, may_come, is_ended, with_statement}
use Rattle.event_script.specs.Reading.{◌>=>◌, statement_of, added, by_word, after_line, at_line, after_lines}
use Rattle.script_text.specs.declared.script.Event.TheVariants as event
use Rattle.script_text.specs.declared.reason.Reason.{Reason}
use Rattle.script_text.specs.declared.reason.Reason.TheVariants as reason
use Rattle.event_script.specs.declared.reader.kinds.Stage.{Stage}
use Rattle.event_script.specs.declared.reader.kinds.Stage.TheVariants as stage
use Rattle.script_text.specs.declared.kind.Kind.{Kind}
use Rattle.script_text.specs.declared.kind.Kind.TheVariants as kind
use Rattle.script_text.specs.declared.statement.Statement.{Statement}
use Rattle.script_text.specs.declared.statement.Statement.TheVariants as statement
use Rattle.script_text.proofs.Joined.{join, IsVisible, fields_again, printable_again, lines_again}
use Rattle.event_script.proofs.Lines.{line_first}
use Rattle.event_script.proofs.Words.{word_visible, word_again}
use Rattle.event_script.proofs.Spoken.{said_again}
use Rattle.script_text.proofs.Numbers.{decimal_visible, hex_visible}
use Rattle.event_script.proofs.Sections.{section_visible, digits_visible}

-- the line may come, and no reason speaks against it
pub record CanAdd (known : DraftData) (s : Statement) : Type 0 where
  pub may : may_come known.script.version known.stage (kind_of_statement s) ≡ true
  pub form : HasForm s
  pub is : added known s ≡ Ok (with_statement known s)

-- the lines can be added one after another
abbrev pub Adds : DraftData → List Statement → DraftData → Type 0
Adds known [] last = known ≡ last
Adds known (s ∷ statements) last = CanAdd known s × Adds (with_statement known s) statements last

pub open_still : (version : ℕ) (at : Stage) (k : Kind) → may_come version at k ≡ true → is_ended at ≡ false
open_still version stage.Ended kind.Version e = absurd cc
open_still version stage.Ended _ e = absurd cc
open_still version _ _ e = refl

pub hexes_visible : (numbers : List ℕ) → AllByRecursion (λ n. n < 2 ^ 64) numbers → AllByRecursion IsVisible (map hex numbers)
hexes_visible [] small = tt
hexes_visible (n ∷ numbers) small = (hex_visible n small.0, hexes_visible numbers small.1)

pub visible : (s : Statement) → HasForm s → AllByRecursion IsVisible (statement_line s)
visible (statement.Version version) form = (word_visible kind.Version, (decimal_visible version form, tt))
visible (statement.Nodes nodes) form = (word_visible kind.Nodes, (decimal_visible nodes form, tt))
visible (statement.Loads loads) form = (word_visible kind.Loads, (decimal_visible loads form, tt))
visible (statement.Image image) form =
    (word_visible kind.Image, (decimal_visible image.number form.0, (hex_visible image.base form.1, (hex_visible image.size form.2, (hex_visible image.section form.3, (section_visible image.bytes form.4, tt))))))
visible (statement.Fixed image) form = (word_visible kind.Fixed, (decimal_visible image form, tt))
visible (statement.Snapshot snapshot) form = (word_visible kind.Snapshot, (decimal_visible snapshot.number form.0, hexes_visible snapshot.regs.columns (recursion_from_All (λ n. n < 2 ^ 64) snapshot.regs.columns form.2)))
visible (statement.Memory region) form = (word_visible kind.Memory, (hex_visible region.address form.0, (digits_visible region.bytes form.1, tt)))
visible statement.Round form = (word_visible kind.Round, tt)
visible statement.Thread form = (word_visible kind.Thread, tt)
visible (statement.Event (event.Register image)) form = (word_visible kind.Register, (decimal_visible image form, tt))
visible (statement.Event (event.Deregister base)) form = (word_visible kind.Deregister, (hex_visible base form, tt))
visible (statement.Event (event.Replace image)) form = (word_visible kind.Replace, (decimal_visible image form, tt))
visible (statement.Event (event.Load image)) form = (word_visible kind.Load, (decimal_visible image form, tt))
visible (statement.Event (event.Unload base)) form = (word_visible kind.Unload, (hex_visible base form, tt))
visible (statement.Event (event.Find pc)) form = (word_visible kind.Find, (hex_visible pc form, tt))
visible (statement.Event (event.Unwind snapshot)) form = (word_visible kind.Unwind, (decimal_visible snapshot form, tt))
visible statement.End form = (word_visible kind.End, tt)

pub word_added : (known : DraftData) (s : Statement) → CanAdd known s → by_word known (statement_line s) ≡ Ok (with_statement known s)
unfolding by_word
word_added known s can =
    let k = kind_of_statement s in
    let fields = statement_fields s in
    let say = λ (k : Kind). statement_of k fields >=> λ s. added known s in
    let given = λ (k : Kind). cond (may_come known.script.version known.stage k) (say k) (Err reason.Word) in
    ap (λ (o : Option Kind). ok_or o reason.Word >=> given) (word_again k)
    ∙ cond-true (may_come known.script.version known.stage k) (say k) (Err reason.Word) can.may
    ∙ ap (λ (r : Result Statement Reason). r >=> λ s. added known s) (said_again s can.form)
    ∙ can.is

pub line_added : (known : DraftData) (s : Statement) → CanAdd known s → after_line known (join 32 (statement_line s)) ≡ Ok (with_statement known s)
unfolding after_line
line_added known s can =
    let line = join 32 (statement_line s) in
    cond-false (is_ended known.stage) (Err reason.After) (cond (is_printable line) (by_word known (pieces 32 line)) (Err reason.Byte)) (open_still known.script.version known.stage (kind_of_statement s) can.may)
    ∙ cond-true (is_printable line) (by_word known (pieces 32 line)) (Err reason.Byte) (printable_again (statement_line s) (visible s can.form))
    ∙ ap (by_word known) (fields_again (word_of (kind_of_statement s)) (statement_fields s) (visible s can.form))
    ∙ word_added known s can

pub reads_statement : (known : DraftData) (s : Statement) (number : ℕ) (others : List ℕ) → CanAdd known s
    → after_lines known number (pieces 10 (statement_text s ++ others)) ≡ after_lines (with_statement known s) (number + 1) (pieces 10 others)
reads_statement known s number others can =
    let line = join 32 (statement_line s) in
    ap (after_lines known number) (lines_again (word_of (kind_of_statement s)) (statement_fields s) others (visible s can.form))
    ∙ line_first known number line others
    ∙ ap (λ (given : Result DraftData Reason). at_line number given >=> λ after. after_lines after (number + 1) (pieces 10 others)) (line_added known s can)

pub reads_all : (known last : DraftData) (statements : List Statement) (number : ℕ) (others : List ℕ) → Adds known statements last
    → after_lines known number (pieces 10 (statements_text statements ++ others)) ≡ after_lines last (number + length statements) (pieces 10 others)
reads_all known last [] number others e =
    let same : number ≡ number + 0 = omega arith in
    ap₂ (λ (d : DraftData) (n : ℕ). after_lines d n (pieces 10 others)) e same
reads_all known last (s ∷ statements) number others (can, adds) =
    let same : number + 1 + length statements ≡ number + length (s ∷ statements) = omega arith in
    ap (λ (x : List ℕ). after_lines known number (pieces 10 x)) (append_assoc (statement_text s) (statements_text statements) others)
    ∙ reads_statement known s number (statements_text statements ++ others) can
    ∙ reads_all (with_statement known s) last statements (number + 1) others adds
    ∙ ap (λ (n : ℕ). after_lines last n (pieces 10 others)) same

pub adds_then : (first second third : DraftData) (xs ys : List Statement) → Adds first xs second → Adds second ys third → Adds first (xs ++ ys) third
adds_then first second third [] ys e q = subst (λ (d : DraftData). Adds d ys third) (sym e) q
adds_then first second third (x ∷ xs) ys p q = (p.0, adds_then (with_statement first x) second third xs ys p.1 q)
