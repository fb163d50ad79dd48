-- Lines that are read at once: of events, and of images.
use Rattle.std.proofs.Common.{◌≡◌, ℕ, ◌^◌, ◌<◌, true, false, cond, List, [], ◌∷◌, ◌++◌, Option, Some, Result, Err, codes, decimal, sym, ap, ap₂, subst, ◌∙◌}
use Rattle.std.specs.Option.{ok_or}
use Rattle.std.proofs.lemmas.Bool.{cond-true, cond-false}
use Rattle.script_text.specs.Digits.{hex}
use Rattle.script_text.specs.Fields.{pieces, fields_after, is_printable, decimal_in, hex_in, section_bytes}
use Rattle.script_text.specs.Statements.{word_of, kind_of_event, kind_of_statement, statement_fields, statement_line, HasForm, HasEventForm}
use Rattle.script_text.specs.EventLines.{event_spelling}
use Rattle.script_text.specs.ScriptData.{ImageData}
use Rattle.event_script.specs.Draft.{DraftData, may_come, is_ended}
use Rattle.event_script.specs.Reading.{◌>=>◌, statement_of, image_added, added, by_word, after_line}
use Rattle.script_text.specs.declared.script.Event.{Event}
use Rattle.script_text.specs.declared.reason.Reason.{Reason}
use Rattle.script_text.specs.declared.reason.Reason.TheVariants as reason
use Rattle.event_script.specs.declared.reader.kinds.Stage.{Stage}
use Rattle.event_script.specs.declared.reader.kinds.Stage.TheVariants as stage
use Rattle.script_text.specs.declared.kind.Kind.{Kind}
use Rattle.script_text.specs.declared.kind.Kind.TheVariants as kind
use Rattle.script_text.specs.declared.statement.Statement.{Statement}
use Rattle.script_text.specs.declared.statement.Statement.TheVariants as statement
use Rattle.event_script.proofs.Added.{open_still, visible}
use Rattle.script_text.proofs.Joined.{event_joined, join, join_pieces, IsVisible, fields_again, printable_again}
use Rattle.event_script.proofs.Words.{word_again}
use Rattle.event_script.proofs.Spoken.{said_again}
use Rattle.event_script.proofs.Sections.{section_visible}
use Rattle.event_script.proofs.Steps.{bytes_are}
use Rattle.script_text.proofs.Numbers.{decimal_is, hex_is}

-- what a line adds is what it says
module _ (known : DraftData) (s : Statement) (may : may_come known.script.version known.stage (kind_of_statement s) ≡ true) (form : HasForm s) where
  pub word_said : by_word known (statement_line s) ≡ added known s
  unfolding by_word
  word_said =
      let k = kind_of_statement s in
      let fields = statement_fields s in
      let say = λ (k : Kind). statement_of k fields >=> λ s. added known s in
      let given = λ (k : Kind). cond (may_come known.script.version known.stage k) (say k) (Err reason.Word) in
      ap (λ (o : Option Kind). ok_or o reason.Word >=> given) (word_again k)
      ∙ cond-true (may_come known.script.version known.stage k) (say k) (Err reason.Word) may
      ∙ ap (λ (r : Result Statement Reason). r >=> λ s. added known s) (said_again s form)

  pub line_said : after_line known (join 32 (statement_line s)) ≡ added known s
  unfolding after_line
  line_said =
      let line = join 32 (statement_line s) in
      cond-false (is_ended known.stage) (Err reason.After) (cond (is_printable line) (by_word known (pieces 32 line)) (Err reason.Byte)) (open_still known.script.version known.stage (kind_of_statement s) may)
      ∙ cond-true (is_printable line) (by_word known (pieces 32 line)) (Err reason.Byte) (printable_again (statement_line s) (visible s form))
      ∙ ap (by_word known) (fields_again (word_of (kind_of_statement s)) (statement_fields s) (visible s form))
      ∙ word_said

-- the line of an event, in a thread
pub event_said : (known : DraftData) (e : Event) (line : List ℕ) → known.stage ≡ stage.Thread → may_come known.script.version stage.Thread (kind_of_event e) ≡ true → HasEventForm e → line ≡ event_spelling e → after_line known line ≡ added known (statement.Event e)
event_said known e line at may form is =
    ap (after_line known) (is ∙ event_joined e) ∙ line_said known (statement.Event e) (ap (λ (s : Stage). may_come known.script.version s (kind_of_event e)) at ∙ may) form

-- the line of an image, where images come
pub image_said : (known : DraftData) (image : ImageData) (line : List ℕ) → known.stage ≡ stage.Images → HasForm (statement.Image image) → pieces 32 line ≡ statement_line (statement.Image image) → after_line known line ≡ image_added known image
unfolding added
image_said known image line at form is =
    ap (after_line known) (sym (join_pieces 32 line) ∙ ap (join 32) is)
    ∙ line_said known (statement.Image image) (ap (λ (s : Stage). may_come known.script.version s kind.Image) at) form

-- the fields of an image's line, one after another
pub image_numbers : (line fields number base size section digits r1 r2 r3 r4 : List ℕ) (n b s a : ℕ) → line ≡ codes "image " ++ fields
    → pieces 32 fields ≡ number ∷ fields_after r1 → fields_after r1 ≡ base ∷ fields_after r2 → fields_after r2 ≡ size ∷ fields_after r3 → fields_after r3 ≡ section ∷ fields_after r4 → fields_after r4 ≡ pieces 32 digits
    → Some n ≡ decimal_in number → Some b ≡ hex_in base → Some s ≡ hex_in size → Some a ≡ hex_in section
    → (n < 2 ^ 32) × (b < 2 ^ 64) × (s < 2 ^ 64) × (a < 2 ^ 64) × (pieces 32 line ≡ codes "image" ∷ decimal n ∷ hex b ∷ hex s ∷ hex a ∷ pieces 32 digits)
image_numbers line fields number base size section digits r1 r2 r3 r4 n b s a is f1 f2 f3 f4 f5 e1 e2 e3 e4 =
    let n' = decimal_is number n (sym e1) in
    let b' = hex_is base b (sym e2) in
    let s' = hex_is size s (sym e3) in
    let a' = hex_is section a (sym e4) in (
      n'.0,
      b'.0,
      s'.0,
      a'.0,
      ap (pieces 32) is ∙ ap (λ (x : List (List ℕ)). codes "image" ∷ x)
          (f1 ∙ ap₂ (λ (field : List ℕ) (x : List (List ℕ)). field ∷ x) n'.1
          (f2 ∙ ap₂ (λ (field : List ℕ) (x : List (List ℕ)). field ∷ x) b'.1
          (f3 ∙ ap₂ (λ (field : List ℕ) (x : List (List ℕ)). field ∷ x) s'.1
          (f4 ∙ ap₂ (λ (field : List ℕ) (x : List (List ℕ)). field ∷ x) a'.1 f5)))),
    )

-- the numbers of an image's line, and its bytes behind them
pub whole_image : (line digits bytes : List ℕ) (number base size section : ℕ) → number < 2 ^ 32 → base < 2 ^ 64 → size < 2 ^ 64 → section < 2 ^ 64
    → pieces 32 line ≡ codes "image" ∷ decimal number ∷ hex base ∷ hex size ∷ hex section ∷ pieces 32 digits → section_bytes digits ≡ Some bytes
    → HasForm (statement.Image (record { number = number; base = base; size = size; section = section; bytes = bytes })) × (pieces 32 line ≡ statement_line (statement.Image (record { number = number; base = base; size = size; section = section; bytes = bytes })))
whole_image line digits bytes number base size section a b c d is found =
    let are = bytes_are digits bytes found in
    let seen = subst IsVisible (sym are.1) (section_visible bytes are.0) in
    let last = fields_again digits [] (seen, tt) ∙ ap (λ (field : List ℕ). field ∷ []) are.1 in
    ((a, b, c, d, are.0), is ∙ ap (λ (fields : List (List ℕ)). codes "image" ∷ decimal number ∷ hex base ∷ hex size ∷ hex section ∷ fields) last)

-- any other line, before the end
pub read_in_fields : (known : DraftData) (line : List ℕ) → is_ended known.stage ≡ false → after_line known line ≡ cond (is_printable line) (by_word known (pieces 32 line)) (Err reason.Byte)
unfolding after_line
read_in_fields known line going = cond-false (is_ended known.stage) (Err reason.After) (cond (is_printable line) (by_word known (pieces 32 line)) (Err reason.Byte)) going
