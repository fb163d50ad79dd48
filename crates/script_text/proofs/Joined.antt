-- Pieces joined again by their separators.
use Rattle.std.proofs.Common.{◌≡◌, ℕ, ◌<◌, ◌≤◌, ◌≢◌, Bool, true, false, cond, ◌&&◌, eqb, leb, List, [], ◌∷◌, ◌++◌, refl, sym, ap, ap₂, ◌∙◌, append_assoc, eq-eqb, ne_eqb, eqb-true, le-leb, arith}
use Rattle.std.specs.List.{AllByRecursion}
use Rattle.std.proofs.lemmas.Bool.{cond-true, cond-false, and_from}
use Rattle.std.proofs.lemmas.List.Folds.{list_all-append}
use Rattle.script_text.specs.Fields.{with_first, pieces, is_printable}
use Rattle.script_text.specs.Spelling.{Line, spelling_of}
use Rattle.script_text.specs.EventLines.{event_spelling}
use Rattle.script_text.specs.Statements.{statement_line}
use Rattle.script_text.specs.declared.script.Event.{Event}
use Rattle.script_text.specs.declared.script.Event.TheVariants as event
use Rattle.script_text.specs.declared.statement.Statement.TheVariants as statement
use Rattle.script_text.proofs.Pieces.{some_pieces}

abbrev pub join : ℕ → List (List ℕ) → List ℕ
join separator [] = []
join separator (piece ∷ []) = piece
join separator (piece ∷ next ∷ others) = piece ++ separator ∷ join separator (next ∷ others)

join_first : (separator b : ℕ) (piece : List ℕ) (others : List (List ℕ)) → join separator ((b ∷ piece) ∷ others) ≡ b ∷ join separator (piece ∷ others)
join_first separator b piece [] = refl
join_first separator b piece (next ∷ others) = refl

pub join_pieces : (separator : ℕ) (bytes : List ℕ) → join separator (pieces separator bytes) ≡ bytes
join_pieces separator [] = refl
join_pieces separator (b ∷ bytes) = by (eqb b separator) refl (some_pieces separator bytes) (join_pieces separator bytes)
  where
    by : (t : Bool) → eqb b separator ≡ t → ((first : List ℕ) × (others : List (List ℕ)) × (pieces separator bytes ≡ first ∷ others)) → join separator (pieces separator bytes) ≡ bytes
        → join separator (cond t ([] ∷ pieces separator bytes) (with_first b (pieces separator bytes))) ≡ b ∷ bytes
    by true same p rest =
        ap (λ (x : List (List ℕ)). join separator ([] ∷ x)) p.2
        ∙ ap₂ (λ (c : ℕ) (x : List ℕ). c ∷ x) (sym (eqb-true b separator same)) (sym (ap (join separator) p.2) ∙ rest)
    by false same p rest =
        ap (λ (x : List (List ℕ)). join separator (with_first b x)) p.2
        ∙ join_first separator b p.0 p.1
        ∙ ap (λ (x : List ℕ). b ∷ x) (sym (ap (join separator) p.2) ∙ rest)

-- a line as it is spelled
pub spelled_line : (field : List ℕ) (fields : Line) → spelling_of (field ∷ fields) ≡ join 32 (field ∷ fields) ++ 10 ∷ []
spelled_line field [] = refl
spelled_line field (next ∷ fields) =
    ap (λ (x : List ℕ). field ++ 32 ∷ x) (spelled_line next fields) ∙ sym (append_assoc field (32 ∷ join 32 (next ∷ fields)) (10 ∷ []))

-- an event's line, of its fields
pub event_joined : (e : Event) → event_spelling e ≡ join 32 (statement_line (statement.Event e))
event_joined (event.Register image) = refl
event_joined (event.Deregister base) = refl
event_joined (event.Replace image) = refl
event_joined (event.Load image) = refl
event_joined (event.Unload base) = refl
event_joined (event.Find pc) = refl
event_joined (event.Unwind snapshot) = refl

pub spelled_pieces : (line : List ℕ) → spelling_of (pieces 32 line) ≡ line ++ 10 ∷ []
spelled_pieces line =
    let p = some_pieces 32 line in
    ap spelling_of p.2 ∙ spelled_line p.0 p.1 ∙ ap (λ (x : List (List ℕ)). join 32 x ++ 10 ∷ []) (sym p.2) ∙ ap (λ (x : List ℕ). x ++ 10 ∷ []) (join_pieces 32 line)

-- ---- pieces of what was joined

abbrev pub Without : ℕ → List ℕ → Type 0
Without separator bytes = AllByRecursion (λ b. b ≢ separator) bytes

pub pieces_first : (separator : ℕ) (bytes others : List ℕ) → Without separator bytes → pieces separator (bytes ++ separator ∷ others) ≡ bytes ∷ pieces separator others
pieces_first separator [] others without = cond-true (eqb separator separator) ([] ∷ pieces separator others) (with_first separator (pieces separator others)) (eq-eqb separator separator refl)
pieces_first separator (b ∷ bytes) others without =
    cond-false (eqb b separator) ([] ∷ pieces separator (bytes ++ separator ∷ others)) (with_first b (pieces separator (bytes ++ separator ∷ others))) (ne_eqb b separator without.0)
    ∙ ap (with_first b) (pieces_first separator bytes others without.1)

pub pieces_only : (separator : ℕ) (bytes : List ℕ) → Without separator bytes → pieces separator bytes ≡ bytes ∷ []
pieces_only separator [] without = refl
pieces_only separator (b ∷ bytes) without =
    cond-false (eqb b separator) ([] ∷ pieces separator bytes) (with_first b (pieces separator bytes)) (ne_eqb b separator without.0)
    ∙ ap (with_first b) (pieces_only separator bytes without.1)

pub pieces_join : (separator : ℕ) (piece : List ℕ) (others : List (List ℕ)) → Without separator piece → AllByRecursion (Without separator) others → pieces separator (join separator (piece ∷ others)) ≡ piece ∷ others
pieces_join separator piece [] first rest = pieces_only separator piece first
pieces_join separator piece (next ∷ others) first rest =
    pieces_first separator piece (join separator (next ∷ others)) first ∙ ap (λ (x : List (List ℕ)). piece ∷ x) (pieces_join separator next others rest.0 rest.1)

-- ---- fields that can be seen

abbrev pub IsVisible : List ℕ → Type 0
IsVisible field = AllByRecursion (λ b. (33 ≤ b) × (b ≤ 126)) field

visible_without : (separator : ℕ) (field : List ℕ) → separator < 33 → IsVisible field → Without separator field
visible_without separator [] low visible = tt
visible_without separator (b ∷ field) low visible = (λ e. omega (arith, visible.0), visible_without separator field low visible.1)

all_visible_without : (separator : ℕ) (fields : Line) → separator < 33 → AllByRecursion IsVisible fields → AllByRecursion (Without separator) fields
all_visible_without separator [] low visible = tt
all_visible_without separator (field ∷ fields) low visible = (visible_without separator field low visible.0, all_visible_without separator fields low visible.1)

pub fields_again : (field : List ℕ) (fields : Line) → AllByRecursion IsVisible (field ∷ fields) → pieces 32 (join 32 (field ∷ fields)) ≡ field ∷ fields
fields_again field fields visible = pieces_join 32 field fields (visible_without 32 field (omega arith) visible.0) (all_visible_without 32 fields (omega arith) visible.1)

visible_printable : (field : List ℕ) → IsVisible field → is_printable field ≡ true
visible_printable [] visible = refl
visible_printable (b ∷ field) visible = and_from _ _ (and_from _ _ (le-leb 32 b (omega (arith, visible.0))) (le-leb b 126 (omega (arith, visible.0)))) (visible_printable field visible.1)

pub printable_again : (fields : Line) → AllByRecursion IsVisible fields → is_printable (join 32 fields) ≡ true
printable_again [] visible = refl
printable_again (field ∷ []) visible = visible_printable field visible.0
printable_again (field ∷ next ∷ fields) visible =
    list_all-append (λ b. leb 32 b && leb b 126) field (32 ∷ join 32 (next ∷ fields))
    ∙ and_from _ _ (visible_printable field visible.0) (printable_again (next ∷ fields) visible.1)

pub without_append : (separator : ℕ) (xs ys : List ℕ) → Without separator xs → Without separator ys → Without separator (xs ++ ys)
without_append separator [] ys p q = q
without_append separator (x ∷ xs) ys p q = (p.0, without_append separator xs ys p.1 q)

no_line_feed : (fields : Line) → AllByRecursion IsVisible fields → Without 10 (join 32 fields)
no_line_feed [] visible = tt
no_line_feed (field ∷ []) visible = visible_without 10 field (omega arith) visible.0
no_line_feed (field ∷ next ∷ fields) visible =
    without_append 10 field (32 ∷ join 32 (next ∷ fields)) (visible_without 10 field (omega arith) visible.0) (λ e. omega arith, no_line_feed (next ∷ fields) visible.1)

-- the first line of a text
pub lines_again : (field : List ℕ) (fields : Line) (others : List ℕ) → AllByRecursion IsVisible (field ∷ fields) → pieces 10 (spelling_of (field ∷ fields) ++ others) ≡ join 32 (field ∷ fields) ∷ pieces 10 others
lines_again field fields others visible =
    ap (λ (x : List ℕ). pieces 10 (x ++ others)) (spelled_line field fields)
    ∙ ap (pieces 10) (append_assoc (join 32 (field ∷ fields)) (10 ∷ []) others)
    ∙ pieces_first 10 (join 32 (field ∷ fields)) others (no_line_feed (field ∷ fields) visible)
