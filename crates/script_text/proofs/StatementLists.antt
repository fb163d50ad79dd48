-- Lists of what lines say, with one more.
use Rattle.std.proofs.Common.{◌≡◌, ℕ, ◌+◌, List, [], ◌∷◌, ◌++◌, length, map, sym, ap, ◌∙◌, append_assoc, append-nil, arith}
use Rattle.std.proofs.lemmas.List.{map-append}
use Rattle.reg_model.specs.SpanData.{SpanData}
use Rattle.frame_parse.specs.Sections.{SectionData}
use Rattle.script_text.specs.ScriptData.{SnapshotData}
use Rattle.script_text.specs.Spelling.{image_data, image_statements, snapshot_lines, snapshot_statements}
use Rattle.script_text.specs.declared.statement.Statement.{Statement}
use Rattle.script_text.specs.declared.statement.Statement.TheVariants as statement

pub images_push : (number : ℕ) (images : List SpanData) (sections : List SectionData) (span : SpanData) (section : SectionData) → length sections ≡ length images
    → image_statements number (images ++ span ∷ []) (sections ++ section ∷ []) ≡ image_statements number images sections ++ statement.Image (image_data (number + length images) span section) ∷ []
images_push number [] [] span section e = ap (λ (n : ℕ). statement.Image (image_data n span section) ∷ []) (omega arith)
images_push number [] (a ∷ sections) span section e = absurd (omega arith)
images_push number (i ∷ images) [] span section e = absurd (omega arith)
images_push number (i ∷ images) (a ∷ sections) span section e =
    let rest = images_push (number + 1) images sections span section (omega arith) in
    let next : number + 1 + length images ≡ number + length (i ∷ images) = omega arith in
    ap (λ (x : List Statement). statement.Image (image_data number i a) ∷ x) (rest ∙ ap (λ (n : ℕ). image_statements (number + 1) images sections ++ statement.Image (image_data n span section) ∷ []) next)

pub map_push : {A B : Type 0} (f : A → B) (xs : List A) (x : A) → map f (xs ++ x ∷ []) ≡ map f xs ++ f x ∷ []
map_push f xs x = map-append f xs (x ∷ [])

pub snapshots_push : (number : ℕ) (snapshots : List SnapshotData) (snapshot : SnapshotData) → snapshot_statements number (snapshots ++ snapshot ∷ []) ≡ snapshot_statements number snapshots ++ snapshot_lines (number + length snapshots) snapshot
snapshots_push number [] snapshot = append-nil (snapshot_lines number snapshot) ∙ ap (λ (n : ℕ). snapshot_lines n snapshot) (omega arith)
snapshots_push number (first ∷ snapshots) snapshot =
    let next : number + 1 + length snapshots ≡ number + length (first ∷ snapshots) = omega arith in
    ap (λ (x : List Statement). snapshot_lines number first ++ x) (snapshots_push (number + 1) snapshots snapshot ∙ ap (λ (n : ℕ). snapshot_statements (number + 1) snapshots ++ snapshot_lines n snapshot) next)
    ∙ sym (append_assoc (snapshot_lines number first) (snapshot_statements (number + 1) snapshots) (snapshot_lines (number + length (first ∷ snapshots)) snapshot))
