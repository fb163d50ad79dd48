-- The lines of a walk, one after another.
use Rattle.std.proofs.Common.{◌≡◌, ℕ, ◌+◌, ◌<◌, List, [], ◌∷◌, ◌++◌, length, map, take, drop, sym, ap, subst, ◌∙◌, arith}
use Rattle.std.proofs.Math.ListN.{set}
use Rattle.std.proofs.lemmas.List.{append_assoc, drop-drop, drop-set-lt, map-append, take_more_set}
use Rattle.frame_expr.specs.Regions.{RegionData}
use Rattle.unwind_step.specs.declared.frame.Frame.{Frame}
use Rattle.stack_walk.specs.Modules.{ModuleData}
use Rattle.stack_walk.specs.StackWalks.{EndsWalk, StepsTo, WalksStack, shown_as}
use Rattle.stack_walk.specs.declared.shown.ShownFrame.{ShownFrame}
use Rattle.stack_walk.specs.declared.shown.WalkEnd.{WalkEnd}

-- what walks on from a frame walks, with these lines before, from the first one
abbrev pub LeadsOn : List ModuleData → List RegionData → Frame → List ShownFrame → Frame → Type 0
LeadsOn ms memory first before f =
    (ls : List ShownFrame) (end : WalkEnd) (stands : Frame) → WalksStack ms memory f ls end stands → WalksStack ms memory first (before ++ ls) end stands

-- a walk from a frame goes on from the one before
one_frame_more : (ms : List ModuleData) (memory : List RegionData) (f next : Frame) (l : ShownFrame) (ls : List ShownFrame) (end : WalkEnd) (stands : Frame)
    → l ≡ shown_as f → StepsTo ms memory f next → WalksStack ms memory next ls end stands → WalksStack ms memory f (l ∷ ls) end stands
one_frame_more ms memory f next l [] end stands is steps walks = absurd walks
one_frame_more ms memory f next l (k ∷ ls) end stands is steps walks = (is, (next, steps, walks))

-- ---- a line that is written

shown_more : {L : Type 0} (shown : L → ShownFrame) (lines : List L) (count : ℕ) (x : L) → count < length lines
    → map shown (take (count + 1) (set lines count x)) ≡ map shown (take count lines) ++ shown x ∷ []
shown_more shown lines count x some =
    ap (map shown) (take_more_set lines count x some) ∙ map-append shown (take count lines) (x ∷ [])

pub others_more : {L : Type 0} (lines old : List L) (count : ℕ) (x : L) → drop count lines ≡ drop count old
    → drop (count + 1) (set lines count x) ≡ drop (count + 1) old
others_more lines old count x same =
    drop-set-lt (count + 1) lines count x (omega arith) ∙ sym (drop-drop 1 count lines) ∙ ap (drop 1) same ∙ drop-drop 1 count old

pub leads_on : {L : Type 0} (shown : L → ShownFrame) (ms : List ModuleData) (memory : List RegionData) (first f next : Frame) (lines : List L) (count : ℕ) (x : L)
    → count < length lines → shown x ≡ shown_as f → StepsTo ms memory f next → LeadsOn ms memory first (map shown (take count lines)) f
    → LeadsOn ms memory first (map shown (take (count + 1) (set lines count x))) next
leads_on shown ms memory first f next lines count x some is steps before = λ ls end stands walks.
    let on = before (shown x ∷ ls) end stands (one_frame_more ms memory f next (shown x) ls end stands is steps walks) in
    let parts : map shown (take (count + 1) (set lines count x)) ++ ls ≡ map shown (take count lines) ++ shown x ∷ ls =
    ap (λ (xs : List ShownFrame). xs ++ ls) (shown_more shown lines count x some) ∙ append_assoc (map shown (take count lines)) (shown x ∷ []) ls in
    subst (λ (xs : List ShownFrame). WalksStack ms memory first xs end stands) (sym parts) on

pub ends_there : {L : Type 0} (shown : L → ShownFrame) (ms : List ModuleData) (memory : List RegionData) (first f stands : Frame) (lines : List L) (count : ℕ) (x : L) (end : WalkEnd)
    → count < length lines → shown x ≡ shown_as f → EndsWalk ms memory f end stands → LeadsOn ms memory first (map shown (take count lines)) f
    → WalksStack ms memory first (map shown (take (count + 1) (set lines count x))) end stands
ends_there shown ms memory first f stands lines count x end some is ends before =
    subst (λ (xs : List ShownFrame). WalksStack ms memory first xs end stands) (sym (shown_more shown lines count x some)) (before (shown x ∷ []) end stands (is, ends))
