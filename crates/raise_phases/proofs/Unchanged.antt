-- A raise whose second answers are the first ones doesn't end as changed.
use Rattle.std.proofs.Common.{◌≡◌, ℕ, ◌+◌, ◌-◌, ◌<◌, inl, inr, List, length, Some, slice_get, get_or, sym, ap, subst, arith}
use Rattle.std.specs.List.{Contains}
use Rattle.std.proofs.lemmas.List.{length-map}
use Rattle.std.proofs.lemmas.List.Elements.{Contains-get_or, Contains-push}
use Rattle.std.proofs.lemmas.Option.{get_or_from_slice_get, slice_get_cases, slice_get_within, slice_get-get_or}
use Rattle.std.proofs.lemmas.Slice.Zip.{AllZip-long}
use Rattle.frame_expr.specs.declared.regs.Regs.{Regs}
use Rattle.frame_expr.specs.Regions.{RegionData}
use Rattle.frame_parse.specs.Sections.{SectionData}
use Rattle.unwind_step.specs.Backtrace.{Shows, innermost}
use Rattle.unwind_step.specs.declared.backtrace.FrameLine.{FrameLine}
use Rattle.raise_phases.specs.declared.judgement.SearchEnd.{SearchEnd}
use Rattle.raise_phases.specs.declared.judgement.SearchEnd.TheVariants as searches
use Rattle.raise_phases.specs.declared.raised.Phase.{Phase}
use Rattle.raise_phases.specs.declared.raised.RaiseEnd.{RaiseEnd}
use Rattle.raise_phases.specs.declared.raised.RaiseEnd.TheVariants as ends
use Rattle.raise_phases.specs.Raising.{EndsChanged, EndsRaise, FoundAlike, RaisedData, RaiseUnfolds, SearchUnfolds, lines_of}

-- what stands at a place of a list is one of its items
pub stands_in : {X : Type 0} (xs : List X) (i : ℕ) (x : X) → slice_get xs i ≡ Some x → Contains xs x
stands_in xs i x at = subst (Contains xs) (get_or_from_slice_get xs i x x at) (Contains-get_or xs i x (slice_get_within xs i x at))

module _ (sections : List SectionData) (memory : List RegionData) (regs : Regs) (kind : ℕ) where
  -- a search doesn't end as changed: its last frame's table would have to say so
  search_stays : (search : List Phase) (end : RaiseEnd) → SearchUnfolds sections memory regs kind search (searches.Failed end) → EndsChanged end → ⊥
  search_stays search (ends.Changed k first second) unfolds changed =
      let frames = unfolds.frames in
      let i = length search - 1 in
      let here : 0 < length frames = slice_get_within frames 0 (innermost regs) unfolds.are_frames.first in
      let long = AllZip-long Shows frames (lines_of search) unfolds.are_frames.shown in
      let count : length (lines_of search) ≡ length search = length-map search (λ p. p.line) in
      let place : i + 1 ≡ length search = omega (arith, here, long, count) in
      let at = slice_get-get_or frames i (innermost regs) (omega (arith, place, long, count)) in
      elim (slice_get_cases search i).1 [
        | inl found ↦ unfolds.ends i (get_or frames i (innermost regs)) found.0 place at found.2
        | inr past ↦ absurd (omega (arith, past.0, place))
      ]
  search_stays search (ends.Uncaught e) unfolds changed = changed
  search_stays search (ends.Terminate k) unfolds changed = changed
  search_stays search (ends.NoTable k) unfolds changed = changed
  search_stays search (ends.BadTable k f) unfolds changed = changed
  search_stays search (ends.Caught k pad filter) unfolds changed = changed

  ended : (raised : RaisedData) (end : SearchEnd) → SearchUnfolds sections memory regs kind raised.search end → EndsRaise raised end → FoundAlike raised.search raised.cleanup → EndsChanged raised.end → ⊥
  ended raised (searches.Handler i pad filter) search (inl caught) alike changed = subst EndsChanged caught.end changed
  ended raised (searches.Handler i pad filter) search (inr other) alike changed =
      let change = other.change in
      let searched = stands_in raised.search other.i change.searched change.before in
      let asked : Contains raised.cleanup change.asked = subst (λ (phases : List Phase). Contains phases change.asked) (sym change.all) (Contains-push change.repeated change.asked) in
      change.differs.other (alike change.searched change.asked searched asked (ap (λ (l : FrameLine). l.look) change.differs.line))
  ended raised (searches.Failed end) search is alike changed =
      search_stays raised.search end search (subst EndsChanged is.0 changed)

  pub unchanged : (raised : RaisedData) → RaiseUnfolds sections memory regs kind raised → FoundAlike raised.search raised.cleanup → EndsChanged raised.end → ⊥
  unchanged raised unfolds alike changed = ended raised unfolds.end unfolds.search unfolds.ends alike changed
