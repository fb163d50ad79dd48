use Rattle.std.proofs.Common.{◌≡◌, ℕ, ◌+◌, List, ◌∷◌, drop, suc, Some, sym, ap, ◌∙◌, add-one}
use Rattle.std.specs.List.{slice_get}
use Rattle.std.proofs.Math.Seq.{drop-cons}
use Rattle.std.proofs.lemmas.Option.{slice_get_within, get_or_from_slice_get}
use Rattle.frame_parse.specs.Entries.{FdeRecord}
use Rattle.unwind_c.specs.Reach.{reach_of_more, reach_with}
use Rattle.unwind_c.specs.declared.reach.AddressReach.{AddressReach}
use Rattle.unwind_c.proofs.reach.AddressReach.of.Goals as goal

-- the next FDE is taken
with_next : (whole was now : AddressReach) (fdes : List FdeRecord) (i : ℕ) (f : FdeRecord) → slice_get fdes i ≡ Some f → now ≡ reach_with was f → whole ≡ reach_of_more was (drop i fdes)
    → whole ≡ reach_of_more now (drop (i + 1) fdes)
with_next whole was now fdes i f at is so_far =
    let next : drop i fdes ≡ f ∷ drop (i + 1) fdes = rw add-one (drop-cons fdes i f (slice_get_within fdes i f at) ∙ ap (λ (x : FdeRecord). x ∷ drop (suc i) fdes) (get_or_from_slice_get fdes i f f at)) in
    so_far ∙ ap (reach_of_more was) next ∙ ap (λ (r : AddressReach). reach_of_more r (drop (i + 1) fdes)) (sym is)

pub loop-index-preserved : goal.loop-index-preserved
loop-index-preserved c = record {
  left = with_next _ c.loop-index.reach c.with-reach.result c.args.section.now.fdes c.loop-index.index c.fde.result.entry c.fde.ensures.entry c.with-reach.ensures c.loop-index.invariant.left;
}
