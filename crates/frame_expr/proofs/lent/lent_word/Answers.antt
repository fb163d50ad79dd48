use Rattle.std.proofs.Common.{[], ◌∷◌, refl, ◌∙◌}
use Rattle.byteorder.specs.Endian.{little_number}
use Rattle.frame_expr.specs.Regions.{RegionData, region_at, tail_in, word_at}
use Rattle.frame_expr.proofs.Ascending.{in_the_region}
use Rattle.frame_expr.proofs.lent.lent_word.Goals as goal

pub returns : goal.returns
unfolding word_at region_at
returns c =
    let lent : RegionData = record { address = c.args.first; bytes = c.args.bytes.now } in
    c.word_from.ensures ∙ in_the_region (λ r. little_number 8 (tail_in c.args.address r)) 8 c.args.address (lent ∷ []) lent refl
