use Rattle.std.proofs.Common.{◌<◌, length, subst, sym}
use Rattle.std.proofs.lemmas.List.{length-map}
use Rattle.btree_change.specs.Kept.{as_changed}
use Rattle.btree_change.proofs.path.Path.+change_all.Goals as goal

pub push-requires : goal.push-requires
push-requires t c = subst (λ xs. length xs < 12) (sym c.change_all.ensures) (subst (λ n. n < 12) (sym (length-map c.pop.new.self as_changed)) c.in-Some.ensures.1)
