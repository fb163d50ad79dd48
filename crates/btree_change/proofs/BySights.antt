-- Where an insertion stands that begins by sight.
use Rattle.std.proofs.Common.{◌≡◌, ℕ, subst, [], None, refl, arith}
use Rattle.reg_model.specs.declared.span.Member.{Member}
use Rattle.word_rule.specs.declared.log.Holdings.{Holdings}
use Rattle.word_rule.specs.declared.log.Terms.{Terms}
use Rattle.word_rule.specs.declared.log.Log.{Log}
use Rattle.tree_descent.specs.BySight.{HoldsFor}
use Rattle.tree_descent.specs.declared.descent.Held.{Held}
use Rattle.btree_change.specs.Stands.{StandsOnWay}
use Rattle.tree_descent.specs.declared.by_sight.Request.TheVariants as request
use Rattle.node_split.specs.declared.split.Room.TheVariants as room

-- ---- where the way begins

-- an insertion asks for its span
pub seen_for : (t : Terms) (m : Member) (first last : ℕ) (at : Held) (holdings : Holdings) → first ≡ m.span.first → last ≡ m.span.last → HoldsFor t (request.Insertion first last) at holdings → HoldsFor t (request.Insertion m.span.first m.span.last) at holdings
seen_for t m first last at holdings first_is last_is held = subst (λ a. HoldsFor t (request.Insertion a m.span.last) at holdings) first_is (subst (λ a. HoldsFor t (request.Insertion first a) at holdings) last_is held)

-- a node that is held alone is where an insertion may stand
pub seen_stand : (t : Terms) (m : Member) (at : Held) (v : Log) → HoldsFor t (request.Insertion m.span.first m.span.last) at v.holdings → v.loader ≡ None → StandsOnWay t m (record { at = at; beyond = None; room = room.Splitting }) v
seen_stand t m at v h loader = record {
  at = record {
    within = h.alone.within;
    lock = h.alone.lock;
    above = [];
    held = h.alone.held;
    here = h.alone.here;
    higher = tt;
    apart = (tt, tt);
    out = h.alone.out;
  };
  here = h.here;
  reach = (h.inside, refl);
  way = h.fit;
  height = (let low = h.low in omega (arith, low));
  loader = loader;
}
