-- The entry of a leaf that contains the address, from what was loaded of it last.
use Rattle.std.proofs.Common.{◌≡◌, ℕ, ◌+◌, ◌*◌, ◌-◌, ◌<◌, ◌≤◌, Some, None, ◌∙◌, arith}
use Rattle.word_rule.specs.declared.log.Terms.{Terms}
use Rattle.word_rule.specs.CallerData.{CallerData}
use Rattle.word_rule.specs.Sights.{after_node_load}
use Rattle.btree_lookup.specs.Visits.{Sees, SeesBegun, SeesEntry}
use Rattle.btree_lookup.specs.declared.entry.Begun.{Begun}
use Rattle.btree_lookup.specs.declared.visit.Visit.{Visit}
use Rattle.btree_lookup.proofs.Leaves.{none_begun, too_short, long_enough}
use Rattle.btree_lookup.proofs.Sighting.{at_most, one_more, word_here, word_other}

module _ (t : Terms) (pc : ℕ) (k : CallerData) (visit : Visit) (begun : Begun) (k1 : CallerData) (w : SeesBegun t pc k visit begun k1) (bottom : visit.level ≡ 0) where
  -- none begins at or below the address
  pub entry_none : begun.count ≡ 0 → SeesEntry t pc k visit None k1
  entry_none none = record {
    sees = at_most t pc k visit 11 13 k1 (omega arith) w.sees;
    found = λ shape a. let n = none_begun t pc k visit begun k1 w bottom 11 k1 w.sees (λ words all. all) shape a none in (n.0, tt, n.1, n.2);
  }

  module _ (some : 0 < begun.count) (few : begun.count ≤ 10) (size : ℕ) (k2 : CallerData) (sized : k2 ≡ record k1 { log = after_node_load visit.node (7 + 3 * (begun.count - 1)) size k1.log }) where
    abbrev sees_size : Sees t pc k visit 12 k2
    sees_size = one_more t pc k visit 11 k1 k2 w.sees (7 + 3 * (begun.count - 1)) size (λ e. omega (arith, e)) (omega (arith, few)) sized

    -- the last one that does ends below it
    pub entry_short : size ≤ pc - begun.base → SeesEntry t pc k visit None k2
    entry_short short = record {
      sees = at_most t pc k visit 12 13 k2 (omega arith) sees_size;
      found = λ shape a. let n = too_short t pc k visit begun k1 w bottom 12 k2 sees_size (λ words all. all.1) shape a some size (word_here (7 + 3 * (begun.count - 1)) size w.sees.sight.words) short in (n.0, tt, n.1, n.2);
    }

    module _ (payload : ℕ) (k3 : CallerData) (paid : k3 ≡ record k2 { log = after_node_load visit.node (8 + 3 * (begun.count - 1)) payload k2.log }) where
      abbrev sees_payload : Sees t pc k visit 13 k3
      sees_payload = one_more t pc k visit 12 k2 k3 sees_size (8 + 3 * (begun.count - 1)) payload (λ e. omega (arith, e)) (omega (arith, few)) paid

      -- it contains the address
      pub entry_long : pc - begun.base < size → SeesEntry t pc k visit (Some record { base = begun.base; size = size; payload = payload }) k3
      entry_long long = record {
        sees = sees_payload;
        found = λ shape a.
            let n = long_enough t pc k visit begun k1 w bottom 13 k3 sees_payload (λ words all. all.1.1) shape a some size
            (word_other (8 + 3 * (begun.count - 1)) payload (7 + 3 * (begun.count - 1)) sees_size.sight.words (λ e. omega (arith, e)) ∙ word_here (7 + 3 * (begun.count - 1)) size w.sees.sight.words)
            payload (word_here (8 + 3 * (begun.count - 1)) payload sees_size.sight.words) long in (n.0, n.1, n.2, n.3);
      }
