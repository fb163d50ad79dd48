-- What each load makes of the log of a caller that only loads.
use Rattle.std.proofs.Common.{◌≡◌, ℕ, zero, suc, ◌+◌, ◌*◌, List, [], ◌∷◌, ◌++◌, map, None, is_some, Contains, inl, inr, refl, ap, sym, ◌∙◌, subst, arith, append-nil, if◌then◌else◌}
use Rattle.std.proofs.lemmas.List.{append_assoc, map-append}
use Rattle.std.proofs.lemmas.List.Elements.{Contains-append_left, Contains-append_right}
use Rattle.word_rule.specs.declared.log.Ask.TheVariants as ask
use Rattle.word_rule.specs.declared.log.LoadedWord.{LoadedWord}
use Rattle.word_rule.specs.declared.log.Log.{Log}
use Rattle.word_rule.specs.declared.log.Sights.{Sights}
use Rattle.word_rule.specs.CallerData.{CallerData}
use Rattle.word_rule.specs.Held.{held_of}
use Rattle.word_rule.specs.Logs.{load_of}
use Rattle.word_rule.specs.Places.{node_place}
use Rattle.word_rule.specs.Sights.{after_node_begin, after_node_load, after_node_version, sight_of, sights_after_begin, sights_after_version, with_word}
use Rattle.btree_lookup.specs.Loads.{after_looks, load_events, loaded_at, loaded_of}
use Rattle.btree_lookup.specs.Ways.{AreLed, ComeInOrder, IsLed, IsLedTo, IsNamed}
use Rattle.word_rule.proofs.NodeSights.{no_receipt}

abbrev pub looked : List LoadedWord → Sights → CallerData → CallerData
looked loaded sights k = record k { log = after_looks loaded sights k.log }

-- one event more
pub more : (v : Log) (loaded : List LoadedWord) (place value : ℕ) → (v.trace.loads ++ load_events v loaded) ++ load_of v place value ∷ [] ≡ v.trace.loads ++ load_events v (loaded ++ loaded_at place value ∷ [])
more v loaded place value =
    append_assoc v.trace.loads (load_events v loaded) (load_of v place value ∷ [])
    ∙ ap (λ z. v.trace.loads ++ z) (sym (map-append (λ (w : LoadedWord). load_of v w.at w.value) loaded (loaded_at place value ∷ [])))

-- a caller that has loaded nothing yet
pub nothing_looked : (k : CallerData) → k ≡ looked [] k.log.sights k
nothing_looked k = λ i. record k { log = record k.log { trace = record k.log.trace { loads = sym (append-nil k.log.trace.loads) i } } }

pub word_loaded : (k : CallerData) (loaded : List LoadedWord) (sights : Sights) (n at value : ℕ) → held_of n k.log.holdings.held ≡ None
    → record (looked loaded sights k) { log = after_node_load n at value (looked loaded sights k).log } ≡ looked (loaded ++ loaded_of n at value ∷ []) (record sights { nodes = map (with_word n at value) sights.nodes }) k
word_loaded k loaded sights n at value free = λ i. record k {
  log = record k.log {
    trace = record k.log.trace { loads = more k.log loaded (node_place n + at) value i };
    sights = ap (λ o. if is_some o then sights else record sights { nodes = map (with_word n at value) sights.nodes }) free i;
  };
}

abbrev pub sights_then : ℕ → ℕ → Sights → Sights
sights_then n found sights = record sights { nodes = sights_after_version n found (sight_of n sights.nodes) sights.nodes }

pub version_loaded : (k : CallerData) (loaded : List LoadedWord) (sights : Sights) (n found : ℕ)
    → record (looked loaded sights k) { log = after_node_version ask.Nothing n found (looked loaded sights k).log } ≡ looked (loaded ++ loaded_at (node_place n) found ∷ []) (sights_then n found sights) k
version_loaded k loaded sights n found = λ i. record k {
  log = record k.log {
    trace = record k.log.trace { loads = more k.log loaded (node_place n) found i };
    sights = sights_then n found sights;
    receipts = record k.log.receipts {
      own = (ap (λ rs. k.log.receipts.own ++ rs) (no_receipt (looked loaded sights k).log found (sight_of n sights.nodes)) ∙ append-nil k.log.receipts.own) i;
    };
  };
}

pub sight_loaded : (k : CallerData) (loaded : List LoadedWord) (sights : Sights) (n found : ℕ)
    → record (looked loaded sights k) { log = after_node_begin n found (looked loaded sights k).log } ≡ looked (loaded ++ loaded_at (node_place n) found ∷ []) (record sights { nodes = sights_after_begin n found sights.nodes }) k
sight_loaded k loaded sights n found = λ i. record k {
  log = record k.log {
    trace = record k.log.trace { loads = more k.log loaded (node_place n) found i };
    sights = record sights { nodes = sights_after_begin n found sights.nodes };
  };
}

-- ---- the ways that loads lead

pub led_more : (pc : ℕ) (before loaded : List LoadedWord) (w : LoadedWord) → AreLed pc before loaded → IsLedTo pc (before ++ loaded) w → AreLed pc before (loaded ++ w ∷ [])
led_more pc before [] w all last = (subst (λ ls. IsLedTo pc ls w) (append-nil before) last, tt)
led_more pc before (x ∷ loaded) w all last = (all.0, led_more pc (before ++ x ∷ []) loaded w all.1 (subst (λ ls. IsLedTo pc ls w) (sym (append_assoc before (x ∷ []) loaded)) last))

pub still_named : (pc : ℕ) (loaded later : List LoadedWord) (parent slot child : ℕ) → IsNamed pc loaded parent slot child → IsNamed pc (loaded ++ later) parent slot child
still_named pc loaded later parent slot child h = record {
  named = Contains-append_left loaded later (loaded_of parent (6 + 2 * slot) child) h.named;
  separator = (h.separator.0, (Contains-append_left loaded later (loaded_of parent (7 + 2 * slot) h.separator.0) h.separator.1.0, h.separator.1.1));
  before = λ i less. let b = h.before i less in (b.0, (Contains-append_left loaded later (loaded_of parent (7 + 2 * i) b.0) b.1.0, b.1.1));
}

pub still_led : (pc : ℕ) (loaded later : List LoadedWord) (n : ℕ) → IsLed pc loaded n → IsLed pc (loaded ++ later) n
still_led pc loaded later n (inl e) = inl e
still_led pc loaded later n (inr h) = inr (h.0, h.1, still_named pc loaded later h.0 h.1 n h.2)

-- the last load is there
pub last_loaded : (loaded : List LoadedWord) (w : LoadedWord) → Contains (loaded ++ w ∷ []) w
last_loaded loaded w = Contains-append_right loaded (w ∷ []) w (0, omega arith, refl)

pub come_in_order : (a b : LoadedWord) (loaded : List LoadedWord) → Contains loaded a → ComeInOrder a b (loaded ++ b ∷ [])
come_in_order a b [] (k, l, e) = absurd (omega (arith, l))
come_in_order a b (x ∷ loaded) (zero, l, e) = inl (e, last_loaded loaded b)
come_in_order a b (x ∷ loaded) (suc k, l, e) = inr (come_in_order a b loaded (k, omega (arith, l), e))

-- a load of a node's version is one of a word of it
pub version_led : (pc : ℕ) (loaded : List LoadedWord) (n found : ℕ) → IsLed pc loaded n → IsLedTo pc loaded (loaded_at (node_place n) found)
version_led pc loaded n found way = inr (n, 0, (omega arith, omega arith, way))
