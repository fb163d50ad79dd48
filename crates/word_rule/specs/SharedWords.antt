-- The shared words as the invariant reads them, each kind apart.
use Rattle.std.specs.Prelude.{ℕ, zero, suc, ◌+◌, ◌/◌, ◌==◌, nat_lt, List, [], slice_index, take}
use Rattle.std.specs.Prelude.{drop, if◌then◌else◌}
use Rattle.word_rule.specs.declared.log.Terms.{Terms}
use Rattle.word_rule.specs.Places.{CLOCK, HEAD, LOADER, CONTENT_WORDS, node_place, copy_place}
use Rattle.word_rule.specs.Places.{copy_words}

-- The free head, and of each node its version word and the words after it.
pub record NodeWords : Type 0 where
  pub head : ℕ
  pub versions : ℕ → ℕ
  pub contents : ℕ → List ℕ

-- All words: the clock, the loader's version word, those of the nodes, and copy 0 and copy 1.
pub record SharedWords : Type 0 where
  pub clock : ℕ
  pub loader : ℕ
  pub nodes : NodeWords
  pub copies : ℕ → List ℕ

-- so many words from a place on
abbrev pub part : ℕ → ℕ → List ℕ → List ℕ
part size at words = take size (drop at words)

abbrev pub node_words_of : Terms → List ℕ → NodeWords
node_words_of t words = record {
  head = slice_index words HEAD;
  versions = λ n. if nat_lt n t.nodes then slice_index words (node_place n) else 0;
  contents = λ n. if nat_lt n t.nodes then part CONTENT_WORDS (node_place n + 1) words else [];
}

-- the words of copy c
abbrev pub copy_of : Terms → List ℕ → ℕ → List ℕ
copy_of t words c = if nat_lt c 2 then part (copy_words t) (copy_place t c) words else []

abbrev pub memory_of : Terms → List ℕ → SharedWords
memory_of t words = record {
  clock = slice_index words CLOCK;
  loader = slice_index words LOADER;
  nodes = node_words_of t words;
  copies = copy_of t words;
}

-- a function with another value at one place
abbrev pub updated : {A : Type 0} → (ℕ → A) → ℕ → A → ℕ → A
updated f n x m = if m == n then x else f m

-- the counters of the version words of the nodes below n, added up
abbrev pub node_counters : (ℕ → ℕ) → ℕ → ℕ
node_counters versions zero = 0
node_counters versions (suc n) = versions n / 4 + node_counters versions n

-- the counters of all version words
abbrev pub counters : Terms → SharedWords → ℕ
counters t m = m.loader / 4 + node_counters m.nodes.versions t.nodes
