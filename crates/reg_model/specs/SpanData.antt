-- Spans of addresses.
use Rattle.std.specs.Prelude.{ℕ, ◌-◌, ◌^◌, ◌≤◌, Bool, ◌&&◌, ◌==◌, nat_le, IsTrue}

-- what a contract sees of a span: its first and its last address
pub record SpanData : Type 0 where
  pub first : ℕ
  pub last : ℕ

-- it holds an address, and the address above its last one is still an address
pub record IsSpan (span : SpanData) : Type 0 where
  pub ordered : span.first ≤ span.last
  pub below_top : span.last ≤ 2 ^ 64 - 2

-- whether the span contains the address
abbrev pub contains : SpanData → ℕ → Bool
contains span pc = nat_le span.first pc && nat_le pc span.last

-- whether the two have the same first and the same last address
abbrev pub is_same_span : SpanData → SpanData → Bool
is_same_span a b = (a.first == b.first) && (a.last == b.last)

-- some address is in both
abbrev pub Overlaps : SpanData → SpanData → Type 0
Overlaps a b = (pc : ℕ) × (IsTrue (contains a pc) × IsTrue (contains b pc))
