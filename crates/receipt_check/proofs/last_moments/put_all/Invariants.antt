use Rattle.std.proofs.Common.{◌≡◌, ℕ, ◌&&◌, cond, leb, ltb, length, get_or}
use Rattle.receipt_check.proofs.last_moments.put_all.Given as goal

-- so far
abbrev pub invariant-loop-place : goal.invariant-loop-place
invariant-loop-place l = record {
  many : length l.ends.items ≡ length l.fn.ends.items;
  each : (k : ℕ) → get_or l.ends.items k 0 ≡ cond (leb l.from k && ltb k l.place) l.end (get_or l.fn.ends.items k 0);
}
