-- Recorded memory, region by region.
use Rattle.std.proofs.Common.{◌≡◌, ℕ, ◌+◌, ◌^◌, ◌≤◌, true, false, true≢false, ◌&&◌, ltb, leb, List, [], ◌∷◌, ◌++◌, length, sym, ◌∙◌, ltb-true, leb-true, lt-ltb, le-leb, arith}
use Rattle.std.proofs.lemmas.Bool.{and_parts, and_from}
use Rattle.script_text.specs.ScriptData.{SnapshotData, recorded_bytes, IsSnapshot}
use Rattle.frame_expr.specs.Regions.{RegionData, regions_end, Accepts, end, AreFrom}
use Rattle.script_text.specs.declared.statement.SnapshotFields.{SnapshotFields}
use Rattle.event_script.specs.Reading.{accepts}
use Rattle.script_text.specs.declared.statement.Statement.TheVariants as statement
use Rattle.std.specs.List.{All}
use Rattle.std.proofs.lemmas.List.Elements.{All-push, All-from_recursion, All-head, All-tail}
use Rattle.hex.specs.Hex.{IsBytes}
use Rattle.script_text.specs.Statements.{HasForm}
use Rattle.frame_expr.proofs.Ascending.{one_more}

-- the test of a region
pub accepted_true : (regions : List RegionData) (region : RegionData) → accepts regions region ≡ true → Accepts regions region.address region.bytes
accepted_true regions region e =
    let p = and_parts (ltb 0 (length region.bytes) && ltb (region.address + length region.bytes) (2 ^ 64)) (leb (regions_end regions) region.address) e in
    let q = and_parts (ltb 0 (length region.bytes)) (ltb (region.address + length region.bytes) (2 ^ 64)) p.0 in
    (ltb-true _ _ q.0, ltb-true _ _ q.1, leb-true _ _ p.1)

pub accepted_is : (regions : List RegionData) (region : RegionData) → Accepts regions region.address region.bytes → accepts regions region ≡ true
accepted_is regions region are =
    and_from (ltb 0 (length region.bytes) && ltb (region.address + length region.bytes) (2 ^ 64)) (leb (regions_end regions) region.address)
    (and_from (ltb 0 (length region.bytes)) (ltb (region.address + length region.bytes) (2 ^ 64)) (lt-ltb _ _ are.0) (lt-ltb _ _ are.1)) (le-leb _ _ are.2)

pub accepted_false : (regions : List RegionData) (region : RegionData) → accepts regions region ≡ false → Accepts regions region.address region.bytes → ⊥
accepted_false regions region e are =
    true≢false (sym (accepted_is regions region are) ∙ e)

pub recorded_push : (rs : List RegionData) (r : RegionData) → recorded_bytes (rs ++ r ∷ []) ≡ recorded_bytes rs + length r.bytes
recorded_push [] r = omega arith
recorded_push (q ∷ rs) r = let rest = recorded_push rs r in omega arith

-- a snapshot with one more region
pub snapshot_push : (snapshot : SnapshotData) (region : RegionData) → IsSnapshot snapshot → HasForm (statement.Memory region) → recorded_bytes snapshot.memory + length region.bytes ≤ 65536 → Accepts snapshot.memory region.address region.bytes
    → IsSnapshot (record snapshot { memory = snapshot.memory ++ region ∷ [] })
snapshot_push snapshot region is form few accepted = record {
  count = is.count;
  columns = is.columns;
  regions = one_more 0 snapshot.memory region is.regions (omega arith) accepted.2 accepted.0 accepted.1;
  bytes = All-push (λ region. IsBytes region.bytes) snapshot.memory region is.bytes form.1;
  size = (let sum = recorded_push snapshot.memory region in omega arith);
}

pub no_memory : (fields : SnapshotFields) → HasForm (statement.Snapshot fields) → IsSnapshot (record { regs = fields.regs; memory = [] })
no_memory fields form = record { count = form.1; columns = form.2; regions = tt; bytes = All-from_recursion (λ region. IsBytes region.bytes) [] tt; size = omega arith }

-- of regions that ascend each can be recorded above those before it
pub accepted_at : (low : ℕ) (before : List RegionData) (region : RegionData) (memory : List RegionData) → AreFrom low (before ++ region ∷ memory) → Accepts before region.address region.bytes
accepted_at low [] region memory are = (are.1, are.2, omega arith)
accepted_at low (q ∷ []) region memory are = (are.3.1, are.3.2, are.3.0)
accepted_at low (q ∷ p ∷ before) region memory are = accepted_at (end q) (p ∷ before) region memory are.3

pub recorded_parts : (before : List RegionData) (region : RegionData) (memory : List RegionData) → recorded_bytes before + length region.bytes ≤ recorded_bytes (before ++ region ∷ memory)
recorded_parts [] region memory = omega arith
recorded_parts (q ∷ before) region memory = let rest = recorded_parts before region memory in omega arith

pub bytes_in_all : (before : List RegionData) (region : RegionData) (memory : List RegionData) → All (λ region. IsBytes region.bytes) (before ++ region ∷ memory) → IsBytes region.bytes
bytes_in_all [] region memory are = All-head (λ (r : RegionData). IsBytes r.bytes) region memory are
bytes_in_all (q ∷ before) region memory are = bytes_in_all before region memory (All-tail (λ (r : RegionData). IsBytes r.bytes) q (before ++ region ∷ memory) are)
