-- What contracts see of sources and sinks in memory.
use Rattle.std.specs.Prelude.{◌≡◌, ◌≢◌, ℕ, ◌≤◌, List, Option, Result, Err}
use Rattle.run_ports.specs.Ports.{Rose, with_bytes}
use Rattle.run_ports.specs.declared.ports.SinkFault.{SinkFault}
use Rattle.run_ports.specs.declared.ports.SinkFault.TheVariants.{Failed}

-- the bytes that are left, how many a read hands out at most, the numbers of the reads that fail,
-- and how many were made and have failed
pub record MemorySourceData : Type 0 where
  pub rest : List ℕ
  pub most : ℕ
  pub fails : List ℕ
  pub calls : ℕ
  pub faults : ℕ

-- the bytes that were written, how many a write takes at most, the numbers of the writes that fail,
-- and how many were made and have failed
pub record MemorySinkData : Type 0 where
  pub bytes : List ℕ
  pub most : ℕ
  pub fails : List ℕ
  pub calls : ℕ
  pub faults : ℕ

-- a sink, and the bytes that are held for it
pub record BufferedSinkData (K : Type 0) : Type 0 where
  pub sink : K
  pub held : List ℕ

-- Bytes that are left for a sink go on to it: none is lost, and a write that failed is counted.
pub record IsHandedOn {K : Type 0} (faults : K → ℕ) (written : K → Option (List ℕ))
    (result : Result (Unit {0}) SinkFault) (old : K) (left : List ℕ) (new : K)
    (left_after : List ℕ) : Type 0 where
  pub kept : with_bytes (written new) left_after ≡ with_bytes (written old) left
  pub failed : result ≡ Err Failed → Rose (faults old) (faults new)
  pub sound : result ≢ Err Failed → faults new ≡ faults old
  pub counted : faults old ≤ faults new
