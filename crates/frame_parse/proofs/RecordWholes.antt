-- Records and their lengths are exact; what a record holds is whole.
use Rattle.std.proofs.Common.{ℕ, ◌+◌, List}
use Rattle.std.specs.Prelude.{◌==◌}
use Rattle.frame_parse.specs.declared.fault.RecordFault.TheVariants.{Short, NoCie}
use Rattle.frame_parse.specs.declared.records.CieRecord.{CieRecord}
use Rattle.frame_parse.specs.declared.instructions.context.ProgramKind.TheVariants.{Initial, Own}
use Rattle.frame_parse.specs.Programs.{context_of, initial_state, first_state}
use Rattle.frame_parse.specs.RecordNumbers.{extended_length}
use Rattle.frame_parse.specs.Records.{fault_in, cie_after, content, record_length, record_at, whole_record}
use Rattle.eh_bytes.proofs.Exact.{IsExact, lift_exact, then_exact, give_exact, here_exact, when_exact, found_exact}
use Rattle.eh_bytes.proofs.Wholes.{IsWhole, then_whole, give_whole, when_whole, filled_exact}
use Rattle.eh_bytes.proofs.Fields.{fixed_exact}
use Rattle.frame_parse.proofs.RecordParts.{field_exact, cie_exact, fde_exact}
use Rattle.frame_parse.proofs.ProgramParts.{steps_sound}
use Rattle.eh_bytes.proofs.Steps.{steps_from_whole}
use Rattle.frame_parse.specs.Entries.{Cie, Fde}

-- ---- records

content_whole : (section : ℕ) (earlier : List CieRecord) (start end : ℕ) → IsWhole (content section earlier start end)
unfolding content
content_whole section earlier start end =
    then_whole _ _ here_exact (λ at.
    then_whole _ _ (field_exact _ (fixed_exact 4)) (λ id.
    when_whole (id == 0) _ _
    (then_whole _ _ (cie_exact section start end) (λ c. give_whole _ (λ s. Cie (record c { offset = s.offset })) (steps_from_whole _ initial_state (steps_sound (context_of section c Initial)))))
    (then_whole _ _ (found_exact (cie_after earlier at id) (NoCie at)) (λ c. then_whole _ _ (fde_exact section start end c) (λ f. give_whole _ (λ s. Fde f) (steps_from_whole _ (first_state c f.first) (steps_sound (context_of section c Own))))))))

pub record_length_exact : (start : ℕ) → IsExact (record_length start)
unfolding record_length
record_length_exact start =
    then_exact _ _ (lift_exact (λ f. Short start) _ (fixed_exact 4)) (λ n. when_exact (n == extended_length) _ _ (lift_exact (λ f. Short start) _ (fixed_exact 8)) (give_exact n))

record_at_exact : (section : ℕ) (earlier : List CieRecord) (start : ℕ) → IsExact (record_at section earlier start)
unfolding record_at
record_at_exact section earlier start =
    then_exact _ _ (record_length_exact start) (λ n.
    then_exact _ _ here_exact (λ at.
    filled_exact (Short start) n _ (content_whole section earlier start (at + n))))

pub whole_record_exact : (section : ℕ) (earlier : List CieRecord) → IsExact (whole_record section earlier)
unfolding whole_record
whole_record_exact section earlier = then_exact _ _ here_exact (λ start. lift_exact (fault_in start) _ (record_at_exact section earlier start))
