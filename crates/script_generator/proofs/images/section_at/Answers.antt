use Rattle.std.proofs.Common.{◌≡◌, inl, inr, arith, ◌+◌}
use Rattle.script_generator.specs.SectionBytes.{generated_section_bytes}
use Rattle.script_generator.proofs.Readable.{never_refused, bytes_are}
use Rattle.script_generator.proofs.images.section_at.Goals as goal

pub unreachable-requires : goal.unreachable-requires
unreachable-requires c =
    elim c.in-Err.ensures.refused [
      | inl none ↦ c.in_default.not-NoMemory none
      | inr refused ↦ never_refused c.args.base c.in-Err.fault c.requires ((c.section_is_answered.ensures (c.args.base + 4096) generated_section_bytes).refusal c.in-Err.fault refused)
    ]

pub returns-in-Ok-clause-whole : goal.returns-in-Ok-clause-whole
returns-in-Ok-clause-whole c =
    let bytes : c.in-Ok.section.bytes ≡ generated_section_bytes = c.in-Ok.ensures.bytes in
    record {
      address = (let low = c.requires in omega (arith, low, c.in-Ok.ensures.address));
      size = rw bytes (omega arith);
      bytes = rw bytes bytes_are;
      records = rw (c.in-Ok.ensures.address, bytes) c.in-Ok.ensures.found;
    }
