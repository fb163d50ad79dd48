-- The line that says why a script is refused.
use Rattle.std.specs.Prelude.{ℕ, List, [], ◌++◌, codes}
use Rattle.std.specs.Fmt.{decimal}
use Rattle.frame_parse.specs.declared.fault.FrameFault.{FrameFault}
use Rattle.frame_parse.specs.declared.fault.FrameFault.TheVariants as section
use Rattle.script_text.specs.declared.reason.Reason.{Reason}
use Rattle.script_text.specs.declared.reason.Reason.TheVariants.{Missing, After, Unended}
use Rattle.script_text.specs.declared.reason.Reason.TheVariants.{Byte, Word, Fields}
use Rattle.script_text.specs.declared.reason.Reason.TheVariants.{Spelling, Order, Limit}
use Rattle.script_text.specs.declared.reason.Reason.TheVariants.{Span, Section, Name, Fixed}
use Rattle.script_text.specs.declared.reason.Reason.TheVariants.{Region}

-- a refusal of a section: its name, where its record starts, and the place that is refused
abbrev pub section_fault_at : List ℕ → ℕ → ℕ → List ℕ
section_fault_at name start at =
    codes "section " ++ name ++ codes " " ++ decimal start ++ codes " " ++ decimal at

abbrev pub section_fault_text : FrameFault → List ℕ
section_fault_text (section.Short start at) = section_fault_at (codes "short") start at
section_fault_text (section.TooWide start at) = section_fault_at (codes "wide") start at
section_fault_text (section.Encoding start at byte) = section_fault_at (codes "encoding") start at
section_fault_text (section.NoCie start at) = section_fault_at (codes "nocie") start at
section_fault_text (section.Version start at byte) = section_fault_at (codes "version") start at
section_fault_text (section.Augmentation start at) =
    section_fault_at (codes "augmentation") start at
section_fault_text (section.Column start at column) = section_fault_at (codes "column") start at
section_fault_text (section.Range start at) = section_fault_at (codes "range") start at
section_fault_text (section.Opcode start at byte) = section_fault_at (codes "opcode") start at
section_fault_text (section.Location start at) = section_fault_at (codes "location") start at
section_fault_text (section.Remember start at) = section_fault_at (codes "remember") start at
section_fault_text (section.Operation start at byte) = section_fault_at (codes "operation") start at
section_fault_text (section.Depth start at) = section_fault_at (codes "depth") start at
section_fault_text (section.CfaRule start at) = section_fault_at (codes "cfarule") start at
-- No line is bad for want of memory.
section_fault_text section.NoMemory = []

abbrev pub reason_text : Reason → List ℕ
reason_text Missing = codes "missing"
reason_text After = codes "after"
reason_text Unended = codes "unended"
reason_text Byte = codes "byte"
reason_text Word = codes "word"
reason_text Fields = codes "fields"
reason_text Spelling = codes "spelling"
reason_text Order = codes "order"
reason_text Limit = codes "limit"
reason_text Span = codes "span"
reason_text (Section fault) = section_fault_text fault
reason_text Name = codes "name"
reason_text Fixed = codes "fixed"
reason_text Region = codes "region"

-- the first bad line, and the first reason that holds of it
abbrev pub fault_text : ℕ → Reason → List ℕ
fault_text line reason =
    codes "script line " ++ decimal line ++ codes ": " ++ reason_text reason ++ codes "\n"
