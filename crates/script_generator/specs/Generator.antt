-- The generated script, for a number of images a thread.
use Rattle.std.specs.Prelude.{◌≡◌, ℕ, ◌+◌, ◌*◌, ◌%◌, ◌^◌, ◌<◌, ◌≤◌, List, [], ◌∷◌, ◌++◌, map, All}
use Rattle.std.specs.Prelude.{nat_lt, ◌==◌, if◌then◌else◌, reverse, replicate}
use Rattle.std.specs.List.{range_with_len, flat_map}
use Rattle.byteorder.specs.Endian.{little_bytes}
use Rattle.reg_model.specs.SpanData.{SpanData}
use Rattle.frame_parse.specs.Sections.{SectionData}
use Rattle.script_text.specs.ScriptData.{ScriptData, SnapshotData}
use Rattle.script_text.specs.declared.script.Event.{Event}
use Rattle.script_text.specs.declared.script.Event.TheVariants.{Register, Deregister, Load, Unload}
use Rattle.script_text.specs.declared.script.Event.TheVariants.{Find, Unwind}
use Rattle.script_text.specs.declared.limits.TheConstants.{FIRST_VERSION, MOST_LOADS}
use Rattle.script_generator.specs.declared.generating.TheConstants.{NODES}
use Rattle.script_generator.specs.declared.images.TheConstants.{MOST_COUNT, THREADS}
use Rattle.script_generator.specs.declared.events.Activity.{Activity}
use Rattle.script_generator.specs.declared.events.Activity.TheVariants.{Adding, FindingEnds}
use Rattle.script_generator.specs.declared.events.Activity.TheVariants.{RemovingEven, FindingBases}
use Rattle.script_generator.specs.SectionBytes.{generated_section_bytes}

-- ---- images

-- the first address of a thread's image: each thread has addresses of its own
abbrev pub generated_base : ℕ → ℕ → ℕ
generated_base thread image = (thread + 1) * 2 ^ 32 + 64 * image

-- it has 48 addresses
abbrev pub generated_span : ℕ → ℕ → SpanData
generated_span thread image = record {
  first = generated_base thread image;
  last = generated_base thread image + 47;
}

-- the images of a thread by their numbers in it, and the threads, from 0 upwards
abbrev pub images_up : ℕ → List ℕ
images_up count = range_with_len 0 count

abbrev pub generator_threads : List ℕ
generator_threads = range_with_len 0 THREADS

-- all images, those of each thread after those of the one before
abbrev pub generated_images : List ℕ → List SpanData
generated_images images = flat_map (λ thread. map (generated_span thread) images) generator_threads

-- The section of each image has these bytes, 4,096 above the image. Which FDEs a script's section
-- has follows from its bytes.
pub record AreGeneratedSections (images : List SpanData) (sections : List SectionData) : Type 0
  where
    pub addresses
        : map (λ section. section.address) sections ≡ map (λ image. image.first + 4096) images
    pub bytes : All (λ section. section.bytes ≡ generated_section_bytes) sections

-- ---- recorded stacks

-- The thread is in the second function of its first image. Its frame pointer and its stack pointer
-- are columns 6 and 7.
abbrev pub generated_columns : ℕ → List ℕ
generated_columns thread =
    replicate 6 0 ++ 28688 ∷ 28672 ∷ replicate 8 0 ++ (generated_base thread 0 + 37) ∷ []

-- The return address stands on the stack, where the first function ends; the rest is 0.
abbrev pub generated_memory : ℕ → List ℕ
generated_memory thread = little_bytes 8 (generated_base thread 0 + 32) ++ replicate 24 0

abbrev pub generated_stack : ℕ → SnapshotData
generated_stack thread = record {
  regs = record { columns = generated_columns thread };
  memory = record { address = 28672; bytes = generated_memory thread } ∷ [];
}

-- ---- events

-- threads 0 and 2 go through their images upwards, 1 and 3 downwards
abbrev pub image_order : ℕ → ℕ → List ℕ
image_order count thread =
    if thread % 2 == 0 then images_up count else reverse (images_up count)

-- threads 0 and 1 register and deregister, 2 and 3 load and unload
abbrev pub adding : ℕ → ℕ → ℕ → Event
adding count thread image =
    if nat_lt thread 2 then Register (thread * count + image) else Load (thread * count + image)

abbrev pub removing : ℕ → ℕ → Event
removing thread image =
    if nat_lt thread 2 then Deregister (generated_base thread image)
    else Unload (generated_base thread image)

-- what a thread does with one of its images in an activity
abbrev pub activity_events : ℕ → ℕ → Activity → ℕ → List Event
activity_events count thread Adding image = adding count thread image ∷ []
activity_events count thread FindingEnds image =
    Find (generated_base thread image + 47) ∷ Find (generated_base thread image + 48) ∷ []
activity_events count thread RemovingEven image =
    if image % 2 == 0 then removing thread image ∷ [] else []
activity_events count thread FindingBases image = Find (generated_base thread image) ∷ []

-- and with all of them, one after another
abbrev pub activity_of : ℕ → ℕ → Activity → List Event
activity_of count thread activity =
    flat_map (activity_events count thread activity) (image_order count thread)

-- the events of a thread
abbrev pub generated_events : ℕ → ℕ → List Event
generated_events count thread =
    activity_of count thread Adding ++ activity_of count thread FindingEnds ++ Unwind thread ∷ []
    ++ activity_of count thread RemovingEven ++ activity_of count thread FindingBases

-- ---- the script

pub record IsGenerated (count : ℕ) (script : ScriptData) : Type 0 where
  pub version : script.version ≡ FIRST_VERSION
  pub nodes : script.nodes ≡ NODES
  pub loads : script.loads ≡ MOST_LOADS
  pub images : script.images ≡ generated_images (images_up count)
  pub sections : AreGeneratedSections script.images script.sections
  pub fixed : script.fixed ≡ []
  pub snapshots : script.snapshots ≡ map generated_stack generator_threads
  pub rounds : script.rounds ≡ map (generated_events count) generator_threads ∷ []

-- how many images a thread there may be
abbrev pub IsImageCount : ℕ → Type 0
IsImageCount count = (1 ≤ count) × (count ≤ MOST_COUNT)

-- below this no address of an image's section is past the last one
abbrev pub IsLow : ℕ → Type 0
IsLow address = address < 2 ^ 35
