-- With which fixed members the registry of a script is made.
use Rattle.std.proofs.Common.{ℕ, ◌+◌, ◌<◌, ◌≤◌, List, [], ◌∷◌, length, map, sym, subst, arith}
use Rattle.std.specs.List.{All, AllByRecursion}
use Rattle.std.proofs.lemmas.List.Elements.{recursion_from_All}
use Rattle.std.proofs.lemmas.Option.{unwrap_or-slice_get}
use Rattle.reg_model.specs.SpanData.{SpanData, IsSpan}
use Rattle.reg_model.specs.declared.span.Member.{Member}
use Rattle.segment_array.specs.Ascending.{AscendFrom}
use Rattle.script_text.specs.ScriptData.{AreFixed, Rise, span_of}
use Rattle.script_text.specs.Lawful.{image_member}

module _ (images : List SpanData) (spans : All IsSpan images) where
  abbrev IsNamed : ℕ → Type 0
  IsNamed image = image < length images

  pub span_is : (image : ℕ) → IsNamed image → IsSpan (span_of images image)
  span_is image named =
      let nowhere : SpanData = record { first = 0; last = 0 } in
      subst IsSpan (sym (unwrap_or-slice_get images image nowhere)) (spans image nowhere named)

  -- from a first address on
  ascend_from : (image : ℕ) (fixed : List ℕ) (low : ℕ) → AllByRecursion IsNamed (image ∷ fixed) → Rise (map (span_of images) (image ∷ fixed)) → low ≤ (span_of images image).first → AscendFrom low (map (image_member images) (image ∷ fixed))
  ascend_from image [] low named rise least = (least, (span_is image named.0).ordered, tt)
  ascend_from image (next ∷ fixed) low named rise least =
      (least, (span_is image named.0).ordered, ascend_from next fixed ((span_of images image).last + 1) named.1 rise.1 (let above = rise.0 in omega (arith, above)))

  ascend_all : (fixed : List ℕ) → AllByRecursion IsNamed fixed → Rise (map (span_of images) fixed) → AscendFrom 0 (map (image_member images) fixed)
  ascend_all [] named rise = tt
  ascend_all (image ∷ fixed) named rise = ascend_from image fixed 0 named rise (omega arith)

  members_all : (fixed : List ℕ) → AllByRecursion IsNamed fixed → AllByRecursion (λ (m : Member). IsSpan m.span × (m.payload < length images)) (map (image_member images) fixed)
  members_all [] named = tt
  members_all (image ∷ fixed) named = ((span_is image named.0, named.0), members_all fixed named.1)

  -- they ascend
  pub fixed_ascend : (fixed : List ℕ) → AreFixed images fixed → AscendFrom 0 (map (image_member images) fixed)
  fixed_ascend fixed are = ascend_all fixed (recursion_from_All IsNamed fixed are.named) are.rising

  -- each has a span, and the number of an image
  pub fixed_known : (fixed : List ℕ) → AreFixed images fixed → AllByRecursion (λ (m : Member). IsSpan m.span × (m.payload < length images)) (map (image_member images) fixed)
  fixed_known fixed are = members_all fixed (recursion_from_All IsNamed fixed are.named)
