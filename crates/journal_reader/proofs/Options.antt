-- Steps that may give nothing.
use Rattle.std.proofs.Common.{◌≡◌, ◌⊎◌, Option, Some, None, refl, inl, inr}
use Rattle.std.specs.Option.{option_map}
use Rattle.journal_reader.specs.Reading.{◌>?>◌, going_on}

pub step_parts : {A B : Type 0} (o : Option A) (next : A → Option B) (y : B) → (o >?> next) ≡ Some y → (x : A) × (o ≡ Some x) × (next x ≡ Some y)
step_parts None next y e = absurd cc
step_parts (Some x) next y e = (x, refl, e)

pub going_parts : {A B : Type 0} (o : Option A) (next : A → Option B) (other : Option B) (y : B) → going_on o next other ≡ Some y → ((x : A) × (o ≡ Some x) × (next x ≡ Some y)) ⊎ ((o ≡ None) × (other ≡ Some y))
going_parts None next other y e = inr (refl, e)
going_parts (Some x) next other y e = inl (x, refl, e)

pub map_parts : {A B : Type 0} (f : A → B) (o : Option A) (y : B) → option_map f o ≡ Some y → (x : A) × (o ≡ Some x) × (f x ≡ y)
map_parts f None y e = absurd cc
map_parts f (Some x) y e = (x, refl, cc)
