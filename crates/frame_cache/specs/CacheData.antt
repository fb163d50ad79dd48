-- What contracts see of a cache, and what it keeps at a stamp.
use Rattle.std.specs.Prelude.{◌≢◌, ℕ, ◌==◌, List, [], ◌∷◌, if◌then◌else◌}
use Rattle.std.specs.List.{AllByRecursion}
use Rattle.reg_model.specs.SpanData.{contains}
use Rattle.reg_model.specs.declared.answer.Half.{Half}
use Rattle.reg_model.specs.declared.span.Member.{Member}

-- the half that it is of, its stamp, and its entries, the most recently used one first
pub record CacheData : Type 0 where
  pub half : Half
  pub stamp : ℕ
  pub entries : List Member

-- no two of them have one span
abbrev pub HaveOwnSpans : List Member → Type 0
HaveOwnSpans [] = Unit {0}
HaveOwnSpans (m ∷ members) =
    AllByRecursion (λ other. other.span ≢ m.span) members × HaveOwnSpans members

-- what is kept at a stamp of entries of another one, or of the same
abbrev pub kept_entries : ℕ → ℕ → List Member → List Member
kept_entries stamp before entries = if stamp == before then entries else []

abbrev pub kept_at : ℕ → CacheData → CacheData
kept_at stamp c = record c { stamp = stamp; entries = kept_entries stamp c.stamp c.entries }

-- all but the first that contains the address
abbrev pub but_found : ℕ → List Member → List Member
but_found pc [] = []
but_found pc (m ∷ members) = if contains m.span pc then members else (m ∷ but_found pc members)
