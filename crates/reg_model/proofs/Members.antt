-- Lists of members: the lowest one that overlaps a span.
use Rattle.std.proofs.Common.{◌<◌, ◌≤◌, List, [], ◌∷◌, ◌++◌, Option, Some, None, MatchOption, IfSome, arith}
use Rattle.std.proofs.lemmas.List.Elements.{All-append, All-push, All-weaker, Contains-append_left, Contains-append_right, Contains-push}
use Rattle.std.specs.List.{All}
use Rattle.reg_model.specs.SpanData.{SpanData, Overlaps}
use Rattle.reg_model.specs.State.{IsFree, IsLowestOverlap}
use Rattle.reg_model.specs.declared.span.Member.{Member}

-- the lowest of the members that overlap, if one does
abbrev pub IsLowest : SpanData → List Member → Option Member → Type 0
IsLowest span members lowest = MatchOption lowest (IsFree span members) (IsLowestOverlap span members)

abbrev Apart : SpanData → Member → Type 0
Apart span m = ¬ Overlaps m.span span

-- a member that overlaps begins no lower than m
abbrev BeginsFrom : SpanData → Member → Member → Type 0
BeginsFrom span m other = Overlaps other.span span → m.span.first ≤ other.span.first

pub passed_over : (span : SpanData) (members : List Member) (lowest : Option Member) (m : Member) → IsLowest span members lowest → (Overlaps m.span span → ¬ IfSome lowest (λ best. m.span.first < best.span.first)) → IsLowest span (members ++ m ∷ []) lowest
passed_over span members None m free not_lower = All-push (Apart span) members m free (λ overlaps. not_lower overlaps tt)
passed_over span members (Some best) m is not_lower =
    let from_best : BeginsFrom span best m = λ overlaps. (let not_below : ¬ (m.span.first < best.span.first) = not_lower overlaps in omega arith) in
    record {
      listed = Contains-append_left members (m ∷ []) best is.listed;
      overlaps = is.overlaps;
      lowest = All-push (BeginsFrom span best) members m is.lowest from_best;
    }

pub taken : (span : SpanData) (members : List Member) (lowest : Option Member) (m : Member) → IsLowest span members lowest → Overlaps m.span span → IfSome lowest (λ best. m.span.first < best.span.first) → IsLowest span (members ++ m ∷ []) (Some m)
taken span members None m free overlaps below =
    let weaker : (other : Member) → Apart span other → BeginsFrom span m other = λ other apart meets. absurd (apart meets) in
    record {
      listed = Contains-push members m;
      overlaps = overlaps;
      lowest = All-push (BeginsFrom span m) members m (All-weaker (Apart span) (BeginsFrom span m) weaker members free) (λ _. omega arith);
    }
taken span members (Some best) m is overlaps below =
    let weaker : (other : Member) → BeginsFrom span best other → BeginsFrom span m other = λ other from_best meets. (let above : best.span.first ≤ other.span.first = from_best meets in omega arith) in
    record {
      listed = Contains-push members m;
      overlaps = overlaps;
      lowest = All-push (BeginsFrom span m) members m (All-weaker (BeginsFrom span best) (BeginsFrom span m) weaker members is.lowest) (λ _. omega arith);
    }

-- Of two lists one after another: the lowest of the second one where it begins below that of the first, or else that of
-- the first.
pub taken_from : (span : SpanData) (front members : List Member) (lowest : Option Member) (m : Member) → IsLowest span front lowest → IsLowestOverlap span members m → IfSome lowest (λ best. m.span.first < best.span.first) → IsLowestOverlap span (front ++ members) m
taken_from span front members lowest m before is below = record {
  listed = Contains-append_right front members m is.listed;
  overlaps = is.overlaps;
  lowest = All-append (BeginsFrom span m) front members (from_front lowest before below) is.lowest;
}
  where
    from_front : (lowest : Option Member) → IsLowest span front lowest → IfSome lowest (λ best. m.span.first < best.span.first) → All (BeginsFrom span m) front
    from_front None free below = All-weaker (Apart span) (BeginsFrom span m) (λ other apart meets. absurd (apart meets)) front free
    from_front (Some best) least below =
        All-weaker (BeginsFrom span best) (BeginsFrom span m) (λ other from_best meets. (let above : best.span.first ≤ other.span.first = from_best meets in omega arith)) front least.lowest

pub passed_over_all : (span : SpanData) (front members : List Member) (lowest behind : Option Member) → IsLowest span front lowest → IsLowest span members behind → IfSome behind (λ m. ¬ IfSome lowest (λ best. m.span.first < best.span.first)) → IsLowest span (front ++ members) lowest
passed_over_all span front members None None before after_it not_lower = All-append (Apart span) front members before after_it
passed_over_all span front members None (Some m) before after_it not_lower = absurd (not_lower tt)
passed_over_all span front members (Some best) behind is after_it not_lower = record {
  listed = Contains-append_left front members best is.listed;
  overlaps = is.overlaps;
  lowest = All-append (BeginsFrom span best) front members is.lowest (from_after behind after_it not_lower);
}
  where
    from_after : (behind : Option Member) → IsLowest span members behind → IfSome behind (λ m. ¬ (m.span.first < best.span.first)) → All (BeginsFrom span best) members
    from_after None free not_lower = All-weaker (Apart span) (BeginsFrom span best) (λ other apart meets. absurd (apart meets)) members free
    from_after (Some m) least not_lower =
        All-weaker (BeginsFrom span m) (BeginsFrom span best) (λ other from_m meets. (let above : m.span.first ≤ other.span.first = from_m meets in let not_below : ¬ (m.span.first < best.span.first) = not_lower in omega arith)) members least.lowest
