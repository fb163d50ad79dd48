-- The words that lines begin with.
use Rattle.std.proofs.Common.{◌≡◌, ℕ, true, ◌&&◌, leb, List, [], ◌∷◌, Some, refl}
use Rattle.std.specs.List.{list_all}
use Rattle.std.proofs.lemmas.Bool.{and_parts, leb-true}
use Rattle.script_text.specs.Statements.{word_of}
use Rattle.event_script.specs.Reading.{kind_of}
use Rattle.script_text.specs.declared.kind.Kind.{Kind}
use Rattle.script_text.specs.declared.kind.Kind.TheVariants as kind
use Rattle.script_text.proofs.Joined.{IsVisible}

pub visible_from_test : (field : List ℕ) → list_all (λ b. leb 33 b && leb b 126) field ≡ true → IsVisible field
visible_from_test [] e = tt
visible_from_test (b ∷ field) e =
    let p = and_parts (leb 33 b && leb b 126) (list_all (λ b. leb 33 b && leb b 126) field) e in
    let q = and_parts (leb 33 b) (leb b 126) p.0 in
    ((leb-true 33 b q.0, leb-true b 126 q.1), visible_from_test field p.1)

pub word_visible : (k : Kind) → IsVisible (word_of k)
word_visible k = visible_from_test (word_of k) (by k)
  where
    by : (k : Kind) → list_all (λ b. leb 33 b && leb b 126) (word_of k) ≡ true
    by kind.Version = refl
    by kind.Nodes = refl
    by kind.Loads = refl
    by kind.Image = refl
    by kind.Fixed = refl
    by kind.Snapshot = refl
    by kind.Memory = refl
    by kind.Round = refl
    by kind.Thread = refl
    by kind.Register = refl
    by kind.Deregister = refl
    by kind.Replace = refl
    by kind.Load = refl
    by kind.Unload = refl
    by kind.Find = refl
    by kind.Unwind = refl
    by kind.End = refl

pub word_again : (k : Kind) → kind_of (word_of k) ≡ Some k
unfolding kind_of
word_again kind.Version = refl
word_again kind.Nodes = refl
word_again kind.Loads = refl
word_again kind.Image = refl
word_again kind.Fixed = refl
word_again kind.Snapshot = refl
word_again kind.Memory = refl
word_again kind.Round = refl
word_again kind.Thread = refl
word_again kind.Register = refl
word_again kind.Deregister = refl
word_again kind.Replace = refl
word_again kind.Load = refl
word_again kind.Unload = refl
word_again kind.Find = refl
word_again kind.Unwind = refl
word_again kind.End = refl
