-- The fields that follow another.
use Rattle.std.proofs.Common.{◌≡◌, ℕ, ◌≢◌, true, false, not, eqb, List, [], ◌∷◌, length, Some, None, refl, sym, ap, ◌∙◌, ne_eqb, arith}
use Rattle.script_text.specs.Fields.{pieces_after}
use Rattle.event_script.specs.Reading.{has_any, only, five}
use Rattle.script_text.proofs.Pieces.{some_pieces}

pub has_any_is : (rest : List ℕ) → not (eqb (length rest) 0) ≡ has_any (pieces_after 32 rest)
has_any_is [] = refl
has_any_is (b ∷ rest) = let p = some_pieces 32 rest in let one : eqb (length (b ∷ rest)) 0 ≡ false = ne_eqb _ _ (omega arith) in ap not one ∙ sym (ap has_any p.2)

pub has_some : (rest : List ℕ) → length rest ≢ 0 → has_any (pieces_after 32 rest) ≡ true
has_some [] e = absurd (e refl)
has_some (b ∷ rest) e = let p = some_pieces 32 rest in ap has_any p.2

any_more : (field : List ℕ) (fields : List (List ℕ)) → has_any fields ≡ true → only (field ∷ fields) ≡ None
any_more field [] e = absurd cc
any_more field (next ∷ fields) e = refl

pub only_none : (fields : List (List ℕ)) (field rest : List ℕ) → fields ≡ field ∷ pieces_after 32 rest → length rest ≢ 0 → only fields ≡ None
only_none fields field rest e some = ap only e ∙ any_more field (pieces_after 32 rest) (has_some rest some)

-- five fields, from the four first and the last
pub five_some : (fields second third fourth fifth : List (List ℕ)) (a b c d e : List ℕ) → fields ≡ a ∷ second → second ≡ b ∷ third → third ≡ c ∷ fourth → fourth ≡ d ∷ fifth → only fifth ≡ Some e
    → five fields ≡ Some (a, b, c, d, e)
five_some fields second third fourth [] a b c d e p q r s only_one = absurd cc
five_some fields second third fourth (last ∷ []) a b c d e p q r s only_one =
    let same : last ≡ e = cc in
    ap five (p ∙ ap (λ (x : List (List ℕ)). a ∷ x) (q ∙ ap (λ (x : List (List ℕ)). b ∷ x) (r ∙ ap (λ (x : List (List ℕ)). c ∷ x) s))) ∙ ap (λ (x : List ℕ). Some (a, b, c, d, x)) same
five_some fields second third fourth (last ∷ more ∷ others) a b c d e p q r s only_one = absurd cc

pub five_none : (fields second third fourth fifth : List (List ℕ)) (a b c d : List ℕ) → fields ≡ a ∷ second → second ≡ b ∷ third → third ≡ c ∷ fourth → fourth ≡ d ∷ fifth → only fifth ≡ None → five fields ≡ None
five_none fields second third fourth [] a b c d p q r s only_one =
    ap five (p ∙ ap (λ (x : List (List ℕ)). a ∷ x) (q ∙ ap (λ (x : List (List ℕ)). b ∷ x) (r ∙ ap (λ (x : List (List ℕ)). c ∷ x) s)))
five_none fields second third fourth (last ∷ []) a b c d p q r s only_one = absurd cc
five_none fields second third fourth (last ∷ more ∷ others) a b c d p q r s only_one =
    ap five (p ∙ ap (λ (x : List (List ℕ)). a ∷ x) (q ∙ ap (λ (x : List (List ℕ)). b ∷ x) (r ∙ ap (λ (x : List (List ℕ)). c ∷ x) s)))
