-- The updates, put in the places of their numbers.
use Rattle.std.proofs.Common.{◌≡◌, ℕ, ◌+◌, ◌<◌, List, [], ◌∷◌, ◌++◌, length, get_or, take, replicate, Option, Some, None, Bool, true, false, ◌&&◌, cond, refl, sym, ◌∙◌, ap, add-one, arith}
use Rattle.std.proofs.lemmas.List.{length-replicate, get_or-replicate, map_more}
use Rattle.std.specs.Option.{option_and_then, option_or, option_to_list, is_some}
use Rattle.std.specs.List.{find}
use Rattle.reg_model.specs.Receipt.{accepted}
use Rattle.reg_model.specs.Numbers.{has_number, history_of}
use Rattle.reg_model.specs.declared.answer.Update.{Update}
use Rattle.reg_model.specs.declared.answer.Receipt.{Receipt}
use Rattle.receipt_check.specs.declared.account.Told.{Told}
use Rattle.receipt_check.specs.Flaws.{told_receipts}
use Rattle.receipt_check.specs.Sweep.{AreByNumber, first_numbered, update_at}

module _ (number : ℕ) where
  told_first : (r : Receipt) (b : Bool) (a : Option Update) (rest : Option Receipt) → accepted r ≡ a → option_and_then accepted (cond (is_some a && b) (Some r) rest) ≡ cond (is_some a && b) a (option_and_then accepted rest)
  told_first r b None rest is = refl
  told_first r true (Some u) rest is = is
  told_first r false (Some u) rest is = refl

  first_or : (b : Bool) (a rest next : Option Update) → option_or (cond (is_some a && b) a rest) next ≡ cond (is_some a && b) a (option_or rest next)
  first_or b None rest next = refl
  first_or true (Some u) rest next = refl
  first_or false (Some u) rest next = refl

  last_one : (b : Bool) (a : Option Update) → cond (is_some a && b) a None ≡ option_or None (cond (is_some a && b) a None)
  last_one b None = refl
  last_one true (Some u) = refl
  last_one false (Some u) = refl

  first_of : (r : Receipt) (rs : List Receipt) → first_numbered number (r ∷ rs) ≡ cond (has_number number r) (accepted r) (first_numbered number rs)
  first_of r rs = told_first r _ (accepted r) (find (has_number number) rs) refl

  -- one receipt more
  pub first_more : (rs : List Receipt) (r : Receipt) → first_numbered number (rs ++ r ∷ []) ≡ option_or (first_numbered number rs) (update_at number r)
  first_more [] r = first_of r [] ∙ last_one _ (accepted r)
  first_more (x ∷ rs) r = first_of x (rs ++ r ∷ []) ∙ ap (λ next. cond (has_number number x) (accepted x) next) (first_more rs r) ∙ sym (first_or _ (accepted x) (first_numbered number rs) (update_at number r)) ∙ ap (λ first. option_or first (update_at number r)) (sym (first_of x rs))

-- no receipt was passed yet
pub places_none : (n : ℕ) → AreByNumber [] n (replicate n None)
places_none n = record { many = length-replicate n None; each = λ k below. get_or-replicate n k None None below }

-- one receipt more
pub places_more : (told : List Told) (i : ℕ) (t : Told) (n : ℕ) (old new : List (Option Update)) → i < length told → t ≡ get_or told i t → length new ≡ length old → ((k : ℕ) → k < length old → get_or new k None ≡ option_or (get_or old k None) (update_at (k + 1) t.receipt)) → AreByNumber (told_receipts (take i told)) n old → AreByNumber (told_receipts (take (i + 1) told)) n new
places_more told i t n old new within is same put are =
    let grown : told_receipts (take (i + 1) told) ≡ told_receipts (take i told) ++ t.receipt ∷ [] = map_more (λ (u : Told). u.receipt) told i t within ∙ ap (λ (u : Told). told_receipts (take i told) ++ u.receipt ∷ []) (sym is) in
    record {
      many = same ∙ are.many;
      each = λ k below. put k (let many = are.many in omega arith) ∙ ap (λ first. option_or first (update_at (k + 1) t.receipt)) (are.each k below) ∙ sym (first_more (k + 1) (told_receipts (take i told)) t.receipt) ∙ ap (first_numbered (k + 1)) (sym grown);
    }

-- one place more
pub history_more : (rs : List Receipt) (k : ℕ) → history_of rs (k + 1) ≡ history_of rs k ++ option_to_list (first_numbered (k + 1) rs)
history_more rs k = rw add-one refl
