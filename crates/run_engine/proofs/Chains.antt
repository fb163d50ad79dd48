-- Chains of calls, one after another.
use Rattle.std.proofs.Common.{◌≡◌, List, [], ◌∷◌, ◌++◌, sym, ◌∙◌, ap, subst}
use Rattle.std.specs.List.{flat_map}
use Rattle.std.proofs.lemmas.List.{append-nil}
use Rattle.std.proofs.lemmas.List.Concat.{flat_map-append}
use Rattle.reg_model.specs.Chain.{Chain}
use Rattle.reg_model.specs.declared.answer.Receipt.{Receipt}

module _ {S : Type 0} (step : S → Receipt → S → Type 0) where
  pub Chain-append : (a b c : S) (xs ys : List Receipt) → Chain step a xs b → Chain step b ys c → Chain step a (xs ++ ys) c
  Chain-append a b c [] ys front back = (let P : S → Type 0 = λ s. Chain step s ys c in subst P front back)
  Chain-append a b c (x ∷ xs) ys (mid, call, front) back = (mid, call, Chain-append mid b c xs ys front back)

  -- one more item, each of which has receipts of its own
  pub Chain-push : {X : Type 0} (f : X → List Receipt) (a b c : S) (xs : List X) (x : X) (all : List X) → all ≡ xs ++ x ∷ [] → Chain step a (flat_map f xs) b → Chain step b (f x) c → Chain step a (flat_map f all) c
  Chain-push f a b c xs x all grown front back =
      let P : List Receipt → Type 0 = λ receipts. Chain step a receipts c in
      let is : flat_map f all ≡ flat_map f xs ++ f x = ap (flat_map f) grown ∙ (flat_map-append f xs (x ∷ []) ∙ ap (λ last. flat_map f xs ++ last) (append-nil (f x))) in
      subst P (sym is) (Chain-append a b c (flat_map f xs) (f x) front back)
