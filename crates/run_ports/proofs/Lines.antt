-- The lines of an event, written one after another.
use Rattle.std.proofs.Common.{◌≡◌, ℕ, ◌+◌, ◌<◌, List, [], ◌∷◌, ◌++◌, length, take, drop, get_or, Option, map, sym, ◌∙◌, ap, subst, append-nil, take-append-drop}
use Rattle.std.specs.List.{flat_map}
use Rattle.std.proofs.lemmas.Grind.{flat_map-append}
use Rattle.std.proofs.lemmas.List.{take_more, length-map, get_or-map}
use Rattle.run_ports.specs.Ports.{Gains, GainsPart}
use Rattle.run_ports.proofs.Pieces.{Gains-more, GainsPart-more, GainsPart-wider}

module _ (text : List ℕ → List ℕ) (lines : List (List ℕ)) (i : ℕ) (within : i < length lines) where
  next_line : flat_map text (take (i + 1) lines) ≡ flat_map text (take i lines) ++ text (get_or lines i [])
  next_line =
      ap (flat_map text) (take_more lines i [] within) ∙ flat_map-append text (take i lines) (get_or lines i [] ∷ [])
      ∙ ap (λ (x : List ℕ). flat_map text (take i lines) ++ x) (append-nil (text (get_or lines i [])))

  parts : flat_map text lines ≡ flat_map text (take (i + 1) lines) ++ flat_map text (drop (i + 1) lines)
  parts = ap (flat_map text) (sym (take-append-drop (i + 1) lines)) ∙ flat_map-append text (take (i + 1) lines) (drop (i + 1) lines)

  pub line_gains : (a b c : Option (List ℕ)) → Gains a b (flat_map text (take i lines)) → Gains b c (text (get_or lines i [])) → Gains a c (flat_map text (take (i + 1) lines))
  line_gains a b c first second = (let P : List ℕ → Type 0 = Gains a c in subst P (sym next_line) (Gains-more a b c (flat_map text (take i lines)) (text (get_or lines i [])) first second))

  pub line_gains_part : (a b c : Option (List ℕ)) → Gains a b (flat_map text (take i lines)) → GainsPart b c (text (get_or lines i [])) → GainsPart a c (flat_map text lines)
  line_gains_part a b c first second =
      let P : List ℕ → Type 0 = GainsPart a c in
      let Q : List ℕ → Type 0 = λ front. GainsPart a c (front ++ flat_map text (drop (i + 1) lines)) in
      subst P (sym parts) (subst Q (sym next_line) (GainsPart-wider a c (flat_map text (take i lines) ++ text (get_or lines i [])) (flat_map text (drop (i + 1) lines)) (GainsPart-more a b c (flat_map text (take i lines)) (text (get_or lines i [])) first second)))

-- the same of lines that are kept in another form
module _ {X : Type 0} (bytes : X → List ℕ) (xs : List X) (i : ℕ) (x : X) (piece : List ℕ) (within : i < length xs) (is : x ≡ get_or xs i x) (same : piece ≡ bytes x) where
  is_piece : piece ≡ get_or (map bytes xs) i []
  is_piece = same ∙ ap bytes is ∙ sym (get_or-map bytes xs i x [] within)

  inside : i < length (map bytes xs)
  inside = rw (length-map xs bytes) within

  pub item_gains : (a b c : Option (List ℕ)) → Gains a b (flat_map (λ line. line) (take i (map bytes xs))) → Gains b c piece → Gains a c (flat_map (λ line. line) (take (i + 1) (map bytes xs)))
  item_gains a b c first second = (let P : List ℕ → Type 0 = Gains b c in line_gains (λ line. line) (map bytes xs) i inside a b c first (subst P is_piece second))

  pub item_gains_part : (a b c : Option (List ℕ)) → Gains a b (flat_map (λ line. line) (take i (map bytes xs))) → GainsPart b c piece → GainsPart a c (flat_map (λ line. line) (map bytes xs))
  item_gains_part a b c first second = (let P : List ℕ → Type 0 = GainsPart b c in line_gains_part (λ line. line) (map bytes xs) i inside a b c first (subst P is_piece second))
