-- A line that is written from its end to its front.
use Rattle.std.proofs.Common.{◌≡◌, ℕ, ◌+◌, ◌-◌, ◌≤◌, List, ◌++◌, length, take, drop, sym, ap, ◌∙◌, append_assoc, length-append, length-drop, append-nil, codes, [], arith}
use Rattle.std.proofs.lemmas.List.{drop_at, drop-drop, length-take-le}

-- a word was put before what stands behind the start
module _ (start : ℕ) (room word put : List ℕ) (is : put ≡ word) (fits : length word ≤ start) (within : start ≤ length room) where
  pub word_before : drop (start - length word) (take (start - length word) room ++ (put ++ drop (start - (start - length word)) (drop (start - length word) room))) ≡ word ++ drop start room
  word_before =
      let at : start - length word + (start - (start - length word)) ≡ start = omega arith in
      drop_at (take (start - length word) room) _ (start - length word) (length-take-le (start - length word) room (omega arith))
      ∙ ap (λ (x : List ℕ). x ++ drop (start - (start - length word)) (drop (start - length word) room)) is
      ∙ ap (λ (x : List ℕ). word ++ x) (drop-drop (start - (start - length word)) (start - length word) room ∙ ap (λ (i : ℕ). drop i room) at)

  pub size_kept : length (take (start - length word) room ++ (put ++ drop (start - (start - length word)) (drop (start - length word) room))) ≡ length room
  size_kept =
      let rest = drop (start - (start - length word)) (drop (start - length word) room) in
      omega (arith, length-append (take (start - length word) room) (put ++ rest), length-append put rest, ap length is, length-take-le (start - length word) room (omega arith), length-drop (start - (start - length word)) (drop (start - length word) room), length-drop (start - length word) room)

-- digits, of which there are so many at most, have room before the start
pub digits_fit : (most start : ℕ) (room digits : List ℕ) → length digits ≤ most → length room ≡ 272 → start ≤ 272 → most + length (drop start room) ≤ 272 → (length digits ≤ start) × (start ≤ length room)
digits_fit most start room digits short size within left = (omega (arith, short, left, length-drop start room, size, within), omega (arith, size, within))

-- with them a text is longer by so many at most
pub digits_lengthen : (most : ℕ) (digits old new : List ℕ) → length digits ≤ most → new ≡ digits ++ old → length new ≤ most + length old
digits_lengthen most digits old new short is = omega (arith, short, ap length is, length-append digits old)

-- three parts, the last one first
pub three_before : (a b c old one two three : List ℕ) → one ≡ c ++ old → two ≡ b ++ one → three ≡ a ++ two → three ≡ ((a ++ b) ++ c) ++ old
three_before a b c old one two three last middle first =
    first ∙ ap (λ (x : List ℕ). a ++ x) (middle ∙ ap (λ (x : List ℕ). b ++ x) last)
    ∙ sym (append_assoc a b (c ++ old)) ∙ sym (append_assoc (a ++ b) c old)

-- a line that was spelled in an emptied room, whose three parts say what it says
pub line_spelled : (number first second third said : List ℕ) (cleared feed one two three whole : List ℕ) → cleared ≡ [] → feed ≡ codes "\n" ++ cleared → one ≡ third ++ feed → two ≡ second ++ one → three ≡ first ++ two → whole ≡ (number ++ codes " ") ++ three → (first ++ second) ++ third ≡ said → whole ≡ number ++ codes " " ++ said ++ codes "\n"
line_spelled number first second third said cleared feed one two three whole empty end last middle begin numbered says =
    let ended : feed ≡ codes "\n" = end ∙ ap (λ (x : List ℕ). codes "\n" ++ x) empty in
    let parts = three_before first second third feed one two three last middle begin in
    numbered ∙ (ap (λ (x : List ℕ). (number ++ codes " ") ++ x) (parts ∙ (ap (λ (x : List ℕ). x ++ feed) says ∙ ap (λ (x : List ℕ). said ++ x) ended)) ∙ sym (append_assoc (number ++ codes " ") said (codes "\n")))

-- what the line of an address that a registered image has says
pub registered_said : (pc image stamp : List ℕ) → (pc ++ (codes " registered " ++ image)) ++ (codes " at " ++ stamp) ≡ pc ++ codes " " ++ (codes "registered " ++ (image ++ codes " at " ++ stamp) ++ [])
registered_said pc image stamp = simp (append_assoc, append-nil)

-- what the lines of updates that were made say
pub registration_said : (image done : List ℕ) → (image ++ (codes " done " ++ done)) ++ [] ≡ image ++ codes " " ++ (codes "done " ++ done)
registration_said image done = append-nil _ ∙ sym (append_assoc image (codes " ") (codes "done " ++ done))

pub removal_said : (base done image : List ℕ) → (base ++ (codes " done " ++ done)) ++ (codes " image " ++ image) ≡ base ++ codes " " ++ (codes "done " ++ done ++ codes " image " ++ image)
removal_said base done image = simp (append_assoc)
