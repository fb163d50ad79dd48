-- A grammar of parts, over any fault F. A part is given by the texts that spell it and by the bytes
-- that are refused in its place. Both are relations on whole lists of bytes: `Spells p text x` says
-- that the bytes of the text, the first of them at place p, spell x, and `Refuses p bytes f` that
-- what stands from place p to the end of the data around it is refused with f. Beside them stands
-- how a part is read from the left. That reading and both relations agree is proved once for each
-- way to make parts (`IsExact` in proofs/Exact, `IsWhole` in proofs/Wholes).
use Rattle.std.specs.Prelude.{◌≡◌, ℕ, ◌+◌, ◌<◌, ◌⊎◌, List, [], ◌++◌, length, Bool, true, false}
use Rattle.std.specs.Prelude.{Option, Some, None, Result, Ok, Err, if◌then◌else◌}
use Rattle.eh_bytes.specs.CursorData.{CursorData, data_at}
use Rattle.eh_bytes.specs.Results.{◌and_then◌, with_fault}

pub record Part (F A : Type 0) : Type 1 where
  pub Spells : ℕ → List ℕ → A → Type 0
  pub Refuses : ℕ → List ℕ → F → Type 0
  pub read : CursorData → Result (A × CursorData) F

-- One part and then another, which may depend on what the first one spells. Their texts stand one
-- after the other; what is refused is refused by the first part, or by the second after a whole
-- first one.
infixl 10 ◌>>=◌
abbrev pub ◌>>=◌ : {F A B : Type 0} → Part F A → (A → Part F B) → Part F B
◌>>=◌ {F} {A} {B} g h = record {
  Spells = λ p text y.
      (x : A) × (front : List ℕ) × (back : List ℕ) × (text ≡ front ++ back)
      × g.Spells p front x × (h x).Spells (p + length front) back y;
  Refuses = λ p bytes f.
      g.Refuses p bytes f
      ⊎ ((x : A) × (front : List ℕ) × (back : List ℕ) × (bytes ≡ front ++ back)
      × g.Spells p front x × (h x).Refuses (p + length front) back f);
  read = λ r. g.read r and_then λ y. (h y.0).read y.1;
}

-- no bytes, which stand for x
abbrev pub give : {F A : Type 0} → A → Part F A
give x = record {
  Spells = λ p text y. (text ≡ []) × (x ≡ y);
  Refuses = λ p bytes f. ⊥;
  read = λ r. Ok (x, r);
}

-- no bytes, which stand for their place
abbrev pub here : {F : Type 0} → Part F ℕ
here = record {
  Spells = λ p text y. (text ≡ []) × (p ≡ y);
  Refuses = λ p bytes f. ⊥;
  read = λ r. Ok (r.at, r);
}

-- whatever stands here is refused
abbrev pub refuse : {F A : Type 0} → F → Part F A
refuse f = record {
  Spells = λ p text y. ⊥;
  Refuses = λ p bytes e. e ≡ f;
  read = λ r. Err f;
}

-- one part or another
abbrev pub when : {F A : Type 0} → Bool → Part F A → Part F A → Part F A
when b g h = record {
  Spells = λ p text y. ((b ≡ true) × g.Spells p text y) ⊎ ((b ≡ false) × h.Spells p text y);
  Refuses = λ p bytes f. ((b ≡ true) × g.Refuses p bytes f) ⊎ ((b ≡ false) × h.Refuses p bytes f);
  read = λ r. if b then g.read r else h.read r;
}

-- no bytes, where a test holds
abbrev pub check : {F : Type 0} → Bool → F → Part F (Unit {0})
check b f = when b (give tt) (refuse f)

-- no bytes, where there is a value
abbrev pub found : {F A : Type 0} → Option A → F → Part F A
found None f = refuse f
found (Some x) f = give x

-- no bytes, where a test of what was read gives a value and not a refusal
abbrev pub given : {F A : Type 0} → Result A F → Part F A
given (Ok x) = give x
given (Err f) = refuse f

-- the same part, whose faults are seen in another way
abbrev pub lift : {F G A : Type 0} → (F → G) → Part F A → Part G A
lift {F} place g = record {
  Spells = g.Spells;
  Refuses = λ p bytes f. (e : F) × g.Refuses p bytes e × (f ≡ place e);
  read = λ r. with_fault place (g.read r);
}

-- data of n bytes, which begins with a part; what stands after that is skipped
abbrev pub block : {F A : Type 0} → F → ℕ → Part F A → Part F A
block short n g = record {
  Spells = λ p text y.
      (length text ≡ n)
      × ((front : List ℕ) × (back : List ℕ) × (text ≡ front ++ back) × g.Spells p front y);
  Refuses = λ p bytes f.
      ((length bytes < n) × (f ≡ short))
      ⊎ ((text : List ℕ) × (back : List ℕ) × (bytes ≡ text ++ back) × (length text ≡ n)
      × g.Refuses p text f);
  read = λ r. data_at short n r and_then λ d. (g.read d.0 and_then λ y. Ok (y.0, d.1));
}

-- data of n bytes, which are wholly a part
abbrev pub filled : {F A : Type 0} → F → ℕ → Part F A → Part F A
filled short n g = record {
  Spells = λ p text y. (length text ≡ n) × g.Spells p text y;
  Refuses = λ p bytes f.
      ((length bytes < n) × (f ≡ short))
      ⊎ ((text : List ℕ) × (back : List ℕ) × (bytes ≡ text ++ back) × (length text ≡ n)
      × g.Refuses p text f);
  read = λ r. data_at short n r and_then λ d. (g.read d.0 and_then λ y. Ok (y.0, d.1));
}

-- the answer of a test, with what is left
abbrev pub with_rest : {F A : Type 0} → Result A F → CursorData → Result (A × CursorData) F
with_rest m r = m and_then λ x. Ok (x, r)

-- a part that takes all bytes, and at their end a test of its value
abbrev pub ended : {F A B : Type 0} → Part F A → (ℕ → A → Result B F) → Part F B
ended {F} {A} g test = record {
  Spells = λ p text y. (x : A) × g.Spells p text x × (test (p + length text) x ≡ Ok y);
  Refuses = λ p bytes f.
      g.Refuses p bytes f
      ⊎ ((x : A) × g.Spells p bytes x × (test (p + length bytes) x ≡ Err f));
  read = λ r. g.read r and_then λ x. with_rest (test x.1.at x.0) x.1;
}

-- a part that takes all bytes, which stands for these bytes
abbrev pub bytes_of : {F A : Type 0} → Part F A → Part F (List ℕ)
bytes_of {F} {A} g = record {
  Spells = λ p text y. ((x : A) × g.Spells p text x) × (text ≡ y);
  Refuses = g.Refuses;
  read = λ r. g.read r and_then λ x. Ok (r.bytes, x.1);
}
