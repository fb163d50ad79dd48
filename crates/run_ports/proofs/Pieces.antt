-- What is handed out and gained, one piece after another, and counts that rise.
use Rattle.std.proofs.Common.{◌≡◌, ℕ, ◌<◌, ◌≤◌, List, [], ◌++◌, Option, Some, None, IfSome, Result, Ok, Err, OnErr, length, take, drop, take-append-drop, take_all, length-append, subst, append_assoc, refl, sym, ◌∙◌, ap, inl, inr, arith}
use Rattle.std.proofs.lemmas.List.{append-nil, append_cancel_right}
use Rattle.run_ports.specs.Ports.{Rose, Hands, Gains, GainsPart, with_bytes}

pub Hands-none : (old : Option (List ℕ)) → Hands old old []
Hands-none None = tt
Hands-none (Some had) = refl

pub Hands-more : (a b c : Option (List ℕ)) (xs ys : List ℕ) → Hands a b xs → Hands b c ys → Hands a c (xs ++ ys)
Hands-more None b c xs ys first second = tt
Hands-more (Some had) None c xs ys first second = absurd first
Hands-more (Some had) (Some mid) None xs ys first second = absurd second
Hands-more (Some had) (Some mid) (Some left) xs ys first second = first ∙ ap (λ rest. xs ++ rest) second ∙ sym (append_assoc xs ys left)

pub Gains-none : (old : Option (List ℕ)) → Gains old old []
Gains-none None = refl
Gains-none (Some held) = ap Some (sym (append-nil held))

pub Gains-more : (a b c : Option (List ℕ)) (xs ys : List ℕ) → Gains a b xs → Gains b c ys → Gains a c (xs ++ ys)
Gains-more None b c xs ys first second = rw first at second
Gains-more (Some held) b c xs ys first second = (let second' = rw first at second in second' ∙ ap Some (append_assoc held xs ys))

-- a part of what comes next
pub GainsPart-more : (a b c : Option (List ℕ)) (xs ys : List ℕ) → Gains a b xs → GainsPart b c ys → GainsPart a c (xs ++ ys)
GainsPart-more a b c xs ys first (front, rest, is, second) =
    (xs ++ front, rest, ap (λ zs. xs ++ zs) is ∙ sym (append_assoc xs front rest), Gains-more a b c xs front first second)

-- a part of a front is a part of the whole
pub GainsPart-wider : (a b : Option (List ℕ)) (xs ys : List ℕ) → GainsPart a b xs → GainsPart a b (xs ++ ys)
GainsPart-wider a b xs ys (front, rest, is, gains) =
    (front, rest ++ ys, ap (λ zs. zs ++ ys) is ∙ append_assoc front rest ys, gains)

pub GainsPart-all : (a b : Option (List ℕ)) (xs : List ℕ) → Gains a b xs → GainsPart a b xs
GainsPart-all a b xs gains = (xs, [], sym (append-nil xs), gains)

pub GainsPart-same : (a b : Option (List ℕ)) (xs : List ℕ) → b ≡ a → GainsPart a b xs
GainsPart-same a b xs same = ([], xs, refl, rw same (Gains-none a))

pub Rose-later : (old mid new : ℕ) → old ≤ mid → Rose mid new → Rose old new
Rose-later old mid new before (inl above) = inl (omega arith)
Rose-later old mid new before (inr last) = inr last

-- where none are left, all were handed out
pub Hands-all : (old new : Option (List ℕ)) (xs : List ℕ) → Hands old new xs → IfSome new (λ left. left ≡ []) → IfSome old (λ had. had ≡ xs)
Hands-all None new xs hands none = tt
Hands-all (Some had) None xs hands none = absurd hands
Hands-all (Some had) (Some left) xs hands none = hands ∙ ap (λ rest. xs ++ rest) none ∙ append-nil xs

-- a source had at least what it handed out
pub Hands-longer : (n : ℕ) (old new : Option (List ℕ)) (xs : List ℕ) → Hands old new xs → n < length xs → IfSome old (λ had. n < length had)
Hands-longer n None new xs hands long = tt
Hands-longer n (Some had) None xs hands long = absurd hands
Hands-longer n (Some had) (Some left) xs hands long = rw (hands, length-append) (omega arith)

-- what holds of the bytes, where they are told
pub IfSome-same : (o : Option (List ℕ)) (xs : List ℕ) (P : List ℕ → Type 0) → IfSome o (λ had. had ≡ xs) → P xs → IfSome o P
IfSome-same None xs P same holds = tt
IfSome-same (Some had) xs P same holds = subst P (sym same) holds

-- a sink that gained the front has as much as before with the rest behind it
pub with_bytes-moved : (old new : Option (List ℕ)) (front rest : List ℕ) → Gains old new front → with_bytes new rest ≡ with_bytes old (front ++ rest)
with_bytes-moved None new front rest gains = rw gains refl
with_bytes-moved (Some held) new front rest gains = rw gains (ap Some (append_assoc held front rest))

-- and one that has as much gained the front
gains_front : (old new : Option (List ℕ)) (front rest : List ℕ) → with_bytes new rest ≡ with_bytes old (front ++ rest) → Gains old new front
gains_front None None front rest is = refl
gains_front None (Some got) front rest is = cc
gains_front (Some held) None front rest is = cc
gains_front (Some held) (Some got) front rest is =
    let same : got ++ rest ≡ held ++ (front ++ rest) = cc in
    ap Some (append_cancel_right got (held ++ front) rest (same ∙ sym (append_assoc held front rest)))

pub gains_up_to : (old new : Option (List ℕ)) (at : ℕ) (bytes : List ℕ) → with_bytes new (drop at bytes) ≡ with_bytes old bytes → Gains old new (take at bytes)
gains_up_to old new at bytes kept =
    gains_front old new (take at bytes) (drop at bytes) (kept ∙ ap (with_bytes old) (sym (take-append-drop at bytes)))

pub with_bytes-none : (held : Option (List ℕ)) → with_bytes held [] ≡ held
with_bytes-none None = refl
with_bytes-none (Some bytes) = ap Some (append-nil bytes)

-- more bytes behind it
pub with_bytes-gains : (held : Option (List ℕ)) (xs ys : List ℕ) → Gains (with_bytes held xs) (with_bytes held (xs ++ ys)) ys
with_bytes-gains None xs ys = refl
with_bytes-gains (Some bytes) xs ys = ap Some (sym (append_assoc bytes xs ys))

-- a piece more is held
pub held_gains : (old mid : Option (List ℕ)) (xs ys piece : List ℕ) → with_bytes mid xs ≡ old → ys ≡ xs ++ piece → Gains old (with_bytes mid ys) (take (length piece) piece)
held_gains old mid xs ys piece kept held =
    subst (λ (had : Option (List ℕ)). Gains had (with_bytes mid ys) (take (length piece) piece)) kept
    (rw (held, take_all (length piece) piece (omega arith)) (with_bytes-gains mid xs piece))

-- what holds anyway holds on an error
pub on_err_anyway : {X E P : Type 0} (r : Result X E) → P → OnErr r P
on_err_anyway (Ok x) holds = tt
on_err_anyway (Err e) holds = holds
