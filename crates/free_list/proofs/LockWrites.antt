-- What stores and other changes of locks leave of one of them.
use Rattle.std.proofs.Common.{◌≡◌, ℕ, Bool, true, false, cond, ◌==◌, List, [], ◌∷◌, map, Option, Some, None, option_map, nat_eq, if◌then◌else◌, refl, ap, sym, ◌∙◌}
use Rattle.word_rule.specs.declared.log.Log.{Log}
use Rattle.word_rule.specs.declared.log.Holding.{Holding}
use Rattle.word_rule.specs.Exchange.{settle}
use Rattle.word_rule.specs.Held.{edited, held_of}
use Rattle.word_rule.specs.Steps.{after_node_store, frees, stored_log}

-- the lock of a node, where each lock was changed and kept its node
pub held_changed : (n : ℕ) (f : Holding → Holding) → ((h : Holding) → (f h).node ≡ h.node) → (held : List Holding) → held_of n (map f held) ≡ option_map f (held_of n held)
held_changed n f keeps [] = refl
held_changed n f keeps (h ∷ held) = ap (λ m. cond (m == n) (Some (f h)) (held_of n (map f held))) (keeps h) ∙ go (nat_eq h.node n) (held_changed n f keeps held)
  where
    go : (b : Bool) → held_of n (map f held) ≡ option_map f (held_of n held) → cond b (Some (f h)) (held_of n (map f held)) ≡ option_map f (cond b (Some h) (held_of n held))
    go true later = refl
    go false later = later

-- a store changes the lock of its node
pub held_edited : (n : ℕ) (f : Holding → Holding) → ((h : Holding) → (f h).node ≡ h.node) → (held : List Holding) → held_of n (edited n f held) ≡ option_map f (held_of n held)
held_edited n f keeps [] = refl
held_edited n f keeps (h ∷ held) = go (nat_eq h.node n) refl (held_edited n f keeps held)
  where
    go : (b : Bool) → nat_eq h.node n ≡ b → held_of n (edited n f held) ≡ option_map f (held_of n held)
        → cond ((if b then f h else h).node == n) (Some (if b then f h else h)) (held_of n (edited n f held)) ≡ option_map f (cond (h.node == n) (Some h) (held_of n held))
    go true e later =
        ap (λ c. cond c (Some (f h)) (held_of n (edited n f held))) (ap (λ m. m == n) (keeps h) ∙ e)
        ∙ sym (ap (λ c. option_map f (cond c (Some h) (held_of n held))) e)
    go false e later =
        ap (λ c. cond c (Some h) (held_of n (edited n f held))) e
        ∙ (later ∙ sym (ap (λ c. option_map f (cond c (Some h) (held_of n held))) e))

-- a store that makes no live node free
pub plain_store : (n at value : ℕ) (v : Log) → frees n at value v ≡ false → after_node_store n at value v ≡ stored_log n at value v
plain_store n at value v e = ap (λ b. if b then settle None (stored_log n at value v) else stored_log n at value v) e
