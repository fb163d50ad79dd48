-- Calls of a caller that alone updates a registry, one after another.
use Rattle.std.proofs.Common.{ℕ, ◌+◌, ◌≤◌, List, [], ◌∷◌, ◌++◌, append_assoc, append-nil, refl, sym, ap, ◌∙◌, arith}
use Rattle.std.specs.List.{All, Contains}
use Rattle.std.proofs.lemmas.List.Elements.{All-append, All-nil, All-weaker, Contains-append_left, Contains-append_right}
use Rattle.reg_model.specs.Receipt.{made}
use Rattle.reg_model.specs.declared.answer.Receipt.{Receipt}
use Rattle.reg_model.specs.declared.answer.Update.{Update}
use Rattle.reg_model.specs.declared.answer.Update.TheVariants.{Register, Deregister, Replace, Load, Unload}
use Rattle.reg_model.specs.declared.span.Member.{Member}
use Rattle.sole_writer.specs.Writers.{WriterAnswers, WriterData}
use Rattle.fde_writer.specs.Runs.{AddsAmong, FoundFull, FoundOverlap, FoundTaken, Received, Runs}

-- more members may be added
among_more : (ms ns : List Member) → ((m : Member) → Contains ms m → Contains ns m) → (u : Update) → AddsAmong ms u → AddsAmong ns u
among_more ms ns more (Register m) adds = more m adds
among_more ms ns more (Replace m) adds = more m adds
among_more ms ns more (Load m) adds = more m adds
among_more ms ns more (Deregister base) adds = tt
among_more ms ns more (Unload base) adds = tt

pub runs_none : (ms : List Member) (w : WriterData) → Runs ms 0 w w
runs_none ms w = record {
  words = refl;
  left = omega arith;
  updates = [];
  past = sym (append-nil w.me.log.past);
  adds = All-nil (AddsAmong ms);
  receipts = [];
  own = sym (append-nil w.me.log.receipts.own);
}

pub runs_one : (ms : List Member) (r : Receipt) (w w' : WriterData) → WriterAnswers r w w' → All (AddsAmong ms) (made r) → Runs ms 1 w w'
runs_one ms r w w' a adds = record {
  words = a.words;
  left = (let e = a.left in omega (arith, e));
  updates = made r;
  past = a.past;
  adds = adds;
  receipts = r ∷ [];
  own = a.own;
}

pub runs_then : (ms : List Member) (a b : ℕ) (w v u : WriterData) → Runs ms a w v → Runs ms b v u → Runs ms (a + b) w u
runs_then ms a b w v u first then = record {
  words = then.words ∙ first.words;
  left = (let x = first.left in let y = then.left in omega (arith, x, y));
  updates = first.updates ++ then.updates;
  past = then.past ∙ ap (λ (us : List Update). us ++ then.updates) first.past ∙ append_assoc w.me.log.past first.updates then.updates;
  adds = All-append (AddsAmong ms) first.updates then.updates first.adds then.adds;
  receipts = first.receipts ++ then.receipts;
  own = then.own ∙ ap (λ (rs : List Receipt). rs ++ then.receipts) first.own ∙ append_assoc w.me.log.receipts.own first.receipts then.receipts;
}

-- more members, and more calls
pub runs_more : (ms ns : List Member) (a b : ℕ) (w v : WriterData) → ((m : Member) → Contains ms m → Contains ns m) → a ≤ b → Runs ms a w v → Runs ns b w v
runs_more ms ns a b w v more le runs = record {
  words = runs.words;
  left = (let x = runs.left in omega (arith, x, le));
  updates = runs.updates;
  past = runs.past;
  adds = All-weaker (AddsAmong ms) (AddsAmong ns) (among_more ms ns more) runs.updates runs.adds;
  receipts = runs.receipts;
  own = runs.own;
}

pub none_among : (ms : List Member) (m : Member) → Contains [] m → Contains ms m
none_among ms m there = absurd (let within = there.1 in omega (arith, within))

pub received : (r : Receipt) (w w' : WriterData) → WriterAnswers r w w' → Received r w w'
received r w w' a = (r ∷ [], a.own, (0, omega arith, refl))

pub received_later : (r : Receipt) (ms : List Member) (n : ℕ) (w v u : WriterData) → Runs ms n w v → Received r v u → Received r w u
received_later r ms n w v u runs got =
    (runs.receipts ++ got.0, got.1 ∙ ap (λ (rs : List Receipt). rs ++ got.0) runs.own ∙ append_assoc w.me.log.receipts.own runs.receipts got.0, Contains-append_right runs.receipts got.0 r got.2)

pub received_before : (r : Receipt) (ms : List Member) (n : ℕ) (w v u : WriterData) → Received r w v → Runs ms n v u → Received r w u
received_before r ms n w v u got runs =
    (got.0 ++ runs.receipts, runs.own ∙ ap (λ (rs : List Receipt). rs ++ runs.receipts) got.1 ∙ append_assoc w.me.log.receipts.own got.0 runs.receipts, Contains-append_left got.0 runs.receipts r got.2)

module _ (ms ns : List Member) (more : (m : Member) → Contains ms m → Contains ns m) where
  pub overlap_within : (a b : ℕ) (w v u t : WriterData) → Runs ns a w v → FoundOverlap ms v u → Runs ns b u t → FoundOverlap ns w t
  overlap_within a b w v u t before found after = record {
    member = found.member;
    among = more found.member found.among;
    other = found.other;
    stamp = found.stamp;
    registered = received_before _ ns b w u t (received_later _ ns a w v u before found.registered) after;
    answer = found.answer;
    no_room = found.no_room;
    loaded = received_before _ ns b w u t (received_later _ ns a w v u before found.loaded) after;
  }

  pub full_within : (a b : ℕ) (w v u t : WriterData) → Runs ns a w v → FoundFull ms v u → Runs ns b u t → FoundFull ns w t
  full_within a b w v u t before found after = record {
    member = found.member;
    among = more found.member found.among;
    stamp = found.stamp;
    registered = received_before _ ns b w u t (received_later _ ns a w v u before found.registered) after;
  }

  pub taken_within : (a b c : ℕ) (w v u : WriterData) → a + b ≤ c → Runs ns a w v → FoundTaken ms b v u → FoundTaken ns c w u
  taken_within a b c w v u le before found =
      (found.0, found.1, runs_more ns ns (a + b) c w found.0 (λ m there. there) le (runs_then ns a b w v found.0 before (runs_more ms ns b b v found.0 more (omega arith) found.2)), found.3)
