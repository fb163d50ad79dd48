-- One that alone updates has seen all that there was before its update.
use Rattle.std.proofs.Common.{◌≡◌, ◌+◌, ◌<◌, ◌≤◌, List, [], ◌∷◌, ◌++◌, length, length-append, append-nil, refl, sym, ap, subst, ◌∙◌, arith, Option, Some, None, MatchOption, Bool, false, not, eqb}
use Rattle.std.specs.List.{All}
use Rattle.std.specs.Option.{option_to_list}
use Rattle.std.proofs.lemmas.List.Elements.{All-append, All-filter, All-push, All-head, All-tail, All-nil}
use mathlib.Core.List.{IsPrefix}
use Rattle.tree_descent.specs.Updates.{AnswersUpdate}
use Rattle.reg_model.specs.History.{Fits, IsHistory, after, state_after}
use Rattle.reg_model.specs.PlainRegistryData.{Step}
use Rattle.reg_model.specs.Receipt.{IsRight, accepted, made, moment}
use Rattle.reg_model.specs.SpanData.{IsSpan}
use Rattle.reg_model.specs.State.{AreDisjoint, IsLawful, State}
use Rattle.reg_model.specs.declared.answer.Receipt.{Receipt}
use Rattle.reg_model.specs.declared.answer.Update.{Update}
use Rattle.reg_model.specs.declared.answer.Update.TheVariants.{Register, Deregister, Replace, Load, Unload}
use Rattle.reg_model.specs.declared.span.Member.{Member}
use Rattle.reg_model.proofs.Histories.{lawful_history, state_after-append}
use Rattle.reg_model.proofs.Replacing.{All-with_payload}
use Rattle.word_rule.specs.CallerData.{CallerData}
use Rattle.word_rule.specs.Callers.{IsAlone, IsIdle, IsWhole, start}
use Rattle.word_rule.specs.Places.{ALLOWANCE}
use Rattle.word_rule.specs.declared.log.Receipts.{Receipts}
use Rattle.word_rule.specs.declared.log.Terms.{Terms}
use Rattle.sole_writer.specs.Writers.{AddsSpan, WriterAnswers, IsWriter, WriterData, begun_call, plain_registry, plain_registry_after}

-- a list that begins another, and is no shorter
prefix_same : (a b : List Update) → IsPrefix a b → length b ≤ length a → b ≡ a
prefix_same a b p le = go p.0 p.1
  where
    go : (t : List Update) → a ++ t ≡ b → b ≡ a
    go [] e = sym e ∙ append-nil a
    go (u ∷ t) e = absurd (let n = length-append a (u ∷ t) in let m = ap length e in omega (arith, n, m, le))

-- a receipt accepts one update at most
made_few : (r : Receipt) → length (made r) ≤ 1
made_few r = elim (accepted r) as (λ o. length (option_to_list o) ≤ 1) [ None ↦ omega arith | Some u ↦ omega arith ]

fits_last : (s : State) (us : List Update) (u : Update) → IsHistory s (us ++ u ∷ []) → Fits u (state_after s us)
fits_last s [] u h = h.0
fits_last s (v ∷ us) u h = fits_last (after v s) us u h.1

-- What an update call that was answered tells of its caller: `b` once it was begun, `k` once it was answered.
pub record Told (r : Receipt) (t : Terms) (b k : CallerData) : Type 0 where
  pub call : AnswersUpdate r (length (made r)) b k
  pub before : List Update
  pub begins : IsPrefix b.log.past before
  pub past : k.log.past ≡ before ++ made r
  pub number_is : moment r ≡ length k.log.past
  pub right : IsRight (state_after (start t) before) r
  pub spans : All AddsSpan (made r)

module _ (w : WriterData) (is : IsWriter w) (idle : IsIdle w.me.log) (some : 0 < w.me.left) (r : Receipt) (k : CallerData) (t : Told r w.words.terms (begun_call w) k) (may : 0 < w.me.log.budget.allowance) (room : length k.log.past + k.log.budget.allowance ≤ ALLOWANCE) (whole : IsAlone k.log.lineage → IsWhole k.log) (stuck : Bool) where
  abbrev old : List Update
  old = w.me.log.past

  abbrev t0 : State
  t0 = start w.words.terms

  abbrev now : WriterData
  now = record { words = w.words; me = k; stuck = stuck }

  seen_before : t.before ≡ old
  seen_before =
      let few = made_few r in
      let n = length-append t.before (made r) in
      let m = ap length t.past in
      let sole = is.sole in
      let less = t.call.allowance in
      prefix_same old t.before t.begins (omega (arith, few, n, m, room, may, sole, less))

  grows : k.log.past ≡ old ++ made r
  grows = t.past ∙ ap (λ (past : List Update). past ++ made r) seen_before

  lawful : IsHistory t0 k.log.past
  lawful = subst (λ (x : Terms). IsHistory (start x) k.log.past) (t.call.caller.terms ∙ is.terms) (whole (subst IsAlone (sym t.call.caller.lineage) is.alone)).lawful

  changes : (o : Option Update) → k.log.past ≡ old ++ option_to_list o → MatchOption o ((moment r ≡ length old) × (plain_registry now ≡ plain_registry w)) (λ u. Fits u (state_after t0 old) × (moment r ≡ length old + 1) × (plain_registry now ≡ record { state = after u (state_after t0 old); updates = length old + 1 }))
  changes None e = let same = e ∙ append-nil old in (t.number_is ∙ ap length same, ap (plain_registry_after w.words.terms) same)
  changes (Some u) e =
      let more : length (old ++ u ∷ []) ≡ length old + 1 = length-append old (u ∷ []) in
      (fits_last t0 old u (subst (IsHistory t0) e lawful), t.number_is ∙ ap length e ∙ more, ap (plain_registry_after w.words.terms) e ∙ (λ i. record { state = state_after-append t0 old (u ∷ []) i; updates = more i }))

  step : Step (plain_registry w) r (plain_registry now)
  step = record { right = subst (λ (past : List Update). IsRight (state_after t0 past) r) seen_before t.right; changes = changes (accepted r) grows }

  pub answered : stuck ≡ false → WriterAnswers r w now
  answered free = record { step = step; past = grows; own = ap (λ (x : Receipts). x.own) t.call.receipts; left = (let l = t.call.caller.left in omega (arith, l, some)); words = refl; free = free }

  pub still_writer : IsWriter now
  still_writer = record {
    home = t.call.caller.table ∙ is.home;
    terms = t.call.caller.terms ∙ is.terms;
    empty = is.empty;
    alone = subst IsAlone (sym t.call.caller.lineage) is.alone;
    sole = (let few = made_few r in let n = length-append old (made r) in let m = ap length grows in let sole = is.sole in let less = t.call.allowance in omega (arith, few, n, m, may, sole, less));
    lawful = lawful;
    spans = subst (All AddsSpan) (sym grows) (All-append AddsSpan old (made r) is.spans t.spans);
    idle = λ _. record { held = t.call.nothing.0; out = t.call.nothing.1; loader = t.call.caller.loader ∙ idle.loader };
  }

-- ---- what holds of its state

abbrev HasSpan : Member → Type 0
HasSpan m = IsSpan m.span

spans_of : (s : State) (us : List Update) → All HasSpan s.registered → All HasSpan s.loaded → All AddsSpan us → All HasSpan (state_after s us).registered × All HasSpan (state_after s us).loaded
spans_of s [] reg load adds = (reg, load)
spans_of s (Register m ∷ us) reg load adds = spans_of (after (Register m) s) us (All-push HasSpan s.registered m reg (All-head AddsSpan (Register m) us adds)) load (All-tail AddsSpan (Register m) us adds)
spans_of s (Deregister base ∷ us) reg load adds = spans_of (after (Deregister base) s) us (All-filter (λ m. not (eqb m.span.first base)) HasSpan s.registered reg) load (All-tail AddsSpan (Deregister base) us adds)
spans_of s (Replace m ∷ us) reg load adds = spans_of (after (Replace m) s) us (All-with_payload HasSpan m s.registered (All-head AddsSpan (Replace m) us adds) reg) load (All-tail AddsSpan (Replace m) us adds)
spans_of s (Load m ∷ us) reg load adds = spans_of (after (Load m) s) us reg (All-push HasSpan s.loaded m load (All-head AddsSpan (Load m) us adds)) (All-tail AddsSpan (Load m) us adds)
spans_of s (Unload base ∷ us) reg load adds = spans_of (after (Unload base) s) us reg (All-filter (λ m. not (eqb m.span.first base)) HasSpan s.loaded load) (All-tail AddsSpan (Unload base) us adds)

pub spans_known : (w : WriterData) → IsWriter w → All HasSpan (plain_registry w).state.registered × All HasSpan (plain_registry w).state.loaded
spans_known w is = spans_of (start w.words.terms) w.me.log.past (All-nil HasSpan) (All-nil HasSpan) is.spans

lawful_start : (t : Terms) → t.fixed ≡ [] → IsLawful (start t)
lawful_start t none = record {
  registered = tt;
  objects = subst (λ (fixed : List Member). AreDisjoint (fixed ++ [])) (sym none) tt;
  room = omega arith;
}

pub lawful_known : (w : WriterData) → IsWriter w → IsLawful (plain_registry w).state
lawful_known w is = lawful_history (start w.words.terms) w.me.log.past (lawful_start w.words.terms is.empty) is.lawful
