use Rattle.std.proofs.Common.{◌≡◌, ◌∷◌, ◌++◌, [], ◌+◌, ◌*◌, ◌<◌, arith, ap, refl, subst, sym, ◌∙◌, take, set, List, length, ℕ}
use Rattle.std.specs.List.{All, Contains}
use Rattle.std.proofs.lemmas.List.{length-take-le, take_more_set}
use Rattle.reg_model.specs.declared.span.Member.{Member}
use Rattle.fde_writer.specs.Places.{PlaceData, placed_members}
use Rattle.fde_writer.specs.Puttings.{Puts}
use Rattle.fde_writer.proofs.ManyMembers.{among_one, first_among, member_among, member_has, puts_none, puts_then, same_member, undone_fault}
use Rattle.fde_writer.proofs.putting.put_all.Goals as goal

pub loop-index-init : goal.loop-index-init
loop-index-init c = record { whole = refl; puts = puts_none c.args.writer.now c.none-numbers.result c.requires.free c.none-numbers.ensures }

pub put-requires-clause-payload : goal.put-requires-clause-payload
put-requires-clause-payload c =
    let k = c.args.writer.now.words.terms.payloads in
    let ps = c.loop-index.places in
    let x = c.index-places-index.result in
    let near = subst (λ (ms : List Member). All (λ m. m.payload < k) ms) (sym c.loop-index.invariant.whole) c.requires.payloads in
    let within = subst (λ (n : ℕ). c.loop-index.index < n) (sym c.loop-index.auto.places) c.loop-index-test.true in
    let has : x.member.payload < k = member_has (λ m. m.payload < k) ps c.loop-index.index x near within c.index-places-index.is in
    let told : c.member-member.result ≡ x.member = c.member-member.ensures ∙ sym (ap (λ (p : PlaceData). p.member) c.index-places-index.is) in
    subst (λ (m : Member). m.payload < c.loop-index.writer.words.terms.payloads) (sym told)
    (subst (λ (t : ℕ). x.member.payload < t) (sym (ap (λ w. w.terms.payloads) c.loop-index.invariant.puts.runs.words)) has)

pub returns-in-Err-clause-fault : goal.returns-in-Err-clause-fault
returns-in-Err-clause-fault c =
    let old = placed_members c.args.places.now in
    let ps = c.loop-index.places in
    let i = c.loop-index.index in
    let x = c.index-places-index.result in
    let m = c.member-member.result in
    let is = c.loop-index.invariant in
    let within = subst (λ (n : ℕ). i < n) (sym c.loop-index.auto.places) c.loop-index-test.true in
    let told : m ≡ x.member = c.member-member.ensures ∙ sym (ap (λ (p : PlaceData). p.member) c.index-places-index.is) in
    let long = length-take-le i ps (omega (arith, within)) in
    undone_fault old (3 * length c.args.places.now) (2 * i) (take i ps) m c.loop-index.numbers c.args.writer.now c.loop-index.writer c.put.new.writer c.undo.new.writer is.puts
    (λ y there. subst (λ (ms : List Member). Contains ms y) is.whole (first_among ps i y there))
    (λ y there. among_one m y old (subst (λ (z : Member). Contains old z) (sym told) (subst (λ (ms : List Member). Contains ms x.member) is.whole (member_among ps i x within c.index-places-index.is))) there)
    (let test = c.loop-index-test.true in omega (arith, long, test)) c.in-Err.fault c.undo.result c.in-Err.ensures.fault c.undo.ensures

pub loop-index-preserved : goal.loop-index-preserved
loop-index-preserved c =
    let ps = c.loop-index.places in
    let i = c.loop-index.index in
    let x = c.index-places-index.result in
    let p = c.new.result in
    let is = c.loop-index.invariant in
    let w = c.args.writer.now in
    let u = c.put.new.writer in
    let n = c.and-numbers.result in
    let same : p.member ≡ x.member = ap (λ (q : PlaceData). q.member) c.new.ensures ∙ c.member-member.ensures ∙ sym (ap (λ (q : PlaceData). q.member) c.index-places-index.is) in
    let within = subst (λ (n : ℕ). i < n) (sym c.loop-index.auto.places) c.loop-index-test.true in
    let next : take (i + 1) (set ps i p) ≡ take i ps ++ p ∷ [] = take_more_set ps i p within in
    let put = subst (λ (q : PlaceData). Puts (q.member ∷ []) 2 (q ∷ []) (record { first = c.in-Ok.put.number; last = c.in-Ok.put.number }) c.loop-index.writer u) (sym c.new.ensures) c.in-Ok.ensures.put in
    let both = puts_then (take i ps) p (2 * i) c.loop-index.numbers n c.in-Ok.put.number w c.loop-index.writer u is.puts put c.and-numbers.ensures in
    let calls : 2 * i + 2 ≡ 2 * (i + 1) = omega arith in
    record {
      whole = same_member ps i p x c.index-places-index.is same ∙ is.whole;
      puts = subst (λ (qs : List PlaceData). Puts (placed_members qs) (2 * (i + 1)) qs n w u) (sym next) (subst (λ (k : ℕ). Puts (placed_members (take i ps ++ p ∷ [])) k (take i ps ++ p ∷ []) n w u) calls both);
    }
