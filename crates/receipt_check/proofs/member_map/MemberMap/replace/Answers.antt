use Rattle.std.proofs.Common.{◌≡◌, ◌≤◌, ◌++◌, List, length, take, drop, cond, sym, ◌∙◌, ap, arith}
use Rattle.std.proofs.lemmas.List.{map-append, length-map, take-append-le, take_all}
use Rattle.reg_model.specs.SpanData.{is_same_span}
use Rattle.reg_model.specs.History.{with_payload}
use Rattle.reg_model.specs.declared.span.Member.{Member}
use Rattle.receipt_check.proofs.member_map.MemberMap.replace.Goals as goal

pub returns : goal.returns
returns c = λ list shown.
    let m = c.args.member.now in
    let f = λ (x : Member). cond (is_same_span x.span m.span) m x in
    let kept = c.in_ok-replace_apart.ensures in
    let rest = c.replace_apart.new.self.rest in
    let new = c.replace_in.new.members in
    let is : new ≡ with_payload m rest.items = c.replace_in.ensures ∙ ap (with_payload m) c.deref_mut.ensures.value in
    let long : length new ≡ length rest.items = ap length is ∙ length-map rest.items f in
    let within : rest.len ≤ length new = omega (arith, rest.ok.0) in
    let past : length new ≤ rest.len = omega (arith, rest.ok.0) in
    let here : take rest.len (new ++ drop (length new) rest.items) ≡ new = take-append-le rest.len new (drop (length new) rest.items) within ∙ take_all rest.len new past in
    record {
      kept = with_payload m shown.kept;
      is_kept = kept.apart shown.kept shown.is_kept;
      split = ap (with_payload m) shown.split ∙ map-append f shown.kept c.args.self.now.rest.items ∙ ap (λ (r : List Member). with_payload m shown.kept ++ r) (sym (here ∙ is ∙ ap (with_payload m) kept.rest));
    }
