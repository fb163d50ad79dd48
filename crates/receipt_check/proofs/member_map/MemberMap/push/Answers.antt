use Rattle.std.proofs.Common.{◌≡◌, [], ◌∷◌, ◌++◌, List, append_assoc, sym, ◌∙◌, ap}
use Rattle.std.proofs.lemmas.List.{append-nil}
use Rattle.reg_model.specs.declared.span.Member.{Member}
use Rattle.receipt_check.proofs.KeptMembers.{kept_push}
use Rattle.receipt_check.proofs.member_map.MemberMap.push.Goals as goal

pub returns-then-may_keep : goal.returns-then-may_keep
returns-then-may_keep c = λ list shown.
    let m = c.args.member.now in
    let keeps = c.in_ok-keep.ensures in
    let free = c.may_keep.ensures shown.kept shown.is_kept c.if-may_keep.true in
    let none : c.keep.new.self.rest.items ≡ [] = keeps.rest ∙ free.0 in
    record {
      kept = shown.kept ++ m ∷ [];
      is_kept = kept_push c.args.self.now.apart shown.kept shown.is_kept c.keep.new.self.apart m keeps.span free.1 keeps.here keeps.others keeps.many;
      split = ap (λ (l : List Member). l ++ m ∷ []) (shown.split ∙ ap (λ (rest : List Member). shown.kept ++ rest) free.0 ∙ append-nil shown.kept) ∙ sym (ap (λ (rest : List Member). (shown.kept ++ m ∷ []) ++ rest) none ∙ append-nil (shown.kept ++ m ∷ []));
    }

pub returns : goal.returns
returns c = λ list shown.
    let m = c.args.member.now in
    record {
      kept = shown.kept;
      is_kept = shown.is_kept;
      split = ap (λ (l : List Member). l ++ m ∷ []) shown.split ∙ append_assoc shown.kept c.args.self.now.rest.items (m ∷ []) ∙ ap (λ (rest : List Member). shown.kept ++ rest) (sym c.in_ok-push.ensures.items);
    }
