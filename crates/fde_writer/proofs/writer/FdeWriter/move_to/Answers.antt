use Rattle.std.proofs.Common.{◌≡◌, ◌∙◌, [], ◌∷◌, ◌++◌, ap, sym, subst, List}
use Rattle.std.specs.List.{Contains}
use Rattle.std.proofs.lemmas.List.Elements.{All-contains, Contains-push}
use Rattle.fde_writer.specs.Sections.{IsStanding}
use Rattle.fde_writer.specs.Standing.{StandingData, all_standing, standing_under}
use Rattle.fde_writer.proofs.Books.{listed_under}
use Rattle.fde_writer.proofs.writer.FdeWriter.move_to.Goals as goal

pub take_in-told-requires : goal.take_in-told-requires
take_in-told-requires c =
    let i = c.self.inside in
    let x = c.deref.result.now in
    let some = c.in-Some.ensures.some in
    let stood : standing_under c.args.key i.book ≡ some.0 ++ x ∷ [] = some.1 ∙ ap (λ (y : StandingData). some.0 ++ y ∷ []) (sym c.deref.ensures) in
    let there = listed_under c.args.key i.book x (subst (λ (xs : List StandingData). Contains xs x) (sym stood) (Contains-push some.0 x)) in
    (All-contains (IsStanding i.low _) (all_standing i.book) x c.self.invariant.is.standing there).whole
