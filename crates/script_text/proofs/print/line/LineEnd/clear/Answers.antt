use Rattle.std.proofs.Common.{◌≡◌, [], drop, sym, subst, arith}
use Rattle.std.specs.Str.{IsUtf8}
use Rattle.std.proofs.lemmas.List.{drop_all}
use Rattle.std.proofs.lemmas.Str.{IsUtf8-from_ascii}
use Rattle.script_text.proofs.print.line.LineEnd.clear.Goals as goal

pub invariant_of-self : goal.invariant_of-self
invariant_of-self c =
    let i = c.self.invariant in
    let none : drop 272 c.self.inside.room ≡ [] = drop_all 272 c.self.inside.room (omega (arith, i.0)) in
    (i.0, omega arith, subst IsUtf8 (sym none) (IsUtf8-from_ascii [] (λ k. omega arith)))

pub returns : goal.returns
returns c = drop_all 272 c.self.inside.room (omega (arith, c.self.invariant.0))
