use Rattle.std.proofs.Common.{◌≡◌, ℕ, get_or, true, inl, inr, sym, ap, ◌∙◌, arith}
use Rattle.std.proofs.lemmas.Bool.{cases_lt}
use Rattle.std.proofs.lemmas.List.{ext_get_or}
use Rattle.frame_rows.specs.declared.rule.RuleWith.TheVariants.{Unset}
use Rattle.row_table.proofs.same_rows.same_columns.Goals as goal

pub returns : goal.returns
returns c = record {
  same = λ last.
      let a = c.args.a.now in
      let b = c.args.b.now in
      let at_last : get_or a 16 Unset ≡ get_or b 16 Unset = c.same_at.ensures.same last in
      let one : c.same_four.result ≡ true = cc in
      let two : c.same_four-2.result ≡ true = cc in
      let three : c.same_four-3.result ≡ true = cc in
      let four : c.same_four-4.result ≡ true = cc in
      ext_get_or Unset a b (c.told-a ∙ sym c.told-b) (λ k lt.
      elim (cases_lt k 4) [
        | inl below ↦ c.same_four.ensures.same one k (omega arith) below
        | inr ge_4 ↦
            elim (cases_lt k 8) [
              | inl below ↦ c.same_four-2.ensures.same two k ge_4 below
              | inr ge_8 ↦
                  elim (cases_lt k 12) [
                    | inl below ↦ c.same_four-3.ensures.same three k ge_8 below
                    | inr ge_12 ↦
                        elim (cases_lt k 16) [
                          | inl below ↦ c.same_four-4.ensures.same four k ge_12 below
                          | inr ge_16 ↦ let same : k ≡ 16 = omega (arith, c.told-a) in ap (λ (n : ℕ). get_or a n Unset) same ∙ at_last ∙ ap (λ (n : ℕ). get_or b n Unset) (sym same)
                        ]
                  ]
            ]
      ]);
  differ = c.same_at.ensures.differ;
}
