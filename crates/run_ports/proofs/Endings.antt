-- How programs end, over what is due with a status.
use Rattle.std.proofs.Common.{◌≡◌, ℕ, List, sym, subst, inl, inr}
use Rattle.run_ports.specs.Endings.{Change, EndsWith, Concludes}
use Rattle.run_ports.specs.declared.status.Ending.{Ending}
use Rattle.run_ports.specs.declared.status.Ending.TheVariants.{Written, WriteFault, NoMemory}

module _ {S : Type 0} (says : S → Ending) (due : S → List ℕ → Type 0) (asked : Type 0) (change : Change) where
  -- what a status says of the devices is known
  pub ends_said : (end : S) (said : Ending) → says end ≡ said → EndsWith due asked change end said → EndsWith due asked change end (says end)
  ends_said end said is ends = (let P : Ending → Type 0 = EndsWith due asked change end in subst P (sym is) ends)

  -- the line that is due with a status was written, or a part of it
  pub ends_concluded : (line : List ℕ) (status end : S) → says status ≡ Written → due status line → Concludes says line status change end → EndsWith due asked change end (says end)
  ends_concluded line status end written is_due (inl (is, gains)) =
      let P : S → Type 0 = λ s. EndsWith due asked change s (says s) in
      subst P (sym is) (ends_said status Written written (line, is_due, gains))
  ends_concluded line status end written is_due (inr (inl (is, rose, part))) = ends_said end WriteFault is (rose, inr (status, line, is_due, part))
  ends_concluded line status end written is_due (inr (inr (is, part))) = ends_said end NoMemory is (inr (status, line, is_due, part))
