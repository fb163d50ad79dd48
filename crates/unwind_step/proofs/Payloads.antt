-- Payloads below a bound stay below it along the updates of a registry over plain lists.
use Rattle.std.proofs.Common.{◌<◌, ℕ, sym, subst}
use Rattle.std.proofs.lemmas.List.Elements.{All-push, All-filter}
use Rattle.reg_model.proofs.Replacing.{All-with_payload}
use Rattle.reg_model.specs.declared.answer.Inserted.TheVariants as inserted
use Rattle.reg_model.specs.declared.answer.Loading.TheVariants as loading
use Rattle.reg_model.specs.declared.answer.Removed.TheVariants as removed
use Rattle.reg_model.specs.declared.answer.Replaced.TheVariants as replaced
use Rattle.reg_model.specs.declared.answer.Receipt.{Receipt}
use Rattle.reg_model.specs.declared.answer.Receipt.TheVariants.{Register, Deregister, Replace, Load, Unload}
use Rattle.reg_model.specs.declared.span.Member.{Member}
use Rattle.reg_model.specs.PlainRegistryData.{PlainRegistryData, Step}
use Rattle.unwind_step.specs.Finders.{HasPayloadsBelow, AddsBelow}

abbrev Below : ℕ → PlainRegistryData → Type 0
Below bound c = HasPayloadsBelow bound c.state

abbrev Low : ℕ → Member → Type 0
Low bound m = m.payload < bound

pub below_after : (bound : ℕ) (old new : PlainRegistryData) (r : Receipt) → AddsBelow bound r → Step old r new → HasPayloadsBelow bound old.state → HasPayloadsBelow bound new.state
below_after bound old new (Register m (inserted.Done n)) adds step below =
    subst (Below bound) (sym step.changes.2) (record { registered = All-push (Low bound) old.state.registered m below.registered adds; loaded = below.loaded; fixed = below.fixed })
below_after bound old new (Replace m (replaced.Done n payload)) adds step below =
    subst (Below bound) (sym step.changes.2) (record { registered = All-with_payload (Low bound) m old.state.registered adds below.registered; loaded = below.loaded; fixed = below.fixed })
below_after bound old new (Load m (loading.Done n)) adds step below =
    subst (Below bound) (sym step.changes.2) (record { registered = below.registered; loaded = All-push (Low bound) old.state.loaded m below.loaded adds; fixed = below.fixed })
below_after bound old new (Deregister base (removed.Done n m)) adds step below =
    subst (Below bound) (sym step.changes.2) (record { registered = All-filter _ (Low bound) old.state.registered below.registered; loaded = below.loaded; fixed = below.fixed })
below_after bound old new (Unload base (removed.Done n m)) adds step below =
    subst (Below bound) (sym step.changes.2) (record { registered = below.registered; loaded = All-filter _ (Low bound) old.state.loaded below.loaded; fixed = below.fixed })
below_after bound old new r adds step below = subst (Below bound) (sym step.changes.1) below
