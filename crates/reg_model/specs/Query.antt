-- Queries: which member contains an address.
use Rattle.std.specs.Prelude.{ℕ, List, Option}
use Rattle.std.specs.List.{find}
use Rattle.reg_model.specs.SpanData.{contains}
use Rattle.reg_model.specs.State.{State, objects}
use Rattle.reg_model.specs.declared.span.Member.{Member}
use Rattle.reg_model.specs.declared.answer.Half.{Half}
use Rattle.reg_model.specs.declared.answer.Half.TheVariants.{Registered, Loaded}

-- the member that contains the address; of disjoint members there is one at most
abbrev pub member_at : ℕ → List Member → Option Member
member_at pc members = find (λ m. contains m.span pc) members

-- the answer of one half
abbrev pub query : Half → ℕ → State → Option Member
query Registered pc s = member_at pc s.registered
query Loaded pc s = member_at pc (objects s)
