-- How the calls of a writer end, from what was made of its caller and of its book.
use Rattle.std.proofs.Common.{◌≡◌, ℕ, ◌+◌, ◌*◌, List, [], ◌∷◌, ◌++◌, false, refl, sym, ap, ◌∙◌, subst, arith, inr, length, map}
use Rattle.std.proofs.lemmas.List.{map_push}
use Rattle.frame_parse.specs.Sections.{SectionData}
use Rattle.fde_members.specs.Members.{section_members}
use Rattle.reg_model.specs.declared.span.Member.{Member}
use Rattle.sole_writer.specs.Writers.{WriterData}
use Rattle.fde_writer.specs.Outcomes.{BeginsSection, IsDeregistration, IsRegistration, LeavesSections, TakesSectionBack, member_count, not_put}
use Rattle.fde_writer.specs.Places.{placed_members}
use Rattle.fde_writer.specs.Puttings.{Enters, IsPutFault, PutsNone, StopsTaking, TakesAway}
use Rattle.fde_writer.specs.Runs.{FoundFull, FoundOverlap, FoundTaken, Runs}
use Rattle.fde_writer.specs.Sections.{FdeWriterData}
use Rattle.fde_writer.specs.Standing.{LeavesStanding, Rewrites, StandingData, Standings}
use Rattle.fde_writer.specs.declared.outcome.Deregistration.TheVariants as deregistration
use Rattle.fde_writer.specs.declared.outcome.Numbers.{Numbers}
use Rattle.fde_writer.specs.declared.outcome.Registration.TheVariants as registration
use Rattle.fde_writer.specs.declared.putting.PutFault.{PutFault}
use Rattle.fde_writer.specs.declared.putting.PutFault.TheVariants as fault
use Rattle.fde_writer.proofs.Keeping.{MayStand, members_long}

-- the sections that were given, and one more
pub given_more : {S : Type 0} (f : S → SectionData) (items old new : List S) (seen : S) (s : SectionData) → new ≡ old ++ seen ∷ [] → old ≡ items → f seen ≡ s → map f new ≡ map f items ++ s ∷ []
given_more {S} f items old new seen s pushed kept is =
    ap (map f) pushed ∙ ap (λ (xs : List S). map f (xs ++ seen ∷ [])) kept ∙ map_push f items seen ∙ ap (λ (y : SectionData). map f items ++ y ∷ []) is

module _ (u : FdeWriterData) (x : StandingData) (may : MayStand u x) (w' : WriterData) (stands' : Standings) where
  abbrev next : FdeWriterData
  next = record { client = w'; low = u.low; stands = stands'; ever = u.ever ++ x.section ∷ [] }

  many : length x.places ≡ member_count u x.section
  many = sym (members_long x.places) ∙ ap length may.whole

  begun : BeginsSection x.section u
  begun = record { free = may.free; near = may.near; enough = (let m = many in let e = may.enough in omega (arith, m, e)) }

  pub registered : (key : ℕ) (numbers : Numbers) → Enters key x numbers u.client w' u.stands stands' → w'.stuck ≡ false → IsRegistration key x.note x.section u next (registration.Done numbers)
  registered key numbers e ends = record {
    begins = begun;
    places = e.places;
    whole = e.puts.whole ∙ may.whole;
    stands = record { here = e.here; others = e.others };
    gains = e.puts.gains;
    runs = subst (λ (n : ℕ). Runs (section_members u.low x.section) (2 * n) u.client w') many (subst (λ (ms : List Member). Runs ms (2 * length x.places) u.client w') may.whole e.puts.runs);
    count = (let c = e.puts.count in let a = members_long e.places in let b : length (placed_members e.places) ≡ member_count u x.section = ap length (e.puts.whole ∙ may.whole) in omega (arith, a, b, c));
    told = e.puts.told;
    ever = refl;
    low = refl;
    free = ends;
  }

  left : LeavesStanding x u.stands stands' → LeavesSections x.section u next
  left leaves = record { begins = begun; stands = leaves.same; ever = refl; low = refl }

  back : PutsNone (placed_members x.places) (3 * length x.places) u.client w' → LeavesStanding x u.stands stands' → TakesSectionBack x.section u next
  back none leaves = record {
    leaves = left leaves;
    same = none.same;
    runs = subst (λ (n : ℕ). Runs (section_members u.low x.section) (3 * n) u.client w') many (subst (λ (ms : List Member). Runs ms (3 * length x.places) u.client w') may.whole none.runs);
    free = none.free;
  }

  pub not_registered : (key : ℕ) (f : PutFault) → IsPutFault (placed_members x.places) (3 * length x.places) u.client w' f → LeavesStanding x u.stands stands' → IsRegistration key x.note x.section u next (not_put f)
  not_registered key fault.Overlap is leaves = (back is.0 leaves, subst (λ (ms : List Member). FoundOverlap ms u.client w') may.whole is.1)
  not_registered key fault.Full is leaves = (back is.0 leaves, subst (λ (ms : List Member). FoundFull ms u.client w') may.whole is.1)
  not_registered key fault.Stuck is leaves = inr (record {
    leaves = left leaves;
    keeps = is.keeps;
    cause = subst (λ (n : ℕ). FoundTaken (section_members u.low x.section) (3 * n) u.client w') many (subst (λ (ms : List Member). FoundTaken ms (3 * length x.places) u.client w') may.whole is.cause);
    stopped = is.stopped;
  })

module _ (u : FdeWriterData) (key : ℕ) (x : StandingData) (rest : List StandingData) (w' : WriterData) (stands' : Standings) (free : u.client.stuck ≡ false) (pops : Rewrites key (rest ++ x ∷ []) rest u.stands stands') where
  abbrev gone : FdeWriterData
  gone = record { client = w'; low = u.low; stands = stands'; ever = u.ever }

  pub deregistered : (numbers : Numbers) → TakesAway x.places numbers u.client w' → IsDeregistration key u gone (deregistration.Done x.note numbers)
  deregistered numbers takes = record {
    free_before = free;
    rest = rest;
    latest = x;
    stood = pops.before;
    note_is = refl;
    stands = record { here = pops.after; others = pops.others };
    loses = takes.loses;
    runs = takes.runs;
    count = takes.count;
    told = takes.told;
    ever = refl;
    low = refl;
    free = takes.free;
  }

  pub half_deregistered : StopsTaking x.places u.client w' → IsDeregistration key u gone deregistration.Stuck
  half_deregistered stops = inr (record {
    free_before = free;
    rest = rest;
    latest = x;
    stood = pops.before;
    stands = record { here = pops.after; others = pops.others };
    keeps = stops.keeps;
    cause = stops.cause;
    ever = refl;
    low = refl;
    stopped = stops.stopped;
  })
