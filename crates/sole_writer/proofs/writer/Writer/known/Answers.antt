use Rattle.std.proofs.Common.{subst}
use Rattle.std.specs.List.{All}
use Rattle.reg_model.specs.SpanData.{IsSpan}
use Rattle.reg_model.specs.State.{IsLawful}
use Rattle.reg_model.specs.declared.span.Member.{Member}
use Rattle.sole_writer.specs.Writers.{WriterData, plain_registry}
use Rattle.sole_writer.proofs.Seeing.{lawful_known, spans_known}
use Rattle.sole_writer.proofs.writer.Writer.known.Goals as goal

pub returns-clause-lawful : goal.returns-clause-lawful
returns-clause-lawful c = subst (λ (w : WriterData). IsLawful (plain_registry w).state) c.self.view_is (lawful_known _ c.self.invariant)

pub returns-clause-registered : goal.returns-clause-registered
returns-clause-registered c = subst (λ (w : WriterData). All (λ (m : Member). IsSpan m.span) (plain_registry w).state.registered) c.self.view_is (spans_known _ c.self.invariant).0

pub returns-clause-loaded : goal.returns-clause-loaded
returns-clause-loaded c = subst (λ (w : WriterData). All (λ (m : Member). IsSpan m.span) (plain_registry w).state.loaded) c.self.view_is (spans_known _ c.self.invariant).1
