use Rattle.std.proofs.Common.{◌≡◌, length}
use Rattle.raise_phases.specs.CallSites.{covering_read}
use Rattle.raise_phases.proofs.call_sites.covering_site.Given as goal

abbrev pub invariant-loop-sites : goal.invariant-loop-sites
invariant-loop-sites l = covering_read l.encoding l.distance l.fn.sites ≡ covering_read l.encoding l.distance l.sites

abbrev pub decreases-loop-sites : goal.decreases-loop-sites
decreases-loop-sites l = length l.sites.bytes
