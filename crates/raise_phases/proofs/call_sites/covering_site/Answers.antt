use Rattle.std.proofs.Common.{◌<◌, ◌≤◌, length, sym, ◌∙◌, arith}
use Rattle.std.proofs.lemmas.Result.{err_from_is_err_and}
use Rattle.raise_phases.proofs.Sites.{site_passed, site_found, site_refused, no_site, site_shrinks}
use Rattle.raise_phases.proofs.call_sites.covering_site.Goals as goal

pub loop-sites-smaller : goal.loop-sites-smaller
loop-sites-smaller c = site_shrinks c.args.encoding c.loop-sites.sites c.in_ok-site.site c.call_site.new.cursor c.in_ok-site.ensures

pub loop-sites-preserved : goal.loop-sites-preserved
loop-sites-preserved c =
    let some : 0 < length c.loop-sites.sites.bytes = omega (arith, c.left.ensures, c.loop-sites-test.true) in
    c.loop-sites.invariant ∙ site_passed c.args.encoding c.args.distance c.loop-sites.sites c.in_ok-site.site c.call_site.new.cursor some c.in_ok-site.ensures (sym c.covers.ensures ∙ c.if-covers.false)

pub returns-in_err-site : goal.returns-in_err-site
returns-in_err-site c =
    let some : 0 < length c.loop-sites.sites.bytes = omega (arith, c.left.ensures, c.loop-sites-test.true) in
    let p = err_from_is_err_and c.from_residual.result c.from_residual.ensures.1 in
    rw (p.1, p.2) (sym (c.loop-sites.invariant ∙ site_refused c.args.encoding c.args.distance c.loop-sites.sites c.in_err-site.field-0.0 some c.in_err-site.ensures))

pub returns-then-covers : goal.returns-then-covers
returns-then-covers c =
    let some : 0 < length c.loop-sites.sites.bytes = omega (arith, c.left.ensures, c.loop-sites-test.true) in
    sym (c.loop-sites.invariant ∙ site_found c.args.encoding c.args.distance c.loop-sites.sites c.in_ok-site.site c.call_site.new.cursor some c.in_ok-site.ensures (sym c.covers.ensures ∙ c.if-covers.true))

pub returns : goal.returns
returns c =
    let none : length c.loop-sites.sites.bytes ≤ 0 = omega (arith, c.left.ensures, c.loop-sites-test.false) in
    sym (c.loop-sites.invariant ∙ no_site c.args.encoding c.args.distance c.loop-sites.sites none)
