use Rattle.std.proofs.Common.{rules, arith}
use Rattle.host_types.proofs.FreshSite.{fresh_is_site}
use Rattle.mem_site.proofs.mem_site.MemSite.new.Goals as goal

pub returns-clause-valid : goal.returns-clause-valid
returns-clause-valid c =
    fresh_is_site _ c.args.host c.args.port c.args.admin c.args.title c.args.stamp (search rules) c.as_bytes.ensures.length c.as_bytes.ensures.valid c.requires (omega (arith, c.ranges.port.fits))
    c.as_bytes-2.ensures.length c.as_bytes-2.ensures.valid c.as_bytes-3.ensures.length c.as_bytes-3.ensures.valid (omega (arith, c.seconds.ensures.value, c.seconds.ensures.range))
