use Rattle.lot_table.proofs.Making.{last_fits, fresh_made}
use Rattle.lot_table.proofs.denied.fresh_bucket.Goals as goal

pub spaced-requires : goal.spaced-requires
spaced-requires g c =
    last_fits g.row.R.Denot c.args.size c.args.number c.args.keys c.saturating_sub.result c.div_ceil-count.result c.requires
    c.saturating_sub.ensures c.div_ceil-count.ensures
    18446744073709551616 c.ranges.number.fits c.ranges.keys.fits

pub returns-in-Ok : goal.returns-in-Ok
returns-in-Ok g c =
    fresh_made g.row.R.Denot c.args.size c.args.number c.args.keys c.saturating_sub.result c.div_ceil-count.result c.requires
    c.saturating_sub.ensures c.div_ceil-count.ensures
    c.args.threads c.in-Ok.bucket c.in-Ok.ensures
