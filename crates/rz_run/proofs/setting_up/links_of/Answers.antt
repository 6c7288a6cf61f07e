use Rattle.rz_run.proofs.setting_up.links_of.Goals as goal

pub take_results-links-requires : goal.take_results-links-requires
take_results-links-requires g c = record { room = c.args.pool.fits }
