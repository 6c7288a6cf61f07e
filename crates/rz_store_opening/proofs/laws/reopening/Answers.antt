use Rattle.rz_store_opening.proofs.OpenedStores as laws
use Rattle.rz_store_opening.proofs.laws.reopening.Goals as goal

pub returns : goal.returns
returns g c =
    laws.reopens g.D.Disk.tells g.D.Disk.meter g.D.Disk.text g.D.Disk.image g.met.D.Disk.text_is_image
    c.replacing.ensures c.returning.ensures c.goes_on_without.ensures c.fences_given.ensures c.fences_known.ensures c.stale_told.ensures c.exported.ensures c.losses_enrolled.ensures c.losses_known.ensures
