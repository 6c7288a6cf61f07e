use Rattle.std.proofs.Common.{sym, subst}
use Rattle.rz_disk.specs.Stored.{Stored, Picked, padded}
use Rattle.rz_disk.proofs.Patches.{picked_whole}
use Rattle.rz_disk.proofs.medium.Medium.crash.Goals as goal

pub returns-clause-left : goal.returns-clause-left
returns-clause-left c =
    let m = c.self.inside in
    let held = c.self.invariant.0 in
    let P : Stored → Type 0 = λ s. Picked c.args.pick s.synced s.marks s.text (padded m.size c.lose.new.text.items) in
    let left = subst P c.self.view_is (picked_whole c.args.pick m.size m.from m.text.items c.lose.new.text.items m.synced.items m.marks.items held.text_fits held.one_length held.range_fits c.lose.ensures.size c.lose.ensures.marked c.lose.ensures.unmarked c.lose.ensures.below) in
    let Q : Stored → Type 0 = λ s. Picked c.args.pick c.args.self.now.synced c.args.self.now.marks c.args.self.now.text s.text in
    subst Q (sym c.sync.ensures) left
