use Rattle.std.proofs.Common.{◌≡◌, ◌++◌, List, subst}
use Rattle.std.specs.Prelude.{IfSome}
use Rattle.rz_restart_laws.specs.Calls.{changing_calls}
use Rattle.rz_restart_laws.specs.Returns.{NewDisk}
use Rattle.rz_chronicle.specs.Kinds.{volume_in}
use Rattle.rz_store_opening.specs.Opening.{AreLeft}
use Rattle.rz_store_turns.specs.Closed.{IsJournalLeft}
use Rattle.rz_store.specs.Opened.{MayOpenAgain}
use Rattle.rz_store.specs.Store.{StoreView}
use Rattle.rz_store.proofs.LeftDisks.{journal-left}
use Rattle.rz_store.proofs.store.Store.close.Goals as goal

pub returns-clause-journal : goal.returns-clause-journal
returns-clause-journal g c = λ legal told.
    subst (λ (s : StoreView). IfSome c.close.result.journal (IsJournalLeft g.D.Disk.image s.volume c.close.result.refusal (changing_calls s.log))) c.self.view_is (c.close.ensures.journal legal told)

pub returns-clause-left : goal.returns-clause-left
returns-clause-left g c = λ legal told none may new.
    let there = c.close.result in
    subst (λ (s : StoreView). MayOpenAgain s.volume s.log → IfSome there.journal (AreLeft g.D.Disk.image s.volume s.log new there.disks.items)) c.self.view_is
    (λ again. journal-left g.D.Disk.image (volume_in g.J.Naming.kind) (c.self.inside.sole.pass.log ++ g.J.Naming.earlier) new there.disks.items there.journal there.refusal none (c.stands.ensures.legal legal) (c.close.ensures.texts legal) again
    (c.close.ensures.disks legal) (c.close.ensures.journal legal told))
    may
