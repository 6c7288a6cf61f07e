use Rattle.std.proofs.Common.{◌≡◌, ℕ, List, subst, rules}
use Rattle.rz_events.specs.declared.events.Event.TheVariants as e
use Rattle.rz_chronicle.specs.Holds.{Commits}
use Rattle.rz_shared_locked.proofs.Logs.{commits-after}
use Rattle.rz_shared_locked.proofs.locked_node.LockedNode.arm.Goals as goal

pub returns-clause-commits : goal.returns-clause-commits
returns-clause-commits g c =
    let old = c.args.pass.now in
    let mid = c.enter.new.pass in
    let new = c.armed.new.pass.log in
    let node : c.enter.new.self.node ≡ c.args.node = search rules in
    let it : Commits old.keys mid.log (e.Armed c.enter.new.self.node c.args.passes c.args.pick) new =
    subst (λ (ks : List ℕ). Commits ks mid.log (e.Armed c.enter.new.self.node c.args.passes c.args.pick) new) c.enter.ensures.same.1 c.armed.ensures.commits in
    commits-after old.keys old.log mid.log new (e.Armed c.args.node c.args.passes c.args.pick) c.enter.ensures.later c.enter.ensures.stays
    (subst (λ (m : ℕ). Commits old.keys mid.log (e.Armed m c.args.passes c.args.pick) new) node it)
