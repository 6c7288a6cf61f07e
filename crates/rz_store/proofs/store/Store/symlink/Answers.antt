use Rattle.std.proofs.Common.{ℕ, ◌≡◌, Option, subst}
use Rattle.rz_events.specs.declared.tree.TreeCall.TheVariants as call
use Rattle.rz_store.specs.Names.{HasChanged}
use Rattle.rz_store.proofs.Replies.{always-linked}
use Rattle.rz_store.proofs.store.Store.symlink.Goals as goal

pub returns-in-None-clause-kept : goal.returns-in-None-clause-kept
returns-in-None-clause-kept g c = λ keeps.
    absurd
    (always-linked c.args.self.now c.change.new.self c.in_ok-target.target c.in_ok-path.path
    (subst (λ (o : Option ℕ). HasChanged c.args.self.now (call.Symlink c.in_ok-target.target c.in_ok-path.path) o c.change.new.self) c.in-None.is (c.in_ok-fid.ensures.done keeps)))

pub returns-in-None-clause-cause : goal.returns-in-None-clause-cause
returns-in-None-clause-cause g c = λ keeps.
    always-linked c.args.self.now c.change.new.self c.in_ok-target.target c.in_ok-path.path
    (subst (λ (o : Option ℕ). HasChanged c.args.self.now (call.Symlink c.in_ok-target.target c.in_ok-path.path) o c.change.new.self) c.in-None.is (c.in_ok-fid.ensures.done keeps))
