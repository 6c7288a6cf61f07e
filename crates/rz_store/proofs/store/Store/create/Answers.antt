use Rattle.std.proofs.Common.{ℕ, List, ◌≡◌, Option, Some, subst}
use Rattle.rz_events.specs.declared.tree.TreeCall.TheVariants as call
use Rattle.rz_store.specs.Names.{HasChanged}
use Rattle.rz_store.proofs.Replies.{created, always-created}
use Rattle.rz_store.proofs.store.Store.create.Goals as goal

pub returns-in-Some-clause-done : goal.returns-in-Some-clause-done
returns-in-Some-clause-done g c = λ keeps.
    created c.args.self.now c.change.new.self c.args.path.now c.in-Some.fid
    (subst (λ (p : List ℕ). HasChanged c.args.self.now (call.Create p) (Some c.in-Some.fid) c.change.new.self) c.in_ok-path.ensures
    (subst (λ (o : Option ℕ). HasChanged c.args.self.now (call.Create c.in_ok-path.path) o c.change.new.self) c.in-Some.is (c.in_ok-fid.ensures.done keeps)))

pub returns-in-None-clause-kept : goal.returns-in-None-clause-kept
returns-in-None-clause-kept g c = λ keeps.
    absurd
    (always-created c.args.self.now c.change.new.self c.in_ok-path.path
    (subst (λ (o : Option ℕ). HasChanged c.args.self.now (call.Create c.in_ok-path.path) o c.change.new.self) c.in-None.is (c.in_ok-fid.ensures.done keeps)))

pub returns-in-None-clause-cause : goal.returns-in-None-clause-cause
returns-in-None-clause-cause g c = λ keeps.
    always-created c.args.self.now c.change.new.self c.in_ok-path.path
    (subst (λ (o : Option ℕ). HasChanged c.args.self.now (call.Create c.in_ok-path.path) o c.change.new.self) c.in-None.is (c.in_ok-fid.ensures.done keeps))
