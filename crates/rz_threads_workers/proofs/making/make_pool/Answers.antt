use Rattle.std.proofs.Common.{ℕ, length, sym, ap, ◌∙◌, subst}
use Rattle.std.specs.List.{AllByRecursion}
use Rattle.rz_threads_workers.specs.WorkerPool.{CanJoin, IsRowFor, IsMadeOf, IsNewPass, AreWorkerParts, IsPoolWorker}
use Rattle.rz_threads_workers.proofs.Pairs.{zip-length, zip-second, zip-through}
use Rattle.rz_threads_workers.proofs.Rolls.{all-new, eighty}
use Rattle.rz_threads_workers.proofs.MakingPools.{staffed}
use Rattle.rz_threads_workers.proofs.making.make_pool.Goals as goal

pub prepare-requires-clause-new : goal.prepare-requires-clause-new
prepare-requires-clause-new g c = subst (AllByRecursion IsNewPass) (sym c.requires.passes) all-new

pub make_workers-workers-requires-clause-can : goal.make_workers-workers-requires-clause-can
make_workers-workers-requires-clause-can g c =
    zip-second (AreWorkerParts g.J.Naming.kind c.args.lines.now) (CanJoin g.J.Naming.kind) c.args.passes.items c.in-Ok.offer.all_parts.items (λ p r made. made.can) c.in-Ok.ensures.all_parts

pub make_workers-workers-requires-clause-room : goal.make_workers-workers-requires-clause-room
make_workers-workers-requires-clause-room g c =
    let same = zip-length (AreWorkerParts g.J.Naming.kind c.args.lines.now) c.args.passes.items c.in-Ok.offer.all_parts.items c.in-Ok.ensures.all_parts in
    subst (λ (n : ℕ). IsRowFor n c.in-Ok.offer.workers) same c.in-Ok.ensures.workers

pub make_workers-workers-requires-clause-links : goal.make_workers-workers-requires-clause-links
make_workers-workers-requires-clause-links g c =
    let same = zip-length (AreWorkerParts g.J.Naming.kind c.args.lines.now) c.args.passes.items c.in-Ok.offer.all_parts.items c.in-Ok.ensures.all_parts in
    c.requires.links ∙ (sym eighty ∙ (sym (ap length c.requires.passes) ∙ same))

pub invariant_of-result : goal.invariant_of-result
invariant_of-result g c =
    let one = zip-length (AreWorkerParts g.J.Naming.kind c.args.lines.now) c.args.passes.items c.in-Ok.offer.all_parts.items c.in-Ok.ensures.all_parts in
    let two = zip-length (IsMadeOf g.J.Naming.kind) c.in-Ok.offer.all_parts.items c.make_workers-workers.result.0.items c.make_workers-workers.ensures.hired in
    record {
      fits = record {
        links = subst (λ (n : ℕ). IsRowFor n c.make_workers-workers.result.1) two c.make_workers-workers.ensures.empty;
        passes = subst (λ (n : ℕ). IsRowFor n c.in-Ok.offer.passes) (one ∙ two) c.in-Ok.ensures.passes;
        shown = subst (λ (n : ℕ). IsRowFor n c.in-Ok.offer.shown) (one ∙ two) c.in-Ok.ensures.shown;
      };
    }

pub returns-in-Ok-clause-staffed : goal.returns-in-Ok-clause-staffed
returns-in-Ok-clause-staffed g c =
    zip-through (AreWorkerParts g.J.Naming.kind c.args.lines.now) (IsMadeOf g.J.Naming.kind) (IsPoolWorker g.J.Naming.kind c.args.lines.now) c.args.passes.items c.in-Ok.offer.all_parts.items c.make_workers-workers.result.0.items
    (λ p r m made hired. staffed g.J.Naming.kind c.args.lines.now p r m made hired) c.in-Ok.ensures.all_parts c.make_workers-workers.ensures.hired
