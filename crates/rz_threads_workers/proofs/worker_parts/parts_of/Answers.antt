use Rattle.std.proofs.Common.{◌≡◌, length, vec_len, refl, ap, ◌∙◌, subst, arith}
use Rattle.std.specs.List.{AllByRecursion}
use Rattle.mj_angles.specs.Layout.{max_bins_of}
use Rattle.rz_events.specs.declared.keys.Actor.{Actor}
use Rattle.rz_script.specs.Lines.{IsOperation}
use Rattle.rz_play_locks.specs.Operations.{given}
use Rattle.rz_chronicle.specs.Kinds.{volume_in}
use Rattle.rz_threads_workers.proofs.worker_parts.parts_of.Goals as goal

pub returns : goal.returns
returns g c =
    let bins : vec_len c.in_ok-bins.bins ≡ length c.in_ok-bins.bins.items = c.in_ok-bins.bins.ok.0 in
    let most : c.max_bins.result ≡ max_bins_of (volume_in g.J.Naming.kind).layout = c.max_bins.ensures.value ∙ ap max_bins_of c.requires.layout in
    let count : vec_len c.in_ok-bins.bins ≡ c.max_bins.result = c.in_ok-bins.ensures.len in
    record {
      pass = refl;
      todo = c.in_ok-todo.ensures.given ∙ ap (λ (by : Actor). given by c.args.lines.now) c.actor.ensures.value;
      can = record {
        new = c.requires.new;
        limits = subst (λ (by : Actor). AllByRecursion (IsOperation (volume_in g.J.Naming.kind) by) c.in_ok-todo.todo.items) c.actor.ensures.value (c.in_ok-todo.ensures.limits (volume_in g.J.Naming.kind) c.requires.lines);
        room = omega (arith, bins, most, count);
      };
    }
