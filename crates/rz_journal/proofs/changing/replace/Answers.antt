-- Each exit is one case of the argument of `Changes`.
use Rattle.std.proofs.Common.{rules, IsErr, ℕ, inl, Ok, is_ok, length, ap, subst, arith}
use Rattle.rz_disk.specs.Images.{Torn, Written}
use Rattle.rz_disk.proofs.Passes.{took_then, took_failed}
use Rattle.rz_journal.proofs.Changes.{size_is, replace_staged, replace_flipped, replace_done}
use Rattle.rz_journal.proofs.changing.replace.Goals as goal

pub store-requires-clause-range : goal.store-requires-clause-range
store-requires-clause-range g c = omega (arith, c.half_at-start.ensures, c.requires.half, c.requires.room, c.requires.size, size_is)

pub store-requires-2-clause-range : goal.store-requires-2-clause-range
store-requires-2-clause-range g c = omega (arith, c.store.ensures.size, c.requires.size, size_is)

pub returns-in_err-store-clause-crash : goal.returns-in_err-store-clause-crash
returns-in_err-store-clause-crash g c told entries new image spelled fits holds left =
    let text = g.D.Disk.text c.args.disk.now in
    let row = c.args.row.now in
    inl (replace_staged c.args.half entries new text row spelled fits holds image (subst (λ (k : ℕ). Torn k (length row) text image) c.half_at-start.ensures (c.store.ensures.crash image left)))

pub returns-in_err-store-2-clause-crash : goal.returns-in_err-store-2-clause-crash
returns-in_err-store-2-clause-crash g c told entries new image spelled fits holds left =
    let text = g.D.Disk.text c.args.disk.now in
    let mid = g.D.Disk.text c.store.new.disk in
    let row = c.args.row.now in
    let written = subst (λ (k : ℕ). Written k row text mid) c.half_at-start.ensures (c.in_ok-store.ensures.written told) in
    replace_flipped c.args.half entries new text row spelled fits holds mid written image (c.store-2.ensures.crash image left)

pub returns-in_err-store-2-clause-took : goal.returns-in_err-store-2-clause-took
returns-in_err-store-2-clause-took g c =
    let failed : IsErr c.from_residual-in_err-store-2.result = search rules in
    took_then 2 2 c.store.result c.from_residual-in_err-store-2.result (g.D.Disk.meter c.args.disk.now) (g.D.Disk.meter c.store.new.disk) (g.D.Disk.meter c.store-2.new.disk) (ap is_ok c.in_ok-store.was) c.store.ensures.took
    (took_failed 2 2 c.store-2.result c.from_residual-in_err-store-2.result (g.D.Disk.meter c.store.new.disk) (g.D.Disk.meter c.store-2.new.disk) (omega arith) failed c.store-2.ensures.took)

pub returns-clause-crash : goal.returns-clause-crash
returns-clause-crash g c told entries new image spelled fits holds left =
    let text = g.D.Disk.text c.args.disk.now in
    let mid = g.D.Disk.text c.store.new.disk in
    let row = c.args.row.now in
    let written = subst (λ (k : ℕ). Written k row text mid) c.half_at-start.ensures (c.in_ok-store.ensures.written told) in
    replace_flipped c.args.half entries new text row spelled fits holds mid written image (c.store-2.ensures.crash image left)

pub returns-clause-done : goal.returns-clause-done
returns-clause-done g c told entries new spelled fits holds =
    let text = g.D.Disk.text c.args.disk.now in
    let mid = g.D.Disk.text c.store.new.disk in
    let row = c.args.row.now in
    let written = subst (λ (k : ℕ). Written k row text mid) c.half_at-start.ensures (c.in_ok-store.ensures.written told) in
    replace_done c.args.half entries new text row spelled fits holds mid (g.D.Disk.text c.store-2.new.disk) written (c.in_ok-store-2.ensures.written told)

pub returns-clause-took : goal.returns-clause-took
returns-clause-took g c = took_then 2 2 c.store.result (Ok tt) (g.D.Disk.meter c.args.disk.now) (g.D.Disk.meter c.store.new.disk) (g.D.Disk.meter c.store-2.new.disk) (ap is_ok c.in_ok-store.was) c.store.ensures.took c.in_ok-store-2.ensures.took
