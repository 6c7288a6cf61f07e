-- Each exit is one case of the argument of `Changes`.
use Rattle.std.proofs.Common.{rules, IsErr, ◌+◌, ℕ, inl, Ok, is_ok, List, [], ◌∷◌, length, drop, ap, subst, arith, length-drop}
use Rattle.rz_disk.specs.Images.{Torn, Written}
use Rattle.rz_disk.proofs.Passes.{took_then, took_failed}
use Rattle.rz_journal.proofs.Changes.{rest_all, add_staged, add_flipped, add_done}
use Rattle.rz_journal.proofs.changing.add.Goals as goal

pub store-requires-clause-range : goal.store-requires-clause-range
store-requires-clause-range g c = omega (arith, length-drop 1 c.args.row.now, c.requires.range, c.requires.some)

pub returns-in_err-store-clause-crash : goal.returns-in_err-store-clause-crash
returns-in_err-store-clause-crash g c told half entries entry image spelled place fits holds left =
    let text = g.D.Disk.text c.args.disk.now in
    let row = c.args.row.now in
    inl (add_staged half entries text entry row spelled fits holds image (subst (λ (k : ℕ). Torn (k + 1) (length (drop 1 row)) text image) place (subst (λ (l : List ℕ). Torn (c.args.at + 1) (length l) text image) (rest_all row) (c.store.ensures.crash image left))))

pub returns-in_err-store-2-clause-crash : goal.returns-in_err-store-2-clause-crash
returns-in_err-store-2-clause-crash g c told half entries entry image spelled place fits holds left =
    let text = g.D.Disk.text c.args.disk.now in
    let mid = g.D.Disk.text c.store.new.disk in
    let row = c.args.row.now in
    let written = subst (λ (k : ℕ). Written (k + 1) (drop 1 row) text mid) place (subst (λ (l : List ℕ). Written (c.args.at + 1) l text mid) (rest_all row) (c.in_ok-store.ensures.written told)) in
    add_flipped half entries text entry row spelled fits holds mid written image (subst (λ (k : ℕ). Torn k 1 mid image) place (c.store-2.ensures.crash image left))

pub returns-in_err-store-2-clause-took : goal.returns-in_err-store-2-clause-took
returns-in_err-store-2-clause-took g c =
    let failed : IsErr c.from_residual-in_err-store-2.result = search rules in
    took_then 2 2 c.store.result c.from_residual-in_err-store-2.result (g.D.Disk.meter c.args.disk.now) (g.D.Disk.meter c.store.new.disk) (g.D.Disk.meter c.store-2.new.disk) (ap is_ok c.in_ok-store.was) c.store.ensures.took
    (took_failed 2 2 c.store-2.result c.from_residual-in_err-store-2.result (g.D.Disk.meter c.store.new.disk) (g.D.Disk.meter c.store-2.new.disk) (omega arith) failed c.store-2.ensures.took)

pub returns-clause-crash : goal.returns-clause-crash
returns-clause-crash g c told half entries entry image spelled place fits holds left =
    let text = g.D.Disk.text c.args.disk.now in
    let mid = g.D.Disk.text c.store.new.disk in
    let row = c.args.row.now in
    let written = subst (λ (k : ℕ). Written (k + 1) (drop 1 row) text mid) place (subst (λ (l : List ℕ). Written (c.args.at + 1) l text mid) (rest_all row) (c.in_ok-store.ensures.written told)) in
    add_flipped half entries text entry row spelled fits holds mid written image (subst (λ (k : ℕ). Torn k 1 mid image) place (c.store-2.ensures.crash image left))

pub returns-clause-done : goal.returns-clause-done
returns-clause-done g c told half entries entry spelled place fits holds =
    let text = g.D.Disk.text c.args.disk.now in
    let mid = g.D.Disk.text c.store.new.disk in
    let end = g.D.Disk.text c.store-2.new.disk in
    let row = c.args.row.now in
    let written = subst (λ (k : ℕ). Written (k + 1) (drop 1 row) text mid) place (subst (λ (l : List ℕ). Written (c.args.at + 1) l text mid) (rest_all row) (c.in_ok-store.ensures.written told)) in
    let gate = subst (λ (k : ℕ). Written k (1 ∷ []) mid end) place (c.in_ok-store-2.ensures.written told) in
    add_done half entries text entry row spelled fits holds mid end written gate

pub returns-clause-took : goal.returns-clause-took
returns-clause-took g c = took_then 2 2 c.store.result (Ok tt) (g.D.Disk.meter c.args.disk.now) (g.D.Disk.meter c.store.new.disk) (g.D.Disk.meter c.store-2.new.disk) (ap is_ok c.in_ok-store.was) c.store.ensures.took c.in_ok-store-2.ensures.took
