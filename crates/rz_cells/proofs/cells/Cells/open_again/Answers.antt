-- What was read makes open cells, and a refusal before the first device call leaves all as it was.
use Rattle.std.proofs.Common.{rules, ◌≡◌, ℕ, ◌*◌, List, Err, length, subst}
use Rattle.std.proofs.Math.Nat.{ℕ_set}
use Rattle.rz_cells.specs.declared.cells.Cells.{Cells}
use Rattle.rz_cells_slots.specs.Shape.{IsGeometry, slot_of}
use Rattle.rz_cells_slots.specs.Open.{Finds}
use Rattle.rz_cells_slots.proofs.Refused.{finds_of, only_faults, on_fault, stands_of, geometry_prop}
use Rattle.rz_cells.proofs.cells.Cells.open_again.Given.{Over}
use Rattle.rz_cells.proofs.cells.Cells.open_again.Goals as goal

pub returns-clause-stands : goal.returns-clause-stands
returns-clause-stands g c told =
    let s = c.args.self.now.geometry in
    let is_open = c.in_ok-fence.ensures.open in
    stands_of s c.in_ok-fence.fence (g.D.Disk.text c.read_disk.new.disk) c.in_ok-fence.room.heads (is_open.holds told) is_open.apart

pub returns-clause-found : goal.returns-clause-found
returns-clause-found g c told =
    let s = c.args.self.now.geometry in
    subst (λ (t : List ℕ). Finds s t c.in_ok-fence.fence c.in_ok-fence.room.heads) c.in_ok-fence.ensures.read.same
    (finds_of s (g.D.Disk.text c.read_disk.new.disk) c.in_ok-fence.fence c.in_ok-fence.room.heads (c.in_ok-fence.ensures.open.holds told))

-- cells of which only the disk may differ are the same where it is
remade : (g : Over) (s : Cells g.row.D.Denot g.D.Disk) (disk : g.row.D.Denot) (a : IsGeometry s.geometry) (b : length s.gates.items ≡ 2 * s.geometry.cells) (c : length s.heads ≡ 2 * s.geometry.cells) (d : length s.buffer.items ≡ slot_of s.geometry) → disk ≡ s.disk
    → ◌≡◌ {A = Cells g.row.D.Denot g.D.Disk} record { disk = disk; geometry = s.geometry; fence = s.fence; gates = s.gates; heads = s.heads; buffer = s.buffer; geometry_ok = a; gates_fit = b; heads_fit = c; buffer_fits = d } s
remade g s disk a b c d same = λ i. record {
  disk = same i;
  geometry = s.geometry;
  fence = s.fence;
  gates = s.gates;
  heads = s.heads;
  buffer = s.buffer;
  geometry_ok = geometry_prop s.geometry a s.geometry_ok i;
  gates_fit = ℕ_set (length s.gates.items) (2 * s.geometry.cells) b s.gates_fit i;
  heads_fit = ℕ_set (length s.heads) (2 * s.geometry.cells) c s.heads_fit i;
  buffer_fits = ℕ_set (length s.buffer.items) (slot_of s.geometry) d s.buffer_fits i;
}

pub returns-in_err-fence-clause-exact : goal.returns-in_err-fence-clause-exact
returns-in_err-fence-clause-exact g c =
    let s = c.args.self.now in
    let e = c.in_err-fence.field-0.0 in
    let gave : c.from_residual.result ≡ Err e = search rules in
    on_fault _ _ _ gave (λ told fence held stands. only_faults s.geometry fence (g.D.Disk.text s.disk) held stands e (c.in_err-fence.ensures.refused told))

pub returns-in_err-fence-clause-no_memory : goal.returns-in_err-fence-clause-no_memory
returns-in_err-fence-clause-no_memory g c is =
    let same : c.read_disk.new.disk ≡ c.args.self.now.disk = search (rules, is) in
    remade g c.args.self.now _ _ _ _ _ same

pub returns-in_err-fence-clause-wrong_size : goal.returns-in_err-fence-clause-wrong_size
returns-in_err-fence-clause-wrong_size g c =
    let e = c.in_err-fence.field-0.0 in
    let gave : c.from_residual.result ≡ Err e = search rules in
    on_fault _ _ _ gave (λ have need is.
    let same : c.read_disk.new.disk ≡ c.args.self.now.disk = search (rules, is) in
    remade g c.args.self.now _ _ _ _ _ same)
