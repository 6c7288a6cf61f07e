-- The header, and then its gate.
use Rattle.std.proofs.Common.{ℕ, List, length, inl, ap, subst, arith}
use Rattle.std.proofs.lemmas.List.{length-replicate}
use Rattle.rz_disk.specs.Images.{Torn, Written}
use Rattle.rz_journal.specs.Stands.{disk_bytes}
use Rattle.rz_journal.proofs.Changes.{size_is}
use Rattle.rz_journal.proofs.Fresh.{header_torn, gate_torn, gate_done}
use Rattle.rz_journal.proofs.formatting.write_header.Goals as goal

pub store-requires-clause-range : goal.store-requires-clause-range
store-requires-clause-range g c = omega (arith, ap length c.requires.zeros, length-replicate {A = ℕ} disk_bytes 0, size_is, ap length c.header.ensures)

pub store-requires-2-clause-range : goal.store-requires-2-clause-range
store-requires-2-clause-range g c = omega (arith, c.store.ensures.size, ap length c.requires.zeros, length-replicate {A = ℕ} disk_bytes 0, size_is)

pub returns-in_err-store-clause-crash : goal.returns-in_err-store-clause-crash
returns-in_err-store-clause-crash g c told image left =
    let header = c.header.result in
    inl (header_torn header c.header.ensures image (subst (λ (t : List ℕ). Torn 0 (length header) t image) c.requires.zeros (c.store.ensures.crash image left)))

pub returns-in_err-store-2-clause-crash : goal.returns-in_err-store-2-clause-crash
returns-in_err-store-2-clause-crash g c told image left =
    let header = c.header.result in
    let mid = g.D.Disk.text c.store.new.disk in
    gate_torn header c.header.ensures mid image (subst (λ (t : List ℕ). Written 0 header t mid) c.requires.zeros (c.in_ok-store.ensures.written told)) (c.store-2.ensures.crash image left)

pub returns-clause-crash : goal.returns-clause-crash
returns-clause-crash g c told image left =
    let header = c.header.result in
    let mid = g.D.Disk.text c.store.new.disk in
    gate_torn header c.header.ensures mid image (subst (λ (t : List ℕ). Written 0 header t mid) c.requires.zeros (c.in_ok-store.ensures.written told)) (c.store-2.ensures.crash image left)

pub returns-clause-done : goal.returns-clause-done
returns-clause-done g c told =
    let header = c.header.result in
    let mid = g.D.Disk.text c.store.new.disk in
    gate_done header c.header.ensures mid (g.D.Disk.text c.store-2.new.disk) (subst (λ (t : List ℕ). Written 0 header t mid) c.requires.zeros (c.in_ok-store.ensures.written told)) (c.in_ok-store-2.ensures.written told)
