use Rattle.std.proofs.Common.{◌∙◌, sym, map, string_bytes}
use Rattle.std.proofs.lemmas.List.{length-map}
use Rattle.rz_store_file.proofs.Paths.{as_many}
use Rattle.rz_store_file.proofs.store_file.StoreFile.disks.Goals as goal

pub returns-clause-count : goal.returns-clause-count
returns-clause-count c =
    let many = as_many c.self.inside.volume (map string_bytes c.self.inside.disks.items) (string_bytes c.self.inside.journal) _ c.self.invariant in
    rw (c.deref.ensures.value, ← c.self.view_is) (sym (length-map c.self.inside.disks.items string_bytes) ∙ many)
