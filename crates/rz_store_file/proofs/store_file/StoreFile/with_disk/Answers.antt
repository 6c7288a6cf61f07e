use Rattle.std.proofs.Common.{ℕ, List, ◌∙◌, ap, set, string_bytes}
use Rattle.std.proofs.lemmas.List.{map-set}
use Rattle.rz_store_file.specs.Described.{Description, checked}
use Rattle.rz_store_file.proofs.store_file.StoreFile.with_disk.Goals as goal

pub returns : goal.returns
returns c =
    c.new.ensures
    ∙ (ap (λ (ds : List (List ℕ)). checked c.self.inside.volume ds (string_bytes c.self.inside.journal)) (map-set string_bytes c.self.inside.disks.items c.args.node c.args.path)
    ∙ ap (λ (s : Description). checked s.volume (set s.disks c.args.node (string_bytes c.args.path)) s.journal) c.self.view_is)
