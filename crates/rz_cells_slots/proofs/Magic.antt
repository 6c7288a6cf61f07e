use Rattle.std.proofs.Common.{◌≡◌, refl}
use Rattle.rz_record.specs.Fields.{number_at}
use Rattle.rz_cells_slots.specs.Stands.{magic, old_magic}

-- the first 8 bytes as a number
pub magic_is : magic ≡ 0x32304f5a4f524a4d
unfolding magic number_at
magic_is = refl

pub old_magic_is : old_magic ≡ 0x31304f5a4f524a4d
unfolding old_magic number_at
old_magic_is = refl
