use Rattle.std.proofs.Common.{◌∙◌, arith}
use Rattle.rz_sequence.proofs.Places.{taken_out, taken_out_fits}
use Rattle.rz_sequence.proofs.sequence.Sequence.remove.Goals as goal

pub merged-requires : goal.merged-requires
merged-requires g c =
    let cut = c.split-front.ensures in
    let size = taken_out_fits _ _ _ _ _ cut.front cut.back c.without_first.ensures in
    record { fits = omega (arith, size, cut.fits) }

pub returns : goal.returns
returns g c =
    let cut = c.split-front.ensures in
    c.merged.ensures ∙ taken_out _ _ _ _ _ _ c.replace.ensures.value cut.front cut.back c.without_first.ensures
