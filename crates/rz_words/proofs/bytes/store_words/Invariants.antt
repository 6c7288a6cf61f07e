use Rattle.std.proofs.Common.{◌≡◌, take}
use Rattle.rz_words.specs.Grid.{bytes_from}
use Rattle.rz_words.proofs.bytes.store_words.Given as goal

abbrev pub invariant-rest : goal.invariant-rest
invariant-rest l = take l.i l.out ≡ take l.i (bytes_from l.words)
