-- The paths of files are words, and their lines keep the limits of the volume.
use Rattle.std.proofs.Common.{ℕ, ◌≡◌, ◌<◌, ◌^◌, ◌++◌, codes, refl, sym, subst, arith}
use lib.Utf8.{encode}
use Rattle.std.specs.Fmt.{decimal}
use Rattle.rz_events.specs.Volume.{Volume}
use Rattle.rz_script.specs.declared.line.Line.{Line}
use Rattle.rz_script.specs.Lines.{IsWord, IsLine}
use Rattle.rz_script.proofs.Again.{after, literal, number_word}
use Rattle.rz_generate.specs.Workload.{volume, path_of}

pub path-word : (client file : ℕ) → client < 2 ^ 64 → file < 2 ^ 64 → IsWord (path_of client file)
unfolding path_of encode
path-word client file c f =
    after (codes "/f") (decimal client ++ (codes "_" ++ decimal file)) (literal (codes "/f") (omega arith) refl refl refl)
    (after (decimal client) (codes "_" ++ decimal file) (number_word client c)
    (after (codes "_") (decimal file) (literal (codes "_") (omega arith) refl refl refl) (number_word file f)))

-- a line that fits the volume of the workload
pub line-fits : (v : Volume) (l : Line) → v ≡ volume → IsLine volume l → IsLine v l
line-fits v l is fits = subst (λ w. IsLine w l) (sym is) fits
