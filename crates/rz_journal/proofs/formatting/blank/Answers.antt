-- A reset that failed leaves an old image or zeros.
use Rattle.std.proofs.Common.{◌≡◌, inl, inr, ⊎_elim, replicate}
use Rattle.rz_journal.proofs.Fresh.{zeros_shut}
use Rattle.rz_journal.proofs.formatting.blank.Goals as goal

pub returns-in-Err-clause-crash : goal.returns-in-Err-clause-crash
returns-in-Err-clause-crash g c told image left =
    ⊎_elim (λ was. inl was) (λ (zeros : image ≡ replicate c.disk_bytes.result 0). inr (inl (zeros_shut c.disk_bytes.result image zeros))) (c.reset.ensures.crash image left)
