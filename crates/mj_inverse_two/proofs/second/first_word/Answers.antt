use Rattle.std.proofs.Common.{arith, ◌+◌, ◌-◌, ◌∙◌, sym, ap, get_or}
use Rattle.std.specs.Prelude.{bit_xor}
use lib.Bits.{xor_zero_r}
use Rattle.mj_inverse_two.proofs.Shares.{share_at, share_high, share_low}
use Rattle.mj_inverse_two.proofs.second.first_word.Goals as goal
use Rattle.mj_inverse_two.proofs.second.first_word.Goals.{else-q-at-via-then-q-at+else-at-q, else-q-at-via-else-q-at}

pub returns-then-at-q : goal.returns-then-at-q
returns-then-at-q c =
    ap (bit_xor (get_or c.args.b.now (c.args.q.first + c.args.k) 0))
    (sym (share_at c.args.cols c.args.q.second (c.args.q.first + c.args.k) (c.args.q.first + c.args.k - c.args.q.second) (λ e. get_or c.args.row.now (32 + e) 0) (omega arith) (omega arith)))

pub returns-else-q-at : goal.returns-else-q-at
returns-else-q-at c =
    sym (xor_zero_r (get_or c.args.b.now (c.args.q.first + c.args.k) 0))
    ∙ ap (bit_xor (get_or c.args.b.now (c.args.q.first + c.args.k) 0))
    (sym (elim c.else-q-at.branch [
      | else-q-at-via-then-q-at+else-at-q w ↦ share_high c.args.cols c.args.q.second (c.args.q.first + c.args.k) (λ e. get_or c.args.row.now (32 + e) 0) (omega arith)
      | else-q-at-via-else-q-at w ↦ share_low c.args.cols c.args.q.second (c.args.q.first + c.args.k) (λ e. get_or c.args.row.now (32 + e) 0) (omega arith)
    ]))
