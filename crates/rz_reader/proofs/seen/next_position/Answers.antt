use Rattle.std.proofs.Common.{arith, ◌≡◌, ◌<◌, ◌≤◌, ◌^◌, ap, ◌∙◌, sym}
use Rattle.std.specs.Int.{bit_at}
use Rattle.std.specs.Int.Count.{count_trailing_zeros}
use Rattle.std.proofs.lemmas.Nat.{and_le_l}
use Rattle.mj_angles.specs.Layout.{safe_of}
use Rattle.rz_client_model.proofs.Masks.{in-below, safe-few}
use Rattle.rz_reader.proofs.Positions.{least-in, in-first, small}
use Rattle.rz_reader.proofs.seen.next_position.Goals as goal
use Rattle.rz_reader.proofs.seen.next_position.Goals.{then-published-eq0, else-published-eq0}

least : (c : goal.Joined-published-eq0) → 0 < c.if-published-eq0.candidates →
    bit_at c.if-published-eq0.candidates (count_trailing_zeros 16 c.if-published-eq0.candidates) ≡ 1
least c some =
    let left : c.args.fetches.now.left < 2 ^ 16 = small c.args.fetches.now.left (safe_of c.args.layout) c.requires.few (safe-few c.args.layout) in
    least-in c.if-published-eq0.candidates some (elim c.if-published-eq0.branch [
      | then-published-eq0 w ↦ omega (arith, w.candidates-is, left)
      | else-published-eq0 w ↦ omega (arith, w.candidates-is, left, and_le_l c.args.fetches.now.left c.args.fetches.now.mask)
    ])

pub returns-clause-left : goal.returns-clause-left
returns-clause-left c =
    let p = count_trailing_zeros 16 c.if-published-eq0.candidates in
    elim c.if-published-eq0.branch [
      | then-published-eq0 w ↦ ap (λ n. bit_at n p) (sym w.candidates-is) ∙ least c (omega (arith, w.candidates-is, c.requires.some))
      | else-published-eq0 w ↦ in-first c.args.fetches.now.left c.args.fetches.now.mask p
          (ap (λ n. bit_at n p) (sym w.candidates-is) ∙ least c (omega (arith, w.candidates-is, w.if-published-eq0.false)))
    ]

pub returns-clause-within : goal.returns-clause-within
returns-clause-within c =
    in-below c.args.fetches.now.left (safe_of c.args.layout) (count_trailing_zeros 16 c.if-published-eq0.candidates) c.requires.few (returns-clause-left c)
