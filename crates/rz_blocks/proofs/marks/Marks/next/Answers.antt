use Rattle.std.proofs.Common.{Some, sym, ◌∙◌, subst, arith}
use Rattle.std.proofs.lemmas.Option.{slice_get_within}
use Rattle.rz_blocks.proofs.Lists.{from-item, past}
use Rattle.rz_blocks.proofs.Next.{IsNext, IsSearch, searched, nothing-above, at-end, r_small, r_from, in-first, none-later, s_small, s_from, in-later}
use Rattle.rz_blocks.proofs.marks.Marks.next.Goals as goal

pub returns-in_err-first : goal.returns-in_err-first
returns-in_err-first c =
    subst (λ rows. IsNext rows c.args.list c.args.after c.from_residual.result) c.self.view_is
    (subst (IsNext c.self.inside.rows c.args.list c.args.after) (sym c.from_residual.ensures) (nothing-above c.self.inside.rows c.self.invariant c.args.list c.args.after c.in_err-first.ensures))

pub returns-in_err-row : goal.returns-in_err-row
returns-in_err-row c =
    let search : IsSearch c.self.inside.rows c.args.list c.args.after c.in_ok-first.first c.count_before-at.result = searched c.self.inside.rows c.args.list c.args.after c.in_ok-first.first c.count_before-at.result c.bare.result c.self.invariant c.ranges.list.fits c.bare.ensures.rank c.bare.ensures.small
    c.bare.ensures.fid c.bare.ensures.index c.in_ok-first.ensures c.count_before-at.ensures.count in
    subst (λ rows. IsNext rows c.args.list c.args.after c.from_residual-in_err-row.result) c.self.view_is
    (subst (IsNext c.self.inside.rows c.args.list c.args.after) (sym c.from_residual-in_err-row.ensures)
    (at-end c.self.inside.rows c.args.list c.args.after c.in_ok-first.first c.count_before-at.result search (past c.self.inside.rows c.count_before-at.result (sym c.get.ensures ∙ sym c.copied.ensures ∙ c.in_err-row.was))))

pub first_marked-requires-clause-index : goal.first_marked-requires-clause-index
first_marked-requires-clause-index c =
    let search : IsSearch c.self.inside.rows c.args.list c.args.after c.in_ok-first.first c.count_before-at.result = searched c.self.inside.rows c.args.list c.args.after c.in_ok-first.first c.count_before-at.result c.bare.result c.self.invariant c.ranges.list.fits c.bare.ensures.rank c.bare.ensures.small
    c.bare.ensures.fid c.bare.ensures.index c.in_ok-first.ensures c.count_before-at.ensures.count in
    (r_small c.self.inside.rows c.args.list c.args.after c.in_ok-first.first c.count_before-at.result search c.in_ok-row.row (from-item c.self.inside.rows c.count_before-at.result c.in_ok-row.row (sym c.get.ensures ∙ sym c.copied.ensures ∙ c.in_ok-row.was))).index

pub first_marked-requires-clause-from : goal.first_marked-requires-clause-from
first_marked-requires-clause-from c =
    let search : IsSearch c.self.inside.rows c.args.list c.args.after c.in_ok-first.first c.count_before-at.result = searched c.self.inside.rows c.args.list c.args.after c.in_ok-first.first c.count_before-at.result c.bare.result c.self.invariant c.ranges.list.fits c.bare.ensures.rank c.bare.ensures.small
    c.bare.ensures.fid c.bare.ensures.index c.in_ok-first.ensures c.count_before-at.ensures.count in
    r_from c.self.inside.rows c.args.list c.args.after c.in_ok-first.first c.count_before-at.result search c.in_ok-row.row (from-item c.self.inside.rows c.count_before-at.result c.in_ok-row.row (sym c.get.ensures ∙ sym c.copied.ensures ∙ c.in_ok-row.was))

pub returns-in-Some : goal.returns-in-Some
returns-in-Some c =
    let search : IsSearch c.self.inside.rows c.args.list c.args.after c.in_ok-first.first c.count_before-at.result = searched c.self.inside.rows c.args.list c.args.after c.in_ok-first.first c.count_before-at.result c.bare.result c.self.invariant c.ranges.list.fits c.bare.ensures.rank c.bare.ensures.small
    c.bare.ensures.fid c.bare.ensures.index c.in_ok-first.ensures c.count_before-at.ensures.count in
    subst (λ rows. IsNext rows c.args.list c.args.after (Some c.in-Some.key)) c.self.view_is
    (in-first c.self.inside.rows c.args.list c.args.after c.in_ok-first.first c.count_before-at.result search c.in_ok-row.row (from-item c.self.inside.rows c.count_before-at.result c.in_ok-row.row (sym c.get.ensures ∙ sym c.copied.ensures ∙ c.in_ok-row.was)) c.in-Some.key c.in-Some.ensures)

pub overflow_add-at : goal.overflow_add-at
overflow_add-at c =
    omega (arith, c.count_before-at.ensures.fits, slice_get_within c.self.inside.rows c.count_before-at.result c.in_ok-row.row (sym c.get.ensures ∙ sym c.copied.ensures ∙ c.in_ok-row.was))

pub returns-in_err-later : goal.returns-in_err-later
returns-in_err-later c =
    let search : IsSearch c.self.inside.rows c.args.list c.args.after c.in_ok-first.first c.count_before-at.result = searched c.self.inside.rows c.args.list c.args.after c.in_ok-first.first c.count_before-at.result c.bare.result c.self.invariant c.ranges.list.fits c.bare.ensures.rank c.bare.ensures.small
    c.bare.ensures.fid c.bare.ensures.index c.in_ok-first.ensures c.count_before-at.ensures.count in
    subst (λ rows. IsNext rows c.args.list c.args.after c.from_residual-in_err-later.result) c.self.view_is
    (subst (IsNext c.self.inside.rows c.args.list c.args.after) (sym c.from_residual-in_err-later.ensures)
    (none-later c.self.inside.rows c.args.list c.args.after c.in_ok-first.first c.count_before-at.result search c.in_ok-row.row (from-item c.self.inside.rows c.count_before-at.result c.in_ok-row.row (sym c.get.ensures ∙ sym c.copied.ensures ∙ c.in_ok-row.was)) c.in_default.ensures c.in_err-later.ensures))

pub first_marked-requires-2-clause-index : goal.first_marked-requires-2-clause-index
first_marked-requires-2-clause-index c =
    let search : IsSearch c.self.inside.rows c.args.list c.args.after c.in_ok-first.first c.count_before-at.result = searched c.self.inside.rows c.args.list c.args.after c.in_ok-first.first c.count_before-at.result c.bare.result c.self.invariant c.ranges.list.fits c.bare.ensures.rank c.bare.ensures.small
    c.bare.ensures.fid c.bare.ensures.index c.in_ok-first.ensures c.count_before-at.ensures.count in
    (s_small c.self.inside.rows c.args.list c.args.after c.in_ok-first.first c.count_before-at.result search c.in_ok-row.row (from-item c.self.inside.rows c.count_before-at.result c.in_ok-row.row (sym c.get.ensures ∙ sym c.copied.ensures ∙ c.in_ok-row.was))
    c.in_default.ensures c.in_ok-later.later c.in_ok-row-2.row c.in_ok-later.ensures.0 (sym c.get-2.ensures ∙ sym c.copied-2.ensures ∙ c.in_ok-row-2.was) c.in_ok-later.ensures.1 c.in_ok-later.ensures.2).index

pub first_marked-requires-2-clause-from : goal.first_marked-requires-2-clause-from
first_marked-requires-2-clause-from c =
    let search : IsSearch c.self.inside.rows c.args.list c.args.after c.in_ok-first.first c.count_before-at.result = searched c.self.inside.rows c.args.list c.args.after c.in_ok-first.first c.count_before-at.result c.bare.result c.self.invariant c.ranges.list.fits c.bare.ensures.rank c.bare.ensures.small
    c.bare.ensures.fid c.bare.ensures.index c.in_ok-first.ensures c.count_before-at.ensures.count in
    s_from c.self.inside.rows c.args.list c.args.after c.in_ok-first.first c.count_before-at.result search c.in_ok-row.row (from-item c.self.inside.rows c.count_before-at.result c.in_ok-row.row (sym c.get.ensures ∙ sym c.copied.ensures ∙ c.in_ok-row.was))
    c.in_default.ensures c.in_ok-later.later c.in_ok-row-2.row c.in_ok-later.ensures.0 (sym c.get-2.ensures ∙ sym c.copied-2.ensures ∙ c.in_ok-row-2.was) c.in_ok-later.ensures.1 c.in_ok-later.ensures.2

pub returns : goal.returns
returns c =
    let search : IsSearch c.self.inside.rows c.args.list c.args.after c.in_ok-first.first c.count_before-at.result = searched c.self.inside.rows c.args.list c.args.after c.in_ok-first.first c.count_before-at.result c.bare.result c.self.invariant c.ranges.list.fits c.bare.ensures.rank c.bare.ensures.small
    c.bare.ensures.fid c.bare.ensures.index c.in_ok-first.ensures c.count_before-at.ensures.count in
    subst (λ rows. IsNext rows c.args.list c.args.after c.first_marked-2.result) c.self.view_is
    (in-later c.self.inside.rows c.args.list c.args.after c.in_ok-first.first c.count_before-at.result search c.in_ok-row.row (from-item c.self.inside.rows c.count_before-at.result c.in_ok-row.row (sym c.get.ensures ∙ sym c.copied.ensures ∙ c.in_ok-row.was))
    c.in_default.ensures c.in_ok-later.later c.in_ok-row-2.row c.in_ok-later.ensures.0 (sym c.get-2.ensures ∙ sym c.copied-2.ensures ∙ c.in_ok-row-2.was) c.in_ok-later.ensures.1 c.in_ok-later.ensures.2 c.first_marked-2.result c.first_marked-2.ensures)
