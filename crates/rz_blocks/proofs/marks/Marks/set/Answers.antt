use Rattle.std.proofs.Common.{◌≡◌, ℕ, true, cond, ap, sym, ◌∙◌, subst, refl, None}
use Rattle.std.specs.Prelude.{◌==◌}
use Rattle.rz_events.specs.declared.keys.Key.{Key}
use Rattle.rz_events.specs.Masks.{has_bit}
use Rattle.rz_blocks.specs.Marks.{is_row_of, is_marked, has_room, is_same}
use Rattle.rz_blocks.specs.Rows.{rank, row_at, rows_before, IsGap, IsThere}
use Rattle.rz_blocks.proofs.Looked.{small-fits, place-within, found-gap, found-there}
use Rattle.rz_blocks.proofs.Written.{row-own, small-at, unset, set-marks, kept-marks, set-room, set-rising}
use Rattle.rz_blocks.proofs.marks.Marks.set.Goals as goal

pub returns-in_default-clause-marks : goal.returns-in_default-clause-marks
returns-in_default-clause-marks c =
    let rows = c.self.inside.rows in
    let n = rank c.bare-wanted.result in
    let none : row_at n rows ≡ None = sym c.look_up.ensures ∙ c.in_default.is in
    subst (λ rows. (l : ℕ) (q : Key) → is_marked rows l q ≡ cond (is_same c.args.list c.args.key l q) c.args.marked (is_marked rows l q)) c.self.view_is
    (unset rows (rows_before n rows) c.args.list c.args.key c.self.invariant
    (subst (λ k. IsGap k rows (rows_before n rows)) c.bare-wanted.ensures.rank (found-gap rows n c.self.invariant (small-fits c.bare-wanted.result c.bare-wanted.ensures.small) (rows_before n rows) refl none))
    c.args.marked (λ is. ap (λ rows. has_room rows c.args.list c.args.key) c.self.view_is ∙ c.requires.room is))

pub replace-requires : goal.replace-requires
replace-requires c =
    let rows = c.self.inside.rows in
    let n = rank c.bare-wanted.result in
    let there : IsThere n rows c.count_before-at.result c.in-Some.row =
    found-there rows n c.self.invariant (small-fits c.bare-wanted.result c.bare-wanted.ensures.small) c.count_before-at.result c.count_before-at.ensures.count c.in-Some.row (sym c.look_up.ensures ∙ c.in-Some.is) in
    record { place = place-within rows c.count_before-at.result c.in-Some.row there.1 }

pub invariant_of-self : goal.invariant_of-self
invariant_of-self c =
    let rows = c.self.inside.rows in
    let n = rank c.bare-wanted.result in
    let at = c.count_before-at.result in
    let there : IsThere n rows at c.in-Some.row =
    found-there rows n c.self.invariant (small-fits c.bare-wanted.result c.bare-wanted.ensures.small) at c.count_before-at.ensures.count c.in-Some.row (sym c.look_up.ensures ∙ c.in-Some.is) in
    let own : is_row_of c.args.list c.args.key c.in-Some.row ≡ true =
    row-own c.args.list c.args.key c.bare-wanted.result c.in-Some.row c.bare-wanted.ensures.small c.bare-wanted.ensures.list c.bare-wanted.ensures.fid c.bare-wanted.ensures.index
    (small-at rows at c.in-Some.row c.self.invariant there.1) there.0 in
    set-rising rows at c.args.list c.args.key c.self.invariant c.in-Some.row c.with_mark-after.result there.1 own c.with_mark-after.ensures.list c.with_mark-after.ensures.fid c.with_mark-after.ensures.index c.replace.new.self c.replace.ensures c.with_mark-after.ensures.fits

pub returns-then-after-row-clause-marks : goal.returns-then-after-row-clause-marks
returns-then-after-row-clause-marks c =
    let rows = c.self.inside.rows in
    let n = rank c.bare-wanted.result in
    let at = c.count_before-at.result in
    let there : IsThere n rows at c.in-Some.row =
    found-there rows n c.self.invariant (small-fits c.bare-wanted.result c.bare-wanted.ensures.small) at c.count_before-at.ensures.count c.in-Some.row (sym c.look_up.ensures ∙ c.in-Some.is) in
    let own : is_row_of c.args.list c.args.key c.in-Some.row ≡ true =
    row-own c.args.list c.args.key c.bare-wanted.result c.in-Some.row c.bare-wanted.ensures.small c.bare-wanted.ensures.list c.bare-wanted.ensures.fid c.bare-wanted.ensures.index
    (small-at rows at c.in-Some.row c.self.invariant there.1) there.0 in
    subst (λ rows. (l : ℕ) (q : Key) → is_marked c.replace.new.self l q ≡ cond (is_same c.args.list c.args.key l q) c.args.marked (is_marked rows l q)) c.self.view_is
    (set-marks rows at c.args.list c.args.key c.self.invariant c.in-Some.row c.with_mark-after.result there.1 own c.with_mark-after.ensures.list c.with_mark-after.ensures.fid c.with_mark-after.ensures.index
    c.args.marked (λ b small. c.with_mark-after.ensures.word b small ∙ ap (λ n. cond (b == n) c.args.marked (has_bit c.in-Some.row.word b)) c.place_of.ensures) c.replace.new.self c.replace.ensures)

pub returns-then-after-row-clause-room : goal.returns-then-after-row-clause-room
returns-then-after-row-clause-room c =
    let rows = c.self.inside.rows in
    let n = rank c.bare-wanted.result in
    let at = c.count_before-at.result in
    let there : IsThere n rows at c.in-Some.row =
    found-there rows n c.self.invariant (small-fits c.bare-wanted.result c.bare-wanted.ensures.small) at c.count_before-at.ensures.count c.in-Some.row (sym c.look_up.ensures ∙ c.in-Some.is) in
    let own : is_row_of c.args.list c.args.key c.in-Some.row ≡ true =
    row-own c.args.list c.args.key c.bare-wanted.result c.in-Some.row c.bare-wanted.ensures.small c.bare-wanted.ensures.list c.bare-wanted.ensures.fid c.bare-wanted.ensures.index
    (small-at rows at c.in-Some.row c.self.invariant there.1) there.0 in
    λ l q. set-room rows at c.args.list c.args.key c.self.invariant c.in-Some.row c.with_mark-after.result there.1 own c.with_mark-after.ensures.list c.with_mark-after.ensures.fid c.with_mark-after.ensures.index c.replace.new.self c.replace.ensures l q
    ∙ ap (λ rows. has_room rows l q) c.self.view_is

pub returns-else-after-row-clause-marks : goal.returns-else-after-row-clause-marks
returns-else-after-row-clause-marks c =
    let rows = c.self.inside.rows in
    let n = rank c.bare-wanted.result in
    let at = rows_before n rows in
    let there : IsThere n rows at c.in-Some.row =
    found-there rows n c.self.invariant (small-fits c.bare-wanted.result c.bare-wanted.ensures.small) at refl c.in-Some.row (sym c.look_up.ensures ∙ c.in-Some.is) in
    let own : is_row_of c.args.list c.args.key c.in-Some.row ≡ true =
    row-own c.args.list c.args.key c.bare-wanted.result c.in-Some.row c.bare-wanted.ensures.small c.bare-wanted.ensures.list c.bare-wanted.ensures.fid c.bare-wanted.ensures.index
    (small-at rows at c.in-Some.row c.self.invariant there.1) there.0 in
    subst (λ rows. (l : ℕ) (q : Key) → is_marked rows l q ≡ cond (is_same c.args.list c.args.key l q) c.args.marked (is_marked rows l q)) c.self.view_is
    (kept-marks rows at c.args.list c.args.key c.self.invariant c.in-Some.row c.with_mark-after.result there.1 own c.with_mark-after.ensures.list c.with_mark-after.ensures.fid c.with_mark-after.ensures.index
    c.args.marked (λ b small. c.with_mark-after.ensures.word b small ∙ ap (λ n. cond (b == n) c.args.marked (has_bit c.in-Some.row.word b)) c.place_of.ensures) c.if-after-row.false)
