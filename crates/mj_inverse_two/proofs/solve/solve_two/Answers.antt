use Rattle.std.proofs.Common.{rules, ◌+◌, ◌∙◌, ℕ, get_or, w32, to_z, of_z}
use Rattle.std.proofs.lemmas.Int.{to_z-of_z}
use Rattle.mj_inverse_two.proofs.Solved.{AreStarts, has_ends, is_found, is_only, starts_for}
use Rattle.mj_inverse_two.proofs.solve.solve_two.Goals as goal

pub returns-then-not-have_ends-clause-none : goal.returns-then-not-have_ends-clause-none
returns-then-not-have_ends-clause-none c = λ no g found.
    let f : ℕ → ℕ = λ e. get_or c.read_second.new.row (32 + e) 0 in
    let low : AreStarts c.args.p c.starts_at-low.result =
    starts_for c.args.p (to_z w32 (of_z w32 c.args.p)) c.starts_at-low.result (to_z-of_z w32 c.args.p (search rules)) c.requires.p
    c.starts_at-low.ensures.first c.starts_at-low.ensures.second c.starts_at-low.ensures.one c.starts_at-low.ensures.both in
    let high : AreStarts c.args.q c.starts_at-high.result =
    starts_for c.args.q (to_z w32 (of_z w32 c.args.q)) c.starts_at-high.result (to_z-of_z w32 c.args.q (search rules)) c.requires.q
    c.starts_at-high.ensures.first c.starts_at-high.ensures.second c.starts_at-high.ensures.one c.starts_at-high.ensures.both in
    let yes = c.have_ends.ensures.no
    (has_ends c.args.cols c.args.p c.args.q c.starts_at-low.result c.starts_at-high.result c.args.a.now c.args.b.now f c.requires.rises low high c.requires.wide c.requires.few c.requires.a c.requires.b
    c.read_second.ensures.second g found) in
    let test = c.if-not-have_ends.true in
    absurd (cc)

pub returns-clause-found : goal.returns-clause-found
returns-clause-found c = λ yes.
    let f : ℕ → ℕ = λ e. get_or c.read_second.new.row (32 + e) 0 in
    let low : AreStarts c.args.p c.starts_at-low.result =
    starts_for c.args.p (to_z w32 (of_z w32 c.args.p)) c.starts_at-low.result (to_z-of_z w32 c.args.p (search rules)) c.requires.p
    c.starts_at-low.ensures.first c.starts_at-low.ensures.second c.starts_at-low.ensures.one c.starts_at-low.ensures.both in
    let high : AreStarts c.args.q c.starts_at-high.result =
    starts_for c.args.q (to_z w32 (of_z w32 c.args.q)) c.starts_at-high.result (to_z-of_z w32 c.args.q (search rules)) c.requires.q
    c.starts_at-high.ensures.first c.starts_at-high.ensures.second c.starts_at-high.ensures.one c.starts_at-high.ensures.both in
    is_found c.args.cols c.args.p c.args.q c.starts_at-low.result c.starts_at-high.result c.args.a.now c.args.b.now f c.requires.rises low high c.requires.wide c.requires.few c.requires.a c.requires.b
    c.read_second.ensures.second c.write_rows.new.out (c.write_rows.auto.out ∙ c.requires.out) c.write_rows.ensures.first c.write_rows.ensures.second (c.have_ends.ensures.yes c.if-not-have_ends.false)

pub returns-clause-only : goal.returns-clause-only
returns-clause-only c = λ yes g found.
    let f : ℕ → ℕ = λ e. get_or c.read_second.new.row (32 + e) 0 in
    let low : AreStarts c.args.p c.starts_at-low.result =
    starts_for c.args.p (to_z w32 (of_z w32 c.args.p)) c.starts_at-low.result (to_z-of_z w32 c.args.p (search rules)) c.requires.p
    c.starts_at-low.ensures.first c.starts_at-low.ensures.second c.starts_at-low.ensures.one c.starts_at-low.ensures.both in
    let high : AreStarts c.args.q c.starts_at-high.result =
    starts_for c.args.q (to_z w32 (of_z w32 c.args.q)) c.starts_at-high.result (to_z-of_z w32 c.args.q (search rules)) c.requires.q
    c.starts_at-high.ensures.first c.starts_at-high.ensures.second c.starts_at-high.ensures.one c.starts_at-high.ensures.both in
    is_only c.args.cols c.args.p c.args.q c.starts_at-low.result c.starts_at-high.result c.args.a.now c.args.b.now f c.requires.rises low high c.requires.wide c.requires.few c.requires.a c.requires.b
    c.read_second.ensures.second g found c.write_rows.new.out (c.write_rows.auto.out ∙ c.requires.out) c.write_rows.ensures.first c.write_rows.ensures.second
