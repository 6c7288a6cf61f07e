use Rattle.std.proofs.Common.{rules, ◌≡◌, ◌≤◌, ◌+◌, length, get_or, refl, ap, sym, ◌∙◌, arith, inl, inr}
use Rattle.std.proofs.lemmas.Bool.{cases_lt}
use Rattle.mj_angles.specs.Layout.{inverse_of, cols_of, angle_of, bins_at_of}
use Rattle.mj_angles.specs.Projection.{bin, word_at}
use Rattle.mj_forward.specs.Forward.{start_of}
use Rattle.mj_forward.proofs.Starts.{part_is, start-more, starts-rise}
use Rattle.mj_forward.proofs.all.project_all.Goals as goal

pub overflow_add-end : goal.overflow_add-end
overflow_add-end c =
    let rise = starts-rise c.args.layout c.loop-j.j c.args.count c.loop-j-test.true in
    let within : c.loop-j.at + c.bins_at.result ≤ length c.args.out.now = rw (c.loop-j.invariant.place, c.bins_at.ensures.value, c.requires.room) rise in
    search (rules, within)

pub project_into-requires-clause-room : goal.project_into-requires-clause-room
project_into-requires-clause-room c =
    let rise = starts-rise c.args.layout c.loop-j.j c.args.count c.loop-j-test.true in
    let within : c.loop-j.at + c.bins_at.result ≤ length c.args.out.now = rw (c.loop-j.invariant.place, c.bins_at.ensures.value, c.requires.room) rise in
    search (rules, within)

pub loop-j-preserved : goal.loop-j-preserved
loop-j-preserved c =
    let place = c.loop-j.invariant.place in
    let value = c.bins_at.ensures.value in
    record {
      place = ap (λ x. x + c.bins_at.result) place ∙ ap (λ x. start_of c.args.layout c.loop-j.j + x) value ∙ sym (start-more c.args.layout c.loop-j.j);
      done = λ j b before small. elim (cases_lt j c.loop-j.j) as (λ _. get_or c.project_into.new.out (start_of c.args.layout j + b) 0 ≡ bin (word_at c.args.words.now (cols_of c.args.layout)) (inverse_of c.args.layout) (cols_of c.args.layout) (angle_of c.args.layout j) b) [
        | inl low ↦
            (let rise = starts-rise c.args.layout j c.loop-j.j low in
            c.project_into.ensures.below (start_of c.args.layout j + b) (omega (arith, rise, place, small)) ∙ c.loop-j.invariant.done j b low small)
        | inr from ↦
            (let e : j ≡ c.loop-j.j = omega arith in
            let s : start_of c.args.layout j + b ≡ c.loop-j.at + b = ap (λ j. start_of c.args.layout j + b) e ∙ ap (λ x. x + b) (sym place) in
            ap (λ i. get_or c.project_into.new.out i 0) s
            ∙ search (rules, e, small))
      ];
    }

pub returns-clause-parts : goal.returns-clause-parts
returns-clause-parts c = λ j small.
    let rise = starts-rise c.args.layout j c.args.count small in
    part_is (word_at c.args.words.now (cols_of c.args.layout)) (inverse_of c.args.layout) (cols_of c.args.layout) (angle_of c.args.layout j) _ (start_of c.args.layout j) (bins_at_of c.args.layout j) refl (let r = rise in let room = c.requires.room in let long = c.loop-j.auto.out in omega arith) (λ b few. c.loop-j.invariant.done j b (omega arith) few)
