use Rattle.std.proofs.Common.{rules, arith, ◌≡◌, ◌≤◌, ◌<◌, ◌+◌, ◌*◌, ◌-◌, ◌∙◌, ℕ, length, sym, ap, refl, take, drop}
use Rattle.std.proofs.lemmas.Nat.{row_fits}
use Rattle.std.proofs.lemmas.List.{places}
use Rattle.mj_angles.specs.Layout.{inverse_of}
use Rattle.mj_c.specs.Layouts.{words_of}
use Rattle.mj_c.proofs.Parts.{groups_at}
use Rattle.mj_c.proofs.lent_eight.find_groups.Goals as goal

back : (x w : ℕ) → x + w - x ≡ w
back x w = omega arith

pub loop-i-preserved : goal.loop-i-preserved
loop-i-preserved c =
    let y = c.args.layout in
    let i : ℕ = c.loop-i.i in
    let w : ℕ = 8 * (c.inverse.result * c.cols.result) in
    let each : ℕ = c.eight_bins-each.result in
    let count : length c.loop-i.answers ≡ length c.args.answers.now = c.loop-i.auto.answers in
    let few : i < length c.args.answers.now = (let test = c.loop-i-test.true in omega arith) in
    let words : w ≡ 8 * words_of y = ap (λ r. 8 * (r * c.cols.result)) c.inverse.ensures.value ∙ ap (λ k. 8 * (inverse_of y * k)) c.cols.ensures.value in
    let long : length c.loop-i.out ≡ length c.args.answers.now * (8 * words_of y) = c.loop-i.auto.out ∙ c.requires.room in
    let all : length c.loop-i.out ≡ length c.args.answers.now * w = long ∙ ap (λ x. length c.args.answers.now * x) (sym words) in
    let fits : i * w + w ≤ length c.loop-i.out = (let r = row_fits i w (length c.args.answers.now) w few (omega arith) in omega (arith, r, all)) in
    let room : length c.find_eight.new.out ≡ w = (let same = c.find_eight.auto.out in search (rules, places)) in
    groups_at y c.args.positions.now c.args.bins.now c.loop-i.out (take (i * each + each - i * each) (drop (i * each) c.args.bins.now)) c.find_eight.new.out c.loop-i.answers (length c.args.answers.now) i w (i * w + w - i * w) each
    c.find_eight.result words (back (i * w) w) c.eight_bins-each.ensures few count long room refl c.find_eight.ensures c.loop-i.invariant
