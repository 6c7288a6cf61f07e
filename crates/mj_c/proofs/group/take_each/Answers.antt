use Rattle.std.proofs.Common.{rules, arith, ◌≡◌, ◌≤◌, ◌<◌, ◌+◌, ◌*◌, ◌-◌, ◌∙◌, ℕ, length, refl, sym, ap, subst}
use Rattle.std.specs.Prelude.{slice_range, slice_set}
use Rattle.std.proofs.lemmas.Nat.{row_fits}
use Rattle.std.proofs.lemmas.List.{places}
use borrow.Rule.Slice.PartMut.{put_mid}
use Rattle.mj_angles.specs.Layout.{inverse_of}
use Rattle.mj_c.specs.Layouts.{IsDealt, IsDone, part_of, words_of}
use Rattle.mj_c.proofs.Done.{done_one}
use Rattle.mj_c.proofs.group.take_each.Goals as goal

pub loop-i-init : goal.loop-i-init
loop-i-init c = record { known = λ i h. absurd (omega arith); kept = λ i h m. refl }

back : (x w : ℕ) → x + w - x ≡ w
back x w = omega arith

pub loop-i-preserved : goal.loop-i-preserved
loop-i-preserved c =
    let y = c.args.layout in
    let i : ℕ = c.loop-i.i in
    let w : ℕ = c.inverse.result * c.cols.result in
    let blocks : ℕ = length c.args.lost.now in
    let bytes : length c.loop-i.lost ≡ length c.args.lost.now = c.loop-i.auto.lost in
    let few : c.loop-i.i < length c.args.lost.now = (let test = c.loop-i-test.true in omega arith) in
    let words : c.inverse.result * c.cols.result ≡ words_of y = ap (λ r. r * c.cols.result) c.inverse.ensures.value ∙ ap (λ k. inverse_of y * k) c.cols.ensures.value in
    let long : length c.loop-i.out ≡ length c.args.lost.now * words_of y = c.loop-i.auto.out ∙ c.requires.room in
    let all : length c.loop-i.out ≡ length c.args.lost.now * w = long ∙ ap (λ x. length c.args.lost.now * x) (sym words) in
    let fits : i * w + w ≤ length c.loop-i.out = (let r = row_fits i w (length c.args.lost.now) w few (omega arith) in omega (arith, r, all)) in
    let room : length c.take_or_leave.new.out ≡ w = (let same = c.take_or_leave.auto.out in search (rules, places)) in
    let before : slice_range c.loop-i.out (i * w) (i * w + w) ≡ part_of y c.args.out.now i = ap (λ x. slice_range c.loop-i.out (i * x) (i * x + x)) words ∙ c.loop-i.invariant.kept i (omega arith) few in
    let dealt : IsDealt y c.args.grid.now c.args.answer c.args.out.now i c.take_or_leave.new.out c.take_or_leave.result = record {
      bit = c.take_or_leave.ensures.bit;
      taken = c.take_or_leave.ensures.taken;
      kept = λ one. c.take_or_leave.ensures.kept one ∙ before;
    } in
    let done = done_one y (λ i new byte. IsDealt y c.args.grid.now c.args.answer c.args.out.now i new byte) (length c.args.lost.now) i c.args.out.now c.loop-i.out c.loop-i.lost long bytes c.loop-i.invariant few c.take_or_leave.new.out
    c.take_or_leave.result (room ∙ words) dealt in
    let P : ℕ → Type 0 = λ x. IsDone y (λ i new byte. IsDealt y c.args.grid.now c.args.answer c.args.out.now i new byte) (length c.args.lost.now) (i + 1) c.args.out.now
    (put_mid (i * x) x c.loop-i.out c.take_or_leave.new.out) (slice_set c.loop-i.lost i c.take_or_leave.result) in
    let Q : ℕ → Type 0 = λ x. IsDone y (λ i new byte. IsDealt y c.args.grid.now c.args.answer c.args.out.now i new byte) (length c.args.lost.now) (i + 1) c.args.out.now
    (put_mid (i * w) x c.loop-i.out c.take_or_leave.new.out) (slice_set c.loop-i.lost i c.take_or_leave.result) in
    subst Q (sym (back (i * w) w)) (subst P (sym words) done)

pub returns : goal.returns
returns c =
    let y = c.args.layout in
    let end : c.loop-i.i ≡ length c.args.lost.now = (let bytes = c.loop-i.auto.lost in omega arith) in
    let P : ℕ → Type 0 = λ n. IsDone y (λ i new byte. IsDealt y c.args.grid.now c.args.answer c.args.out.now i new byte) (length c.args.lost.now) n c.args.out.now c.loop-i.out c.loop-i.lost in
    subst P end c.loop-i.invariant
