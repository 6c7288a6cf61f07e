use Rattle.std.proofs.Common.{ℕ, ◌≡◌, ◌+◌, ◌-◌, ◌/◌, ◌<◌, ◌≤◌, ◌∙◌, List, ◌++◌, length, take, drop, sym, subst, arith}
use Rattle.std.proofs.lemmas.List.{length-take, length-take-le, length-drop}
use Rattle.std.proofs.lemmas.Result.{err_from_is_err_and}
use Rattle.std.proofs.lemmas.Slice.{take-put_mid, drop-put_mid}
use Rattle.mj_angles.specs.Layout.{block_bytes_of}
use Rattle.rz_events.specs.Volume.{Volume}
use Rattle.rz_store.specs.Causes.{IsBlockOf}
use Rattle.rz_store.specs.Store.{StoreView, HasPart, model_in}
use Rattle.rz_store.proofs.Looks.{same-then, later-then, cause-here, cause-after}
use Rattle.rz_store.proofs.Reading.{part-before, parts-together, block-of, length-put}
use Rattle.rz_store.proofs.store.Store.read.Goals as goal

pub loop-at-preserved : goal.loop-at-preserved
loop-at-preserved g c =
    let old : StoreView = c.args.self.now in
    let mid : StoreView = c.loop-at.self in
    let new : StoreView = c.read_part.new.self in
    let at = c.loop-at.at in
    let n = at + c.count_in-count.result - at in
    let out = c.loop-at.out in
    let part = c.read_part.new.out in
    let i = c.loop-at.invariant in
    let count : n ≡ c.count_in-count.result = omega arith in
    let fits : at + n ≤ c.count_to-wanted.result = omega (arith, c.loop-at-test.true) in
    let room : c.count_to-wanted.result ≤ length out = omega (arith, c.loop-at.invariant.fits, c.loop-at.invariant.length) in
    let many : length part ≡ n =
    (let same = c.in_ok-read_part.ensures.length in
    let cut = length-take n (drop at out) in
    let rest = length-drop at out in
    omega (arith, same, cut, rest, fits, room)) in
    let front : length (take at out) ≡ at = length-take-le at out (omega (arith, fits, room)) in
    record {
      within = omega (arith, fits, count);
      fits = c.loop-at.invariant.fits;
      length = length-put at n out part (omega (arith, fits, room)) many ∙ c.loop-at.invariant.length;
      rest = drop-put_mid at n out part c.count_to-wanted.result fits (omega (arith, fits, room)) many ∙ c.loop-at.invariant.rest;
      volume = c.in_ok-read_part.ensures.volume ∙ c.loop-at.invariant.volume;
      read = λ keeps.
          subst (λ (l : List ℕ). HasPart old c.args.path.now c.args.offset l) (sym (take-put_mid at n out part (at + c.count_in-count.result) (omega (arith, count, many)) (omega (arith, fits, room))))
          (parts-together c.reads_together.ensures old c.args.path.now c.args.offset (take at out) part (c.loop-at.invariant.read keeps)
          (part-before old mid c.args.path.now (c.args.offset + length (take at out)) part (c.loop-at.invariant.same keeps) c.loop-at.invariant.volume
          (subst (λ (k : ℕ). HasPart mid c.args.path.now (c.args.offset + k) part) (sym front) (c.in_ok-read_part.ensures.gives keeps))));
      same = λ keeps. same-then (model_in old) (model_in mid) (model_in new) (c.loop-at.invariant.same keeps) (c.in_ok-read_part.ensures.same keeps);
      later = λ keeps. later-then old.log mid.log new.log (c.loop-at.invariant.later keeps) (c.in_ok-read_part.ensures.later keeps);
    }

pub returns-in_err-size-clause-cause : goal.returns-in_err-size-clause-cause
returns-in_err-size-clause-cause g c =
    let p = err_from_is_err_and c.from_residual.result c.from_residual.ensures.1 in
    let y = c.args.self.now.volume.layout in
    rw (p.1, p.2)
    (λ keeps. (
      (c.args.offset + 0) / block_bytes_of y,
      block-of y c.args.offset 0 (length c.args.out.now) (omega arith),
      cause-here _ c.args.self.now c.size_of.new.self (c.in_err-size.ensures.later keeps) (c.in_err-size.ensures.same keeps) (c.in_err-size.ensures.cause keeps ((c.args.offset + 0) / block_bytes_of y)),
    ))

pub returns-in_err-read_part-clause-cause : goal.returns-in_err-read_part-clause-cause
returns-in_err-read_part-clause-cause g c =
    let p = err_from_is_err_and c.from_residual-in_err-read_part.result c.from_residual-in_err-read_part.ensures.1 in
    let y = c.args.self.now.volume.layout in
    let next = c.args.offset + c.loop-at.at in
    let within : c.loop-at.at ≤ length c.args.out.now = omega (arith, c.loop-at-test.true, c.loop-at.invariant.fits) in
    rw (p.1, p.2)
    (λ keeps. (
      next / block_bytes_of c.loop-at.self.volume.layout,
      subst (λ (v : Volume). IsBlockOf y c.args.offset (length c.args.out.now) (next / block_bytes_of v.layout)) (sym c.loop-at.invariant.volume)
          (block-of y c.args.offset c.loop-at.at (length c.args.out.now) within),
      cause-after _ c.args.self.now c.loop-at.self c.read_part.new.self c.loop-at.invariant.volume (c.loop-at.invariant.later keeps)
          (cause-here _ c.loop-at.self c.read_part.new.self (c.in_err-read_part.ensures.later keeps) (c.in_err-read_part.ensures.same keeps) (c.in_err-read_part.ensures.cause keeps)),
    ))

pub returns-in_err-read_part-clause-later : goal.returns-in_err-read_part-clause-later
returns-in_err-read_part-clause-later g c = λ keeps. later-then c.args.self.now.log c.loop-at.self.log c.read_part.new.self.log (c.loop-at.invariant.later keeps) (c.in_err-read_part.ensures.later keeps)
