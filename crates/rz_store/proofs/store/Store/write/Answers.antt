use Rattle.std.proofs.Common.{ℕ, ◌≡◌, ◌+◌, ◌-◌, ◌/◌, ◌<◌, ◌≤◌, ◌∙◌, List, length, take, drop, subst, arith, rules}
use Rattle.mj_angles.specs.Layout.{block_bytes_of}
use Rattle.rz_events.specs.Volume.{Volume}
use Rattle.rz_store.specs.Causes.{IsWriteCause, WasCause}
use Rattle.rz_store.specs.Store.{StoreView, HasWritten}
use Rattle.rz_store.proofs.Looks.{later-then, cause-after}
use Rattle.rz_store.proofs.Writing.{upto-more}
use Rattle.rz_store.proofs.store.Store.write.Goals as goal

pub loop-at-preserved : goal.loop-at-preserved
loop-at-preserved g c =
    let old : StoreView = c.args.self.now in
    let mid : StoreView = c.loop-at.self in
    let new : StoreView = c.write_part.new.self in
    let at = c.loop-at.at in
    let count = c.count_in-count.result in
    let bytes = c.args.bytes.now in
    let some : 0 < count = search rules in
    let fits : at + count ≤ length bytes = omega arith in
    let part : at + count - at ≡ count = omega arith in
    record {
      within = fits;
      volume = c.in_default.ensures.volume ∙ c.loop-at.invariant.volume;
      written = λ keeps.
          upto-more c.writes_together.ensures old mid new c.loop-at.invariant.volume c.args.path.now c.args.offset at count bytes fits some (c.loop-at.invariant.written keeps)
          (subst (λ (n : ℕ). HasWritten mid c.args.path.now (c.args.offset + at) (take n (drop at bytes)) new) part (c.in_default.ensures.done keeps));
      later = λ keeps. later-then old.log mid.log new.log (c.loop-at.invariant.later keeps) (c.in_default.ensures.later keeps);
    }

pub returns-in-Err-clause-cause : goal.returns-in-Err-clause-cause
returns-in-Err-clause-cause g c = λ keeps.
    cause-after _ c.args.self.now c.loop-at.self c.write_part.new.self c.loop-at.invariant.volume (c.loop-at.invariant.later keeps)
    (subst (λ (v : Volume). WasCause (λ s. IsWriteCause s c.args.path.now ((c.args.offset + c.loop-at.at) / block_bytes_of v.layout) c.in-Err.cause) c.loop-at.self c.write_part.new.self)
    c.loop-at.invariant.volume (c.in-Err.ensures.cause keeps))

pub returns-in-Err-clause-later : goal.returns-in-Err-clause-later
returns-in-Err-clause-later g c = λ keeps. later-then c.args.self.now.log c.loop-at.self.log c.write_part.new.self.log (c.loop-at.invariant.later keeps) (c.in-Err.ensures.later keeps)
