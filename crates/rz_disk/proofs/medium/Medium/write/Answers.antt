use Rattle.std.proofs.Common.{◌≡◌, ⊎_elim, ℕ, ◌+◌, ◌<◌, ◌≤◌, Bool, true, false, List, length, replicate, sym, subst, ◌∙◌, ap, arith}
use Rattle.std.proofs.lemmas.List.{length-replicate}
use Rattle.rz_disk.specs.Images.{Written}
use Rattle.rz_disk.specs.Stored.{Stored, Writes, Marked, padded, patched}
use Rattle.rz_disk.proofs.Patches.{padded-length, padded_patch, padded_write, hidden, marked_whole}
use Rattle.rz_disk.proofs.medium.Medium.write.Goals as goal

-- a text that was grown to the end of a write fits
text_fits : (size at n : ℕ) (old new : List ℕ) → length old ≤ size → at + n ≤ length (padded size old) → ((k : ℕ) → at + n ≤ k → length old ≤ k → length new ≤ k) → length new ≤ size
text_fits size at n old new fits asked bounded =
    let whole = padded-length size old fits in
    bounded size (omega (arith, asked, whole)) fits

pub reach-requires-clause-room : goal.reach-requires-clause-room
reach-requires-clause-room c =
    let held = c.self.invariant.0 in
    let grown = text_fits c.self.inside.size (c.args.at) (length c.args.bytes.now) c.self.inside.text.items c.grow.new.text.items held.text_fits (subst (λ (t : Stored). c.args.at + length c.args.bytes.now ≤ length t.text) (sym c.self.view_is) c.requires) c.grow.ensures.bounded in
    omega (arith, grown, c.self.invariant.2, c.begin_at.ensures.capacity)

pub reach-requires-clause-room_of_marks : goal.reach-requires-clause-room_of_marks
reach-requires-clause-room_of_marks c =
    let held = c.self.invariant.0 in
    let grown = text_fits c.self.inside.size (c.args.at) (length c.args.bytes.now) c.self.inside.text.items c.grow.new.text.items held.text_fits (subst (λ (t : Stored). c.args.at + length c.args.bytes.now ≤ length t.text) (sym c.self.view_is) c.requires) c.grow.ensures.bounded in
    omega (arith, grown, c.self.invariant.3, c.begin_at.ensures.capacity_of_marks)

pub invariant_of-self : goal.invariant_of-self
invariant_of-self c =
    let m = c.self.inside in
    let held = c.self.invariant.0 in
    let grown = text_fits m.size (c.args.at) (length c.args.bytes.now) m.text.items c.grow.new.text.items held.text_fits (subst (λ (t : Stored). c.args.at + length c.args.bytes.now ≤ length t.text) (sym c.self.view_is) c.requires) c.grow.ensures.bounded in
    let torn = c.overwrite.ensures.written.torn in (
      record {
        text_fits = omega (arith, grown, torn.size);
        one_length = c.mark.ensures.marked.size ∙ c.reach.ensures.one_length;
        range_fits = omega (arith, c.reach.ensures.fits, torn.size);
      },
      omega (arith, c.self.invariant.1, c.grow.ensures.capacity, c.overwrite.ensures.capacity),
      omega (arith, c.self.invariant.2, c.begin_at.ensures.capacity, c.reach.ensures.capacity),
      omega (arith, c.self.invariant.3, c.begin_at.ensures.capacity_of_marks, c.reach.ensures.capacity_of_marks, c.mark.ensures.capacity),
    )

pub returns : goal.returns
returns c =
    let m = c.self.inside in
    let held = c.self.invariant.0 in
    let at : ℕ = c.args.at in
    let bytes : List ℕ = c.args.bytes.now in
    let n : ℕ = length bytes in
    let R : List Bool = replicate m.size false in
    let T1 : List ℕ = c.grow.new.text.items in
    let T3 : List ℕ = c.overwrite.new.text.items in
    let from : ℕ = c.begin_at.new.from in
    let s : List ℕ = c.reach.new.synced.items in
    let whole = padded-length m.size m.text.items held.text_fits in
    let fits : at + n ≤ length (padded m.size m.text.items) = subst (λ (t : Stored). at + n ≤ length t.text) (sym c.self.view_is) c.requires in
    let asked : at + n ≤ m.size = omega (arith, fits, whole) in
    let grown : length T1 ≤ m.size = c.grow.ensures.bounded m.size asked held.text_fits in
    let same = c.grow.ensures.same m.size grown in
    let longer = c.grow.ensures.longer in
    let inner : m.from + length m.synced.items ≤ length T1 = omega (arith, held.range_fits, longer) in
    let torn = c.overwrite.ensures.written.torn in
    let begins : from ≤ at = c.begin_at.ensures.begins in
    let ends : at + n ≤ from + length s = c.reach.ensures.ends in
    let marks = c.reach.new.marks.items in
    let count : length marks ≡ length s = c.reach.ensures.one_length in
    let over : patched from s T3 ≡ patched from s T1 = hidden 0 from s T1 T3 c.reach.ensures.fits torn.size (λ i out. ⊎_elim
    (λ (lt : i < from). torn.below i (omega arith))
    (λ (past : from + length s ≤ i). torn.above i (omega arith))
    out) in
    let synced : padded m.size (patched from s T3) ≡ padded m.size (patched m.from m.synced.items m.text.items) =
    ap (padded m.size) (over ∙ c.reach.ensures.synced ∙ c.begin_at.ensures.synced)
    ∙ padded_patch m.size m.from m.synced.items T1 inner grown
    ∙ ap (patched m.from m.synced.items) same
    ∙ sym (padded_patch m.size m.from m.synced.items m.text.items held.range_fits held.text_fits) in
    let unmarked : patched from marks R ≡ patched m.from m.marks.items R = c.reach.ensures.marks m.size grown ∙ c.begin_at.ensures.marks m.size grown in
    let fit : from + length marks ≤ length R = omega (arith, count, c.reach.ensures.fits, grown, length-replicate {A = Bool} m.size false) in
    let marked : Marked true at n (patched from marks R) (patched from c.mark.new.marks.items R) = marked_whole true from at n marks c.mark.new.marks.items R begins (omega arith) fit c.mark.ensures.marked in
    let P : Stored → Type 0 = λ t. Writes at bytes t (record {
      text = padded m.size T3;
      synced = padded m.size (patched from s T3);
      marks = patched from c.mark.new.marks.items R;
    }) in
    subst P c.self.view_is (record {
      text = subst (λ (t : List ℕ). Written at bytes t (padded m.size T3)) same (padded_write m.size at bytes T1 T3 c.grow.ensures.reaches grown c.overwrite.ensures.written);
      synced = synced;
      marks = subst (λ (t : List Bool). Marked true at n t (patched from c.mark.new.marks.items R)) unmarked marked;
    })
