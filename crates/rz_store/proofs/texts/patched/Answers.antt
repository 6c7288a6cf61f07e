use Rattle.std.proofs.Common.{ℕ, ◌≡◌, ◌+◌, ◌-◌, List, ◌++◌, ◌∙◌, length, take, drop, replicate, ap, arith}
use Rattle.std.specs.Vec.{vec_len}
use Rattle.std.proofs.lemmas.List.{length-drop, take_all}
use Rattle.rz_store.proofs.Cuts.{patched-in, patched-out}
use Rattle.rz_store.proofs.texts.patched.Goals.{then-end-text+in_ok-extend_from_slice-3, else-end-text}
use Rattle.rz_store.proofs.texts.patched.Goals as goal

pub returns : goal.returns
returns c =
    let text = c.args.text.now in
    let from = c.args.from in
    let bytes = c.args.bytes.now in
    let end : ℕ = from + length bytes in
    let copied : c.extend_from_slice.new.self.items ≡ text = c.in_ok-extend_from_slice.ensures.items ∙ ap (λ (l : List ℕ). l ++ text) c.new-out.ensures.items in
    let size : vec_len c.extend_from_slice.new.self ≡ length text = c.extend_from_slice.new.self.ok.0 ∙ ap length copied in
    let front : c.extend_from_slice-2.new.self.items ≡ (take from text ++ replicate (from - length text) 0) ++ bytes =
    c.in_ok-extend_from_slice-2.ensures.items
    ∙ ap (λ (l : List ℕ). l ++ bytes)
    (c.in_ok-resize.ensures.items
    ∙ ap (λ (l : List ℕ). take from l ++ replicate (from - vec_len c.extend_from_slice.new.self) 0) copied
    ∙ ap (λ (k : ℕ). take from text ++ replicate (from - k) 0) size) in
    let rest : take (length text - end) (drop end text) ≡ drop end text = (let long = length-drop end text in take_all (length text - end) (drop end text) (omega (arith, long))) in
    elim c.if-end-text.branch [
      | then-end-text+in_ok-extend_from_slice-3 w ↦ rw w.out-is
          (w.in_ok-extend_from_slice-3.ensures.items
          ∙ ap (λ (l : List ℕ). l ++ take (length text - end) (drop end text)) front
          ∙ ap (λ (l : List ℕ). ((take from text ++ replicate (from - length text) 0) ++ bytes) ++ l) rest
          ∙ patched-in text bytes from w.if-end-text.true)
      | else-end-text w ↦ rw w.out-is (front ∙ patched-out text bytes from w.if-end-text.false)
    ]
