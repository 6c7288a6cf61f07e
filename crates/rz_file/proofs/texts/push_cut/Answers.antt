use Rattle.std.proofs.Common.{arith, ◌≡◌, ◌+◌, ◌≤◌, ℕ, List, [], ◌∷◌, ◌++◌, length, get_or, add-one, append_assoc, ap, ◌∙◌, sym}
use Rattle.std.proofs.lemmas.Grind.{common_steps}
use Rattle.rz_operation_model.specs.Ranges.{cut}
use Rattle.rz_file.proofs.Cuts.{cut-more}
use Rattle.rz_file.proofs.texts.push_cut.Goals as goal
use Rattle.rz_file.proofs.texts.push_cut.Goals.{then-start-i, else-start-i}

more : (start i x : ℕ) (text old now new : List ℕ) → x ≡ get_or text (start + i) 0 → new ≡ now ++ x ∷ [] → now ≡ old ++ cut start i text →
    new ≡ old ++ cut start (i + 1) text
more start i x text old now new is pushed before =
    pushed ∙ ap (λ (l : List ℕ). l ++ x ∷ []) before ∙ append_assoc old (cut start i text) (x ∷ [])
    ∙ ap (λ y. old ++ (cut start i text ++ y ∷ [])) is ∙ ap (λ (l : List ℕ). old ++ l) (sym (cut-more start i text)) ∙ ap (λ k. old ++ cut start k text) (sym (add-one i))

past : (text : List ℕ) (i : ℕ) → length text ≤ i → 0 ≡ get_or text i 0
past text i h = grind (arith, common_steps)

pub loop-i-preserved : goal.loop-i-preserved
loop-i-preserved c =
    let byte : c.if-start-i.byte ≡ get_or c.args.text.now (c.args.start + c.loop-i.i) 0 =
    elim c.if-start-i.branch [
      | then-start-i w ↦ w.byte-is ∙ grind (arith, common_steps)
      | else-start-i w ↦ w.byte-is ∙ past c.args.text.now (c.args.start + c.loop-i.i) (omega (arith, w.if-start-i.false))
    ] in
    record {
      items = more c.args.start c.loop-i.i c.if-start-i.byte c.args.text.now c.args.bytes.now.items c.loop-i.bytes.items c.push_reserved.new.self.items
          byte c.push_reserved.ensures.items c.loop-i.invariant.items;
      long = omega (arith, c.push_reserved.ensures.len, c.loop-i.invariant.long);
      room = c.push_reserved.ensures.capacity ∙ c.loop-i.invariant.room;
    }
