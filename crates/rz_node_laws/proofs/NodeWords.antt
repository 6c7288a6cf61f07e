-- The word of a node grows by the node's events.
use Rattle.std.proofs.Common.{◌≡◌, ℕ, true, cond, IfSome, List, ◌∷◌, Option, Some, None, refl, sym, ap, subst, eq-eqb}
use Rattle.rz_events.specs.declared.events.Word.{Word}
use Rattle.rz_events.specs.declared.events.Word.TheVariants.{Node}
use Rattle.rz_events.specs.declared.events.Event.{Event}
use Rattle.rz_events.specs.Events.{word_of, same_word}
use Rattle.rz_core.specs.History.{of_word}
use Rattle.rz_play.specs.Lines.{noted}

pub word-grows : (n : ℕ) (x : Event) (h : List Event) → word_of x ≡ Node n → of_word (Node n) (x ∷ h) ≡ x ∷ of_word (Node n) h
word-grows n x h is =
    let itself : same_word (Node n) (Node n) ≡ true = eq-eqb n n refl in
    let own : same_word (Node n) (word_of x) ≡ true = subst (λ (v : Word). same_word (Node n) v ≡ true) (sym is) itself in
    ap (λ b. cond b (x ∷ of_word (Node n) h) (of_word (Node n) h)) own

pub noted-own : (n : ℕ) (o : Option Event) (h : List Event) → IfSome o (λ x. word_of x ≡ Node n) → of_word (Node n) (noted o h) ≡ noted o (of_word (Node n) h)
noted-own n None h own = refl
noted-own n (Some x) h own = word-grows n x h own
