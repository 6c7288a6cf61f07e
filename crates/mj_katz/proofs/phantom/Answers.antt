use Rattle.std.proofs.Common.{rules, arith, ◌≡◌, ◌+◌, ◌*◌, ℕ, List, length, sym, ap, subst, ◌∙◌, take, get_or, ℤ, pos, w32, to_z, of_z}
use Rattle.std.specs.Prelude.{unsigned_abs}
use Rattle.std.proofs.lemmas.Int.{to_z-of_z}
use Rattle.std.proofs.lemmas.List.{with_items_is}
use Rattle.std.proofs.lemmas.List.Sums.{fold_more, sum_by_more, sum_by_more_le, sum_by-take-le}
use Rattle.rz_words.specs.Grid.{Grid}
use Rattle.mj_angles.specs.Projection.{word_at}
use Rattle.mj_katz.specs.Factor.{factor, one_first, product_of}
use Rattle.mj_katz.specs.Phantom.{total_size, IsUnseen}
use Rattle.mj_katz.proofs.Unseen.{Hides, hides_more, IsUnseen-from_hides, not_zero-from_hides}
use Rattle.mj_katz.proofs.phantom.Goals as goal

pub loop-i-preserved : goal.loop-i-preserved
loop-i-preserved c =
    let i = c.loop-i.i in
    let angles : List ℤ = c.args.angles.now in
    let p : ℕ → ℤ = λ j. get_or angles j (pos 0) in
    let rows : ℕ = c.args.rows in
    let cols : ℕ = c.args.cols in
    let long : length c.multiply.new.out ≡ c.loop-i.next.len = search rules in
    let made : c.swap.new.x.items ≡ c.multiply.new.out = ap (λ v. v.items) c.swap.ensures.x_after ∙ with_items_is c.loop-i.next c.multiply.new.out long in
    let size : length c.multiply.new.out ≡ rows * cols = search rules in
    let sum : total_size (take (i + 1) angles) ≡ total_size (take i angles) + unsigned_abs (p i) = sum_by_more unsigned_abs angles i (pos 0) (omega arith) in
    let le = sum_by_more_le unsigned_abs angles i (pos 0) (omega arith) in
    let product : product_of (take (i + 1) angles) ≡ factor (p i) (product_of (take i angles)) = fold_more (λ f q. factor q f) one_first angles i (pos 0) (omega arith) in
    let is : to_z w32 (of_z w32 (p i)) ≡ p i = to_z-of_z w32 (p i) (search rules) in
    let P : List ℕ → Type 0 = λ ws. Hides (product_of (take (i + 1) angles)) p (i + 1) (total_size (take (i + 1) angles)) rows cols ws in
    let Q : (ℕ → ℕ → ℕ) → Type 0 = λ f. Hides f p (i + 1) (total_size (take (i + 1) angles)) rows cols c.multiply.new.out in
    let R : ℕ → Type 0 = λ n. Hides (factor (p i) (product_of (take i angles))) p (i + 1) n rows cols c.multiply.new.out in
    record {
      full = ap length made ∙ size;
      room = ap (λ v. length v.items) c.swap.ensures.y_after ∙ c.loop-i.invariant.full;
      hides = subst P (sym made) (subst Q (sym product) (subst R (sym sum)
          (hides_more (product_of (take i angles)) p i (total_size (take i angles)) rows cols c.loop-i.words.items c.multiply.new.out (omega arith) (omega (arith, le))
          (λ l k h h'. c.multiply.ensures l k h h' ∙ ap (λ q. factor q (word_at c.deref.result.now cols) l k) is ∙ ap (λ ws. factor (p i) (word_at ws cols) l k) c.deref.ensures.value)
          c.loop-i.invariant.hides)));
    }

pub returns-clause-unseen : goal.returns-clause-unseen
returns-clause-unseen c =
    let angles : List ℤ = c.args.angles.now in
    let all : c.loop-i.i ≡ length angles = omega arith in
    let f : ℕ → ℕ → ℕ = product_of (take c.loop-i.i angles) in
    let size : ℕ = total_size (take c.loop-i.i angles) in
    let P : ℕ → Type 0 = λ n. Hides f (λ j. get_or angles j (pos 0)) n size c.args.rows c.args.cols c.loop-i.words.items in
    let Q : Grid → Type 0 = λ g. IsUnseen angles g in
    subst Q (sym c.from_words.ensures) (IsUnseen-from_hides f angles size c.args.rows c.args.cols c.loop-i.words.items (subst P all c.loop-i.invariant.hides))

pub returns-clause-some_word : goal.returns-clause-some_word
returns-clause-some_word c e =
    let angles : List ℤ = c.args.angles.now in
    let le = sum_by-take-le unsigned_abs angles c.loop-i.i in
    not_zero-from_hides (product_of (take c.loop-i.i angles)) (λ j. get_or angles j (pos 0)) c.loop-i.i (total_size (take c.loop-i.i angles)) c.args.rows c.args.cols c.loop-i.words.items
    c.requires.shape.some_row (omega (arith, le)) c.loop-i.invariant.hides (sym c.from_words.ensures ∙ e)
