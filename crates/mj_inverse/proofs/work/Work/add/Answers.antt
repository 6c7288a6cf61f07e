use Rattle.std.proofs.Common.{rules, arith, ◌≡◌, ◌≢◌, ◌+◌, ◌++◌, ◌∷◌, [], List, length, take, drop, sym, ap, ◌∙◌, subst, ℤ, w32, to_z, of_z}
use Rattle.std.specs.Prelude.{All}
use Rattle.std.proofs.lemmas.Int.{to_z-of_z}
use Rattle.mj_inverse.specs.Fits.{Pair, Search}
use Rattle.mj_inverse.specs.declared.series.Series.{Series}
use Rattle.mj_inverse.specs.Store.{IsStore, pairs_in}
use Rattle.mj_inverse.proofs.Stores.{length-pairs_in, add_store, whole}
use Rattle.mj_inverse.proofs.work.Work.add.Goals as goal

pub put_at-requires-clause-room : goal.put_at-requires-clause-room
put_at-requires-clause-room c =
    let s = c.self.inside in
    let i = c.self.invariant in
    let few = i.few in
    let count = i.count in
    let n : length (pairs_in 1 s.count s.all.items) ≡ s.count = length-pairs_in 1 s.count s.all.items (omega arith) in
    let rows : s.rows ≡ c.args.self.now.rows = ap (λ (v : Search). v.rows) c.self.view_is in
    let pairs : length (pairs_in 1 s.count s.all.items) ≡ length c.args.self.now.pairs = ap (λ (v : Search). length v.pairs) c.self.view_is in
    let long : length c.deref_mut.result.now ≡ length s.all.items = ap length c.deref_mut.ensures.value in
    let room = c.requires.room in
    omega arith

pub invariant_of-self : goal.invariant_of-self
invariant_of-self c =
    let s = c.self.inside in
    let i = c.self.invariant in
    let few = i.few in
    let count = i.count in
    let is : to_z w32 (of_z w32 c.args.p) ≡ c.args.p = to_z-of_z w32 c.args.p (search rules) in
    let xs : List Series = s.all.items in
    let ys : List Series = c.put_at.new.all in
    let value : c.deref_mut.result.now ≡ xs = c.deref_mut.ensures.value in
    let n : length (pairs_in 1 s.count xs) ≡ s.count = length-pairs_in 1 s.count xs (omega arith) in
    let rows : s.rows ≡ c.args.self.now.rows = ap (λ (v : Search). v.rows) c.self.view_is in
    let seen : pairs_in 1 s.count xs ≡ c.args.self.now.pairs = ap (λ (v : Search). v.pairs) c.self.view_is in
    let pairs : length (pairs_in 1 s.count xs) ≡ length c.args.self.now.pairs = ap length seen in
    let room = c.requires.room in
    let all : take s.all.len (ys ++ drop (length ys) xs) ≡ ys = whole s.all.len xs ys (c.put_at.ensures.len ∙ ap length value) (search rules) in
    let added : pairs_in 1 (s.count + 1) ys ≡ pairs_in 1 s.count xs ++ (c.args.p, c.args.bins.now) ∷ [] =
    c.put_at.ensures.pairs ∙ ap (λ xs. pairs_in 1 s.count xs ++ (to_z w32 (of_z w32 c.args.p), c.args.bins.now) ∷ []) value
    ∙ ap (λ (p : ℤ). (let q : Pair = (p, c.args.bins.now) in pairs_in 1 s.count xs ++ q ∷ [])) is in
    let other : All (λ (pair : Pair). pair.0 ≢ c.args.p) (pairs_in 1 s.count xs) =
    (let P : List Pair → Type 0 = λ ps. All (λ (pair : Pair). pair.0 ≢ c.args.p) ps in subst P (sym seen) c.requires.other_angle) in
    let store : IsStore 1 s.rows s.cols (s.count + 1) ys =
    add_store 1 s.rows s.cols s.count xs ys c.args.p c.args.bins.now i (omega arith) c.put_at.ensures.filled added (c.put_at.ensures.len ∙ ap length value) other in
    let Q : List Series → Type 0 = λ zs. IsStore 1 s.rows s.cols (s.count + 1) zs in
    subst Q (sym all) store
